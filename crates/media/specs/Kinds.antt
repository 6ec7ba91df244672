-- How a file is read, and what a picture is: by four letters, each as one number.
use Rattle.std.specs.Prelude.{Bool, false, cond, ◌||◌, ℕ, eqb, Option, Some, None}
use Rattle.media.specs.declared.file.FileKind.{FileKind}
use Rattle.media.specs.declared.file.FileKind.TheVariants.{Movie, Image, Sequence, Stranger}

-- moov, mdat, wide, free, skip
unfoldable pub opens_movie : ℕ → Bool
opens_movie first =
    eqb first 1836019574 || (eqb first 1835295092 || (eqb first 2003395685 || (eqb first 1718773093 || eqb first 1936419184)))

-- avif, mif1; avis, msf1
unfoldable pub branded : Option ℕ → FileKind
branded None = Movie
branded (Some brand) =
    cond (eqb brand 1635150182 || eqb brand 1835623985) Image (cond (eqb brand 1635150195 || eqb brand 1836279345) Sequence Movie)

-- ftyp
unfoldable pub file_kind : Option ℕ → Option ℕ → FileKind
file_kind None brand = Stranger
file_kind (Some first) brand = cond (eqb first 1718909296) (branded brand) (cond (opens_movie first) Movie Stranger)

-- vide, pict
unfoldable pub is_picture : Option ℕ → Bool
is_picture None = false
is_picture (Some handler) = eqb handler 1986618469 || eqb handler 1885954932
