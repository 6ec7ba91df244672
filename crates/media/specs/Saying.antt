-- What colour records say, one by one and together.
use Rattle.std.specs.Prelude.{Bool, false, cond, List, ℕ, ◌+◌, ◌*◌, ◌/◌, ◌%◌, eqb, ltb, length, Option, Some, None, Result, Ok, Err}
use Rattle.sample.specs.Flag.{one_if}
use Rattle.boxes.specs.Boxes.{word_at}
use Rattle.nclx.specs.Record.{label_read}
use Rattle.nclx.specs.declared.ColourLabel.{ColourLabel}
use Rattle.media.specs.declared.records.Codes.{Codes}
use Rattle.media.specs.declared.records.Said.{Said}
use Rattle.media.specs.declared.records.Said.TheVariants as said
use Rattle.media.specs.declared.finding.Trouble.{Trouble}
use Rattle.media.specs.declared.file.FileSaid.{FileSaid}
use Rattle.media.specs.declared.file.Tracks.{Tracks}
use Rattle.media.specs.declared.file.Tracks.TheVariants.{Without, One, Several}
use Rattle.refusal.specs.declared.Refusal.{Refusal}

-- the first four letters as one number, where there are so many
abbrev pub letters_of : List ℕ → Option ℕ
letters_of s = cond (ltb (length s) 4) None (Some (word_at s 0))

-- whether these are the letters
abbrev pub lettered : ℕ → Option ℕ → Bool
lettered kind None = false
lettered kind (Some letters) = eqb letters kind

-- an 'nclc' record: three codes of 16 bits after the letters
abbrev pub older_of : List ℕ → Codes
older_of s = record { primaries = word_at s 4 / 65536; transfer = word_at s 4 % 65536; matrix = word_at s 6 % 65536 }

abbrev pub read_said : Result ColourLabel Refusal → Said
read_said (Ok l) = said.Label l
read_said (Err x) = said.Refused x.number

unfoldable pub nclx_said : List ℕ → Said
nclx_said s = read_said (label_read s)

unfoldable pub older_said : List ℕ → Said
older_said s = cond (eqb (length s) 10) (said.Older (older_of s)) (nclx_said s)

-- prof and rICC, nclc, and all others as the colour record has to be
unfoldable pub record_said : List ℕ → Said
record_said s =
    cond (lettered 1886547814 (letters_of s)) said.Profile
    (cond (lettered 1917403971 (letters_of s)) said.Profile (cond (lettered 1852009571 (letters_of s)) (older_said s) (nclx_said s)))

-- ---- one number for what is said: what counts more is larger by this
abbrev pub rank : ℕ
rank = 281474976710656

abbrev pub older_key : Codes → ℕ
older_key c = (c.primaries * 65536 + c.transfer) * 65536 + c.matrix

abbrev pub label_key : ColourLabel → ℕ
label_key l = ((l.primaries * 256 + l.transfer) * 256 + l.matrix) * 2 + one_if l.full

unfoldable pub key_of : Said → ℕ
key_of said.Other = 0
key_of said.Nothing = rank
key_of said.Profile = 2 * rank
key_of (said.Older c) = 3 * rank + older_key c
key_of (said.Label l) = 4 * rank + label_key l
key_of (said.Refused n) = 4 * rank + 33554432 + n
key_of said.Differ = 5 * rank

abbrev pub rank_of : ℕ → ℕ
rank_of key = key / rank

-- what counts more, and of two that count the same none
unfoldable pub merged : Said → Said → Said
merged a b =
    cond (eqb (key_of a) (key_of b)) a
    (cond (ltb (rank_of (key_of a)) (rank_of (key_of b))) b (cond (ltb (rank_of (key_of b)) (rank_of (key_of a))) a said.Differ))

-- what is no picture says nothing, and otherwise they have to say the same
unfoldable pub between : Said → Said → Said
between a b =
    cond (eqb (key_of a) (key_of b)) a
    (cond (eqb (rank_of (key_of a)) 0) b (cond (eqb (rank_of (key_of b)) 0) a said.Differ))

-- trouble counts most, and the first of two troubles
abbrev pub troubled : (Said → Said → Said) → Result Said Trouble → Result Said Trouble → Result Said Trouble
troubled both (Err t) b = Err t
troubled both (Ok a) (Err t) = Err t
troubled both (Ok a) (Ok b) = Ok (both a b)

-- two records of one picture
abbrev pub beside : Result Said Trouble → Result Said Trouble → Result Said Trouble
beside = troubled merged

-- two pictures of one file
abbrev pub across : Result Said Trouble → Result Said Trouble → Result Said Trouble
across = troubled between

-- ---- a file: its tracks, its image, or both

-- one picture more
abbrev pub one_more : Tracks → Tracks
one_more Without = One
one_more One = Several
one_more Several = Several

-- a track that is no picture does not count
abbrev pub counted : Tracks → Result Said Trouble → Tracks
counted tracks (Err t) = one_more tracks
counted tracks (Ok said.Other) = tracks
counted tracks (Ok said.Nothing) = one_more tracks
counted tracks (Ok said.Profile) = one_more tracks
counted tracks (Ok (said.Older c)) = one_more tracks
counted tracks (Ok (said.Label l)) = one_more tracks
counted tracks (Ok (said.Refused n)) = one_more tracks
counted tracks (Ok said.Differ) = one_more tracks

abbrev pub of_movie : Result Said Trouble → Tracks → FileSaid
of_movie m tracks = record { said = m; image = Ok said.Other; tracks = tracks }

abbrev pub of_image : Result Said Trouble → FileSaid
of_image image = record { said = image; image = image; tracks = Without }

abbrev pub of_both : Result Said Trouble → Result Said Trouble → Tracks → FileSaid
of_both image m tracks = record { said = across image m; image = image; tracks = tracks }
