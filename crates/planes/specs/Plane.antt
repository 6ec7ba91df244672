-- What a plane holds. Element j · stride + i is the sample of row j and column i.
use Rattle.std.specs.Prelude.{◌≡◌, ◌&&◌, cond, List, ℕ, ◌+◌, ◌*◌, ◌/◌, ◌%◌, ◌<◌, ltb, get_or}
use Rattle.tables.specs.Table.{tab}

-- element k: the sample of its row and column where these lie inside the picture, and else 0
unfoldable pub cell : ℕ → ℕ → ℕ → (ℕ → ℕ → ℕ) → ℕ → ℕ
cell width height stride sample k =
    cond (ltb (k / stride) height && ltb (k % stride) width) (sample (k / stride) (k % stride)) 0

-- an output plane of n elements after an accepted call
unfoldable pub plane_of : ℕ → ℕ → ℕ → ℕ → (ℕ → ℕ → ℕ) → List ℕ
plane_of n width height stride sample = tab n (cell width height stride sample)

-- the sample of a plane at row j and column i
abbrev pub sample_at : List ℕ → ℕ → ℕ → ℕ → ℕ
sample_at p stride j i = get_or p (j * stride + i) 0

-- p and q agree inside the picture
abbrev pub SamePicture : ℕ → ℕ → ℕ → List ℕ → List ℕ → Type 0
SamePicture width height stride p q =
    (j i : ℕ) → j < height → i < width → sample_at p stride j i ≡ sample_at q stride j i
