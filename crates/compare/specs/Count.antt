-- How many pass a test: of some indices, and of the places of a picture.
use Rattle.std.specs.Prelude.{◌≡◌, Bool, true, false, Option, Some, None, ℕ, zero, suc, ◌+◌, ◌≤◌, ◌<◌}
use Rattle.sample.specs.Flag.{one_if}

-- how many of 0, .., n - 1 pass
unfoldable pub count_of : ℕ → (ℕ → Bool) → ℕ
count_of zero test = 0
count_of (suc n) test = count_of n test + one_if (test n)

-- how many places of a picture pass: row by row
unfoldable pub count_places : (ℕ → ℕ → Bool) → ℕ → ℕ → ℕ
count_places test width zero = 0
count_places test width (suc j) = count_places test width j + count_of width (test j)

-- the first of 0, .., n - 1 that passes, or n where none does
pub record FirstAt (test : ℕ → Bool) (n first : ℕ) : Type 0 where
  pub within : first ≤ n
  pub none_before : (k : ℕ) → k < first → test k ≡ false
  pub passes : first < n → test first ≡ true

-- an index that was found, or n where none was
abbrev pub index_or : ℕ → Option ℕ → ℕ
index_or n (Some i) = i
index_or n None = n

-- the first of 0, .., n - 1 that passes, if one does
pub record FirstFound (test : ℕ → Bool) (n : ℕ) (first : Option ℕ) : Type 0 where
  pub inside : (i : ℕ) → first ≡ Some i → i < n
  pub first_at : FirstAt test n (index_or n first)
