-- What is promised of one call on the same codes, depths and flags in two editions: if neither refuses, both give the same. So where an older
-- edition accepts a setting, a newer one gives the same samples or refuses.
use Rattle.std.specs.Prelude.{◌≡◌, List, ◌⊎◌, ℕ}
use Rattle.corkplover.specs.Meaning.{Meaning}

-- what the two answers mean
abbrev pub SameOrRefused : Meaning → Meaning → Type 0
SameOrRefused m m' = m.number ≡ 0 → (m' ≡ m) ⊎ (m'.number ≡ 0 → ⊥)

-- a frame's, with the planes that each call leaves
abbrev pub SamePlanesOrRefused : Meaning → (p0 p1 p2 : List ℕ) → Meaning → (q0 q1 q2 : List ℕ) → Type 0
SamePlanesOrRefused m p0 p1 p2 m' q0 q1 q2 = m.number ≡ 0 → ((m' ≡ m) × ((q0 ≡ p0) × ((q1 ≡ p1) × (q2 ≡ p2)))) ⊎ (m'.number ≡ 0 → ⊥)
