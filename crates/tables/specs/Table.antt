-- A list by what stands at each index, and a list of which a part is replaced.
use Rattle.std.specs.Prelude.{List, [], ◌∷◌, ◌++◌, ℕ, zero, suc, ◌-◌, take, drop}

-- f 0, f 1, .., f (n - 1)
unfoldable pub tab : ℕ → (ℕ → ℕ) → List ℕ
tab zero f = []
tab (suc n) f = tab n f ++ (f n ∷ [])

-- n zeros
abbrev pub zeros : ℕ → List ℕ
zeros n = tab n (λ _. 0)

-- y with its part from a up to e replaced by ys
abbrev pub patched : List ℕ → ℕ → ℕ → List ℕ → List ℕ
patched y a e ys = take a y ++ (ys ++ drop (e - a) (drop a y))

-- the same with zeros
abbrev pub cleared : List ℕ → ℕ → ℕ → List ℕ
cleared y a e = patched y a e (zeros (e - a))
