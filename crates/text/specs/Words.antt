-- The words of a text: what stands between its gaps.
use Rattle.std.specs.Prelude.{◌≡◌, Bool, true, false, cond, ◌&&◌, List, [], ◌∷◌, ℕ, zero, suc, ◌+◌, ◌≤◌, ◌<◌, eqb, length, get_or, drop, Option, Some, None, option_map}

-- a byte in front of the first word
abbrev pub begun : ℕ → List (List ℕ) → List (List ℕ)
begun b [] = (b ∷ []) ∷ []
begun b (w ∷ ws) = (b ∷ w) ∷ ws

-- each gap ends a word; the last one may go without
unfoldable pub split : ℕ → List ℕ → List (List ℕ)
split gap [] = []
split gap (b ∷ s) = cond (eqb b gap) ([] ∷ split gap s) (begun b (split gap s))

-- word n, counted from 0, or nothing where there is none
abbrev pub word_of : ℕ → List ℕ → ℕ → List ℕ
word_of gap s n = get_or (split gap s) n []

-- how many bytes stand before the first gap
unfoldable pub before : ℕ → List ℕ → ℕ
before gap [] = 0
before gap (b ∷ s) = cond (eqb b gap) 0 (suc (before gap s))

-- what stands behind the first word and its gap
abbrev pub rest_of : ℕ → List ℕ → List ℕ
rest_of gap s = drop (before gap s + 1) s

-- what stands from word n on: the text itself from word 0 on, nothing where there is no word n
unfoldable pub text_from : ℕ → List ℕ → ℕ → List ℕ
text_from gap s zero = s
text_from gap s (suc n) = rest_of gap (text_from gap s n)

unfoldable pub same_word : List ℕ → List ℕ → Bool
same_word [] [] = true
same_word [] (c ∷ w) = false
same_word (b ∷ v) [] = false
same_word (b ∷ v) (c ∷ w) = eqb b c && same_word v w

-- the place of a word in a list
unfoldable pub index_in : List ℕ → List (List ℕ) → Option ℕ
index_in w [] = None
index_in w (v ∷ vs) = cond (same_word w v) (Some 0) (option_map suc (index_in w vs))

-- the words of `rest` are those of `s` but the first
pub record After (gap : ℕ) (s rest : List ℕ) : Type 0 where
  pub is : rest ≡ rest_of gap s
  pub words : split gap rest ≡ drop 1 (split gap s)
  pub within : length rest ≤ length s
  pub onward : 0 < length s → length rest < length s
