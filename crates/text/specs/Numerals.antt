-- Numbers as their digits.
use Rattle.std.specs.Prelude.{Bool, true, cond, ◌&&◌, List, [], ◌∷◌, ℕ, ◌+◌, ◌-◌, ◌*◌, leb, ltb, length, Option, Some, None}

-- the number that digits stand for, after some that stood for `high`
unfoldable pub value_of : ℕ → List ℕ → ℕ
value_of high [] = high
value_of high (b ∷ w) = value_of (high * 10 + (b - 48)) w

unfoldable pub all_digits : List ℕ → Bool
all_digits [] = true
all_digits (b ∷ w) = (leb 48 b && leb b 57) && all_digits w

-- a word of digits alone that stand for a number up to `most`
unfoldable pub number_of : List ℕ → ℕ → Option ℕ
number_of w most =
    cond (ltb 0 (length w) && (all_digits w && leb (value_of 0 w) most)) (Some (value_of 0 w)) None
