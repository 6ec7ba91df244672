-- Exact fractions: a whole number over a natural number. Nothing is reduced, and nothing is rounded but by Round.
use Rattle.std.specs.Prelude.{◌≡◌, ℕ, ◌*◌, ◌<◌, ℤ, pos, nat_abs, ◌+ℤ◌, ◌-ℤ◌, ◌*ℤ◌}
use Rattle.rounding.specs.Rounding.{round}

pub record Frac : Type 0 where
  pub num : ℤ
  pub den : ℕ

infixl 6 ◌⊕◌ ◌⊖◌
infixl 7 ◌⊗◌ ◌÷◌
infixl 4 ◌≈◌
-- z / d, and a natural number as a fraction
abbrev pub part : ℤ → ℕ → Frac
part z d = record { num = z; den = d }

abbrev pub whole : ℕ → Frac
whole n = part (pos n) 1

abbrev pub ◌⊕◌ : Frac → Frac → Frac
x ⊕ y = part (x.num *ℤ pos y.den +ℤ y.num *ℤ pos x.den) (x.den * y.den)

abbrev pub ◌⊖◌ : Frac → Frac → Frac
x ⊖ y = part (x.num *ℤ pos y.den -ℤ y.num *ℤ pos x.den) (x.den * y.den)

abbrev pub ◌⊗◌ : Frac → Frac → Frac
x ⊗ y = part (x.num *ℤ y.num) (x.den * y.den)

-- x over a fraction y above 0
abbrev pub ◌÷◌ : Frac → Frac → Frac
x ÷ y = part (x.num *ℤ pos y.den) (x.den * nat_abs y.num)

-- the same value
pub record ◌≈◌ (x y : Frac) : Type 0 where
  pub crossed : x.num *ℤ pos y.den ≡ y.num *ℤ pos x.den

-- and neither is over 0
pub record SameValue (x y : Frac) : Type 0 where
  pub left_proper : 0 < x.den
  pub right_proper : 0 < y.den
  pub equal : x ≈ y

-- Round, of a fraction
abbrev pub Round : Frac → ℤ
Round x = round x.num x.den
