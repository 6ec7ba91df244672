-- A number is read digit by digit from the front: what was read stands for the digits that were passed.
use mathlib.Core.Path.{◌≡◌, refl, sym, ◌∙◌}
use mathlib.Core.Bool.{Bool, true, false, true≢false, cond, ◌&&◌}
use mathlib.Core.List.{List, [], ◌∷◌}
use Prim.Native.Nat.{ℕ, ◌+◌, ◌-◌, ◌*◌, ◌≤◌, ◌<◌, zero, suc}
use native.Mathlib.Decide.{dec_le}
use native.Mathlib.Numerals.{add-one}
use native.Mathlib.Omega.{arith}
use borrow.Author.Tests.{lt-ltb, le-ltb, le-leb, lt-leb, eqb-true}
use lib.Dec.{eqb, leb, ltb}
use lib.ListN.{length, get_or, drop, drop_of_length-le}
use lib.Seq.{drop-cons}
use Rattle.text.specs.Numerals.{value_of, all_digits, number_of}
use Rattle.std.specs.Prelude.{Some, None}

value_grows : (high : ℕ) (w : List ℕ) → high ≤ value_of high w
unfolding value_of
value_grows high [] = omega arith
value_grows high (b ∷ w) = omega (arith, value_grows (high * 10 + (b - 48)) w)

module _ (w : List ℕ) (i : ℕ) (h : i < length w) where
  pub value_step : (high : ℕ) → value_of high (drop i w) ≡ value_of (high * 10 + (get_or w i 0 - 48)) (drop (i + 1) w)
  unfolding value_of
  value_step high = rw (add-one i, drop-cons w i 0 h)

  pub digits_step : 48 ≤ get_or w i 0 → get_or w i 0 ≤ 57 → all_digits (drop i w) ≡ all_digits (drop (i + 1) w)
  unfolding all_digits
  digits_step l u = rw (add-one i, drop-cons w i 0 h, le-leb _ _ l, le-leb _ _ u)

  pub digits_not : (48 ≤ get_or w i 0 → get_or w i 0 ≤ 57 → ⊥) → all_digits (drop i w) ≡ false
  unfolding all_digits
  digits_not f = rw (drop-cons w i 0 h) (go (dec_le 48 (get_or w i 0)))
    where
      go : Dec (48 ≤ get_or w i 0) → (leb 48 (get_or w i 0) && leb (get_or w i 0) 57) && all_digits (drop (suc i) w) ≡ false
      go (yes l) = rw (le-leb 48 _ l, lt-leb (get_or w i 0) 57 (omega arith))
      go (no n) = rw (lt-leb 48 (get_or w i 0) (omega arith))

-- at the end nothing is left to read
pub value_end : (w : List ℕ) (i high : ℕ) → length w ≤ i → value_of high (drop i w) ≡ high
unfolding value_of
value_end w i high h = rw (drop_of_length-le w h)

pub digits_end : (w : List ℕ) (i : ℕ) → length w ≤ i → all_digits (drop i w) ≡ true
unfolding all_digits
digits_end w i h = rw (drop_of_length-le w h)

-- why a word is no number, or which number it is
module _ (w : List ℕ) (most : ℕ) where
  pub no_digits : length w ≡ 0 → None ≡ number_of w most
  unfolding number_of
  no_digits e = rw (le-ltb 0 (length w) (omega arith))

  pub no_digit : all_digits w ≡ false → None ≡ number_of w most
  unfolding number_of
  no_digit e = go (ltb 0 (length w))
    where
      go : (t : Bool) → None ≡ cond (t && (all_digits w && leb (value_of 0 w) most)) (Some (value_of 0 w)) None
      go true = rw e
      go false = refl

  pub too_large : most < value_of 0 w → None ≡ number_of w most
  unfolding number_of
  too_large h = go (ltb 0 (length w)) (all_digits w)
    where
      go : (t u : Bool) → None ≡ cond (t && (u && leb (value_of 0 w) most)) (Some (value_of 0 w)) None
      go true true = rw (lt-leb _ _ h)
      go true false = refl
      go false u = refl

  pub is_number : (v : ℕ) → 0 < length w → all_digits w ≡ true → v ≡ value_of 0 w → v ≤ most → Some v ≡ number_of w most
  unfolding number_of
  is_number v l d e h = rw (lt-ltb _ _ l, d, ← e, le-leb _ _ h)

-- one digit more makes the number larger than `most`
pub too_far : (w : List ℕ) (i high most : ℕ) → i < length w → value_of high (drop i w) ≡ value_of 0 w → most < high * 10 + (get_or w i 0 - 48)
    → None ≡ number_of w most
too_far w i high most l e h =
    let g = value_grows (high * 10 + (get_or w i 0 - 48)) (drop (i + 1) w) in
    too_large w most (omega (arith, value_step w i l high))

-- a word that was read as a number is no larger than asked
pub number_most : (w : List ℕ) (most v : ℕ) → number_of w most ≡ Some v → v ≤ most
unfolding number_of
number_most w most v e = go (ltb 0 (length w)) (all_digits w) (dec_le (value_of 0 w) most) e
  where
    go : (t u : Bool) → Dec (value_of 0 w ≤ most)
        → cond (t && (u && leb (value_of 0 w) most)) (Some (value_of 0 w)) None ≡ Some v → v ≤ most
    go true true (yes h) e = let f : value_of 0 w ≡ v = (let g = rw (le-leb _ _ h) at e in cc) in omega arith
    go true true (no h) e = absurd (let f = rw (lt-leb (value_of 0 w) most (omega arith)) at e in true≢false cc)
    go true false d e = absurd (true≢false cc)
    go false u d e = absurd (true≢false cc)

-- what the test for an empty text says
pub is_none : (n : ℕ) (t : Bool) → t ≡ eqb n 0 → t ≡ true → n ≡ 0
is_none n t e h = eqb-true n 0 (sym e ∙ h)

pub is_some : (n : ℕ) (t : Bool) → t ≡ eqb n 0 → t ≡ false → 0 < n
is_some zero t e h = absurd (true≢false (sym e ∙ h))
is_some (suc n) t e h = omega arith
