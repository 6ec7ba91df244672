-- Laws of the walk over a picture, row by row and column by column, that ends at the first place where a test holds. `Walked` is the
-- invariant of both loops: that of the columns at row j and column i, that of the rows at row j and column 0. It begins by `walked_none`, or
-- by `walked_past` has passed the whole picture over;
-- a turn of the columns is `walked_column`, a row that is through `walked_row`, a row that is passed over as a whole `walked_over`. What
-- was found is by `walked_all` and `walked_here` what the search finds.
use Rattle.std.specs.Prelude.{Option, Some, None}
use mathlib.Core.Path.{◌≡◌, refl, sym, ◌∙◌, subst}
use mathlib.Core.Bool.{Bool, true, false}
use mathlib.Core.Logic.{◌↔◌, ⊎_elim}
use Prim.Native.Nat.{ℕ, ◌+◌, ◌≤◌, ◌<◌}
use native.Mathlib.Omega.{arith}
use borrow.Author.Count.{below_none, below_more}
use Rattle.refusal.specs.Rules.{at}
use Rattle.scan.specs.First.{first_place}
use Rattle.scan.proofs.Searches.{no_place_means, first_place_means}
use Rattle.refusal.specs.declared.Place.{Place}

-- the test fails at every column of row j before column i
abbrev pub NoneBefore : (ℕ → ℕ → Bool) → ℕ → ℕ → Type 0
NoneBefore test j i = (c : ℕ) → c < i → test j c ≡ false

-- nothing was found in the rows before row j, nor before column i of row j
pub record Walked (test : ℕ → ℕ → Bool) (width height : ℕ) (found : Option Place) (j i : ℕ) : Type 0 where
  pub row_most : j ≤ height
  pub column_most : i ≤ width
  pub nothing : found ≡ None
  pub rows : (r : ℕ) → r < j → NoneBefore test r width
  pub columns : NoneBefore test j i

module _ {test : ℕ → ℕ → Bool} {width height : ℕ} where
  pub walked_none : Walked test width height None 0 0
  walked_none =
      record { row_most = omega arith; column_most = omega arith; nothing = refl; rows = below_none _; columns = below_none _ }

  -- the whole picture is passed over
  pub walked_past : ((j i : ℕ) → j < height → i < width → test j i ≡ false) → Walked test width height None height 0
  walked_past e =
      record { row_most = omega arith; column_most = omega arith; nothing = refl; rows = λ j h i k. e j i h k; columns = below_none _ }

  module _ {found : Option Place} {j i : ℕ} (w : Walked test width height found j i) where
    pub walked_column : i < width → test j i ≡ false → Walked test width height found j (i + 1)
    walked_column l e =
        record { row_most = w.row_most; column_most = omega arith; nothing = w.nothing; rows = w.rows; columns = below_more _ i w.columns e }

    pub walked_over : j < height → NoneBefore test j width → Walked test width height found (j + 1) 0
    walked_over l e =
        record { row_most = omega arith; column_most = omega arith; nothing = w.nothing; rows = below_more _ j w.rows e; columns = below_none _ }

    pub walked_row : j < height → width ≤ i → Walked test width height found (j + 1) 0
    walked_row l m = walked_over l (λ c h. w.columns c (omega arith))

    itself : (b : Bool) (r c : ℕ) → r < height → c < width → (test r c ≡ b) ↔ (test r c ≡ b)
    itself b r c l m = (λ e. e, λ e. e)

    pub walked_all : (plane : ℕ) → height ≤ j → found ≡ first_place test plane width height
    walked_all plane l =
        w.nothing
        ∙ sym ((no_place_means test plane width height _ _ (itself true) (itself false)).1 (λ r c a b. w.rows r (omega arith) c b))

    pub walked_here : (plane : ℕ) → j < height → i < width → test j i ≡ true → Some (at plane j i) ≡ first_place test plane width height
    walked_here plane a b e =
        sym
        ((first_place_means test plane width height _ _ (itself true) (itself false) (at plane j i)).1
        (record {
          plane_is = refl;
          row_inside = a;
          column_inside = b;
          fails = e;
          none_before = λ r c k h o. ⊎_elim (λ l. w.rows r l c h) (λ l. subst (λ n. test n c ≡ false) (sym l.0) (w.columns c l.1)) o;
        }))
