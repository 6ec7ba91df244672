-- From runs of pixels to the places of a picture: a row at a time, and all rows as one.
use Rattle.std.specs.Prelude.{Option, Some, None}
use mathlib.Core.Path.{◌≡◌, refl, sym, ap, ◌∙◌, subst}
use mathlib.Core.Bool.{Bool, true, false}
use mathlib.Core.Logic.{◌↔◌, ⊎_elim}
use Prim.Native.Nat.{ℕ, zero, suc, ◌+◌, ◌*◌, ◌/◌, ◌%◌, ◌≤◌, ◌<◌}
use native.Mathlib.Nat.{zero-mul, suc-mul, mod-lt, div-add-mod', div-lt_iff_lt-mul, mul-le-mul_right}
use native.Mathlib.Omega.{arith}
use Rattle.std.proofs.Common.{Option, Some, None}
use Rattle.refusal.specs.Rules.{at}
use Rattle.sample.proofs.Choices.{below_or_not}
use Rattle.planes.proofs.Painted.{row_of, column_of}
use Rattle.scan.specs.First.{Before, or_found, first_of, place_if, place_in_row, first_place}
use Rattle.scan.proofs.Searches.{nothing_exactly, found_exactly, no_place_means, first_place_means}
use Rattle.compare.specs.Count.{count_of, count_places, FirstFound}
use Rattle.compare.proofs.CountLaws.{count_parts, count_same, count_most, none_counted, counted_none}
use Rattle.judge.specs.Judge.{or_row, found_in}
use Rattle.refusal.specs.declared.Place.{Place}

-- ---- row by row

-- the first place of a row, by the first column that passes
row_found : (test : ℕ → ℕ → Bool) (width j : ℕ) (first : Option ℕ) → FirstFound (test j) width first → or_row None j first ≡ place_in_row test 0 width j
unfolding place_in_row place_if or_found
row_found test width j (Some i) f =
    let l = f.inside i refl in
    sym ((found_exactly (place_if test 0 j) width (at 0 j i)).1
    (record { index = i; inside = l; there = rw (f.first_at.passes l); none = λ k h. rw (f.first_at.none_before k h) }))
row_found test width j None f =
    sym ((nothing_exactly (place_if test 0 j) width).1 (λ i h. rw (f.first_at.none_before i h)))

-- what was found, and then a row
or_nothing : (f g : Option Place) → or_found f g ≡ or_found f (or_found None g)
unfolding or_found
or_nothing (Some place) g = refl
or_nothing None g = refl

pub places_none : (test : ℕ → ℕ → Bool) (width : ℕ) → (None ≡ first_place test 0 width 0) × (0 ≡ count_places test width 0)
unfolding first_place first_of count_places
places_none test width = (refl, refl)

module _ (test : ℕ → ℕ → Bool) (width j : ℕ) where
  pub row_first : (found : Option Place) (first : Option ℕ) → found ≡ first_place test 0 width j → FirstFound (test j) width first
      → or_row found j first ≡ first_place test 0 width (j + 1)
  unfolding first_place first_of
  row_first found first e f =
      or_nothing found _
      ∙ (λ i. or_found (e i) (row_found test width j first f i))
      ∙ ap (λ k. first_of k (place_in_row test 0 width)) (let q : suc j ≡ j + 1 = omega arith in q)

  pub row_counted : (wrong more : ℕ) → wrong ≡ count_places test width j → more ≡ count_of width (test j) → wrong + more ≡ count_places test width (j + 1)
  unfolding count_places
  row_counted wrong more e f =
      (λ i. e i + f i) ∙ ap (count_places test width) (let q : suc j ≡ j + 1 = omega arith in q)

-- no more than there are places
pub places_most : (test : ℕ → ℕ → Bool) (width j : ℕ) → count_places test width j ≤ j * width
unfolding count_places
places_most test width zero = omega arith
places_most test width (suc j) = omega (arith, places_most test width j, count_most width (test j), suc-mul j width)

-- ---- all rows as one

module _ (test : ℕ → ℕ → Bool) (width : ℕ) (some : 0 < width) where
  abbrev flat : ℕ → Bool
  flat k = test (k / width) (k % width)

  at_place : (j i : ℕ) → i < width → flat (j * width + i) ≡ test j i
  at_place j i l = λ t. test (row_of width j i l t) (column_of width j i l t)

  pub all_counted : (height : ℕ) → count_of (height * width) flat ≡ count_places test width height
  unfolding count_places count_of
  all_counted zero = ap (λ k. count_of k flat) (zero-mul width)
  all_counted (suc j) =
      ap (λ k. count_of k flat) (suc-mul j width)
      ∙ count_parts (j * width) width flat
      ∙ (λ t. all_counted j t + count_same width (λ k. flat (j * width + k)) (test j) (λ k l. at_place j k l) t)

  module _ (height : ℕ) where
    -- an earlier place has a smaller index
    index_before : (j i row column : ℕ) → i < width → Before j i row column → j * width + i < row * width + column
    index_before j i row column l o =
        ⊎_elim
        (λ (b : j < row). let m = mul-le-mul_right {m = suc j} {n = row} width b in omega (arith, suc-mul j width))
        (λ b. rw b.0 (omega (arith, b.1))) o

    index_inside : (j i : ℕ) → j < height → i < width → j * width + i < height * width
    index_inside j i h l = let m = mul-le-mul_right {m = suc j} {n = height} width h in omega (arith, suc-mul j width)

    itself : (b : Bool) (j i : ℕ) → j < height → i < width → (test j i ≡ b) ↔ (test j i ≡ b)
    itself b j i l m = (λ e. e, λ e. e)

    pub all_first : (first : Option ℕ) → FirstFound flat (height * width) first → found_in first width ≡ first_place test 0 width height
    all_first (Some k) f =
        let l = f.inside k refl in
        let before : (j i : ℕ) → i < width → j * width + i < k → test j i ≡ false =
        λ j i o h. sym (at_place j i o) ∙ f.first_at.none_before (j * width + i) h in
        sym ((first_place_means test 0 width height _ _ (itself true) (itself false) (at 0 (k / width) (k % width))).1
        (record {
          plane_is = refl;
          row_inside = (div-lt_iff_lt-mul some).1 l;
          column_inside = mod-lt k some;
          fails = f.first_at.passes l;
          none_before = λ j i h m o. before j i m (subst (λ x. j * width + i < x) (div-add-mod' k width) (index_before j i (k / width) (k % width) m o));
        }))
    all_first None f =
        sym ((no_place_means test 0 width height _ _ (itself true) (itself false)).1
        (λ j i h m. sym (at_place j i m) ∙ f.first_at.none_before (j * width + i) (index_inside j i h m)))

-- ---- what a count of places says

-- none is counted exactly if none passes
pub none_wrong : (test : ℕ → ℕ → Bool) (width height : ℕ) → count_places test width height ≡ 0 → (j i : ℕ) → j < height → i < width → test j i ≡ false
unfolding count_places
none_wrong test width zero e j i h l = absurd (omega arith)
none_wrong test width (suc n) e j i h l =
    ⊎_elim
    (λ (w : j < n). none_wrong test width n (omega arith) j i w l)
    (λ (w : n ≤ j). let q : j ≡ n = omega arith in rw q (none_counted width (test n) (omega arith) i l))
    (below_or_not j n)

pub wrong_none : (test : ℕ → ℕ → Bool) (width height : ℕ) → ((j i : ℕ) → j < height → i < width → test j i ≡ false) → count_places test width height ≡ 0
unfolding count_places
wrong_none test width zero e = refl
wrong_none test width (suc n) e = rw (wrong_none test width n (λ j i h l. e j i (omega arith) l), counted_none width (test n) (λ i l. e n i (omega arith) l))

-- and it depends on the test inside the picture alone
pub places_same : (f g : ℕ → ℕ → Bool) (width height : ℕ) → ((j i : ℕ) → j < height → i < width → f j i ≡ g j i)
    → count_places f width height ≡ count_places g width height
unfolding count_places
places_same f g width zero e = refl
places_same f g width (suc n) e = rw (places_same f g width n (λ j i h l. e j i (omega arith) l), count_same width (f n) (g n) (λ i l. e n i (omega arith) l))
