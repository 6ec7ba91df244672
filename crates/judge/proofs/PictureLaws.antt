-- Laws of a picture that is told row by row, or all rows as one: what a run of its pixels comes to is said of its places.
use Rattle.std.specs.Prelude.{Option, Some, None}
use mathlib.Core.Path.{◌≡◌, refl, sym, ap, ◌∙◌, subst}
use mathlib.Core.Bool.{Bool, true}
use mathlib.Core.List.{List}
use Prim.Native.Nat.{ℕ, ◌+◌, ◌*◌, ◌/◌, ◌%◌, ◌≤◌, ◌<◌}
use native.Mathlib.Nat.{mul-le-mul, zero-add, div-add-mod', mod-lt, div-lt_iff_lt-mul}
use native.Mathlib.Omega.{arith}
use borrow.Author.Count.{below_more}
use lib.ListN.{get_or}
use Rattle.std.proofs.Common.{Some, None}
use Rattle.sample.specs.declared.Pixel.{Pixel}
use Rattle.planes.specs.Picture.{Picture, rows_of, pixel_of, EveryPixel}
use Rattle.planes.specs.Sizes.{most_size}
use Rattle.planes.proofs.SizeLaws.{index_inside, needed_whole}
use Rattle.scan.specs.First.{first_place, NotAbove, RunFine, RunsFine}
use Rattle.planes.specs.Three.{pixel_in}
use Rattle.compare.specs.Count.{count_of, count_places, FirstFound}
use Rattle.compare.specs.Compare.{differ, Compared}
use Rattle.compare.specs.declared.Tally.{Tally}
use Rattle.compare.proofs.CompareLaws.{compared_same}
use Rattle.rows.proofs.RowLaws.{Seen, seen_none, seen_all}
use Rattle.judge.specs.Judge.{most_run, is_wrong, or_row, found_in, run_wrong, RunTold, PictureTold}
use Rattle.judge.proofs.PlaceLaws.{places_none, places_most, row_first, row_counted, all_counted, all_first}
use Rattle.refusal.specs.declared.Place.{Place}

-- The loop's invariant: the first j rows are told.
pub record Rows (tops : Pixel) (f : Pixel → Pixel) (a b : Picture) (first : Option Place) (wrong j : ℕ) : Type 0 where
  pub until : j ≤ a.height
  pub seen : Seen (NotAbove tops) a j
  pub first_is : first ≡ first_place (is_wrong f a b) 0 a.width j
  pub counted : wrong ≡ count_places (is_wrong f a b) a.width j

module _ {tops : Pixel} {f : Pixel → Pixel} {a b : Picture} where
  pub rows_none : Rows tops f a b None 0 0
  rows_none =
      let n = places_none (is_wrong f a b) a.width in
      record { until = omega arith; seen = seen_none _ _; first_is = n.0; counted = n.1 }

  -- all rows
  pub rows_all : {first : Option Place} {wrong j : ℕ} → Rows tops f a b first wrong j → a.height ≤ j
      → PictureTold (Some (record { first = first; wrong = wrong })) tops f a b
  rows_all {first} {wrong} {j} s h =
      let e : j ≡ a.height = omega (arith, s.until) in (
        seen_all s.seen h,
        (s.first_is ∙ ap (first_place (is_wrong f a b) 0 a.width) e, s.counted ∙ ap (count_places (is_wrong f a b) a.width) e),
      )

-- no more are counted than the largest picture has
pub rows_most : {tops : Pixel} {f : Pixel → Pixel} {a b : Picture} {first : Option Place} {wrong j : ℕ} → Rows tops f a b first wrong j → a.width ≤ most_size → a.height ≤ most_size
    → wrong ≤ most_run
rows_most {f = f} {a} {b} {j = j} s w h =
    omega (arith, s.counted, places_most (is_wrong f a b) a.width j, mul-le-mul {n₁ = j} {m₁ = a.width} {n₂ = most_size} {m₂ = most_size} (omega (arith, s.until)) w)

-- row j, which starts at `from` in the source and at `to` in what is claimed
module _ (tops : Pixel) (f : Pixel → Pixel) (a b : Picture) (j : ℕ) {from to : ℕ} (starts : from ≡ j * a.stride) (starts_to : to ≡ j * b.stride) where
  row_fine : RunsFine tops from a.width (rows_of a) → (i : ℕ) → i < a.width → NotAbove tops (pixel_of a j i)
  row_fine h i l =
      let g = subst (λ n. RunsFine tops n a.width (rows_of a)) starts h in
      record { within0 = g.0 i l; within1 = g.1.0 i l; within2 = g.1.1 i l }

  fine_row : EveryPixel (NotAbove tops) a → j < a.height → RunsFine tops from a.width (rows_of a)
  fine_row h k =
      subst (λ n. RunsFine tops n a.width (rows_of a)) (sym starts)
      (λ i l. (h j i k l).within0, (λ i l. (h j i k l).within1, λ i l. (h j i k l).within2))

  -- a row with a sample above its top
  pub row_beyond : j < a.height → RunTold None tops f from to a.width (rows_of a) (rows_of b) → EveryPixel (NotAbove tops) a → ⊥
  row_beyond k t h = t (fine_row h k)

  pub row_told : {r : Tally} → RunTold (Some r) tops f from to a.width (rows_of a) (rows_of b) → {first : Option Place} {wrong : ℕ} → Rows tops f a b first wrong j
      → j < a.height → Rows tops f a b (or_row first j r.first) (wrong + r.wrong) (j + 1)
  row_told {r} t {first} {wrong} s l =
      let k : Compared r true a.width (is_wrong f a b j) =
      compared_same (λ i l t. differ (f (pixel_in (rows_of a) (starts t + i))) (pixel_in (rows_of b) (starts_to t + i))) t.1 in
      record {
        until = omega arith;
        seen = record { each = below_more (λ k. (i : ℕ) → i < a.width → NotAbove tops (pixel_of a k i)) j s.seen.each (row_fine t.0) };
        first_is = row_first (is_wrong f a b) a.width j first r.first s.first_is (k.found refl);
        counted = row_counted (is_wrong f a b) a.width j wrong r.wrong s.counted k.counted;
      }

-- all rows as one, where nothing lies between them on either side
module _ (tops : Pixel) (f : Pixel → Pixel) (a b : Picture) {n : ℕ} (some : 0 < a.width) (close : a.stride ≡ a.width) (close-to : b.stride ≡ a.width)
    (all : n ≡ a.height * a.width)
  where
    -- index k is at row k / width and column k % width
    index_of : (k stride : ℕ) → stride ≡ a.width → 0 + k ≡ k / a.width * stride + k % a.width
    index_of k stride e = zero-add k ∙ sym (div-add-mod' k a.width) ∙ ap (λ s. k / a.width * s + k % a.width) (sym e)

    at_index : (k : ℕ) → run_wrong f 0 0 (rows_of a) (rows_of b) k ≡ is_wrong f a b (k / a.width) (k % a.width)
    at_index k =
        λ t. differ (f (pixel_in (rows_of a) (index_of k a.stride close t))) (pixel_in (rows_of b) (index_of k b.stride close-to t))

    inside : (j i : ℕ) → j < a.height → i < a.width → j * a.stride + i < n
    inside j i h l =
        rw close (omega (arith, all, index_inside a.width a.height a.width j i h l, needed_whole a.width a.height (omega arith)))

    every : RunsFine tops 0 n (rows_of a) → EveryPixel (NotAbove tops) a
    every h j i k l =
        let at : (p : List ℕ) (top : ℕ) → RunFine p 0 n top → get_or p (j * a.stride + i) 0 ≤ top =
        λ p top g. subst (λ m. get_or p m 0 ≤ top) (zero-add (j * a.stride + i)) (g (j * a.stride + i) (inside j i k l)) in
        record { within0 = at a.p0 tops.p0 h.0; within1 = at a.p1 tops.p1 h.1.0; within2 = at a.p2 tops.p2 h.1.1 }

    back : EveryPixel (NotAbove tops) a → RunsFine tops 0 n (rows_of a)
    back h =
        let here : (k : ℕ) → k < n → NotAbove tops (pixel_of a (k / a.width) (k % a.width)) =
        λ k l. h (k / a.width) (k % a.width) ((div-lt_iff_lt-mul some).1 (rw all at l)) (mod-lt k some) in
        let at : (k top : ℕ) (p : List ℕ) → get_or p (k / a.width * a.stride + k % a.width) 0 ≤ top → get_or p (0 + k) 0 ≤ top =
        λ k top p g. subst (λ m. get_or p m 0 ≤ top) (sym (index_of k a.stride close)) g in
        (λ k l. at k tops.p0 a.p0 (here k l).within0, (λ k l. at k tops.p1 a.p1 (here k l).within1, λ k l. at k tops.p2 a.p2 (here k l).within2))

    pub whole_beyond : RunTold None tops f 0 0 n (rows_of a) (rows_of b) → PictureTold None tops f a b
    whole_beyond t h = t (back h)

    pub whole_told : {r : Tally} → RunTold (Some r) tops f 0 0 n (rows_of a) (rows_of b)
        → PictureTold (Some (record { first = found_in r.first a.width; wrong = r.wrong })) tops f a b
    whole_told {r} t =
        let c = compared_same (λ k l. at_index k) t.1 in
        let test : ℕ → Bool = λ k. is_wrong f a b (k / a.width) (k % a.width) in (
          every t.0,
          (
            all_first (is_wrong f a b) a.width some a.height r.first (subst (λ m. FirstFound test m r.first) all (c.found refl)),
            c.counted ∙ ap (λ m. count_of m test) all ∙ all_counted (is_wrong f a b) a.width some a.height,
          ),
        )
