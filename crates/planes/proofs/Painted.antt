-- Laws of a plane that is written from the front, a gap and a row at a time, by a loop that lends a part of it for each.
-- `Painted` is the loop's invariant; it begins by `painted_none`, a turn is `painted_more`, and `painted_end` says what the plane then is.
use mathlib.Core.Path.{◌≡◌, refl, sym, ap, ◌∙◌, subst}
use mathlib.Core.List.{List}
use mathlib.Core.Bool.{and-false}
use mathlib.Core.Logic.{⊎_elim}
use Prim.Native.Nat.{ℕ, ◌+◌, ◌*◌, ◌-◌, ◌/◌, ◌%◌, ◌≤◌, ◌<◌}
use native.Mathlib.Nat.{mul-add-div_right, mul-add-mod_self_right, div-eq_of_lt, mod-eq_of_lt, mod-lt, add-zero, zero-add, le-div_iff_mul-le, div-lt_iff_lt-mul}
use native.Mathlib.Omega.{arith}
use borrow.Author.Tests.{lt-ltb, le-ltb}
use lib.Dec.{ltb}
use lib.ListN.{length, take}
use lib.Seq.{take_all}
use Rattle.tables.specs.Table.{tab, zeros, patched, cleared}
use Rattle.tables.proofs.Tables.{length_tab, tab_same, patched_length, patched_more}
use Rattle.planes.specs.Sizes.{needed, RowStart}
use Rattle.planes.specs.Plane.{cell, plane_of}
use Rattle.sample.proofs.Choices.{below_or_not}

-- row j and column i of the element j · stride + i
module _ (stride j i : ℕ) (l : i < stride) where
  pub row_of : (j * stride + i) / stride ≡ j
  row_of = let p : 0 < stride = omega arith in rw (mul-add-div_right p j i, div-eq_of_lt l) (add-zero j)

  pub column_of : (j * stride + i) % stride ≡ i
  column_of = rw (mul-add-mod_self_right j stride i) (mod-eq_of_lt l)

-- the three kinds of element: in the picture, right of it, and below it
module _ (width height stride : ℕ) (sample : ℕ → ℕ → ℕ) where
  pub cell_in : (j i : ℕ) → j < height → i < width → i < stride → cell width height stride sample (j * stride + i) ≡ sample j i
  unfolding cell
  cell_in j i a b l = rw (row_of stride j i l, column_of stride j i l, lt-ltb j height a, lt-ltb i width b)

  cell_right : (j i : ℕ) → width ≤ i → i < stride → cell width height stride sample (j * stride + i) ≡ 0
  unfolding cell
  cell_right j i b l = rw (row_of stride j i l, column_of stride j i l, le-ltb i width b, and-false (ltb j height))

  cell_whole : stride ≡ width → 0 < width → (k : ℕ) → k < height * width → cell width height stride sample k ≡ sample (k / width) (k % width)
  unfolding cell
  cell_whole s p k h = rw (s, lt-ltb (k / width) height ((div-lt_iff_lt-mul p).1 h), lt-ltb (k % width) width (mod-lt k p))

  cell_below : (k : ℕ) → 0 < stride → height * stride ≤ k → cell width height stride sample k ≡ 0
  unfolding cell
  cell_below k p h = rw (le-ltb (k / stride) height ((le-div_iff_mul-le {k = stride} {x = height} {y = k} p).1 h))

-- How far the loop is: j rows are written, all of the plane before `done`, which is not past the start of row j.
pub record Progress (width height stride j done : ℕ) : Type 0 where
  pub rows : j ≤ height
  pub until_row : done ≤ j * stride
  pub until_end : done ≤ needed width height stride

pub progress_none : (width height stride : ℕ) → Progress width height stride 0 0
progress_none width height stride = omega arith

pub progress_more : (width height stride j done a : ℕ) → Progress width height stride j done → j < height → width ≤ stride
    → RowStart j height stride a → Progress width height stride (j + 1) (a + width)
progress_more width height stride j done a d h w r =
    record { rows = omega arith; until_row = omega (arith, r.is); until_end = omega (arith, r.last) }

-- The invariant: y has n elements, it is the plane as far as `done`, and from there to row j the plane has zeros.
pub record Painted (width height stride : ℕ) (sample : ℕ → ℕ → ℕ) (n : ℕ) (y : List ℕ) (j done : ℕ) : Type 0 where
  pub len : length y ≡ n
  pub so_far : take done y ≡ tab done (cell width height stride sample)
  pub gap : (k : ℕ) → done ≤ k → k < j * stride → cell width height stride sample k ≡ 0

module _ (width height stride : ℕ) (sample : ℕ → ℕ → ℕ) (n : ℕ) where
  pub painted_none : (y : List ℕ) → length y ≡ n → Painted width height stride sample n y 0 0
  unfolding tab
  painted_none y l = record { len = l; so_far = refl; gap = λ k a b. absurd (omega arith) }

  -- zeros from `done` to e, where the plane has zeros there
  cleared_more : (y : List ℕ) (done e : ℕ) → length y ≡ n → take done y ≡ tab done (cell width height stride sample)
      → done ≤ e → e ≤ n → ((k : ℕ) → done ≤ k → k < e → cell width height stride sample k ≡ 0)
      → take e (cleared y done e) ≡ tab e (cell width height stride sample)
  cleared_more y done e l t a b z =
      patched_more (cell width height stride sample) y (zeros (e - done)) done e a (omega arith) t
      (tab_same (e - done) _ _ (λ i h. sym (z (done + i) (omega arith) (omega arith))))

  cleared_length : (y : List ℕ) (done e : ℕ) → length y ≡ n → done ≤ e → e ≤ n → length (cleared y done e) ≡ n
  cleared_length y done e l a b = patched_length y (zeros (e - done)) done e a (omega arith) (length_tab _ _) ∙ l

  -- a run of elements from a on: y₁ is the plane as far as there, and y₂ has them in its part, made of parts of the input. No sample follows
  -- them before row `next`.
  painted_run : (y₁ ys y₂ : List ℕ) (a m run next : ℕ) (f : ℕ → ℕ) → let element = cell width height stride sample in
      length y₁ ≡ n → take a y₁ ≡ tab a element → a + run ≤ n → ys ≡ tab m f → m ≡ run → ((i : ℕ) → i < run → f i ≡ element (a + i))
      → ((k : ℕ) → a + run ≤ k → k < next * stride → element k ≡ 0) → y₂ ≡ patched y₁ a (a + run) ys
      → Painted width height stride sample n y₂ next (a + run)
  painted_run y₁ ys y₂ a m run next f n₁ t c e l r z e₂ =
      let element = cell width height stride sample in
      let v : a + run - a ≡ run = omega arith in
      let u : ys ≡ tab (a + run - a) (λ (i : ℕ). element (a + i)) = rw v (e ∙ rw l (tab_same run _ _ r)) in
      record {
        len = rw e₂ (patched_length y₁ ys a (a + run) (omega arith) (omega arith) (ap length u ∙ length_tab _ _) ∙ n₁);
        so_far = rw e₂ (patched_more element y₁ ys a (a + run) (omega arith) (omega arith) t u);
        gap = z;
      }

  -- one row more: y₁ has zeros up to row j, and the run is that row
  pub painted_more : (y y₁ ys y₂ : List ℕ) (j done a m : ℕ) (f : ℕ → ℕ) → Painted width height stride sample n y j done
      → width ≤ stride → j < height → done ≤ a → a ≡ j * stride → a + width ≤ n
      → y₁ ≡ cleared y done a → ys ≡ tab m f → m ≡ width → ((i : ℕ) → i < width → f i ≡ sample j i)
      → y₂ ≡ patched y₁ a (a + width) ys → Painted width height stride sample n y₂ (j + 1) (a + width)
  painted_more y y₁ ys y₂ j done a m f d w b k q c e₁ e l r e₂ =
      let element = cell width height stride sample in
      painted_run y₁ ys y₂ a m width (j + 1) f (rw e₁ (cleared_length y done a d.len k (omega arith)))
      (rw e₁ (cleared_more y done a d.len d.so_far k (omega arith) (λ x l o. d.gap x l (omega arith)))) c e l
      (λ i o. r i o ∙ sym (cell_in width height stride sample j i b o (omega arith)) ∙ ap (λ x. element (x + i)) (sym q))
      (λ x l o. ap element (omega arith) ∙ cell_right width height stride sample j (x - j * stride) (omega arith) (omega arith)) e₂

  -- all rows at once, where nothing lies between them
  pub painted_whole : (y ys y₁ : List ℕ) (all m : ℕ) (f : ℕ → ℕ) → length y ≡ n → stride ≡ width → 0 < width → all ≡ height * width → all ≤ n
      → ys ≡ tab m f → m ≡ all → ((i : ℕ) → i < all → f i ≡ sample (i / width) (i % width)) → y₁ ≡ patched y 0 (0 + all) ys
      → Painted width height stride sample n y₁ height all
  painted_whole y ys y₁ all m f l s p q c e o r e₁ =
      subst (Painted width height stride sample n y₁ height) (zero-add all)
      (painted_run y ys y₁ 0 m all height f l (painted_none y l).so_far (omega arith) e o
      (λ i h. r i h ∙ sym (cell_whole width height stride sample s p i (omega arith)) ∙ ap (cell width height stride sample) (sym (zero-add i)))
      (λ x h k. absurd (let w : x < height * width = rw s at k in omega arith)) e₁)

  -- the zeros after the last row
  pub painted_end : (y y₁ : List ℕ) (j done : ℕ) → Painted width height stride sample n y j done
      → 0 < stride → j ≡ height → done ≤ n → y₁ ≡ cleared y done n → y₁ ≡ plane_of n width height stride sample
  unfolding plane_of
  painted_end y y₁ j done d p q k e =
      let m : length y₁ ≡ n = rw e (cleared_length y done n d.len k (omega arith)) in
      let z : (x : ℕ) → done ≤ x → x < n → cell width height stride sample x ≡ 0 =
      λ x l o. ⊎_elim (λ (h : x < height * stride). d.gap x l (rw q h)) (λ (h : height * stride ≤ x). cell_below width height stride sample x p h) (below_or_not x (height * stride)) in
      sym (take_all n y₁ (omega arith)) ∙ rw e (cleared_more y done n d.len d.so_far k (omega arith) z)
