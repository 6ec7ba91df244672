-- Laws of the loop that paints three planes: the parts that are lent for a row have its width and hold the picture's samples, so with
-- each turn the planes are painted one row further.
use mathlib.Core.Path.{◌≡◌, refl, ap, ◌∙◌}
use mathlib.Core.List.{List}
use Prim.Native.Nat.{ℕ, ◌+◌, ◌*◌, ◌/◌, ◌%◌, ◌<◌, ◌≤◌}
use native.Mathlib.Nat.{zero-add}
use native.Mathlib.Omega.{arith}
use borrow.Author.Count.{below_more}
use lib.ListN.{length}
use Rattle.sample.specs.declared.Pixel.{Pixel}
use Rattle.tables.specs.Table.{patched, cleared}
use Rattle.tables.proofs.Tables.{part_width}
use Rattle.planes.specs.Three.{three, row_parts}
use Rattle.planes.specs.Picture.{Picture, rows_of, layout_of, pixel_of, sample_of, EveryPixel}
use Rattle.planes.specs.Sizes.{layout, needed, Long, RowStart, Fits}
use Rattle.planes.specs.declared.size.Layout.{Layout}
use Rattle.planes.proofs.Painted.{Progress, progress_none, progress_more, Painted, painted_none, painted_more, painted_whole, painted_end}
use Rattle.planes.proofs.SizeLaws.{index_inside, needed_whole}
use Rattle.convert.specs.Row.{EveryOf}
use Rattle.convert.proofs.RunLaws.{Run, row_run, whole_run, run_pixel, pixel_of_part, run_of_every}
use Rattle.rows.specs.Paint.{mapped_part, RowsPut}
use Rattle.rows.proofs.RowLaws.{Seen}
use Rattle.frame.specs.Frame.{mapped_sample, mapped_plane, length_of, MappedPlanes}

-- the first j rows of plane k are painted, as f makes them
abbrev RowsPainted : (Pixel → Pixel) → Picture → Layout → ℕ → List ℕ → ℕ → ℕ → Type 0
RowsPainted f a b k y j done = Painted a.width a.height b.stride (mapped_sample k f a) (length_of k b) y j done

-- The loop's invariant: j rows of the picture are painted into the planes y0, y1, y2 of layout b.
pub record Painting (f : Pixel → Pixel) (a : Picture) (b : Layout) (y0 y1 y2 : List ℕ) (j done : ℕ) : Type 0 where
  pub fits : Fits a.width a.height b
  pub progress : Progress a.width a.height b.stride j done
  pub plane0 : RowsPainted f a b 0 y0 j done
  pub plane1 : RowsPainted f a b 1 y1 j done
  pub plane2 : RowsPainted f a b 2 y2 j done

pub painting_none : {f : Pixel → Pixel} {a : Picture} {stride : ℕ} {y0 y1 y2 : List ℕ} → let b = layout stride (length y0) (length y1) (length y2) in
    Fits a.width a.height b → Painting f a b y0 y1 y2 0 0
painting_none h =
    record {
      fits = h;
      progress = progress_none _ _ _;
      plane0 = painted_none _ _ _ _ _ _ refl;
      plane1 = painted_none _ _ _ _ _ _ refl;
      plane2 = painted_none _ _ _ _ _ _ refl;
    }

-- three planes y are zeroed from `done` on, each up to its own end, and are then the planes z
abbrev pub Zeroed : ℕ → ℕ → ℕ → ℕ → (y0 y1 y2 z0 z1 z2 : List ℕ) → Type 0
Zeroed done e0 e1 e2 y0 y1 y2 z0 z1 z2 = (z0 ≡ cleared y0 done e0) × ((z1 ≡ cleared y1 done e1) × (z2 ≡ cleared y2 done e2))

-- A turn at row j, which starts at `from` in the planes that are read and at `to` in those that are written.
pub record Turn (f : Pixel → Pixel) (a : Picture) (b : Layout) (y0 y1 y2 : List ℕ) (j done from to : ℕ) : Type 0 where
  pub input_fits : Fits a.width a.height (layout_of a)
  pub so_far : Painting f a b y0 y1 y2 j done
  pub row_inside : j < a.height
  pub starts_from : RowStart j a.height a.stride from
  pub starts_to : RowStart j a.height b.stride to

module _ {f : Pixel → Pixel} {a : Picture} {b : Layout} {y0 y1 y2 : List ℕ} {j done from to : ℕ} (t : Turn f a b y0 y1 y2 j done from to) where
  -- the parts to be lent lie inside the planes
  input_long : Long (from + a.width) (length a.p0) (length a.p1) (length a.p2)
  input_long = let k = t.input_fits.long in omega (arith, t.starts_from.last)

  pub output_long : (done ≤ to) × Long (to + a.width) (length y0) (length y1) (length y2)
  output_long =
      let d = t.so_far in
      let k = d.fits.long in
      omega (arith, t.starts_to.last, t.starts_to.is, d.progress.until_row, d.plane0.len, d.plane1.len, d.plane2.len)

  -- and those of the input hold the pixels of the row
  row_turned : Run a from a.width (λ _. j) (λ k. k)
  row_turned = row_run j t.row_inside t.starts_from.is

  pub row_room : {n0 n1 n2 : ℕ} → n0 ≡ length y0 → n1 ≡ length y1 → n2 ≡ length y2
      → Long (from + a.width) (length a.p0) (length a.p1) (length a.p2) × Long (to + a.width) n0 n1 n2
  row_room l0 l1 l2 = let k = output_long in (input_long, omega arith)

  -- a fact of every pixel of the picture is one of the row's
  pub row_of_every : (fact : Pixel → Type 0) → EveryPixel fact a
      → EveryOf fact (row_parts (rows_of a) from a.width)
  row_of_every fact e = run_of_every row_turned fact e input_long.long0

  -- and rows that were all seen to have it are one more with this one
  pub seen_more : (fact : Pixel → Type 0) → Seen fact a j
      → EveryOf fact (row_parts (rows_of a) from a.width) → Seen fact a (j + 1)
  seen_more fact before here =
      record {
        each = below_more (λ k. (i : ℕ) → i < a.width → fact (pixel_of a k i)) j before.each
            (λ i l. pixel_of_part a from a.width fact input_long.long0 here i j i (ap (λ n. n + i) t.starts_from.is) l);
      }

  -- y was zeroed up to the row, and then had the row put into its own part
  turned : (n : ℕ) {y z w : List ℕ} → to + a.width ≤ length_of n b → RowsPainted f a b n y j done
      → z ≡ cleared y done to → w ≡ patched z to (to + a.width) (mapped_part n f from a.width (rows_of a))
      → RowsPainted f a b n w (j + 1) (to + a.width)
  turned n k p e g =
      painted_more _ _ _ _ _ _ _ _ _ j done to _ _ p t.so_far.fits.sized.stride_within.from_least t.row_inside
      output_long.0 t.starts_to.is k e refl (part_width a.p0 from a.width input_long.long0)
      (λ i o. ap (λ q. sample_of n (f q)) (run_pixel row_turned i o)) g

  pub painting_more : {z0 z1 z2 w0 w1 w2 : List ℕ} → Zeroed done to to to y0 y1 y2 z0 z1 z2
      → RowsPut f from to a.width (rows_of a) (three z0 z1 z2) (three w0 w1 w2) → Painting f a b w0 w1 w2 (j + 1) (to + a.width)
  painting_more e g =
      let d = t.so_far in
      let k = output_long.1 in
      record {
        fits = d.fits;
        progress = progress_more _ _ _ _ _ _ d.progress t.row_inside d.fits.sized.stride_within.from_least t.starts_to;
        plane0 = turned 0 (rw d.plane0.len at k.long0) d.plane0 e.0 g.0;
        plane1 = turned 1 (rw d.plane1.len at k.long1) d.plane1 e.1.0 g.1.0;
        plane2 = turned 2 (rw d.plane2.len at k.long2) d.plane2 e.1.1 g.1.1;
      }

-- All rows as one: n elements from the start of the planes, where nothing lies between the rows on either side.
pub record Whole (a : Picture) (b : Layout) (n : ℕ) : Type 0 where
  pub input_fits : Fits a.width a.height (layout_of a)
  pub output_fits : Fits a.width a.height b
  pub input_close : a.stride ≡ a.width
  pub output_close : b.stride ≡ a.width
  pub long_as : n ≡ needed a.width a.height a.width

module _ {a : Picture} {b : Layout} {n : ℕ} (t : Whole a b n) where
  all : n ≡ a.height * a.width
  all = t.long_as ∙ needed_whole a.width a.height t.input_fits.sized.height_within.from_least

  whole_lent : Run a 0 n (λ k. k / a.width) (λ k. k % a.width)
  whole_lent = whole_run t.input_close t.input_fits.sized.width_within.from_least all

  inside_both : Long n (length a.p0) (length a.p1) (length a.p2) × Long n b.n0 b.n1 b.n2
  inside_both =
      let k = rw t.input_close at t.input_fits.long in
      let l = rw t.output_close at t.output_fits.long in
      omega (arith, t.long_as)

  pub whole_room : Long (0 + n) (length a.p0) (length a.p1) (length a.p2) × Long (0 + n) b.n0 b.n1 b.n2
  whole_room = let k = inside_both in (omega arith, omega arith)

  -- a fact of every pixel of the picture is one of the run's, and the other way round
  pub whole_of_every : (fact : Pixel → Type 0) → EveryPixel fact a → EveryOf fact (row_parts (rows_of a) 0 n)
  whole_of_every fact h = run_of_every whole_lent fact h whole_room.0.long0

  pub every_of_whole : (fact : Pixel → Type 0) → EveryOf fact (row_parts (rows_of a) 0 n) → EveryPixel fact a
  every_of_whole fact h j i p q =
      pixel_of_part a 0 n fact whole_room.0.long0 h (j * a.stride + i) j i (zero-add _)
      (omega (arith, t.long_as, ap (λ k. needed a.width a.height k) t.input_close, index_inside a.width a.height a.stride j i p q))

  covered : (f : Pixel → Pixel) (k : ℕ) (y : List ℕ) {w : List ℕ} → length y ≡ length_of k b → n ≤ length_of k b
      → w ≡ patched y 0 (0 + n) (mapped_part k f 0 n (rows_of a)) → RowsPainted f a b k w a.height n
  covered f k y l h g =
      painted_whole _ _ _ _ _ y _ _ n _ _ l t.output_close t.input_fits.sized.width_within.from_least all h refl
      (part_width a.p0 0 n (let k = inside_both in omega arith)) (λ i o. ap (λ q. sample_of k (f q)) (run_pixel whole_lent i o)) g

  pub painting_whole : {f : Pixel → Pixel} (y0 y1 y2 : List ℕ) {w0 w1 w2 : List ℕ} → length y0 ≡ b.n0 → length y1 ≡ b.n1 → length y2 ≡ b.n2
      → RowsPut f 0 0 n (rows_of a) (three y0 y1 y2) (three w0 w1 w2) → Painting f a b w0 w1 w2 a.height n
  painting_whole {f} y0 y1 y2 l0 l1 l2 g =
      let k = inside_both.1 in
      record {
        fits = t.output_fits;
        progress = rw t.output_close (record { rows = omega arith; until_row = omega (arith, all); until_end = omega (arith, t.long_as) });
        plane0 = covered f 0 y0 l0 k.long0 g.0;
        plane1 = covered f 1 y1 l1 k.long1 g.1.0;
        plane2 = covered f 2 y2 l2 k.long2 g.1.1;
      }

-- after the last row
module _ {f : Pixel → Pixel} {a : Picture} {b : Layout} {y0 y1 y2 : List ℕ} {j done : ℕ} (d : Painting f a b y0 y1 y2 j done) where
  pub rest_long : Long done (length y0) (length y1) (length y2)
  rest_long = let k = d.fits.long in omega (arith, d.progress.until_end, d.plane0.len, d.plane1.len, d.plane2.len)

  finished : (n : ℕ) {y z : List ℕ} → RowsPainted f a b n y j done → a.height ≤ j → done ≤ length y
      → z ≡ cleared y done (length y) → z ≡ mapped_plane n f a b.stride (length_of n b)
  finished n p h k e =
      let s = d.fits.sized in
      painted_end _ _ _ _ _ _ _ j done p (omega (arith, s.width_within.from_least, s.stride_within.from_least))
      (omega (arith, d.progress.rows)) (rw p.len at k) (rw p.len at e)

  pub painting_end : {z0 z1 z2 : List ℕ} → a.height ≤ j → Zeroed done (length y0) (length y1) (length y2) y0 y1 y2 z0 z1 z2
      → MappedPlanes f a b z0 z1 z2
  painting_end h e =
      let k = rest_long in
      (finished 0 d.plane0 h k.long0 e.0, (finished 1 d.plane1 h k.long1 e.1.0, finished 2 d.plane2 h k.long2 e.1.1))
