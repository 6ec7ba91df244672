-- A run of a picture's pixels that lie side by side in its planes: a row, or all rows where nothing lies between them. The parts of the planes
-- from the run's start on hold its pixels.
use mathlib.Core.Path.{◌≡◌, sym, subst}
use mathlib.Core.List.{List}
use Prim.Native.Nat.{ℕ, ◌+◌, ◌*◌, ◌/◌, ◌%◌, ◌≤◌, ◌<◌}
use native.Mathlib.Nat.{zero-add, mod-lt, div-add-mod', div-lt_iff_lt-mul}
use native.Mathlib.Omega.{arith}
use lib.ListN.{length, get_or}
use Rattle.sample.specs.declared.Pixel.{Pixel}
use Rattle.tables.proofs.Tables.{part_width}
use Rattle.planes.specs.Picture.{Picture, rows_of, pixel_of, EveryPixel}
use Rattle.planes.specs.Plane.{sample_at}
use Rattle.planes.proofs.Parts.{part_sample}
use Rattle.planes.specs.Three.{pixel_in, row_part, row_parts}
use Rattle.convert.specs.Row.{EveryOf}

-- pixel k of the run, which starts at `from`, is at row `row k` and column `column k`
pub record Run (a : Picture) (from n : ℕ) (row column : ℕ → ℕ) : Type 0 where
  pub row_inside : (k : ℕ) → k < n → row k < a.height
  pub column_inside : (k : ℕ) → k < n → column k < a.width
  pub is_at : (k : ℕ) → k < n → from + k ≡ row k * a.stride + column k

pub row_run : {a : Picture} {from : ℕ} (j : ℕ) → j < a.height → from ≡ j * a.stride → Run a from a.width (λ _. j) (λ k. k)
row_run j h e = record { row_inside = λ k l. h; column_inside = λ k l. l; is_at = λ k l. rw e }

pub whole_run : {a : Picture} {n : ℕ} → a.stride ≡ a.width → 0 < a.width → n ≡ a.height * a.width
    → Run a 0 n (λ k. k / a.width) (λ k. k % a.width)
whole_run {a} s p e =
    record {
      row_inside = λ k l. (div-lt_iff_lt-mul p).1 (rw e at l);
      column_inside = λ k l. mod-lt k p;
      is_at = λ k l. rw (s, zero-add k) (sym (div-add-mod' k a.width));
    }

-- the pixel at index k of three parts of a picture's planes, where that is row j and column i
pub part_pixel : (a : Picture) (from n k j i : ℕ) → from + k ≡ j * a.stride + i → k < n
    → pixel_in (row_parts (rows_of a) from n) k ≡ pixel_of a j i
part_pixel a from n k j i e h =
    let part : (p : List ℕ) → get_or (row_part p from n) k 0 ≡ sample_at p a.stride j i =
    λ p. part_sample p a.stride j i from (from + n) k e (omega arith) in
    rw (part a.p0, part a.p1, part a.p2)

-- a fact of every pixel of the parts, at that row and column
pub pixel_of_part : (a : Picture) (from n : ℕ) (fact : Pixel → Type 0) → from + n ≤ length a.p0
    → EveryOf fact (row_parts (rows_of a) from n)
    → (k j i : ℕ) → from + k ≡ j * a.stride + i → k < n → fact (pixel_of a j i)
pixel_of_part a from n fact l f k j i e h =
    subst fact (part_pixel a from n k j i e h) (f k (omega (arith, part_width a.p0 from n l)))

module _ {a : Picture} {from n : ℕ} {row column : ℕ → ℕ} (r : Run a from n row column) where
  pub run_pixel : (k : ℕ) → k < n
      → pixel_in (row_parts (rows_of a) from n) k ≡ pixel_of a (row k) (column k)
  run_pixel k h = part_pixel a from n k (row k) (column k) (r.is_at k h) h

  -- a fact of every pixel of the picture is one of the run
  pub run_of_every : (fact : Pixel → Type 0) → EveryPixel fact a → from + n ≤ length a.p0
      → EveryOf fact (row_parts (rows_of a) from n)
  run_of_every fact e l k o =
      let h : k < n = omega (arith, part_width a.p0 from n l) in
      subst fact (sym (run_pixel k h)) (e (row k) (column k) (r.row_inside k h) (r.column_inside k h))
