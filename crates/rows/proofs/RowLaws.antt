-- Parts of planes that are lent for a row, and rows that were all seen to have a fact.
use Prim.Native.Nat.{ℕ, ◌+◌, ◌<◌, ◌≤◌}
use native.Mathlib.Omega.{arith}
use borrow.Author.Count.{below_none}
use Rattle.sample.specs.declared.Pixel.{Pixel}
use Rattle.tables.proofs.Tables.{part_width}
use Rattle.planes.specs.Picture.{Picture, pixel_of, EveryPixel}
use Rattle.planes.specs.Three.{Three, row_parts, LongThree}
use Rattle.convert.specs.Row.{OneWidth}

-- six parts of one width
pub parts_one_width : (a b : Three) (from to width : ℕ) → LongThree (from + width) a → LongThree (to + width) b
    → OneWidth (row_parts a from width) (row_parts b to width)
parts_one_width a b from to width h k =
    omega (
      arith,
      part_width a.p0 from width h.long0,
      part_width a.p1 from width h.long1,
      part_width a.p2 from width h.long2,
      part_width b.p0 to width k.long0,
      part_width b.p1 to width k.long1,
      part_width b.p2 to width k.long2,
    )

-- the first j rows of a picture have a fact at every pixel
pub record Seen (fact : Pixel → Type 0) (a : Picture) (j : ℕ) : Type 0 where
  pub each : (k : ℕ) → k < j → (i : ℕ) → i < a.width → fact (pixel_of a k i)

pub seen_none : (fact : Pixel → Type 0) (a : Picture) → Seen fact a 0
seen_none fact a = record { each = below_none _ }

pub seen_all : {fact : Pixel → Type 0} {a : Picture} {j : ℕ} → Seen fact a j → a.height ≤ j → EveryPixel fact a
seen_all s h k i l m = s.each k (omega arith) i m
