-- The samples of three parts are within their tops exactly if those of each run are.
use mathlib.Core.List.{List}
use Prim.Native.Nat.{ℕ, ◌+◌, ◌≤◌, ◌<◌}
use native.Mathlib.Omega.{arith}
use lib.ListN.{length, get_or}
use Rattle.sample.specs.declared.Pixel.{Pixel}
use Rattle.tables.proofs.Tables.{part_at, part_width}
use Rattle.scan.specs.First.{RunFine}
use Rattle.planes.specs.Three.{Three, row_part, LongThree}
use Rattle.rows.specs.Paint.{FineParts}

module _ (tops : Pixel) (from n : ℕ) (a : Three) (long : LongThree (from + n) a) where
  at : (p : List ℕ) (k top : ℕ) → k < n → get_or p (from + k) 0 ≤ top → get_or (row_part p from n) k 0 ≤ top
  at p k top h l = omega (arith, part_at p from (from + n) k (omega arith))

  back : (p : List ℕ) (k top : ℕ) → k < n → get_or (row_part p from n) k 0 ≤ top → get_or p (from + k) 0 ≤ top
  back p k top h l = omega (arith, part_at p from (from + n) k (omega arith))

  inside : (k : ℕ) → k < n → k < length (row_part a.p0 from n)
  inside k h = omega (arith, part_width a.p0 from n long.long0)

  pub fine_parts : RunFine a.p0 from n tops.p0 → RunFine a.p1 from n tops.p1 → RunFine a.p2 from n tops.p2 → FineParts tops from n a
  fine_parts h0 h1 h2 k l =
      let i : k < n = omega (arith, part_width a.p0 from n long.long0) in
      record { within0 = at a.p0 k tops.p0 i (h0 k i); within1 = at a.p1 k tops.p1 i (h1 k i); within2 = at a.p2 k tops.p2 i (h2 k i) }

  pub first_fine : FineParts tops from n a → RunFine a.p0 from n tops.p0
  first_fine h k l = back a.p0 k tops.p0 l (h k (inside k l)).within0

  pub second_fine : FineParts tops from n a → RunFine a.p1 from n tops.p1
  second_fine h k l = back a.p1 k tops.p1 l (h k (inside k l)).within1

  pub third_fine : FineParts tops from n a → RunFine a.p2 from n tops.p2
  third_fine h k l = back a.p2 k tops.p2 l (h k (inside k l)).within2
