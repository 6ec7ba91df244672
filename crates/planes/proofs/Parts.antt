-- A part of a plane that is lent.
use mathlib.Core.Path.{◌≡◌}
use mathlib.Core.List.{List}
use Prim.Native.Nat.{ℕ, ◌+◌, ◌*◌, ◌-◌, ◌<◌}
use lib.ListN.{get_or, take, drop}
use Rattle.tables.proofs.Tables.{part_at}
use Rattle.planes.specs.Plane.{sample_at}

-- element k of the part from s up to e is the sample of row j and column i
pub part_sample : (p : List ℕ) (stride j i s e k : ℕ) → s + k ≡ j * stride + i → k < e - s
    → get_or (take (e - s) (drop s p)) k 0 ≡ sample_at p stride j i
part_sample p stride j i s e k q h = rw (← q) (part_at p s e k h)
