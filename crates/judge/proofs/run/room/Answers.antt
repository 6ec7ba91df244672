-- `judge::run::room` meets its contract: it has as many elements as were asked for.
use Prim.Native.Nat.{ℕ}
use lib.ListN.{length-replicate}
use Rattle.compare.specs.Compare.{most_part}
use Rattle.judge.proofs.run.room.Goals as goal

pub returns : goal.returns
returns c = length-replicate {A = ℕ} most_part 0
