-- `runs::mix::mix_of` meets its contract: no weight is more than their sum, which has room, and the largest light is that times a sample.
use native.Mathlib.Omega.{arith}
use Rattle.runs.proofs.Mixing.{taken}
use Rattle.runs.proofs.mix.mix_of.Goals as goal

pub overflow_cast-bias : goal.overflow_cast-bias
overflow_cast-bias c = let t = taken c.requires in omega arith

pub overflow_mul-bias : goal.overflow_mul-bias
overflow_mul-bias c = let t = taken c.requires in omega arith
