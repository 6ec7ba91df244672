-- `sample::power` meets its contract: a shift of 1 that loses no bit is a power of two.
use mathlib.Core.Path.{◌∙◌}
use native.Mathlib.Nat.{one-mul}
use native.Mathlib.Omega.{arith}
use lib.Dec.{lit<}
use lib.Pow.{shl_exact}
use Rattle.sample.proofs.power.Goals as goal

pub returns : goal.returns
returns c = shl_exact 1 c.args.bits 16 (lit< tt) (omega arith) ∙ one-mul _
