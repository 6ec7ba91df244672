-- `runs::mix::light_of` meets its contract: each product is largest at the largest sample, and there they come to the largest light.
use native.Mathlib.Omega.{arith}
use mathlib.Core.Path.{refl}
use Rattle.runs.proofs.Mixing.{Lit, lit}
use Rattle.runs.proofs.mix.light_of.Goals as goal
use Rattle.runs.proofs.mix.light_of.Goals.{Start}

known : (s : Start) → Lit s.args.by s.args.p
known s = lit s.requires.weighs s.args.p s.requires.up_to

pub returns : goal.returns
returns c = let k = known ((goal.at.returns c).Start) in record { value = refl; upper_bound = omega arith }
