-- `meter::level` meets its contract: the numerator is a small signed number, so that nothing wraps and both casts are exact.
use mathlib.Core.Path.{◌≡◌}
use native.Mathlib.Omega.{arith}
use lib.IntN.{pos, ◌-ℤ◌}
use mir.Syntax.{w32}
use mir.Val.{to_z, of_z}
use Rattle.rounding.proofs.Difference.{parts}
use Rattle.rounding.proofs.FromParts.{signed_fits, reads_back}
use Rattle.meter.proofs.Exact.{in_float_lem, numerator_size}
use Rattle.meter.proofs.level.Goals as goal
use Rattle.meter.proofs.level.Goals.{Start}

v_is : (s : Start) → to_z w32 s.args.v ≡ pos s.args.v
v_is s = reads_back w32 {z = pos s.args.v} (search parts) (omega arith) (omega arith)

plus_is : (s : Start) → to_z w32 s.args.s.plus ≡ pos s.args.s.plus
plus_is s = reads_back w32 {z = pos s.args.s.plus} (search parts) (omega arith) (omega arith)

above_is : (s : Start) → to_z w32 (of_z w32 (pos s.args.v -ℤ pos s.args.s.plus)) ≡ pos s.args.v -ℤ pos s.args.s.plus
above_is s = reads_back w32 (search parts) (omega arith) (omega arith)

pub overflow_sub-above : goal.overflow_sub-above
overflow_sub-above c = simp (v_is ((goal.at.overflow_sub-above c).Start), plus_is ((goal.at.overflow_sub-above c).Start)) (signed_fits (search parts) (omega arith) (omega arith))

pub int_to_float-numerator : goal.int_to_float-numerator
int_to_float-numerator c =
    simp (v_is ((goal.at.int_to_float-numerator c).Start), plus_is ((goal.at.int_to_float-numerator c).Start), above_is ((goal.at.int_to_float-numerator c).Start)) (in_float_lem _ (numerator_size c.args.v c.args.s (omega arith) c.requires))

pub int_to_float-denominator : goal.int_to_float-denominator
int_to_float-denominator c = in_float_lem (pos c.args.s.times) (omega arith)

pub returns : goal.returns
returns c = simp (v_is ((goal.at.returns c).Start), plus_is ((goal.at.returns c).Start), above_is ((goal.at.returns c).Start))
