-- `fixed::by_words::whole` meets its contract: there are 50 bits at most before the shift, and 16 after it.
use Prim.Native.Nat.{◌^◌, ◌≤◌}
use native.Mathlib.Omega.{arith}
use lib.Pow.{pow_mono}
use Rattle.fixed.proofs.by_words.whole.Goals as goal

pub overflow_add-result-2 : goal.overflow_add-result-2
overflow_add-result-2 c = let small : 2 ^ c.args.shift ≤ 2 ^ 34 = pow_mono c.requires.shift_in in omega arith
