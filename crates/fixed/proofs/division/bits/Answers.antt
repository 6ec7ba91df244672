-- `fixed::division::bits` meets its contract: with each turn the quotient has one bit more.
use native.Mathlib.Omega.{arith}
use Rattle.fixed.proofs.Dividing.{more, room}
use Rattle.fixed.proofs.division.bits.Goals as goal

pub step-at-requires : goal.step-at-requires
step-at-requires c =
    let l = c.loop-i in
    let k = room l.i c.args.n c.args.p.whole (omega arith) c.requires.room in
    record { rest_in = l.invariant.1.rest_in; e_in = c.requires.e_in; room = let w = l.invariant.1.whole_in in omega (arith, k, w) }

pub loop-i-preserved : goal.loop-i-preserved
loop-i-preserved c = (omega arith, more c.loop-i.i c.loop-i.invariant.1 c.step-at.ensures)
