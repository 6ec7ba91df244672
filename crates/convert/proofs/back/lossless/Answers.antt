-- `convert::back::lossless` meets its contract: with each turn the bits are gathered from one pixel more.
use mathlib.Core.Path.{refl}
use native.Mathlib.Omega.{arith}
use Rattle.convert.proofs.BackLaws.{back_more}
use Rattle.convert.proofs.back.lossless.Goals as goal

pub loop-i-preserved : goal.loop-i-preserved
loop-i-preserved c =
    let l = c.loop-i in
    (omega arith, (refl, back_more l.invariant.1.1 c.pixel-p.ensures c.lossless_reverse-source.ensures c.lossless_forward-again.ensures c.difference-apart.ensures))
