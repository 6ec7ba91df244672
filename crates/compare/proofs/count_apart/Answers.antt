-- `compare::count_apart` meets its contract: as many are counted as differ so far.
use mathlib.Core.Path.{refl, sym, ◌∙◌}
use Prim.Native.Nat.{◌+◌}
use native.Mathlib.Omega.{arith}
use Rattle.sample.specs.Flag.{one_if}
use Rattle.sample.proofs.FlagLaws.{one_most}
use Rattle.planes.specs.Three.{held}
use Rattle.compare.specs.Compare.{differ, rows_differ}
use Rattle.compare.proofs.CountLaws.{count_none, count_more, count_most}
use Rattle.compare.proofs.count_apart.Goals as goal

pub loop-i-init : goal.loop-i-init
loop-i-init c = (refl, sym (count_none _))

pub overflow_add-wrong : goal.overflow_add-wrong
overflow_add-wrong c =
    omega (
      arith,
      one_most (differ c.pixel.result c.pixel-in-loop-i.result),
      count_most c.loop-i.i (rows_differ (held c.args.c) (held c.args.b)),
    )

pub loop-i-preserved : goal.loop-i-preserved
loop-i-preserved c =
    let one = c.apart-wrong.ensures ∙ (λ t. one_if (differ (c.pixel.ensures t) (c.pixel-in-loop-i.ensures t))) in
    (refl, (λ t. c.loop-i.invariant.1 t + one t) ∙ sym (count_more c.loop-i.i (rows_differ (held c.args.c) (held c.args.b))))
