-- `frame::convert_frame` meets its contract: what is refused is zeroed.
use mathlib.Core.Path.{sym, ap, ◌∙◌}
use Rattle.tables.specs.Table.{zeros}
use Rattle.frame.proofs.FrameLaws.{turned_away}
use Rattle.frame.proofs.convert_frame.Goals as goal

pub returns-then-is_err : goal.returns-then-is_err
returns-then-is_err c =
    let kept = c.attempt-done.auto in
    let z = c.zero_three.ensures in
    turned_away c.args.way c.args.s _ _ _ (sym c.is_err.ensures.value ∙ c.if-is_err.true) c.attempt-done.ensures.0
    (z.p0_after ∙ ap zeros kept.b0, (z.p1_after ∙ ap zeros kept.b1, z.p2_after ∙ ap zeros kept.b2))
