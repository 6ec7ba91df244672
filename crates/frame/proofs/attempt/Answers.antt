-- `frame::attempt` meets its contract: what setting and sizes let in is painted if its samples are within depth, and else refused with the place.
use Rattle.refusal.proofs.Passed.{passed_on}
use mathlib.Core.Path.{sym, ◌∙◌}
use lib.ListN.{length}
use Rattle.admit.proofs.LetIn.{FrameSized, paintable, not_let_in}
use Rattle.planes.specs.Shown.{shown}
use Rattle.planes.specs.Sizes.{layout}
use Rattle.frame.proofs.FrameLaws.{painted_all, refused_first, attempt_refused}
use Rattle.frame.proofs.attempt.Goals as goal
use Rattle.frame.proofs.attempt.Goals.{In_ok-served}

-- who is let in by setting and sizes
let_in : (c : In_ok-served)
    → let x = c.args in
    FrameSized x.way x.s (shown x.a) (layout x.output_stride (length x.b0.now) (length x.b1.now) (length x.b2.now))
    c.in_ok-served.served
let_in c = record { is_sized = sym (rw (c.layout.ensures, c.of-output.ensures) at c.admit_sizes.ensures) ∙ c.in_ok-served.was }

pub returns-in_err-served : goal.returns-in_err-served
returns-in_err-served c =
    let sizes = rw (c.layout.ensures, c.of-output.ensures) at c.admit_sizes.ensures in
    rw (passed_on _ c.from_residual.ensures.1) (refused_first c.args.way c.args.s _ _ _ (sym sizes ∙ c.in_err-served.was))

pub painted-requires : goal.painted-requires
painted-requires c =
    let k = paintable (let_in ((goal.at.painted-requires c).In_ok-served)) in
    record { ready = k.0; fits = k.1.0; room = k.1.1 }

pub returns-then-painted : goal.returns-then-painted
returns-then-painted c =
    let p = c.painted.ensures in
    painted_all (let_in ((goal.at.returns-then-painted c).In_ok-served)) (p.0.0 c.if-painted.true) (p.1 c.if-painted.true)

pub returns-in_err-admit_picture : goal.returns-in_err-admit_picture
returns-in_err-admit_picture c =
    let v = c.admit_picture in
    rw (passed_on _ c.from_residual-in_err-admit_picture.ensures.1) (attempt_refused c.args.way c.args.s _ _ _ (sym (rw c.of-output.ensures at v.ensures) ∙ c.in_err-admit_picture.was))

pub returns : goal.returns
returns c =
    let found = rw c.of-output.ensures at c.admit_picture.ensures in
    absurd (not_let_in (let_in ((goal.at.returns c).In_ok-served)) (c.painted.ensures.0.1 c.if-painted.false) _ (sym found ∙ c.in_ok-admit_picture.was))
