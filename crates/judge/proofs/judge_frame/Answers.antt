-- `judge::judge_frame` meets its contract: what setting and sizes let in is judged if the source's samples are within depth, and else refused.
use Rattle.std.specs.Prelude.{Ok}
use mathlib.Core.Path.{sym, ap, ◌∙◌}
use Rattle.refusal.proofs.Passed.{passed_on}
use Rattle.planes.specs.Picture.{layout_of}
use Rattle.admit.proofs.LetIn.{FrameSized, paintable, not_let_in}
use Rattle.planes.specs.Shown.{shown}
use Rattle.judge.proofs.JudgeLaws.{refused_first, refused_after, told_all}
use Rattle.judge.proofs.judge_frame.Goals as goal
use Rattle.judge.proofs.judge_frame.Goals.{In_ok-served}

-- who is let in by setting and sizes
let_in : (c : In_ok-served)
    → let x = c.args in
    FrameSized x.way x.s (shown x.a) (layout_of (shown x.b)) c.in_ok-served.served
let_in c = record { is_sized = sym (rw (c.layout.ensures, c.layout-claimed.ensures) at c.admit_sizes.ensures) ∙ c.in_ok-served.was }

pub judged-requires : goal.judged-requires
judged-requires c =
    let p = paintable (let_in ((goal.at.judged-requires c).In_ok-served)) in
    record { ready = p.0; fits = p.1.0; room = p.1.1 }

pub returns-in-Some : goal.returns-in-Some
returns-in-Some c =
    let x = c.args in
    let sized = let_in ((goal.at.returns-in-Some c).In_ok-served) in
    ap Ok c.verdict.ensures ∙ told_all x.way x.s (shown x.a) (shown x.b) sized _ (rw c.in-Some.is at c.judged.ensures)

pub returns-in_err-served : goal.returns-in_err-served
returns-in_err-served c =
    let x = c.args in
    let sizes = rw (c.layout.ensures, c.layout-claimed.ensures) at c.admit_sizes.ensures in
    rw (passed_on _ c.from_residual.ensures.1) (refused_first x.way x.s (shown x.a) (shown x.b) _ (sym sizes ∙ c.in_err-served.was))

pub returns-in_err-admit_picture : goal.returns-in_err-admit_picture
returns-in_err-admit_picture c =
    let x = c.args in
    let v = c.admit_picture in
    rw (passed_on _ c.from_residual-in_err-admit_picture.ensures.1) (refused_after x.way x.s (shown x.a) (shown x.b) v.result _ (rw c.layout-claimed.ensures at v.ensures) c.in_err-admit_picture.was)

pub returns : goal.returns
returns c =
    let v = c.admit_picture in
    let found = rw c.layout-claimed.ensures at v.ensures in
    let sized = let_in ((goal.at.returns c).In_ok-served) in
    absurd (not_let_in sized (rw c.in_default.is at c.judged.ensures) _ (sym found ∙ c.in_ok-admit_picture.was))
