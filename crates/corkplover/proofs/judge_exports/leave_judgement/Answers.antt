-- An exported judgement is the judgement, packed, with its count written through.
use mathlib.Core.Path.{◌∙◌}
use Rattle.judge.specs.Judge.{judgement}
use Rattle.corkplover.proofs.ExportLaws.{judgement_exported}
use Rattle.corkplover.proofs.judge_exports.leave_judgement.Goals as goal

pub returns : goal.returns
returns c =
    let a = c.args in
    let answers = c.judge_frame-judgement.ensures ∙ (λ i. judgement a.way c.setting_in-s.result (c.input.ensures i) (c.output.ensures i)) in
    judgement_exported a.way a.a0.now a.a1.now a.a2.now a.b0.now a.b1.now a.b2.now c.setting_in-s.ensures c.size_of-size.ensures
    answers c.wrong_in.ensures c.pack_judgement.ensures
