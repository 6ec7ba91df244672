-- `admit::admit_sample` meets its contract: the rules on the setting, and then the one on the sample.
use mathlib.Core.Path.{refl, sym, ◌∙◌}
use mathlib.Core.List.{[]}
use Rattle.refusal.proofs.Passed.{passed_on}
use Rattle.refusal.specs.Rules.{first}
use Rattle.setting.specs.declared.Call.TheVariants.{Meter}
use Rattle.admit.specs.Rules.{bad_one}
use Rattle.admit.proofs.AdmitLaws.{not_past, past_setting, served_setting, served_ready}
use Rattle.admit.proofs.admit_sample.Goals as goal

pub returns-in_err-served : goal.returns-in_err-served
returns-in_err-served c =
    let a = c.args in
    rw (passed_on _ c.from_residual.ensures.1) (sym c.in_err-served.was ∙ not_past Meter a.s [] _ _ _ c.admit.ensures c.in_err-served.was)

pub bad_one-requires : goal.bad_one-requires
bad_one-requires c =
    let a = c.args in
    (served_ready Meter a.s _ _ c.admit.ensures c.in_ok-served.was).three

pub returns : goal.returns
unfolding first
returns c =
    let a = c.args in
    let e = c.admit.ensures in
    let f = c.in_ok-served.was in
    let t = served_setting Meter a.s _ _ e f in
    past_setting Meter a.s [] _ _ _ _ _ e f refl (c.bad_one.ensures ∙ (λ i. bad_one a.kind (sym t.1 i).depths a.v)) c.past.ensures
