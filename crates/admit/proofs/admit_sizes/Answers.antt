-- `admit::admit_sizes` meets its contract: the rules on the setting, and then those on the sizes.
use Rattle.std.specs.Prelude.{Ok}
use mathlib.Core.Path.{sym, ap, ◌∙◌}
use Rattle.refusal.proofs.Passed.{passed_on}
use Rattle.refusal.specs.Rules.{first}
use Rattle.admit.proofs.AdmitLaws.{not_past, by_size, by_sample, served_setting}
use Rattle.admit.proofs.admit_sizes.Goals as goal

pub returns-in_err-served : goal.returns-in_err-served
returns-in_err-served c =
    let a = c.args in
    rw (passed_on _ c.from_residual.ensures.1) (sym c.in_err-served.was ∙ not_past a.call a.s _ _ _ _ c.admit.ensures c.in_err-served.was)

pub returns-in_err-check_sizes : goal.returns-in_err-check_sizes
returns-in_err-check_sizes c =
    let a = c.args in
    let t = served_setting a.call a.s _ _ c.admit.ensures c.in_ok-served.was in
    rw (passed_on _ c.from_residual-in_err-check_sizes.ensures.1) (by_size a.call a.s _ _ _ t.0 (sym c.check_sizes.ensures ∙ c.in_err-check_sizes.was))

pub returns : goal.returns
unfolding first
returns c =
    let a = c.args in
    let t = served_setting a.call a.s _ _ c.admit.ensures c.in_ok-served.was in
    ap Ok (sym t.1) ∙ by_sample a.call a.s _ _ t.0 (sym c.check_sizes.ensures ∙ c.in_ok-check_sizes.was)
