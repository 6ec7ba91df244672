-- `admit::admit_picture` meets its contract: who is refused by setting or sizes is refused, and else the rule on samples decides.
use Rattle.std.specs.Prelude.{Ok}
use mathlib.Core.Path.{◌≡◌, sym, ap, ◌∙◌}
use mathlib.Core.List.{[], ◌∷◌}
use Rattle.refusal.proofs.Passed.{passed_on}
use Rattle.refusal.specs.Rules.{first}
use Rattle.sample.specs.Depth.{tops}
use Rattle.setting.specs.Rules.{admitted}
use Rattle.scan.specs.First.{bad_rule, bad_found}
use Rattle.planes.specs.Shown.{shown}
use Rattle.planes.proofs.SizeTheorems.{fits}
use Rattle.admit.specs.Rules.{by_sizes}
use Rattle.admit.proofs.AdmitLaws.{still_refused}
use Rattle.admit.proofs.Accepted.{sized, is_served, sized_ready, then_samples}
use Rattle.admit.proofs.admit_picture.Goals as goal
use Rattle.admit.proofs.admit_picture.Goals.{In_ok-served}

pub returns-in_err-served : goal.returns-in_err-served
returns-in_err-served c =
    let e = c.in_err-served.was in
    rw (passed_on _ c.from_residual.ensures.1) (sym (still_refused c.args.call c.args.s _ _ _ (sym (rw c.layout.ensures at c.admit_sizes.ensures) ∙ e)))

-- let in by them
let_in : (c : In_ok-served) → let a = c.args in
    by_sizes a.call a.s (shown a.a) a.other ≡ Ok c.in_ok-served.served
let_in c = sym (rw c.layout.ensures at c.admit_sizes.ensures) ∙ c.in_ok-served.was

pub tops-tops-requires : goal.tops-tops-requires
tops-tops-requires c = (sized_ready c.args.call c.args.s _ _ (let_in ((goal.at.tops-tops-requires c).In_ok-served))).three

pub bad_of_three-requires : goal.bad_of_three-requires
bad_of_three-requires c =
    let f = (fits _ _ _ (sized c.args.call c.args.s _ _ (let_in ((goal.at.bad_of_three-requires c).In_ok-served))).1).0 in
    record { sized = f.sized; long = f.long }

pub returns : goal.returns
returns c =
    let l = let_in ((goal.at.returns c).In_ok-served) in
    let same = is_served c.args.call c.args.s _ _ l in
    let found = c.bad_of_three.ensures
    ∙ ap (bad_found (shown c.args.a)) (c.tops-tops.ensures ∙ (λ i. tops (c.reads.ensures i) (sym same i).depths)) in
    c.past.ensures ∙ ap (λ f. admitted (first (bad_rule f ∷ [])) c.in_ok-served.served) found
    ∙ then_samples c.args.call c.args.s _ _ l _
