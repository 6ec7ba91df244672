-- `image_check::image_check` meets its contract: what its rules leave known is what the walk asks, and its answer is what that found.
use Rattle.std.specs.Prelude.{Ok}
use mathlib.Core.Path.{◌≡◌, sym, ap, ◌∙◌, subst}
use mathlib.Core.Bool.{not}
use mathlib.Core.List.{[]}
use Rattle.sample.specs.Depth.{InsideYCC}
use Rattle.setting.specs.Ready.{Ready}
use Rattle.setting.specs.declared.Call.TheVariants.{ImageCheck}
use Rattle.setting.specs.declared.Setting.{Setting}
use Rattle.setting.specs.declared.admission.Served.{Served as ServedSetting}
use Rattle.refusal.proofs.Passed.{passed_on}
use Rattle.planes.specs.Picture.{Picture, layout_of, pixel_of, EveryPixel}
use Rattle.planes.specs.Shown.{shown}
use Rattle.planes.specs.Sizes.{Fits}
use Rattle.scan.proofs.Searches.{first_place_same}
use Rattle.plan.proofs.PlanLaws.{plans_as}
use Rattle.plan.proofs.SourceLaws.{takes_back, takes_forth, comes_back_as}
use Rattle.admit.specs.Rules.{picture_admission}
use Rattle.admit.proofs.Accepted.{accepted_of, is_ready, all_fit, pixels_inside}
use Rattle.admit.proofs.AdmitLaws.{own_again}
use Rattle.image_check.specs.Image.{answer_found, image_by, image_answer}
use Rattle.image_check.proofs.image_check.Goals as goal
use Rattle.image_check.proofs.image_check.Goals.{After-admit_picture, After-first_sourceless, In_ok-served}

-- what is known of a setting that was let in
record Known (x : ServedSetting) (a : Picture) : Type 0 where
  ready : Ready x
  fits : Fits a.width a.height (layout_of a)
  inside : EveryPixel (InsideYCC x.depths) a

-- it is known of every setting that the rules let in
known : (s : Setting) (a : Picture) (x : ServedSetting) → picture_admission ImageCheck s a [] ≡ Ok x → Known x a
known s a x e =
    let k = accepted_of ImageCheck s _ _ _ e in
    record {
      ready = subst Ready k.1 (is_ready ImageCheck s _ _ k.0);
      fits = (all_fit ImageCheck s a [] k.0).0;
      inside = subst (λ (x : ServedSetting). EveryPixel (InsideYCC x.depths) a) k.1 (pixels_inside ImageCheck s a [] k.0);
    }

-- a call that writes no planes names its own again
admitted_as : (c : After-admit_picture) → picture_admission ImageCheck c.args.s (shown c.args.a) [] ≡ c.admit_picture.result
admitted_as c = sym ((rw c.layout.ensures at c.admit_picture.ensures) ∙ own_again ImageCheck c.args.s (shown c.args.a))

let_in : (c : In_ok-served) → picture_admission ImageCheck c.args.s (shown c.args.a) [] ≡ Ok c.in_ok-served.served
let_in c = sym ((rw c.layout.ensures at c.admit_picture.ensures) ∙ own_again ImageCheck c.args.s (shown c.args.a)) ∙ c.in_ok-served.was

pub first_sourceless-requires : goal.first_sourceless-requires
first_sourceless-requires c =
    let h = known _ _ _ (let_in ((goal.at.first_sourceless-requires c).In_ok-served)) in
    let k = plans_as _ _ c.plan_of-back.ensures h.ready in
    let l = plans_as _ _ c.plan_of-forth.ensures h.ready in
    record {
      roomy = (k.roomy, l.roomy);
      fits = h.fits;
      every_pixel = λ j i p q. takes_back _ k l _ (h.inside j i p q);
      every_pixel_2 = λ j i p q. takes_forth _ k l _ h.ready (h.inside j i p q);
    }

-- what was found, as the answer
answered : (c : After-first_sourceless) → let a = shown c.args.a in
    picture_admission ImageCheck c.args.s a [] ≡ Ok c.in_ok-served.served → answer_found c.first_sourceless.result ≡ image_answer c.args.s a
unfolding image_answer
answered c e =
    let a = shown c.args.a in
    let r = (known c.args.s a _ e).ready in
    let same = comes_back_as _ (plans_as _ _ c.plan_of-back.ensures r) (plans_as _ _ c.plan_of-forth.ensures r) in
    ap answer_found (c.first_sourceless.ensures ∙ first_place_same _ _ 0 c.args.a.width c.args.a.height (λ j i p q. ap not (same (pixel_of a j i))))
    ∙ ap (λ v. image_by v a) (sym e)

pub returns-in_err-served : goal.returns-in_err-served
unfolding image_answer
returns-in_err-served c =
    rw (passed_on _ c.from_residual.ensures.1, admitted_as ((goal.at.returns-in_err-served c).After-admit_picture) ∙ c.in_err-served.was)

pub returns : goal.returns
returns c = answered ((goal.at.returns c).After-first_sourceless) (let_in ((goal.at.returns c).In_ok-served))

pub plan_of-back-requires : goal.plan_of-back-requires
plan_of-back-requires c = (known _ _ _ (let_in ((goal.at.plan_of-back-requires c).In_ok-served))).ready

pub plan_of-forth-requires : goal.plan_of-forth-requires
plan_of-forth-requires c = (known _ _ _ (let_in ((goal.at.plan_of-forth-requires c).In_ok-served))).ready
