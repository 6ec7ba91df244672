-- A call's rules, by what has been found out so far: those on the setting, then those on sizes, then the one on samples.
use Rattle.std.specs.Prelude.{Result, Ok, Err, Option, Some, None}
use mathlib.Core.Path.{◌≡◌, refl, sym, ap, ◌∙◌, subst}
use mathlib.Core.Bool.{true≢false}
use mathlib.Core.List.{List, [], ◌∷◌, ◌++◌}
use Prim.Native.Nat.{ℕ}
use Rattle.refusal.specs.Rules.{Rule, first, or_else, bad_at}
use Rattle.refusal.specs.declared.Place.{Place}
use Rattle.refusal.specs.declared.Refusal.{Refusal}
use Rattle.refusal.proofs.RuleLaws.{first_append}
use Rattle.setting.specs.Ready.{Ready}
use Rattle.setting.specs.Rules.{served, setting_rules, admitted, setting_admission}
use Rattle.setting.specs.declared.Call.{Call}
use Rattle.setting.specs.declared.Setting.{Setting}
use Rattle.setting.specs.declared.admission.Served.{Served}
use Rattle.setting.proofs.ReadyLaws.{ready}
use Rattle.scan.specs.First.{bad_rule}
use Rattle.planes.specs.Picture.{Picture, layout_of}
use Rattle.planes.proofs.SizeTheorems.{twice}
use Rattle.admit.specs.Rules.{call_rules, call_admission, picture_admission}

-- what an admission tells of the check that it was made by
pub admitted_passed : (c : Result Unit Refusal) (x y : Served) → admitted c x ≡ Ok y → (c ≡ Ok tt) × (x ≡ y)
admitted_passed (Ok u) x y e = (refl, cc)
admitted_passed (Err r) x y e = absurd (true≢false cc)

pub refused_by : (c : Result Unit Refusal) (x : Served) (r : Refusal) → admitted c x ≡ Err r → c ≡ Err r
refused_by (Ok u) x r e = absurd (true≢false cc)
refused_by (Err q) x r e = cc

-- the three parts of a call's rules
pub in_turn : (call : Call) (s : Setting) (sizes : List Rule) (bad : Option (Place × ℕ))
    → first (call_rules call s sizes bad) ≡ or_else (first (setting_rules call s)) (or_else (first sizes) (first (bad_rule bad ∷ [])))
in_turn call s sizes bad =
    first_append (setting_rules call s) (sizes ++ (bad_rule bad ∷ []))
    ∙ ap (or_else (first (setting_rules call s))) (first_append sizes (bad_rule bad ∷ []))

-- what the code has found out of the setting
module _ (call : Call) (s : Setting) where
  pub refused_setting : (a : Result Served Refusal) (r : Refusal) → a ≡ setting_admission call s → a ≡ Err r → first (setting_rules call s) ≡ Err r
  unfolding setting_admission
  refused_setting a r e f = refused_by _ (served s) r (sym e ∙ f)

  pub served_setting : (a : Result Served Refusal) (x : Served) → a ≡ setting_admission call s → a ≡ Ok x
      → (first (setting_rules call s) ≡ Ok tt) × (served s ≡ x)
  unfolding setting_admission
  served_setting a x e f = admitted_passed _ (served s) x (sym e ∙ f)

  pub served_ready : (a : Result Served Refusal) (x : Served) → a ≡ setting_admission call s → a ≡ Ok x → Ready x
  served_ready a x e f = let t = served_setting a x e f in rw (← t.1) (ready call s t.0)

  module _ (sizes : List Rule) (bad : Option (Place × ℕ)) where
    -- the answer by what each of the three parts comes to
    abbrev answer : Result Unit Refusal → Result Unit Refusal → Result Served Refusal
    answer a b = admitted (or_else a (or_else b (first (bad_rule bad ∷ [])))) (served s)

    by_parts : answer (first (setting_rules call s)) (first sizes) ≡ call_admission call s sizes bad
    unfolding call_admission
    by_parts = ap (λ c. admitted c (served s)) (sym (in_turn call s sizes bad))

    pub by_setting : (r : Refusal) → first (setting_rules call s) ≡ Err r → Err r ≡ call_admission call s sizes bad
    by_setting r e = ap (λ a. answer a (first sizes)) (sym e) ∙ by_parts

    pub by_size : (r : Refusal) → first (setting_rules call s) ≡ Ok tt → first sizes ≡ Err r → Err r ≡ call_admission call s sizes bad
    by_size r e f = (λ i. answer (sym e i) (sym f i)) ∙ by_parts

    pub by_sample : first (setting_rules call s) ≡ Ok tt → first sizes ≡ Ok tt
        → admitted (first (bad_rule bad ∷ [])) (served s) ≡ call_admission call s sizes bad
    by_sample e f = (λ i. answer (sym e i) (sym f i)) ∙ by_parts

    -- the code's own answer, of the setting as it was checked and of what was found
    pub past_setting : (a b : Result Served Refusal) (x : Served) (f : Option (Place × ℕ)) → a ≡ setting_admission call s → a ≡ Ok x → first sizes ≡ Ok tt
        → f ≡ bad → b ≡ admitted (first (bad_rule f ∷ [])) x → b ≡ call_admission call s sizes bad
    past_setting a b x f e g h q r =
        let t = served_setting a x e g in
        r ∙ (λ i. admitted (first (bad_rule (q i) ∷ [])) (sym t.1 i)) ∙ by_sample t.0 h

    pub not_past : (a : Result Served Refusal) (r : Refusal) → a ≡ setting_admission call s → a ≡ Err r → a ≡ call_admission call s sizes bad
    not_past a r e f = f ∙ by_setting r (refused_setting a r e f)

  -- who is refused before samples are looked at is refused
  refused_before : (a b c : Result Unit Refusal) (x : Served) (r : Refusal) → admitted (or_else a (or_else b (Ok tt))) x ≡ Err r
      → admitted (or_else a (or_else b c)) x ≡ Err r
  refused_before (Err q) b c x r e = e
  refused_before (Ok u) (Err q) c x r e = e
  refused_before (Ok u) (Ok v) c x r e = absurd (true≢false cc)

  pub still_refused : (sizes : List Rule) (bad : Option (Place × ℕ)) (r : Refusal) → call_admission call s sizes None ≡ Err r
      → call_admission call s sizes bad ≡ Err r
  unfolding first
  still_refused sizes bad r e =
      sym (by_parts sizes bad)
      ∙ refused_before (first (setting_rules call s)) (first sizes) (first (bad_rule bad ∷ [])) (served s) r (by_parts sizes None ∙ e)

  -- of the rules on sizes only what they come to counts
  pub same_sizes : (a b : List Rule) (bad : Option (Place × ℕ)) → first a ≡ first b → call_admission call s a bad ≡ call_admission call s b bad
  same_sizes a b bad e = sym (by_parts a bad) ∙ ap (answer a bad (first (setting_rules call s))) e ∙ by_parts b bad

-- a call that names its own layout again
pub own_again : (call : Call) (s : Setting) (a : Picture) → picture_admission call s a (layout_of a ∷ []) ≡ picture_admission call s a []
own_again call s a = same_sizes call s _ _ _ (twice a.width a.height (layout_of a))

-- what holds of every answer of a call: of each refusal by its setting, by its sizes and by a bad sample, and of what is served
module _ (Q : Result Served Refusal → Type 0) (call : Call) (s : Setting) (sizes : List Rule) (bad : Option (Place × ℕ))
    (of-setting : (r : Refusal) → first (setting_rules call s) ≡ Err r → Q (Err r))
    (of-sizes : (r : Refusal) → first sizes ≡ Err r → Q (Err r))
    (of-sample : first sizes ≡ Ok tt → (place : Place) (v : ℕ) → bad ≡ Some (place, v) → Q (Err (bad_at place v)))
    (of-served : Q (Ok (served s)))
  where
    by_found : first sizes ≡ Ok tt → (f : Option (Place × ℕ)) → bad ≡ f → Q (admitted (first (bad_rule f ∷ [])) (served s))
    unfolding first
    by_found h (Some b) e = of-sample h b.0 b.1 e
    by_found h None e = of-served

    past_sizes : first (setting_rules call s) ≡ Ok tt → (k : Result Unit Refusal) → first sizes ≡ k → Q (call_admission call s sizes bad)
    past_sizes e (Ok u) f = subst Q (by_sample call s sizes bad e f) (by_found f bad refl)
    past_sizes e (Err r) f = subst Q (by_size call s sizes bad r e f) (of-sizes r f)

    by_check : (k : Result Unit Refusal) → first (setting_rules call s) ≡ k → Q (call_admission call s sizes bad)
    by_check (Ok u) e = past_sizes e (first sizes) refl
    by_check (Err r) e = subst Q (by_setting call s sizes bad r e) (of-setting r e)

    pub each_answer : Q (call_admission call s sizes bad)
    each_answer = by_check (first (setting_rules call s)) refl
