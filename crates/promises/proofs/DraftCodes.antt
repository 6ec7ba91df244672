-- The draft's codes of YCgCo-Re and YCgCo-Ro in the published edition, whatever is asked: 15 is refused with 3, and what the draft takes as 16 with
-- 7, since 16 asks for one bit more there.
use Rattle.std.specs.Prelude.{Ok, Err, Option}
use mathlib.Core.Path.{◌≡◌, sym, ap, ◌∙◌}
use mathlib.Core.Bool.{true, false, not}
use mathlib.Core.List.{List, [], ◌∷◌}
use Prim.Native.Nat.{ℕ, ◌+◌}
use native.Mathlib.Omega.{arith}
use borrow.Author.Tests.{eqb-true, ne_eqb, not-false}
use lib.Dec.{eqb}
use Rattle.sample.specs.Depth.{most_depth}
use Rattle.sample.proofs.Choices.{both_true}
use Rattle.refusal.specs.Rules.{Rule, FirstIs, first, or_else, numbered}
use Rattle.refusal.specs.declared.Refusal.{Refusal}
use Rattle.refusal.proofs.RuleLaws.{passed_over, refused_exactly}
use Rattle.codes.specs.Edition.{edition_of}
use Rattle.codes.specs.Matrix.{ycgco_re, ycgco_ro, matrix_of}
use Rattle.codes.specs.Label.{primaries_label, transfer_label, is_reserved}
use Rattle.codes.specs.Standing.{matrix_by}
use Rattle.setting.specs.Agreement.{depths_served, agree}
use Rattle.setting.specs.Edition.{in_edition}
use Rattle.setting.specs.Rules.{depths, edition_rule, matrix_rules, setting_rules}
use Rattle.setting.specs.declared.Call.{Call}
use Rattle.setting.specs.declared.Setting.{Setting}
use Rattle.scan.specs.First.{bad_rule}
use Rattle.admit.specs.Rules.{call_rules}
use Rattle.admit.proofs.AdmitLaws.{in_turn}
use Rattle.refusal.specs.declared.Place.{Place}

-- the number of the edition, and of its code, in their places
abbrev rules_at : Call → Setting → ℕ → ℕ → List Rule
rules_at c s edition code = edition_rule edition ∷ matrix_rules c (matrix_by (edition_of edition) code) s

-- a setting's refusal is every call's
of_call : (c : Call) (s : Setting) (sizes : List Rule) (bad : Option (Place × ℕ)) (x : Refusal) → first (setting_rules c s) ≡ Err x → FirstIs x (call_rules c s sizes bad)
of_call c s sizes bad x e = (refused_exactly _ x).0 (in_turn c s sizes bad ∙ ap (λ a. or_else a (or_else (first sizes) (first (bad_rule bad ∷ [])))) e)

pub draft_15_refused : (c : Call) (s : Setting) (sizes : List Rule) (bad : Option (Place × ℕ)) → s.matrix ≡ 15
    → FirstIs (numbered 3) (call_rules c (in_edition 3 s) sizes bad)
unfolding first matrix_of
draft_15_refused c s sizes bad e =
    of_call c (in_edition 3 s) sizes bad (numbered 3) (ap (λ code. first (rules_at c (in_edition 3 s) 3 code)) e)

-- no depths go with both codes
one_bit_more : (s : Setting) → agree ycgco_ro (depths s) s.rgb_full s.ycc_full ≡ true
    → agree ycgco_re (depths s) s.rgb_full s.ycc_full ≡ false
unfolding agree
one_bit_more s h =
    let d = depths s in
    let bound = (both_true (eqb d.luma.0 (d.rgb.0 + 1)) _ (both_true _ _ h).0).0 in
    let e : d.luma.0 ≡ d.rgb.0 + 1 = eqb-true _ _ bound in
    rw (ne_eqb d.luma.0 (d.rgb.0 + 2) (λ f. omega arith))

-- rules 4 to 6 are the same for both, and rule 7 has the draft's bits
record Taken (s : Setting) : Type 0 where
  past_4 : is_reserved (primaries_label s.primaries) ≡ false
  past_5 : is_reserved (transfer_label s.transfer) ≡ false
  past_6 : not (depths_served most_depth s.rgb_depth s.y_depth s.c_depth) ≡ false
  past_7 : agree ycgco_ro (depths s) s.rgb_full s.ycc_full ≡ true

taken_as_ro : (c : Call) (s : Setting) → first (rules_at c s 2 16) ≡ Ok tt → Taken s
unfolding matrix_of
taken_as_ro c s e =
    let rule_4 = passed_over _ _ (passed_over _ _ (passed_over _ _ (passed_over _ _ (passed_over _ _ e).1).1).1).1 in
    let rule_5 = passed_over _ _ rule_4.1 in
    let rule_6 = passed_over _ _ rule_5.1 in
    record { past_4 = rule_4.0; past_5 = rule_5.0; past_6 = rule_6.0; past_7 = not-false _ (passed_over _ _ rule_6.1).0 }

refused_as_re : (c : Call) (s : Setting) → Taken s → first (rules_at c (in_edition 3 s) 3 16) ≡ Err (numbered 7)
unfolding first matrix_of
refused_as_re c s k = rw (k.past_4, k.past_5, k.past_6, one_bit_more s k.past_7)

pub draft_16_refused : (c : Call) (s : Setting) (sizes : List Rule) (bad : Option (Place × ℕ)) → s.edition ≡ 2 → s.matrix ≡ 16
    → first (setting_rules c s) ≡ Ok tt → FirstIs (numbered 7) (call_rules c (in_edition 3 s) sizes bad)
draft_16_refused c s sizes bad d e taken =
    of_call c (in_edition 3 s) sizes bad (numbered 7)
    (ap (λ code. first (rules_at c (in_edition 3 s) 3 code)) e
    ∙ refused_as_re c s (taken_as_ro c s (sym (λ i. first (rules_at c s (d i) (e i))) ∙ taken)))
