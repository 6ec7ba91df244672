-- `nclx::rules::check_container` meets its contract: rule 24 is asked where the others pass.
use Rattle.std.specs.Prelude.{Result, Ok, Err}
use mathlib.Core.Path.{◌≡◌, sym, ap, ◌∙◌}
use mathlib.Core.Bool.{true, false}
use mathlib.Core.List.{List, [], ◌∷◌}
use Prim.Native.Nat.{ℕ}
use Rattle.refusal.proofs.Passed.{passed_on}
use Rattle.refusal.specs.Rules.{rule, first, or_else, numbered}
use Rattle.refusal.specs.declared.Refusal.{Refusal}
use Rattle.refusal.proofs.RuleLaws.{first_append}
use Rattle.nclx.specs.Record.{record_rules}
use Rattle.nclx.specs.Choice.{unspecified_code, container_rules}
use Rattle.nclx.proofs.RecordLaws.{sound}
use Rattle.nclx.proofs.rules.check_container.Goals as goal

module _ (bytes : List ℕ) where
  -- the container's check, by that of every record
  by_record : {c : Result Unit Refusal} → c ≡ first (record_rules bytes) → first (container_rules bytes) ≡ or_else c (first (rule 24 (unspecified_code bytes) ∷ []))
  by_record e = first_append (record_rules bytes) (rule 24 (unspecified_code bytes) ∷ []) ∙ ap (λ z. or_else z (first (rule 24 (unspecified_code bytes) ∷ []))) (sym e)

  refused : {c : Result Unit Refusal} {x : Refusal} → c ≡ first (record_rules bytes) → c ≡ Err x → first (container_rules bytes) ≡ Err x
  refused e f = rw (by_record e, f)

  unspecified : {c : Result Unit Refusal} → c ≡ first (record_rules bytes) → c ≡ Ok tt → unspecified_code bytes ≡ true → first (container_rules bytes) ≡ Err (numbered 24)
  unfolding first
  unspecified e f g = rw (by_record e, f, g)

  named : {c : Result Unit Refusal} → c ≡ first (record_rules bytes) → c ≡ Ok tt → unspecified_code bytes ≡ false → first (container_rules bytes) ≡ Ok tt
  unfolding first
  named e f g = rw (by_record e, f, g)

pub unspecified_code-requires : goal.unspecified_code-requires
unspecified_code-requires c = (sound _ (sym c.check_record.ensures ∙ c.in_ok-check_record.was)).whole

pub returns-in_err-check_record : goal.returns-in_err-check_record
returns-in_err-check_record c =
    rw (passed_on _ c.from_residual.ensures.1) (sym (refused _ c.check_record.ensures c.in_err-check_record.was))

pub returns-then-unspecified_code : goal.returns-then-unspecified_code
returns-then-unspecified_code c =
    c.refused.ensures ∙ sym (unspecified _ c.check_record.ensures c.in_ok-check_record.was (sym c.unspecified_code.ensures ∙ c.if-unspecified_code.true))

pub returns : goal.returns
returns c = sym (named _ c.check_record.ensures c.in_ok-check_record.was (sym c.unspecified_code.ensures ∙ c.if-unspecified_code.false))
