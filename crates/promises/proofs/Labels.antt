-- What a label's call comes to.
use Rattle.std.specs.Prelude.{Option, Some, None}
use mathlib.Core.Path.{◌≡◌, refl, ap}
use mathlib.Core.Bool.{true≢false}
use Prim.Native.Nat.{ℕ, ◌≤◌}
use native.Mathlib.Omega.{arith}
use Rattle.codes.specs.declared.edition.Edition.{Edition}
use Rattle.codes.specs.Edition.{edition_of}
use Rattle.codes.specs.Label.{label_number, label_for}
use Rattle.codes.specs.declared.label.CodeKind.{CodeKind}
use Rattle.codes.specs.declared.label.Label.{Label}
use Rattle.codes.specs.declared.label.Label.TheVariants.{Assigned, Unspecified, Reserved}
use Rattle.corkplover.specs.Answers.{label_by, label_answer}
use Rattle.corkplover.specs.Packing.{packed_label}
use Rattle.promises.specs.Labels.{AnswersLabel}

-- no label has a refusal's number
no_refusal : (l : Label) → label_number l ≤ 2
no_refusal Assigned = omega arith
no_refusal Unspecified = omega arith
no_refusal Reserved = omega arith

by_edition : (k : CodeKind) (n code : ℕ) (c : Option Edition) → edition_of n ≡ c → AnswersLabel k n code (packed_label (label_by k code c))
by_edition k n code (Some e) q =
    record {
      refuses = (λ x. absurd (omega (arith, x, no_refusal (label_for k e code))), λ u. absurd (true≢false cc));
      labels = λ f h. let g : e ≡ f = cc in ap (λ z. label_number (label_for k z code)) g;
    }
by_edition k n code None q = record { refuses = (λ x. q, λ u. refl); labels = λ f h. absurd (true≢false cc) }

pub label_kept : (k : CodeKind) (n code : ℕ) → AnswersLabel k n code (packed_label (label_answer k n code))
unfolding label_answer
label_kept k n code = by_edition k n code (edition_of n) refl
