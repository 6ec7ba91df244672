-- What is promised of a label's call, by the number that its answer comes to.
use Rattle.std.specs.Prelude.{◌≡◌, ◌↔◌, ℕ, Some, None}
use Rattle.codes.specs.Edition.{edition_of}
use Rattle.codes.specs.Label.{label_number, label_for}
use Rattle.codes.specs.declared.edition.Edition.{Edition}
use Rattle.codes.specs.declared.label.CodeKind.{CodeKind}

-- 12 exactly if the edition is none, and else the label that the edition gives the code
pub record AnswersLabel (k : CodeKind) (n code x : ℕ) : Type 0 where
  pub refuses : (x ≡ 12) ↔ (edition_of n ≡ None)
  pub labels : (e : Edition) → edition_of n ≡ Some e → x ≡ label_number (label_for k e code)
