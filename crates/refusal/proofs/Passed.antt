-- A refusal that `?` passes on is what the function answers.
use Rattle.std.specs.Prelude.{Result, Err, IsErrAnd}
use mathlib.Core.Path.{◌≡◌, ap, ◌∙◌}
use Rattle.std.proofs.lemmas.Result.{err_from_is_err_and}
use Rattle.refusal.specs.declared.Refusal.{Refusal}

pub passed_on : {T : Type 0} {x : Refusal} (r : Result T Refusal) → IsErrAnd r (λ y. y ≡ x) → r ≡ Err x
passed_on r h = let p = err_from_is_err_and r h in p.1 ∙ ap (λ y. Err y) p.2
