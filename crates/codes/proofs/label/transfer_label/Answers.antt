-- `codes::label::transfer_label` meets its contract: an arm for one code has that code's label, and an arm for a range the label that every
-- code has that the match has left for it.
use mathlib.Core.Path.{refl}
use mathlib.Core.Logic.{⊎_elim}
use Prim.Native.Nat.{◌<◌}
use native.Mathlib.Omega.{arith}
use borrow.Author.Tests.{eqb-true}
use lib.Dec.{eqb}
use Rattle.codes.specs.Label.{among, labelled, transfer_label, label_number}
use Rattle.codes.proofs.Codes.{none, from, below, passed, both_passed, by_test}
use Rattle.codes.proofs.LabelLaws.{assigned, reserved}
use Rattle.codes.proofs.label.transfer_label.Goals as goal

pub returns-in-2 : goal.returns-in-2
unfolding labelled among
returns-in-2 c = rw c.in-2.is

pub returns-in-1 : goal.returns-in-1
unfolding labelled among
returns-in-1 c = rw c.in-1.in-1-own.keys1

pub returns-in-1-2 : goal.returns-in-1-2
unfolding labelled among
returns-in-1-2 c =
    let small : c.args.code < 256 = omega arith in
    assigned _ (eqb-true _ _ (by_test (λ m. eqb (label_number (transfer_label m)) 0) (below (both_passed (passed (passed (λ _. none))) c.in-1.in_default-own.rest) c.in-1.if-code-lt19-own.true) small refl))

pub returns-in-0 : goal.returns-in-0
unfolding labelled among
returns-in-0 c = ⊎_elim (λ e. rw e) (λ e. rw e) c.in-0.in-0-own.keys3

pub returns-in-0-2 : goal.returns-in-0-2
unfolding labelled among
returns-in-0-2 c =
    let small : c.args.code < 256 = omega arith in
    reserved _ (eqb-true _ _ (by_test (λ m. eqb (label_number (transfer_label m)) 2) (from (both_passed (passed (passed (λ _. none))) c.in-0.in_default-own.rest) c.in-0.if-code-lt19-own.false) small refl))
