-- `compare::compare_rows` meets its contract: the first is looked for where it is sought and there is one.
use mathlib.Core.Path.{refl, sym, ◌∙◌}
use mathlib.Core.Bool.{true≢false}
use native.Mathlib.Omega.{arith}
use Rattle.compare.proofs.CountLaws.{none_counted, none_found}
use Rattle.compare.proofs.compare_rows.Goals as goal
use Rattle.compare.proofs.compare_rows.Goals.{else-sought-via-then-sought+else-wrong-gt0, else-sought-via-else-sought}

pub returns : goal.returns
returns c = record {
  counted = c.count_apart-wrong.ensures;
  unsought = λ e. refl;
  found = λ e.
      elim c.else-sought.branch [
        | else-sought-via-then-sought+else-wrong-gt0 w ↦
            none_found _ _ (none_counted _ _ (omega (arith, c.count_apart-wrong.ensures, w.if-wrong-gt0.false)))
        | else-sought-via-else-sought w ↦ absurd (true≢false (sym e ∙ w.if-sought.false))
      ];
}
