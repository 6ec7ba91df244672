-- What stands behind the gap, or nothing where there is none.
use Rattle.std.proofs.Common.{sym, ◌∙◌}
use Rattle.text.proofs.WordLaws.{after_gap, after_none}
use Rattle.text.proofs.reading.Words.rest.Goals as goal
use Rattle.text.proofs.reading.Words.rest.Goals.{in-Some, in-None}

pub returns-clause-after : goal.returns-clause-after
returns-clause-after c =
    elim c.match-first_gap.branch [
      | in-Some w ↦ rw w.text-is (after_gap _ _ _ (sym c.first_gap.ensures ∙ w.in-Some.is))
      | in-None w ↦ rw w.text-is (after_none _ _ (sym c.first_gap.ensures ∙ w.in-None.is))
    ]
