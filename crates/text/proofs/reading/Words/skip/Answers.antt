-- One word fewer is left after each turn.
use Rattle.std.proofs.Common.{refl, ◌∙◌}
use Rattle.text.proofs.WordLaws.{from_none, from_next, one_fewer}
use Rattle.text.proofs.reading.Words.skip.Goals as goal

pub loop-init : goal.loop-init
loop-init c = record { text = from_none _ _; words = refl; gap = refl }

pub loop-preserved : goal.loop-preserved
loop-preserved c = record {
  text = from_next _ _ _ _ _ c.loop.invariant.text (rw c.loop.invariant.gap at c.rest-words.ensures.after);
  words = one_fewer _ _ _ _ _ c.loop.invariant.words (rw c.loop.invariant.gap at c.rest-words.ensures.after);
  gap = c.rest-words.ensures.gap ∙ c.loop.invariant.gap;
}
