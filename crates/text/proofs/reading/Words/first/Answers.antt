-- The word ends where its gap is.
use Rattle.std.proofs.Common.{sym, ◌∙◌}
use Rattle.text.proofs.WordLaws.{word_to, word_all}
use Rattle.text.proofs.reading.Words.first.Goals as goal

pub returns-in-Some : goal.returns-in-Some
returns-in-Some c = word_to _ _ _ (sym c.first_gap.ensures ∙ c.in-Some.is)

pub returns-in-None : goal.returns-in-None
returns-in-None c = word_all _ _ (sym c.first_gap.ensures ∙ c.in-None.is)
