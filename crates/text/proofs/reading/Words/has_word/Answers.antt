-- A word is there where something is left.
use Rattle.std.proofs.Common.{ap, ◌∙◌}
use Rattle.std.specs.Prelude.{not}
use Rattle.text.proofs.WordLaws.{word_there}
use Rattle.text.proofs.reading.Words.has_word.Goals as goal

pub returns : goal.returns
returns c = ap not c.is_empty.ensures ∙ word_there _ _ _ _ c.skip.ensures.words
