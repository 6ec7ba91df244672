-- After so many turns the words from there on are all that is left.
use Rattle.std.proofs.Common.{◌≡◌, drop}
use Rattle.text.specs.Words.{split, text_from}
use Rattle.text.proofs.reading.Words.skip.Given as goal

abbrev pub invariant-loop : goal.invariant-loop
invariant-loop l = record {
  text : l.words.text.now ≡ text_from l.self.gap l.self.text.now l.counter;
  words : split l.self.gap l.words.text.now ≡ drop l.counter (split l.self.gap l.self.text.now);
  gap : l.words.gap ≡ l.self.gap;
}
