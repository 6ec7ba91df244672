-- So many names were passed, and the place among the rest is counted from there.
use Rattle.std.proofs.Common.{◌≡◌, ◌+◌, ◌≤◌, length}
use Rattle.text.specs.Words.{split, index_in}
use Rattle.text.proofs.WordLaws.{further}
use Rattle.text.proofs.reading.Words.place.Given as goal

abbrev pub invariant-loop-word : goal.invariant-loop-word
invariant-loop-word l = record {
  place : further l.n (index_in l.word (split l.self.gap l.names.text.now)) ≡ index_in l.word (split l.self.gap l.self.text.now);
  gap : l.names.gap ≡ l.self.gap;
  passed : l.n + length l.names.text.now ≤ length l.self.text.now;
}

abbrev pub decreases-loop-word : goal.decreases-loop-word
decreases-loop-word l = length l.names.text.now
