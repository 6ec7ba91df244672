-- After so many turns so many elements are the old contents.
use Rattle.std.proofs.Common.{◌≡◌, length}
use Rattle.tables.proofs.Tables.{Filled}
use Rattle.case_words.specs.Lines.{old_sample}
use Rattle.case_words.proofs.old_contents.Given as goal

abbrev pub invariant-loop-i : goal.invariant-loop-i
invariant-loop-i l = record {
  value : l.v ≡ old_sample l.fill l.i;
  filled : Filled (old_sample l.fill) (length l.initial.out) l.out l.i;
}
