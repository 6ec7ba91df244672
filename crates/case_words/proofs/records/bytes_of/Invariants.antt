-- After i turns the first i bytes are set.
use Rattle.std.proofs.Common.{length}
use Rattle.tables.proofs.Tables.{Filled}
use Rattle.case_words.specs.Lines.{low_byte}
use Rattle.case_words.proofs.records.bytes_of.Given as goal

abbrev pub invariant-loop-i : goal.invariant-loop-i
invariant-loop-i l = Filled (low_byte l.numbers) (length l.initial.out) l.out l.i
