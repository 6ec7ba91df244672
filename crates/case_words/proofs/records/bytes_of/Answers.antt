-- One byte more is the low byte of its number.
use Rattle.std.proofs.Common.{arith, refl}
use Rattle.tables.proofs.Tables.{filled_none, filled_more, filled_all}
use Rattle.case_words.proofs.records.bytes_of.Goals as goal

pub loop-i-init : goal.loop-i-init
loop-i-init c = filled_none _ _ _ refl

pub loop-i-preserved : goal.loop-i-preserved
loop-i-preserved c = filled_more _ _ _ _ _ (omega arith) c.low_byte.ensures c.loop-i.invariant

pub returns : goal.returns
returns c = filled_all _ _ _ _ (omega arith) c.loop-i.invariant
