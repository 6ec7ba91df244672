-- One element more is the next of the old contents.
use Rattle.std.proofs.Common.{arith, refl}
use Rattle.tables.proofs.Tables.{filled_none, filled_more, filled_all}
use Rattle.case_words.specs.Lines.{old_sample}
use Rattle.case_words.proofs.old_contents.Goals as goal

pub loop-i-init : goal.loop-i-init
loop-i-init c = record { value = omega arith; filled = filled_none _ _ _ refl }

pub loop-i-preserved : goal.loop-i-preserved
loop-i-preserved c =
    let v = c.loop-i.invariant in
    record { value = omega arith; filled = filled_more (old_sample c.args.fill) _ _ _ _ (omega arith) v.value v.filled }

pub returns : goal.returns
returns c = filled_all (old_sample c.args.fill) _ _ _ (omega (arith, c.loop-i.invariant.filled.len)) c.loop-i.invariant.filled
