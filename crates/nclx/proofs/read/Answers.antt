-- `nclx::read` meets its contract: it answers what the rules come to, and past them what the record says.
use mathlib.Core.Path.{sym, ◌∙◌}
use Rattle.refusal.proofs.Passed.{passed_on}
use Rattle.nclx.specs.Record.{label_read}
use Rattle.nclx.proofs.RecordLaws.{sound}
use Rattle.nclx.proofs.read.Goals as goal

pub label_in-requires : goal.label_in-requires
label_in-requires c = sound _ (sym c.check_record.ensures ∙ c.in_ok-check_record.was)

pub returns-in_err-check_record : goal.returns-in_err-check_record
unfolding label_read
returns-in_err-check_record c =
    rw (passed_on _ c.from_residual.ensures.1, ← c.check_record.ensures, c.in_err-check_record.was)

pub returns : goal.returns
unfolding label_read
returns c = rw (← c.check_record.ensures, c.in_ok-check_record.was, c.label_in.ensures)
