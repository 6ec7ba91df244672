-- `nclx::writing::write_into` meets its contract: a buffer of any other length than a record's is zeroed.
use mathlib.Core.Path.{◌∙◌}
use borrow.Author.Tests.{ne_eqb}
use Rattle.tables.proofs.Tables.{zeros_are}
use Rattle.nclx.specs.Record.{wrong_length, written_into}
use Rattle.nclx.proofs.writing.write_into.Goals as goal

pub returns-then-out-ne-RECORD_BYTES-clause-out_after : goal.returns-then-out-ne-RECORD_BYTES-clause-out_after
unfolding wrong_length written_into
returns-then-out-ne-RECORD_BYTES-clause-out_after c = rw (ne_eqb _ _ c.if-out-ne-RECORD_BYTES.true) (c.fill.ensures.after (λ y e. e) ∙ zeros_are _)
