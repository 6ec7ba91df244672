-- Its numbers are read as a plane's, over zeros.
use Rattle.std.proofs.Common.{length, ap, ◌∙◌}
use Rattle.tables.specs.Table.{tab}
use Rattle.case_words.specs.Lines.{low_byte, record_over}
use Rattle.case_words.proofs.records.record_at.Goals as goal

pub returns-clause-out_after : goal.returns-clause-out_after
unfolding record_over
returns-clause-out_after c =
    c.bytes_of.ensures ∙ ap (λ z. tab (length c.args.out.now) (low_byte z)) c.plane-read.ensures.out_after
