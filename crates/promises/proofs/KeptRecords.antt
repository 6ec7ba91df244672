-- The calls on colour records keep their promises, and so do their exports, by what comes out of their numbers.
use mathlib.Core.Path.{sym, ap, subst, ◌∙◌}
use Rattle.nclx.specs.Choice.{choice}
use Rattle.corkplover.specs.RecordPacking.{label_from, read_in, check_in, choice_in}
use Rattle.corkplover.proofs.RecordCalls.{read_label_answers, write_label_answers, pick_label_answers, picked_label_answers, corkplover_read_label_answers, corkplover_write_label_answers, corkplover_pick_label_answers}
use Rattle.corkplover.proofs.records.read_label.Reads as read-label
use Rattle.corkplover.proofs.records.write_label.Reads as write-label
use Rattle.corkplover.proofs.records.pick_label.Reads as pick-label
use Rattle.corkplover.proofs.records.picked_label.Reads as picked-label
use Rattle.corkplover.proofs.record_exports.corkplover_read_label.Reads as corkplover-read-label
use Rattle.corkplover.proofs.record_exports.corkplover_write_label.Reads as corkplover-write-label
use Rattle.corkplover.proofs.record_exports.corkplover_pick_label.Reads as corkplover-pick-label
use Rattle.promises.specs.Records.{ReadsRecord, WritesRecord, WritesInto, PicksRecord, LendsPart}
use Rattle.promises.proofs.Records.{record_reads, record_writes, into_writes, record_picks, record_lends}
use Rattle.promises.proofs.UnpackedRecords.{read_unpacked, write_unpacked, choice_unpacked}

pub read_label_keeps : (κs bytes r t : _) → read-label.Post κs (bytes, tt) r t → ReadsRecord bytes.now r
read_label_keeps κs bytes r t h = rw (read_label_answers κs bytes r t h) (record_reads bytes.now)

pub write_label_keeps : (κs label r t : _) → write-label.Post κs (label, tt) r t → WritesRecord label r
write_label_keeps κs label r t h = rw (write_label_answers κs label r t h) (record_writes label)

pub pick_label_keeps : (κs container stream r t : _) → pick-label.Post κs (container, (stream, tt)) r t → PicksRecord container.now stream.now r
pick_label_keeps κs container stream r t h = rw (pick_label_answers κs container stream r t h) (record_picks container.now stream.now)

pub picked_label_keeps : (κs container stream number r t : _) → picked-label.Post κs (container, (stream, (number, tt))) r t
    → LendsPart container.now stream.now (choice container.now stream.now) r.now t.1.1.0.now
picked_label_keeps κs container stream number r t h =
    let e = picked_label_answers κs container stream number r t h in rw (e.0, e.1) (record_lends container.now stream.now)

pub corkplover_read_label_keeps : (κs bytes x t : _) → corkplover-read-label.Post κs (bytes, tt) x t → ReadsRecord bytes.now (read_in x)
corkplover_read_label_keeps κs bytes x t h =
    subst (ReadsRecord bytes.now) (sym (ap read_in (corkplover_read_label_answers κs bytes x t h) ∙ read_unpacked bytes.now)) (record_reads bytes.now)

pub corkplover_write_label_keeps : (κs primaries transfer matrix full out x t : _)
    → corkplover-write-label.Post κs (primaries, (transfer, (matrix, (full, (out, tt))))) x t
    → WritesInto (label_from primaries transfer matrix full) out.now (check_in x) t.1.1.1.1.0.now
corkplover_write_label_keeps κs primaries transfer matrix full out x t h =
    let e = corkplover_write_label_answers κs primaries transfer matrix full out x t h in
    rw (ap check_in e.0 ∙ write_unpacked out.now, e.1) (into_writes (label_from primaries transfer matrix full) out.now)

pub corkplover_pick_label_keeps : (κs container stream x t : _) → corkplover-pick-label.Post κs (container, (stream, tt)) x t
    → PicksRecord container.now stream.now (choice_in x)
corkplover_pick_label_keeps κs container stream x t h =
    subst (PicksRecord container.now stream.now) (sym (ap choice_in (corkplover_pick_label_answers κs container stream x t h) ∙ choice_unpacked container.now stream.now))
    (record_picks container.now stream.now)
