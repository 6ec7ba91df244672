-- The same of the calls on colour records, which take no setting, and of their exports.
use mathlib.Core.Path.{◌≡◌}
use Rattle.nclx.specs.Record.{label_read, record_of}
use Rattle.nclx.specs.Choice.{choice, chosen_part, chosen_number}
use Rattle.corkplover.specs.RecordPacking.{label_from, packed_read, packed_choice, WrittenAfter}
use Rattle.corkplover.proofs.records.read_label.Reads as read-label
use Rattle.corkplover.proofs.records.write_label.Reads as write-label
use Rattle.corkplover.proofs.records.pick_label.Reads as pick-label
use Rattle.corkplover.proofs.records.picked_label.Reads as picked-label
use Rattle.corkplover.proofs.record_exports.corkplover_read_label.Reads as corkplover-read-label
use Rattle.corkplover.proofs.record_exports.corkplover_write_label.Reads as corkplover-write-label
use Rattle.corkplover.proofs.record_exports.corkplover_pick_label.Reads as corkplover-pick-label

pub read_label_answers : (κs bytes r t : _) → read-label.Post κs (bytes, tt) r t → r ≡ label_read bytes.now
read_label_answers κs bytes r t h = h

pub write_label_answers : (κs label r t : _) → write-label.Post κs (label, tt) r t → r ≡ record_of label
write_label_answers κs label r t h = h

pub pick_label_answers : (κs container stream r t : _) → pick-label.Post κs (container, (stream, tt)) r t → r ≡ choice container.now stream.now
pick_label_answers κs container stream r t h = h

-- the part that is lent, and the number beside it
pub picked_label_answers : (κs container stream number r t : _) → picked-label.Post κs (container, (stream, (number, tt))) r t
    → let c = choice container.now stream.now in
    (r.now ≡ chosen_part c container.now stream.now) × (t.1.1.0.now ≡ chosen_number c)
picked_label_answers κs container stream number r t h = h

pub corkplover_read_label_answers : (κs bytes x t : _) → corkplover-read-label.Post κs (bytes, tt) x t → x ≡ packed_read (label_read bytes.now)
corkplover_read_label_answers κs bytes x t h = h

pub corkplover_write_label_answers : (κs primaries transfer matrix full out x t : _)
    → corkplover-write-label.Post κs (primaries, (transfer, (matrix, (full, (out, tt))))) x t
    → WrittenAfter (label_from primaries transfer matrix full) out.now x t.1.1.1.1.0.now
corkplover_write_label_answers κs primaries transfer matrix full out x t h = h

pub corkplover_pick_label_answers : (κs container stream x t : _) → corkplover-pick-label.Post κs (container, (stream, tt)) x t
    → x ≡ packed_choice (choice container.now stream.now)
corkplover_pick_label_answers κs container stream x t h = h
