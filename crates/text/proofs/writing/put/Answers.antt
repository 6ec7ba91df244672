-- What finds room is written, and the rest of the buffer stays.
use Rattle.std.proofs.Common.{arith}
use Rattle.text.proofs.WritingLaws.{full, part}
use Rattle.text.proofs.writing.put.Goals as goal

pub returns-then-out-at : goal.returns-then-out-at
returns-then-out-at c = full _ _ _ (omega arith)

pub returns : goal.returns
returns c = rw c.copy_from_slice.ensures.after (part _ _ _ _ _ (omega arith) c.min-n.ensures (omega arith))
