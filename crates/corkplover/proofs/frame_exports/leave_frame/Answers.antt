-- An exported frame is the frame's answer, packed, and the planes are the frame's own.
use Rattle.corkplover.proofs.FrameLaws.{exported}
use Rattle.corkplover.proofs.frame_exports.leave_frame.Goals as goal

pub returns : goal.returns
returns c =
    let a = c.args in
    exported a.way a.a0.now a.a1.now a.a2.now a.b0.now a.b1.now a.b2.now
    c.setting_in-s.ensures c.size_of-size.ensures
    c.pack_done.ensures (rw c.input.ensures at c.convert_frame.ensures)
