-- An exported reading is the reading, packed, with its level written through.
use Rattle.corkplover.proofs.ExportLaws.{reading_exported}
use Rattle.corkplover.proofs.exports.leave_reading.Goals as goal

pub returns : goal.returns
returns c =
    let a = c.args in
    reading_exported a.kind a.v c.setting_in.ensures c.meter_sample-answer.ensures c.level_in.ensures c.pack_done.ensures
