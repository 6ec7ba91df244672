-- The exported pixel meter is the answer, packed, with its levels written through.
use Rattle.corkplover.proofs.ExportLaws.{levels_exported}
use Rattle.corkplover.proofs.exports.corkplover_meter_pixel.Goals as goal

pub returns : goal.returns
returns c =
    levels_exported c.setting_in.ensures c.pixel_from.ensures
    c.meter_pixel-answer.ensures c.levels_in-levels.ensures c.pack_done.ensures
