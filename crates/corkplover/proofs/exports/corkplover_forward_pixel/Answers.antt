-- The exported forward pixel is the pixel's answer, packed.
use Rattle.setting.specs.declared.Way.TheVariants.{Forward}
use Rattle.corkplover.proofs.ExportLaws.{pixel_exported}
use Rattle.corkplover.proofs.exports.corkplover_forward_pixel.Goals as goal

pub returns : goal.returns
returns c =
    pixel_exported Forward c.setting_in.ensures c.pixel_from.ensures c.forward_pixel.ensures c.pack_pixel.ensures
