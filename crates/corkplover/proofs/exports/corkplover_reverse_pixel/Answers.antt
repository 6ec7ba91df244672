-- The exported reverse pixel is the pixel's answer, packed.
use Rattle.setting.specs.declared.Way.TheVariants.{Reverse}
use Rattle.corkplover.proofs.ExportLaws.{pixel_exported}
use Rattle.corkplover.proofs.exports.corkplover_reverse_pixel.Goals as goal

pub returns : goal.returns
returns c =
    pixel_exported Reverse c.setting_in.ensures c.pixel_from.ensures c.reverse_pixel.ensures c.pack_pixel.ensures
