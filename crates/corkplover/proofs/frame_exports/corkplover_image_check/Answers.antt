-- The exported image check is the answer, packed.
use Rattle.planes.specs.Picture.{picture}
use Rattle.corkplover.proofs.ExportLaws.{image_exported}
use Rattle.corkplover.proofs.frame_exports.corkplover_image_check.Goals as goal

pub returns : goal.returns
returns c =
    let a = c.args in
    image_exported (picture a.width a.height a.stride a.y.now a.cb.now a.cr.now) c.setting_in.ensures
    c.image_check.ensures c.pack_image.ensures
