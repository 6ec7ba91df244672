-- `nclx::picking::picked_part` meets its contract: the winner is well formed, so it has seven bytes to lend.
use Rattle.std.specs.Prelude.{Ok}
use mathlib.Core.Path.{sym, ap, ◌∙◌}
use native.Mathlib.Omega.{arith}
use Rattle.nclx.proofs.ChoiceLaws.{container_sound, stream_sound}
use Rattle.nclx.proofs.picking.picked_part.Goals as goal

pub last_seven-requires : goal.last_seven-requires
last_seven-requires c =
    let won = container_sound _ _ (sym c.pick.ensures ∙ c.in-Ok-Container.is ∙ ap Ok c.in-Ok-Container.field-0-is) in omega (arith, won.whole)

pub last_seven-requires-in-Ok-Stream : goal.last_seven-requires-in-Ok-Stream
last_seven-requires-in-Ok-Stream c =
    let won = stream_sound _ _ (sym c.pick.ensures ∙ c.in-Ok-Stream.is ∙ ap Ok c.in-Ok-Stream.field-0-is) in omega (arith, won.whole)
