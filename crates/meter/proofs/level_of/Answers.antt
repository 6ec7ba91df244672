-- `meter::level_of` meets its contract: the level on the scale of the kind.
use mathlib.Core.Path.{◌∙◌, ap}
use Rattle.meter.specs.Level.{float_quotient, level_of}
use Rattle.meter.proofs.Scales.{measurable}
use Rattle.meter.proofs.level_of.Goals as goal

pub level-requires : goal.level-requires
level-requires c =
    let a = c.args in
    let p = c.requires in
    rw c.scale_of-s.ensures (measurable a.kind a.full a.luma a.chroma p.depth p.depth_2)

pub returns : goal.returns
unfolding level_of
returns c = c.level.ensures ∙ ap (λ s. float_quotient c.args.v s) c.scale_of-s.ensures
