-- `planes::size::check_sizes` meets its contract: past rule 8 the sizes are within their limits, which is what rule 9 asks of them.
use mathlib.Core.Path.{sym, ◌∙◌}
use mathlib.Core.List.{[], ◌∷◌}
use Rattle.planes.specs.Sizes.{SizesWithin}
use Rattle.planes.proofs.SizeLaws.{sizes_exactly}
use Rattle.planes.proofs.size.check_sizes.Goals as goal
use Rattle.planes.proofs.size.check_sizes.Goals.{Else-size_outside}

within : (c : Else-size_outside) → SizesWithin c.args.width c.args.height (c.args.a ∷ c.args.b ∷ [])
within c = (sizes_exactly _ _ _).0 (sym c.size_outside.ensures ∙ c.if-size_outside.false)

pub layout_short-requires : goal.layout_short-requires
layout_short-requires c = let t = within ((goal.at.layout_short-requires c).Else-size_outside) in record { width_within = t.width_within; height_within = t.height_within; stride_within = t.strides_within.0 }

pub layout_short-requires-else-layout_short : goal.layout_short-requires-else-layout_short
layout_short-requires-else-layout_short c = let t = within ((goal.at.layout_short-requires-else-layout_short c).Else-size_outside) in record { width_within = t.width_within; height_within = t.height_within; stride_within = t.strides_within.1.0 }
