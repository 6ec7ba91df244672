-- `light::pixel_of` meets its contract: each plane's number is within reach, so that it has room.
use Rattle.light.proofs.Lights.{fits_before}
use Rattle.light.proofs.pixel_of.Goals as goal

pub sample-p1-requires : goal.sample-p1-requires
sample-p1-requires c = fits_before c.args.by.blue_fits _ c.away.ensures.upper_bound

pub sample-p2-requires : goal.sample-p2-requires
sample-p2-requires c = fits_before c.args.by.red_fits _ c.away-2.ensures.upper_bound
