-- `meter::levels_of` meets its contract, plane by plane.
use Rattle.meter.specs.Level.{levels_of}
use Rattle.meter.proofs.levels_of.Goals as goal

pub returns : goal.returns
unfolding levels_of
returns c = rw (c.level_of-y.ensures, c.level_of-cb.ensures, c.level_of-cr.ensures)
