-- `scan::bad_of_three` meets its contract: what was found is a place of the picture, and its sample is read there.
use mathlib.Core.Path.{sym, ◌∙◌}
use Rattle.planes.specs.Shown.{shown}
use Rattle.scan.proofs.SearchTheorems.{at_in_planes_means, bad_inside}
use Rattle.scan.proofs.bad_of_three.Goals as goal

pub sample_on-sample-requires-clause-place_of : goal.sample_on-sample-requires-clause-place_of
sample_on-sample-requires-clause-place_of c =
    let x = c.args in
    let a = shown x.a in
    bad_inside a x.tops _ ((at_in_planes_means a x.tops _).0 (sym c.first_bad_of_three.ensures ∙ c.in_ok-place.was))
