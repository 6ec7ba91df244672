-- `rounding::round_clip_by` meets its contract as `round_clip` does, by a quotient that stops past every sample.
use mathlib.Core.Path.{refl, ◌∙◌}
use Rattle.rounding.proofs.Rounding.{divided, stopped, rounded}
use Rattle.rounding.proofs.round_clip_by.Goals as goal

pub returns : goal.returns
returns c =
    c.moved.ensures
    ∙ rounded c.requires.rounds
    (stopped c.quotient-n.ensures (divided c.dividend.ensures c.requires.over_value)) _ refl
