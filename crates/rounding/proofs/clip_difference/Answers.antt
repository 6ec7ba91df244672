-- `rounding::clip_difference` meets its contract: Clip of a difference is what is left of it, and `top` at the most.
use Rattle.rounding.proofs.Difference.{parts_sub}
use Rattle.rounding.proofs.FromParts.{clip_of}
use Rattle.rounding.proofs.clip_difference.Goals as goal

pub returns : goal.returns
returns c =
    let a = c.args in
    let is = clip_of a.top (parts_sub a.p a.q) in
    cc
