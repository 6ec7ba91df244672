-- `rounding::round_clip` meets its contract: what it divides is lifted.
use mathlib.Core.Path.{◌∙◌}
use Prim.Native.Nat.{◌+◌, ◌*◌, ◌-◌}
use native.Mathlib.Omega.{arith}
use Rattle.sample.specs.Depth.{past_samples}
use Rattle.rounding.proofs.Difference.{parts}
use Rattle.rounding.proofs.FromParts.{clip_of}
use Rattle.rounding.proofs.Lifted.{Lifted, by_side}
use Rattle.rounding.proofs.round_clip.Goals as goal
use Rattle.rounding.proofs.round_clip.Goals.{Start}

lifted : (s : Start) → let x = s.args in Lifted x.p x.q x.den 1 (2 * x.den) (2 * (x.p + past_samples * x.den) + x.den - 2 * x.q) past_samples
lifted s =
    let fits = s.requires in
    record {
      g_some = omega arith;
      e_some = omega arith;
      m_some = omega arith;
      denominator = omega arith;
      numerator = omega arith;
    }

pub returns : goal.returns
returns c =
    let x = c.args in
    let fits = c.requires in
    c.clip_difference.ensures ∙ clip_of x.top (search parts)
    ∙ by_side (lifted ((goal.at.returns c).Start)) x.mid (past_samples - x.mid) x.top (omega arith) c.from.ensures
