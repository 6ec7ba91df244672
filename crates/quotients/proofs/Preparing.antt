-- A factor that is exact for a run gives the samples of its line.
use mathlib.Core.Path.{◌≡◌, sym, ap, ◌∙◌}
use Prim.Native.Nat.{ℕ, ◌+◌, ◌*◌, ◌-◌, ◌≤◌, min}
use native.Mathlib.Nat.{le_trans, mul-le-mul_left}
use native.Mathlib.Omega.{arith}
use lib.IntN.{pos, ◌+ℤ◌, ◌-ℤ◌}
use Rattle.rounding.specs.Rounding.{round, clip}
use Rattle.sample.specs.Depth.{UpTo}
use Rattle.sample.specs.declared.Pixel.{Pixel}
use Rattle.levels.specs.Lines.{added, taken, line_sample}
use Rattle.levels.specs.declared.lines.Line.{Line}
use Rattle.levels.proofs.Numerators.{sample_in_parts}
use Rattle.runs.specs.Light.{Follows}
use Rattle.runs.specs.declared.Run.{Run}
use Rattle.quotients.specs.Exact.{LumaExact, Shares}
use Rattle.quotients.specs.Quotients.{nearest_sample, lowered_sample}
use Rattle.quotients.specs.declared.factors.Share.{Share}
use Rattle.quotients.proofs.Dividing.{nearest_is, there, lowered_is}
use Rattle.quotients.proofs.Exactness.{exact_is}
use Rattle.quotients.proofs.Reaching.{parts_more}

-- the sample of a line that runs with n, where it is made of n taken `scale` times
module _ {l : Line} {run : Run} {most : ℕ} {n : Pixel → ℕ} (follows : Follows l most n run) (scale bias top : ℕ) (top_is : l.top ≡ top) (p : Pixel) (w : UpTo most p) where
  in_line : clip top (round (pos (added l p) -ℤ pos (taken l p)) run.over +ℤ pos l.mid) ≡ line_sample l p
  in_line =
      let tops = sym top_is in
      (λ i. clip (tops i) (round (pos (added l p) -ℤ pos (taken l p)) (follows.over_is i) +ℤ pos l.mid)) ∙ sample_in_parts l p

  pub luma_sample : (factor : ℕ) → LumaExact run scale bias factor → l.mid ≡ 0 → n p ≤ bias → nearest_sample factor top (scale * n p) ≡ line_sample l p
  luma_sample factor x none most_in =
      ap (λ v. min v top) (nearest_is factor (scale * n p))
      ∙ exact_is x (n p) (omega arith) most_in (factor * (scale * n p) + 70368744177664) (omega arith) (added l p) (taken l p) top (follows.each p w)
      ∙ ap (λ m. clip top (round (pos (added l p) -ℤ pos (taken l p)) run.over +ℤ pos m)) (sym none)
      ∙ in_line

  pub share_sample : {low : ℕ} (s : Share) → Shares run l.mid scale bias low s → low ≤ n p → n p + low ≤ 2 * bias
      → lowered_sample s top (scale * n p) ≡ line_sample l p
  share_sample {low} s x least most_in =
      let enough = there s.factor (scale * n p) s.take (le_trans x.there (parts_more s.factor (mul-le-mul_left scale least))) in
      let v = s.factor * (scale * n p) - s.take * 4294967296 in
      ap (λ v. min v top) (lowered_is s.factor (scale * n p) s.take v (omega arith))
      ∙ exact_is x.exact (n p) least (omega arith) v (omega arith) (added l p) (taken l p) top (follows.each p w)
      ∙ in_line
