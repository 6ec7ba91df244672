-- Lights of samples within depth stay within reach, so numbers that have room at the end of it have room everywhere.
use mathlib.Core.Path.{◌≡◌, sym, ap, ◌∙◌}
use Prim.Native.Nat.{ℕ, ◌+◌, ◌*◌, ◌^◌, ◌≤◌}
use native.Mathlib.Nat.{mul-le-mul_left}
use native.Mathlib.Omega.{arith}
use lib.IntN.{pos, ◌+ℤ◌, ◌-ℤ◌}
use lib.Pow.{pow_pos}
use Rattle.rounding.specs.Rounding.{round, clip}
use Rattle.rounding.proofs.Lifted.{div_mono}
use Rattle.sample.specs.declared.Pixel.{Pixel}
use Rattle.levels.specs.Lines.{added, taken, line_sample, lines_pixel}
use Rattle.levels.specs.declared.lines.Line.{Line}
use Rattle.levels.specs.declared.lines.Lines.{Lines}
use Rattle.levels.proofs.Numerators.{sample_in_parts}
use Rattle.light.specs.Scaled.{scaled_sample, Fits}
use Rattle.sample.specs.Depth.{UpTo}
use Rattle.runs.specs.Light.{light_by}
use Rattle.runs.proofs.Mixing.{lit, in_reach}
use Rattle.light.specs.Light.{light_pixel, Plane, Stands}
use Rattle.light.specs.declared.scaled.Light.{Light}
use Rattle.light.specs.declared.scaled.Scaled.{Scaled}
use Rattle.light.proofs.Scaling.{scaled_is}

pub fits_before : {s : Scaled} {reach : ℕ} → Fits s reach → (n : ℕ) → n ≤ reach → Fits s n
fits_before {s} {reach} f n l =
    let less = mul-le-mul_left s.factor l in
    let first = div_mono {m = s.factor * n + s.base} {n = s.factor * reach + s.base} 4294967296 (omega arith) (omega arith) in
    let second = div_mono (2 ^ s.shift) (pow_pos s.shift) first in
    let room = f.sum_in in
    let whole = f.whole_in in
    record { sum_in = omega arith; whole_in = omega arith; top_in = f.top_in; shift_in = f.shift_in }

-- the sample of a plane is its line's
plane_is : {l : Line} {most reach : ℕ} {n : Pixel → ℕ} {s : Scaled} → Plane l most n reach s → (p : Pixel) → UpTo most p → n p ≤ reach
    → scaled_sample s (n p) ≡ line_sample l p
plane_is {l} h p w k =
    scaled_is h.scales _ k (added l p) (taken l p) (h.follows.each p w)
    ∙ ap (λ d. clip l.top (round (pos (added l p) -ℤ pos (taken l p)) d +ℤ pos l.mid)) h.follows.over_is
    ∙ sample_in_parts l p

-- so numbers that stand for three lines give their pixels
pub light_is : {l : Lines} {k : Light} → Stands l k → (p : Pixel) → UpTo k.mix.most p → light_pixel k p ≡ lines_pixel l p
light_is {l} {k} h p w =
    let m = k.mix in
    let t = lit h.fits.weighs p w in
    let bias = h.fits.weighs.bias_is ∙ ap (λ n. n * m.most) (sym h.fits.weighs.sum) in
    let light = light_by m.kr m.kg m.kb p in
    let first = plane_is h.luma p w (omega arith) in
    let second = plane_is h.blue p w (in_reach m.kr m.kg m.kb p.p2 m.most m.bias light bias w.p2_in) in
    let third = plane_is h.red p w (in_reach m.kr m.kg m.kb p.p0 m.most m.bias light bias w.p0_in) in
    λ i. record { p0 = first i; p1 = second i; p2 = third i }
