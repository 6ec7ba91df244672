-- No level that the meter answers is a NaN, so its bits may be taken.
use Rattle.std.specs.Prelude.{Result, Ok, Err}
use mathlib.Core.Path.{◌≡◌, refl, subst}
use mathlib.Core.Bool.{true≢false}
use Prim.Native.Nat.{ℕ, ◌≤◌}
use lib.Ieee.{Float}
use Rattle.sample.specs.Depth.{most_depth, M}
use Rattle.sample.specs.declared.Pixel.{Pixel}
use Rattle.setting.specs.declared.Call.TheVariants as call
use Rattle.setting.specs.declared.Setting.{Setting}
use Rattle.setting.specs.declared.admission.Served.{Served}
use Rattle.meter.specs.Level.{level_of, levels_of, IsNumber, AreNumbers}
use Rattle.meter.specs.declared.PixelLevels.{PixelLevels}
use Rattle.meter.specs.declared.SampleKind.{SampleKind}
use Rattle.meter.specs.declared.SampleKind.TheVariants as kind
use Rattle.meter.proofs.Scales.{level_is_number}
use Rattle.setting.specs.Ready.{Ready}
use Rattle.admit.specs.Rules.{pixel_admission, sample_admission}
use Rattle.admit.proofs.Accepted.{pixel_admitted, one_ready}
use Rattle.corkplover.specs.Answers.{read_by, reading, levels_read_by, levels_answer}
use Rattle.refusal.specs.declared.Refusal.{Refusal}

level_fine : (k : SampleKind) (y : Served) (v : ℕ) → v ≤ M most_depth → Ready y → IsNumber (level_of k y.ycc_full y.depths.luma y.depths.chroma v)
level_fine k y v h r = level_is_number k y.ycc_full y.depths.luma y.depths.chroma r.three.luma r.three.chroma v h

read_of : (k : SampleKind) (v : ℕ) (d : Result Served Refusal) (x : Float) → v ≤ M most_depth → ((y : Served) → d ≡ Ok y → Ready y) → read_by k v d ≡ Ok x → IsNumber x
read_of k v (Ok y) x h r e =
    let q : level_of k y.ycc_full y.depths.luma y.depths.chroma v ≡ x = cc in
    subst IsNumber q (level_fine k y v h (r y refl))
read_of k v (Err n) x h r e = absurd (true≢false cc)

pub reading_is_number : (k : SampleKind) (s : Setting) (v : ℕ) (x : Float) → v ≤ M most_depth → reading k s v ≡ Ok x → IsNumber x
unfolding reading
reading_is_number k s v x h e = read_of k v (sample_admission k s v) x h (one_ready k s v) e

levels_of_lem : (p : Pixel) (d : Result Served Refusal) (l : PixelLevels) → p.p0 ≤ M most_depth → p.p1 ≤ M most_depth → p.p2 ≤ M most_depth → ((y : Served) → d ≡ Ok y → Ready y)
    → levels_read_by p d ≡ Ok l → AreNumbers l
unfolding levels_of
levels_of_lem p (Ok y) l h0 h1 h2 r e =
    let q : levels_of y.ycc_full y.depths.luma y.depths.chroma p ≡ l = cc in
    subst AreNumbers q
    (level_fine kind.Y y p.p0 h0 (r y refl), (level_fine kind.Cb y p.p1 h1 (r y refl), level_fine kind.Cr y p.p2 h2 (r y refl)))
levels_of_lem p (Err n) l h0 h1 h2 r e = absurd (true≢false cc)

pub levels_are_numbers : (s : Setting) (p : Pixel) (l : PixelLevels) → p.p0 ≤ M most_depth → p.p1 ≤ M most_depth → p.p2 ≤ M most_depth → levels_answer s p ≡ Ok l
    → AreNumbers l
unfolding levels_answer
levels_are_numbers s p l h0 h1 h2 e = levels_of_lem p (pixel_admission call.Meter s p) l h0 h1 h2 (λ y q. (pixel_admitted call.Meter s p y q).is_ready) e
