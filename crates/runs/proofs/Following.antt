-- Lines whose weights were found run with the light, and with how far a colour is from it: multiplied out, both sides have the same products.
use mathlib.Core.Path.{◌≡◌, ap, sym, ◌∙◌}
use Prim.Native.Nat.{ℕ, ◌+◌, ◌*◌, ◌≤◌}
use native.Mathlib.Nat.{mul-le-mul_left}
use native.Mathlib.Omega.{arith}
use Rattle.levels.specs.declared.lines.Line.{Line}
use Rattle.runs.specs.Found.{blue_in, red_in, Weighed, LumaRun, ColourRun}
use Rattle.runs.specs.Light.{light_by, blue_by, red_by, Follows}
use Rattle.runs.specs.declared.weights.Weights.{Weights}
use Rattle.runs.specs.declared.Run.{Run}

-- a weight that is a multiple, times a sample, and one that is none
multiple : (w t k v : ℕ) → w ≡ t * k → w * v ≡ t * (k * v)
multiple w t k v e = let m = ap (λ n. n * v) e in omega arith

none : (w v : ℕ) → w ≡ 0 → w * v ≡ 0
none w v e = ap (λ n. n * v) e ∙ omega arith

-- what a line adds and takes away, put together
alike : (t light start level over sum up taken down : ℕ) → sum ≡ t * light → taken ≡ 0 → down ≡ t * start → up ≡ level * over
    → sum + up + t * start ≡ taken + down + (t * light + level * over)
alike t light start level over sum up taken down a b c d = omega arith

pub luma_follows : {l : Line} {k : Weights} {r : Run} (most : ℕ) → Weighed l.equation k → LumaRun l k.times r
    → Follows l most (light_by k.kr k.kg k.kb) r
luma_follows {l} {k} {r} most h is =
    let w = l.equation in
    let t = r.times in
    let same = is.times_is in
    let downs = h.downs_none in
    record {
      over_is = is.over_is;
      each = λ p inside.
          let x = p.p0 in
          let y = p.p1 in
          let z = p.p2 in
          let u0 : w.up0 ≡ t * k.kr = rw same h.up0_is in
          let u1 : w.up1 ≡ t * k.kg = rw same h.up1_is in
          let u2 : w.up2 ≡ t * k.kb = rw same h.up2_is in
          let a = multiple w.up0 t k.kr x u0 in
          let b = multiple w.up1 t k.kg y u1 in
          let c = multiple w.up2 t k.kb z u2 in
          let d = none w.down0 x (omega arith) in
          let e = none w.down1 y (omega arith) in
          let f = none w.down2 z (omega arith) in
          alike t (light_by k.kr k.kg k.kb p) r.start r.level r.over _ l.up _ l.down
          (omega arith) (omega arith) is.start_is (is.level_is ∙ ap (λ n. r.level * n) (sym is.over_is));
    }

-- a colour v, two others x and y, and what a light of all three leaves of it
colours : (t a b c v x y bias away own first second up down level over : ℕ) → away + (a * x + b * y + c * v) ≡ (a + b + c) * v + bias
    → own ≡ t * (a + b) → first ≡ t * a → second ≡ t * b → up ≡ down + level * over
    → own * v + up + t * bias ≡ first * x + second * y + down + (t * away + level * over)
colours t a b c v x y bias away own first second up down level over e f g h i =
    let apart = ap (λ n. t * n) e in
    let m = ap (λ n. n * v) f in
    let n = ap (λ n. n * x) g in
    let o = ap (λ n. n * y) h in
    omega arith

-- no light is more than the largest
pub in_bias : (kr kg kb most x y z : ℕ) → x ≤ most → y ≤ most → z ≤ most → kr * x + kg * y + kb * z ≤ (kr + kg + kb) * most
in_bias kr kg kb most x y z h k l =
    let a = mul-le-mul_left kr h in
    let b = mul-le-mul_left kg k in
    let c = mul-le-mul_left kb l in
    omega arith

-- weights that are all 0, at a pixel
nothing : (a b c x y z : ℕ) → a + b + c ≡ 0 → a * x + b * y + c * z ≡ 0
nothing a b c x y z e =
    let p = none a x (omega arith) in
    let q = none b y (omega arith) in
    let r = none c z (omega arith) in
    omega arith

-- how far each colour is from the light
pub blue_follows : {l : Line} {r : Run} (kr kg kb most bias : ℕ) → bias ≡ (kr + kg + kb) * most → ColourRun (blue_in l.equation) kr kg bias l r
    → Follows l most (blue_by kr kg kb bias) r
blue_follows {l} {r} kr kg kb most bias bias_is is =
    record {
      over_is = is.over_is;
      each = λ p inside.
          let w = l.equation in
          let light = in_bias kr kg kb most p.p0 p.p1 p.p2 inside.p0_in inside.p1_in inside.p2_in in
          let level = is.level_is ∙ ap (λ n. l.down + r.level * n) (sym is.over_is) in
          let parts =
          colours r.times kr kg kb p.p2 p.p0 p.p1 bias (blue_by kr kg kb bias p) w.up2 w.down0 w.down1 l.up l.down r.level r.over
          (omega arith) is.own_is is.first_is is.second_is level in
          let rest = nothing w.up0 w.up1 w.down2 p.p0 p.p1 p.p2 is.others_none in
          rw is.start_is (omega arith);
    }

pub red_follows : {l : Line} {r : Run} (kr kg kb most bias : ℕ) → bias ≡ (kr + kg + kb) * most → ColourRun (red_in l.equation) kg kb bias l r
    → Follows l most (red_by kr kg kb bias) r
red_follows {l} {r} kr kg kb most bias bias_is is =
    record {
      over_is = is.over_is;
      each = λ p inside.
          let w = l.equation in
          let light = in_bias kr kg kb most p.p0 p.p1 p.p2 inside.p0_in inside.p1_in inside.p2_in in
          let level = is.level_is ∙ ap (λ n. l.down + r.level * n) (sym is.over_is) in
          let parts =
          colours r.times kg kb kr p.p0 p.p1 p.p2 bias (red_by kr kg kb bias p) w.up0 w.down1 w.down2 l.up l.down r.level r.over
          (omega arith) is.own_is is.first_is is.second_is level in
          let rest = nothing w.up1 w.up2 w.down0 p.p1 p.p2 p.p0 is.others_none in
          rw is.start_is (omega arith);
    }
