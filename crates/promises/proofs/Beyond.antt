-- What a 10 names, in full: the first bad sample by its place, the number that stands there, and that it has more bits than its depth.
use Rattle.std.specs.Prelude.{Some}
use mathlib.Core.Path.{◌≡◌, sym, subst}
use mathlib.Core.List.{[], ◌∷◌}
use Prim.Native.Nat.{ℕ, zero, suc, ◌^◌, ◌≤◌, ◌<◌}
use native.Mathlib.Omega.{arith}
use Rattle.sample.specs.Depth.{M, plane_depth, tops}
use Rattle.sample.specs.declared.Depths.{Depths}
use Rattle.sample.specs.declared.Side.{Side}
use Rattle.sample.specs.declared.Side.TheVariants.{Ycc}
use Rattle.refusal.specs.declared.Place.{Place}
use Rattle.planes.specs.Picture.{Picture, sample_of}
use Rattle.scan.specs.First.{first_bad, bad_sample, sample_on}
use Rattle.scan.proofs.Searches.{found_with}
use Rattle.scan.proofs.SearchTheorems.{at_in_planes_means, at_means}
use Rattle.setting.specs.Rules.{depths}
use Rattle.setting.specs.declared.Setting.{Setting}
use Rattle.meter.specs.Level.{plane_number}
use Rattle.meter.specs.declared.SampleKind.{SampleKind}
use Rattle.admit.specs.Rules.{beyond_depth, top_of, bad_one}
use Rattle.promises.specs.Refusing.{BadIn, BadSampleOf}

-- what is above the largest sample of a depth has more bits
more_bits : (d v : ℕ) → M d < v → 2 ^ d ≤ v
more_bits d v h = omega arith

plane_bits : (side : Side) (d : Depths) (k v : ℕ) → k < 3 → sample_of k (tops side d) < v → 2 ^ plane_depth side d k ≤ v
plane_bits side d zero v l h = more_bits (plane_depth side d 0) v h
plane_bits side d (suc zero) v l h = more_bits (plane_depth side d 1) v h
plane_bits side d (suc (suc zero)) v l h = more_bits (plane_depth side d 2) v h
plane_bits side d (suc (suc (suc k))) v l h = absurd (omega arith)

pub picture_beyond : (side : Side) (s : Setting) (a : Picture) (place : Place) (v : ℕ) → beyond_depth side (depths s) a ≡ Some (place, v) → BadIn side s a place v
picture_beyond side s a place v e =
    let f = found_with (sample_on a) (bad_sample a (tops side (depths s))) place v e in
    let b = (at_in_planes_means a (tops side (depths s)) place).0 f.0 in
    record {
      first_bad = b;
      as_found = f.1;
      beyond = subst (λ n. 2 ^ plane_depth side (depths s) place.plane ≤ n) (sym f.1) (plane_bits side (depths s) place.plane _ b.plane_inside b.first_there.fails);
    }

-- one sample by its kind, which stands alone
pub sample_beyond : (k : SampleKind) (s : Setting) (v : ℕ) (place : Place) (w : ℕ) → bad_one k (depths s) v ≡ Some (place, w) → BadSampleOf k s v place w
sample_beyond k s v place w e =
    let f = found_with (λ place. v) (first_bad (v ∷ []) (plane_number k) 1 1 1 (top_of k (depths s))) place w e in
    let b = (at_means (v ∷ []) (plane_number k) 1 1 1 (top_of k (depths s)) place).0 f.0 in
    let row : place.row ≡ 0 = omega (arith, b.row_inside) in
    let column : place.column ≡ 0 = omega (arith, b.column_inside) in
    let bits : 2 ^ plane_depth Ycc (depths s) (plane_number k) ≤ v = more_bits _ v (rw (row, column) at b.fails) in
    record { first_bad = b; as_found = f.1; beyond = rw (b.plane_is, f.1) bits }
