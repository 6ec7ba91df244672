-- Laws of depths: the test and the fact, and the powers that follow from a depth.
use mathlib.Core.Path.{◌≡◌, ap, ◌∙◌}
use mathlib.Core.Bool.{Bool, true, false}
use Prim.Native.Nat.{ℕ, ◌+◌, ◌*◌, ◌-◌, ◌^◌, ◌≤◌, ◌<◌}
use native.Mathlib.Omega.{arith}
use borrow.Author.Tests.{le-leb, leb-true}
use lib.Pow.{pow_pos, pow-add, pow_mono}
use Rattle.sample.specs.Depth.{least_depth, is_depth, Depth, are_depths, ThreeDepths, at_most, H, S}
use Rattle.sample.specs.declared.Depths.{Depths}
use Rattle.sample.proofs.Choices.{both_true, le_and, cannot}

pub depth_yes : {n : ℕ} → Depth n → is_depth n ≡ true
unfolding is_depth
depth_yes d = rw (le-leb _ _ d.least, le-leb _ _ d.most)

pub depth_of : (n : ℕ) → is_depth n ≡ true → Depth n
unfolding is_depth
depth_of n e = let t = le_and _ _ _ e in record { least = t.0; most = leb-true _ _ t.1 }

pub depth_no : {n : ℕ} → (Depth n → ⊥) → is_depth n ≡ false
depth_no {n} f = cannot (is_depth n) (λ e. f (depth_of n e))

pub depths_of_lem : (d : Depths) → are_depths d.rgb.0 d.luma.0 d.chroma.0 ≡ true → ThreeDepths d
unfolding are_depths
depths_of_lem d e =
    let t = both_true (is_depth d.rgb.0) _ e in
    let u = both_true (is_depth d.luma.0) _ t.1 in
    record { rgb = depth_of _ t.0; luma = depth_of _ u.0; chroma = depth_of _ u.1 }

-- no depth above n
pub record AtMost (n : ℕ) (d : Depths) : Type 0 where
  pub rgb : d.rgb.0 ≤ n
  pub luma : d.luma.0 ≤ n
  pub chroma : d.chroma.0 ≤ n

pub at_most_of : (n : ℕ) (d : Depths) → at_most n d ≡ true → AtMost n d
unfolding at_most
at_most_of n d e =
    let t = le_and _ _ _ e in
    let u = le_and _ _ _ t.1 in
    record { rgb = t.0; luma = u.0; chroma = leb-true _ _ u.1 }

pub at_most_yes : (n : ℕ) (d : Depths) → AtMost n d → at_most n d ≡ true
unfolding at_most
at_most_yes n d k = rw (le-leb _ _ k.rgb, le-leb _ _ k.luma, le-leb _ _ k.chroma)

pub at_most_no : (n : ℕ) (d : Depths) → (AtMost n d → ⊥) → at_most n d ≡ false
at_most_no n d f = cannot (at_most n d) (λ e. f (at_most_of n d e))

-- 2^d is 2·H, for d that is not 0
pub doubles : (d : ℕ) → 1 ≤ d → 2 ^ d ≡ 2 * H d
doubles d h = ap (λ n. 2 ^ n) (let e : d ≡ 1 + (d - 1) = omega arith in e) ∙ pow-add 2 1 (d - 1)

-- 2^d is 2·H and 256·S, and at most 2^top
pub record Powers (d top : ℕ) : Type 0 where
  pub halves : 2 ^ d ≡ 2 * H d
  pub bytes : 2 ^ d ≡ 2 ^ least_depth * S d
  pub some : 0 < S d
  pub most : 2 ^ d ≤ 2 ^ top

pub powers : (d top : ℕ) → least_depth ≤ d → d ≤ top → Powers d top
powers d top h u =
    record {
      halves = doubles d (omega arith);
      bytes = ap (λ n. 2 ^ n) (let e : d ≡ least_depth + (d - least_depth) = omega arith in e) ∙ pow-add 2 least_depth (d - least_depth);
      some = pow_pos (d - least_depth);
      most = pow_mono {j = top} u;
    }
