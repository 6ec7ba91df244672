-- The three operations on whole numbers that the formulas use: ">> 1", Round and Clip.
use Rattle.std.specs.Prelude.{ℕ, suc, ◌+◌, ◌*◌, ◌/◌, ◌^◌, ◌≤◌, ◌<◌, min, ℤ, pos, negsuc, neg_ℤ}
use Rattle.sample.specs.Depth.{most_depth, M, past_samples}

-- z >> 1: half of z, rounded down on both sides of zero. -(n + 1) becomes -(n / 2 + 1), so -1 becomes -1.
unfoldable pub half : ℤ → ℤ
half (pos n) = pos (n / 2)
half (negsuc n) = negsuc (n / 2)

-- Round(z / d): the nearest whole number, and of two that are equally near the one away from zero.
unfoldable pub round : ℤ → ℕ → ℤ
round (pos n) d = pos ((2 * n + d) / (2 * d))
round (negsuc n) d = neg_ℤ (pos ((2 * suc n + d) / (2 * d)))

-- z brought into 0..top
unfoldable pub clip : ℕ → ℤ → ℕ
clip top (pos n) = min n top
clip top (negsuc n) = 0

-- Clip, of a plane of the given depth: into 0..M
abbrev pub Clip : ℕ → ℤ → ℕ
Clip depth z = clip (M depth) z

-- a whole number as a sample: what it is where it is not negative
unfoldable pub sample : ℤ → ℕ
sample (pos n) = n
sample (negsuc n) = 0

-- numbers that the code of Round has room for in 64 bits
pub record Rounds (p q den mid top : ℕ) : Type 0 where
  pub p_fits : 2 * p + den < 2 ^ 64
  pub q_fits : 2 * q + den < 2 ^ 64
  pub den_some : 0 < den
  pub mid_in : mid ≤ top
  pub top_small : top ≤ M most_depth

-- and that it has room for in 32 bits, where p - q over den is no farther below zero than there are samples
pub record RoundsSmall (p q den mid top : ℕ) : Type 0 where
  pub p_fits : 2 * (p + past_samples * den) + den < 2 ^ 32
  pub q_fits : q ≤ past_samples * den
  pub den_some : 0 < den
  pub mid_in : mid ≤ top
  pub top_small : top ≤ M most_depth
