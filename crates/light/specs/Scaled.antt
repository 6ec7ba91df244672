-- A sample that runs evenly with a whole number n: in exact fractions, and by a factor in parts of a power of two.
use Rattle.std.specs.Prelude.{◌≡◌, ℕ, ◌+◌, ◌*◌, ◌-◌, ◌/◌, ◌^◌, ◌≤◌, ◌<◌, min}
use Rattle.light.specs.Numbers.{Sides}
use Rattle.light.specs.declared.scaled.Scaled.{Scaled}
use Rattle.runs.specs.declared.Run.{Run}

-- what the numbers of a plane make of n: the parts are of 2^32, and those of 2^shift
abbrev pub whole_of : Scaled → ℕ → ℕ
whole_of s n = (s.factor * n + s.base) / 4294967296 / 2 ^ s.shift

abbrev pub scaled_sample : Scaled → ℕ → ℕ
scaled_sample s n = min (whole_of s n - s.under) s.top

-- they have room at n
pub record Fits (s : Scaled) (n : ℕ) : Type 0 where
  pub sum_in : s.factor * n + s.base < 2 ^ 64
  pub whole_in : whole_of s n < 2 ^ 15
  pub top_in : s.top < 2 ^ 15
  pub shift_in : s.shift < 32

-- n runs from 0 to `reach`, and `times` (n - start) / `over` + `level` is what is rounded. The numbers stand for that, lifted above zero and moved
-- by a half: a factor a little too large, with nothing lost at `start`, so that a half is pushed away from there. With no `mid` that is only
-- right above: then `spare` is added, which pushes each half up, and what is below zero is 0 all the same.
pub record Scales (r : Run) (mid top reach : ℕ) (s : Scaled) : Type 0 where
  pub g : ℕ
  pub q : ℕ
  pub e : ℕ
  pub lift : ℕ
  pub spare : ℕ
  pub half : ℕ
  pub g_some : 0 < g
  pub q_some : 0 < q
  pub e_some : 0 < e
  pub times_is : r.times ≡ g * q
  pub over_is : r.over ≡ g * e
  pub unit_is : 4294967296 * 2 ^ s.shift ≡ 2 * half
  pub factor_over : 2 * (half * q) < s.factor * e
  pub factor_under : s.factor * e ≤ 2 * (half * q) + e
  pub base_is : s.base + s.factor * r.start ≡ 2 * (half * (r.level + lift)) + half + spare
  pub above : q * r.start < e * lift
  pub fine : e * (reach + spare) < half
  pub start_in : r.start ≤ reach
  pub sides : Sides r mid spare
  pub under_is : s.under + mid ≡ lift
  pub top_is : s.top ≡ top
