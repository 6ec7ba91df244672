-- What each step towards the numbers of a plane has found.
use Rattle.std.specs.Prelude.{◌≡◌, ◌⊎◌, ℕ, ◌+◌, ◌*◌, ◌^◌, ◌≤◌, ◌<◌}
use Rattle.light.specs.declared.numbers.Half.{Half}
use Rattle.light.specs.declared.numbers.Ratio.{Ratio}
use Rattle.runs.specs.declared.Run.{Run}

-- times / over is q / e
pub record Reduced (times over q e : ℕ) : Type 0 where
  pub g : ℕ
  pub g_some : 0 < g
  pub q_some : 0 < q
  pub times_is : times ≡ g * q
  pub over_is : over ≡ g * e

-- the two ways in which no half falls on the wrong side
abbrev pub Sides : Run → ℕ → ℕ → Type 0
Sides r mid spare = ((mid ≡ 0) × (r.start ≤ spare)) ⊎ ((r.level ≡ 0) × (spare ≡ 0))

-- a half unit is larger than n
pub record Past (n half shift : ℕ) : Type 0 where
  pub above : n < half
  pub half_is : half ≡ 2147483648 * 2 ^ shift
  pub half_in : half ≤ 2 ^ 62
  pub shift_in : shift < 32

-- a factor that is a little more than q / e, in parts of two halves
pub record Factor (q e half factor : ℕ) : Type 0 where
  pub over : 2 * (half * q) < factor * e
  pub under : factor * e ≤ 2 * (half * q) + e

pub record Lift (factor start half mid lift : ℕ) : Type 0 where
  pub above : factor * start < 2 * (half * lift)
  pub mid_in : mid ≤ lift

-- all that is found before the factor
pub record Steps (r : Run) (by : Ratio) (at : Half) (spare mid reach : ℕ) : Type 0 where
  pub reduced : Reduced r.times r.over by.q by.e
  pub e_some : 0 < by.e
  pub sides : Sides r mid spare
  pub past : Past (by.e * (reach + spare)) at.half at.shift
  pub start_in : r.start ≤ reach
  pub reach_in : reach < 2 ^ 30
  pub spare_in : spare < 2 ^ 32
  pub level_in : r.level < 2 ^ 63
