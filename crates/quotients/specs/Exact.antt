-- When a factor is exact. A run of whole steps, (n - start) / e with an even e, is what is rounded; the factor makes a little more than a unit of e
-- steps, and at the start it falls short of a half by `miss`.
use Rattle.std.specs.Prelude.{◌≡◌, ℕ, ◌+◌, ◌*◌, ◌-◌, ◌≤◌, ◌<◌}
use Rattle.levels.specs.Conversion.{most_sample}
use Rattle.runs.specs.declared.Run.{Run}
use Rattle.quotients.specs.Parts.{parts}
use Rattle.quotients.specs.declared.factors.Share.{Share}

pub record Even (r : Run) (e h : ℕ) : Type 0 where
  pub times_some : 0 < r.times
  pub over_is : r.over ≡ r.times * e
  pub level_none : r.level ≡ 0
  pub even : e ≡ 2 * h
  pub h_some : 0 < h

-- For n from `low` to `high`: `up` is added to the factor times the scale times n, and `down` is taken away; `unit` and its half. A half is pushed away
-- from zero, since what the factor has too much, `rest` for e steps, makes up for `miss` half an e from the start; and nothing else comes as far as
-- the next whole number.
pub record Exact (r : Run) (mid scale factor half up down low high : ℕ) : Type 0 where
  pub e : ℕ
  pub h : ℕ
  pub rest : ℕ
  pub miss : ℕ
  pub evenly : Even r e h
  pub factor_is : factor * scale * e ≡ 2 * half + rest
  pub rest_some : 0 < rest
  pub start_is : factor * scale * r.start + up + miss ≡ down + 2 * half * mid + half
  pub tie : 2 * miss ≤ rest
  pub past_fine : rest * high < 2 * half + rest * r.start
  pub short_fine : rest * r.start + e * miss ≤ 2 * half + rest * low
  pub above : r.start < low + e * mid + h

-- Y, whose run starts at 0: 2^47 parts are one, and a half is added
abbrev pub LumaExact : Run → ℕ → ℕ → ℕ → Type 0
LumaExact r scale bias factor = Exact r 0 scale factor 70368744177664 70368744177664 0 0 bias

-- Cb and Cr, whose run starts where the colour is the light itself and reaches as far above that as below: 2^48 parts are one
abbrev pub ShareExact : Run → ℕ → ℕ → ℕ → ℕ → Share → Type 0
ShareExact r mid scale bias low s = Exact r mid scale s.factor 140737488355328 0 (s.take * 4294967296) low (2 * bias - low)

-- numbers that have room to be tested
pub record Testable (r : Run) (scale bias low mid : ℕ) : Type 0 where
  pub times_some : 0 < r.times
  pub start_is : r.start ≡ bias
  pub scale_in : scale ≤ 65535
  pub bias_in : bias ≤ 65535 * 4095
  pub light_in : scale * bias ≤ 65535 * 4095
  pub low_in : low ≤ bias
  pub mid_in : mid ≤ most_sample

-- a share that is exact, and takes away no more than there is at `low`
pub record Shares (r : Run) (mid scale bias low : ℕ) (s : Share) : Type 0 where
  pub exact : ShareExact r mid scale bias low s
  pub there : s.take ≤ parts s.factor (scale * low)
