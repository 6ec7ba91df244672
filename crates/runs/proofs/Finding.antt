-- Lines whose runs were found.
use mathlib.Core.Path.{◌≡◌}
use Prim.Native.Nat.{ℕ, ◌+◌, ◌*◌, ◌≤◌, ◌<◌}
use native.Mathlib.Nat.{mul-le-mul_left}
use native.Mathlib.Omega.{arith}
use Rattle.levels.specs.Room.{Room}
use Rattle.levels.specs.declared.lines.Line.{Line}
use Rattle.runs.specs.Found.{blue_in, red_in, Weighed, LumaRun, ColourRun, PlaneRuns}
use Rattle.runs.specs.Light.{light_by, blue_by, red_by}
use Rattle.runs.specs.declared.Run.{Run}
use Rattle.runs.specs.declared.weights.Weights.{Weights}
use Rattle.runs.proofs.Following.{luma_follows, blue_follows, red_follows}

-- a level is no more than what it is read off
level_less : (level over up : ℕ) → 0 < over → level * over ≤ up → level ≤ up
level_less level over up some h = let more : level * 1 ≤ level * over = mul-le-mul_left level some in omega arith

module _ {l : Line} {r : Run} (room : Room l) (some : 0 < r.times) (most : ℕ) where
  pub luma_runs : {k : Weights} → Weighed l.equation k → LumaRun l k.times r → PlaneRuns l most (light_by k.kr k.kg k.kb) r
  luma_runs w is =
      let less = level_less r.level l.equation.over l.up room.over_some (let e = is.level_is in omega arith) in
      record { follows = luma_follows most w is; times_some = some; level_in = omega arith }

  pub blue_runs : (kr kg kb bias : ℕ) → bias ≡ (kr + kg + kb) * most → ColourRun (blue_in l.equation) kr kg bias l r → PlaneRuns l most (blue_by kr kg kb bias) r
  blue_runs kr kg kb bias b is =
      let less = level_less r.level l.equation.over l.up room.over_some (let e = is.level_is in omega arith) in
      record { follows = blue_follows kr kg kb most bias b is; times_some = some; level_in = omega arith }

  pub red_runs : (kr kg kb bias : ℕ) → bias ≡ (kr + kg + kb) * most → ColourRun (red_in l.equation) kg kb bias l r → PlaneRuns l most (red_by kr kg kb bias) r
  red_runs kr kg kb bias b is =
      let less = level_less r.level l.equation.over l.up room.over_some (let e = is.level_is in omega arith) in
      record { follows = red_follows kr kg kb most bias b is; times_some = some; level_in = omega arith }
