-- A number that divides two others.
use Rattle.std.specs.Prelude.{ℕ, ◌<◌}
use Rattle.std.specs.Int.{◌∣◌}

pub record Common (a b r : ℕ) : Type 0 where
  pub some : 0 < r
  pub first : r ∣ a
  pub second : r ∣ b
