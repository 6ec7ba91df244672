-- A flag as a number.
use Rattle.std.specs.Prelude.{Bool, true, false, ℕ}

-- 1 for yes and 0 for no
abbrev pub one_if : Bool → ℕ
one_if true = 1
one_if false = 0
