-- How long a file is, by what the system tells.
use Rattle.std.specs.Prelude.{ℕ, Result, Ok, Err}

-- a length that the system tells; an error tells none
abbrev pub length_of : {E : Type 0} → Result ℕ E → ℕ
length_of (Ok n) = n
length_of (Err e) = 0
