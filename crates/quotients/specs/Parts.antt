-- Parts of 2^32 of a product, which are left out.
use Rattle.std.specs.Prelude.{ℕ, ◌*◌, ◌/◌}

abbrev pub parts : ℕ → ℕ → ℕ
parts factor n = factor * n / 4294967296
