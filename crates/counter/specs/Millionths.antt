-- A level's size in millionths, from the bits of its float.
use Rattle.std.specs.Prelude.{cond, ℕ, ◌+◌, ◌*◌, ◌-◌, ◌/◌, ◌%◌, ◌^◌, leb, ℤ, pos}
use Rattle.rounding.specs.Rounding.{round}

abbrev pub exponent_of : ℕ → ℕ
exponent_of bits = bits / 2 ^ 23 % 256

abbrev pub mantissa_of : ℕ → ℕ
mantissa_of bits = bits % 2 ^ 23 + 2 ^ 23

-- Round(1,000,000 · mantissa / 2^(150 - exponent)), and 0 from 2^14 on: no level is so large
unfoldable pub millionths : ℕ → ℤ
millionths bits =
    cond (leb (exponent_of bits) 140) (round (pos (1000000 * mantissa_of bits)) (2 ^ (150 - exponent_of bits))) (pos 0)
