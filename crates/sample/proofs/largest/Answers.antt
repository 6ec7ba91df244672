-- `sample::largest` meets its contract: a shift of 1 that loses no bit is a power of two, and one less has room in 16 bits.
use native.Mathlib.Omega.{arith}
use lib.Dec.{lit<}
use lib.Pow.{pow_pos, pow_mono, shl_exact}
use Rattle.sample.specs.Depth.{most_depth}
use Rattle.sample.proofs.largest.Goals as goal

pub overflow_sub-result : goal.overflow_sub-result
overflow_sub-result c = omega (arith, shl_exact {a = 1} 1 c.args.depth 32 (lit< tt) (omega arith), pow_pos c.args.depth)

pub overflow_cast-result : goal.overflow_cast-result
overflow_cast-result c = omega (arith, shl_exact {a = 1} 1 c.args.depth 32 (lit< tt) (omega arith), pow_mono {j = most_depth} c.requires)

pub returns : goal.returns
returns c = omega (arith, shl_exact {a = 1} 1 c.args.depth 32 (lit< tt) (omega arith))
