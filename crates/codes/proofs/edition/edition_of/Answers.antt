-- `codes::edition::edition_of` meets its contract: each of the three by its number, and any other is none.
use Rattle.std.specs.Prelude.{None}
use mathlib.Core.Path.{◌≡◌, sym}
use Prim.Native.Nat.{ℕ, ◌≤◌}
use native.Mathlib.Omega.{arith}
use lib.ListN.{get_or-eq_default}
use Rattle.codes.specs.Edition.{editions, edition_of}
use Rattle.codes.proofs.edition.edition_of.Goals as goal

pub returns-in-1 : goal.returns-in-1
returns-in-1 c = rw c.in-1.is

pub returns-in-2 : goal.returns-in-2
returns-in-2 c = rw c.in-2.is

pub returns-in-3 : goal.returns-in-3
returns-in-3 c = rw c.in-3.is

-- a number that was forgotten, and those past the last edition
forgotten : (n : ℕ) → n ≡ 0 → None ≡ edition_of n
forgotten n e = rw e

past : (n : ℕ) → 4 ≤ n → None ≡ edition_of n
past n l = sym (get_or-eq_default editions None {n = n} l)

pub returns-in-0 : goal.returns-in-0
returns-in-0 c = forgotten _ (omega arith)

pub returns-in-0-2 : goal.returns-in-0-2
returns-in-0-2 c = past _ (omega arith)
