-- `scan::first_bad` meets its contract: it walks over the picture, and passes all of it or a row over where the
-- largest sample there is fine.
use mathlib.Core.Path.{sym, ap}
use Prim.Native.Nat.{◌+◌}
use native.Mathlib.Omega.{arith}
use borrow.Author.Tests.{lt-ltb, le-ltb}
use Rattle.scan.proofs.Searches.{part_fine}
use Rattle.scan.proofs.SearchTheorems.{nothing_means}
use Rattle.scan.proofs.Walks.{walked_none, walked_column, walked_row, walked_over, walked_all, walked_here}
use Rattle.scan.proofs.first_bad.Goals as goal

pub returns-then-whole_fine : goal.returns-then-whole_fine
returns-then-whole_fine c =
    let x = c.args in
    sym ((nothing_means x.p.now x.plane x.width x.height x.stride x.top).1 (c.whole_fine.ensures c.if-whole_fine.true))

pub rows-preserved-then-largest-top : goal.rows-preserved-then-largest-top
rows-preserved-then-largest-top c =
    let x = c.args in
    let starts = c.row_start-a in
    walked_over c.rows.invariant (omega arith)
    (λ i h. le-ltb x.top _
    (part_fine x.p.now x.stride _ i starts.result (starts.result + x.width) i _ _ (ap (λ n. n + i) starts.ensures.is) (omega arith)
    (omega arith) (omega arith) c.largest.ensures c.if-largest-top.true))

pub loop-i-preserved : goal.loop-i-preserved
loop-i-preserved c =
    let starts = c.row_start-a.ensures.is in
    walked_column c.loop-i.invariant (omega arith) (rw (← starts) (le-ltb _ _ c.if-top-p.false))

pub returns-then-top-p : goal.returns-then-top-p
returns-then-top-p c =
    let starts = c.row_start-a.ensures.is in
    walked_here c.loop-i.invariant _ (omega arith) (omega arith) (rw (← starts) (lt-ltb _ _ c.if-top-p.true))

pub rows-init : goal.rows-init
rows-init c = walked_none

pub rows-preserved : goal.rows-preserved
rows-preserved c = walked_row c.loop-i.invariant (omega arith) (omega arith)

pub returns-after-rows : goal.returns-after-rows
returns-after-rows c = walked_all c.rows.invariant _ (omega arith)
