-- `image_check::first_sourceless` meets its contract: it walks over the picture, and passes all of it or a row over where every pixel
-- there comes back.
use mathlib.Core.Path.{◌≡◌, sym, ap, ◌∙◌}
use mathlib.Core.Bool.{true, not}
use Prim.Native.Nat.{◌+◌}
use native.Mathlib.Omega.{arith}
use borrow.Author.Rules.{rules}
use Rattle.planes.specs.Picture.{pixel_of}
use Rattle.planes.specs.Shown.{shown}
use Rattle.scan.proofs.Walks.{walked_none, walked_past, walked_column, walked_row, walked_over, walked_all, walked_here}
use Rattle.plan.specs.Plan.{planned, Takes}
use Rattle.plan.specs.Source.{comes_back}
use Rattle.convert.proofs.RunLaws.{row_run, run_of_every, pixel_of_part}
use Rattle.image_check.proofs.first_sourceless.Goals as goal
use Rattle.image_check.proofs.first_sourceless.Goals.{After-comes_back}

comes : (c : After-comes_back) → c.comes_back.result ≡ comes_back (planned c.args.back) (planned c.args.forth) (pixel_of (shown c.args.a) c.rows.j c.loop-i.i)
comes c = c.comes_back.ensures ∙ ap (comes_back (planned c.args.back) (planned c.args.forth)) c.pixel.ensures

pub comes_back-requires : goal.comes_back-requires
comes_back-requires c =
    let p = c.requires in
    record {
      roomy = p.roomy.0;
      roomy_2 = p.roomy.1;
      takes = rw c.pixel.ensures (p.every_pixel _ _ (omega arith) (omega arith));
      takes_2 = rw c.pixel.ensures (p.every_pixel_2 _ _ (omega arith) (omega arith));
    }

-- a picture or a row that is passed over
pub returns-then-whole_comes_back : goal.returns-then-whole_comes_back
returns-then-whole_comes_back c =
    walked_all (walked_past (λ j i h k. ap not (c.whole_comes_back.ensures c.if-whole_comes_back.true j i h k))) 0 (omega arith)

pub run_comes_back-requires : goal.run_comes_back-requires
run_comes_back-requires c =
    let start = c.row_start-start.ensures in
    let long = c.requires.fits.long in
    record {
      roomy = c.requires.roomy;
      long = omega (arith, start.last);
      every_of = run_of_every (row_run _ (omega arith) start.is) (λ p. Takes c.args.forth (planned c.args.back p)) c.requires.every_pixel_2 (omega (arith, start.last));
    }

pub rows-preserved-then-run_comes_back : goal.rows-preserved-then-run_comes_back
rows-preserved-then-run_comes_back c =
    let start = c.row_start-start in
    let long = c.requires.fits.long in
    walked_over c.rows.invariant (omega arith)
    (λ i h. ap not
    (pixel_of_part (shown c.args.a) start.result c.args.a.width (λ p. comes_back (planned c.args.back) (planned c.args.forth) p ≡ true) (omega (arith, start.ensures.last))
    (c.run_comes_back.ensures c.if-run_comes_back.true) i _ i (ap (λ n. n + i) start.ensures.is) h))

pub loop-i-preserved : goal.loop-i-preserved
loop-i-preserved c =
    walked_column c.loop-i.invariant (omega arith) (let e = comes ((goal.at.loop-i-preserved c).After-comes_back) in search rules)

pub returns-then-not-comes_back : goal.returns-then-not-comes_back
returns-then-not-comes_back c =
    rw c.of_pixel.ensures (walked_here c.loop-i.invariant 0 (omega arith) (omega arith) (ap not (sym (comes ((goal.at.returns-then-not-comes_back c).After-comes_back)) ∙ c.if-not-comes_back.true)))

pub rows-init : goal.rows-init
rows-init c = walked_none

pub overflow_cast-j : goal.overflow_cast-j
overflow_cast-j c = omega (arith, c.requires.fits.sized.height_within.to_most)

pub overflow_cast-i : goal.overflow_cast-i
overflow_cast-i c = omega (arith, c.requires.fits.sized.width_within.to_most)

pub rows-preserved : goal.rows-preserved
rows-preserved c = walked_row c.loop-i.invariant (omega arith) (omega arith)

pub returns-after-rows : goal.returns-after-rows
returns-after-rows c = walked_all c.rows.invariant 0 (omega arith)
