-- `image_check::passing::whole_comes_back` meets its contract: where the stride is the width, the picture is one run.
use mathlib.Core.Path.{◌≡◌, sym, ap, ◌∙◌}
use mathlib.Core.Bool.{true, true≢false}
use Prim.Native.Nat.{◌+◌, ◌*◌, ◌/◌, ◌%◌}
use native.Mathlib.Nat.{zero-add}
use native.Mathlib.Omega.{arith}
use Rattle.planes.specs.Shown.{shown}
use Rattle.planes.specs.Sizes.{needed}
use Rattle.planes.proofs.SizeLaws.{index_inside, needed_whole}
use Rattle.plan.specs.Plan.{planned, Takes}
use Rattle.plan.specs.Source.{comes_back}
use Rattle.convert.proofs.RunLaws.{Run, whole_run, run_of_every, pixel_of_part}
use Rattle.image_check.proofs.passing.whole_comes_back.Goals as goal
use Rattle.image_check.proofs.passing.whole_comes_back.Goals.{After-needed}

run : (c : After-needed) → let a = shown c.args.a in Run a 0 c.needed.result (λ k. k / a.width) (λ k. k % a.width)
run c =
    let a = c.args.a in
    let fits = c.requires.fits.sized in
    let same : a.stride ≡ a.width = omega (arith, c.if-a.false) in
    whole_run same fits.width_within.from_least
    (c.needed.ensures ∙ ap (needed a.width a.height) same ∙ needed_whole a.width a.height fits.height_within.from_least)

pub run_comes_back-requires : goal.run_comes_back-requires
run_comes_back-requires c =
    let long = c.requires.fits.long in
    record {
      roomy = c.requires.roomy;
      long = omega arith;
      every_of = run_of_every (run ((goal.at.run_comes_back-requires c).After-needed)) (λ p. Takes c.args.forth (planned c.args.back p)) c.requires.every_pixel (omega arith);
    }

pub returns : goal.returns
returns c e j i h k =
    let a = shown c.args.a in
    let n = c.needed.result in
    let long = c.requires.fits.long in
    let within = index_inside a.width a.height a.stride j i h k in
    pixel_of_part a 0 n (λ p. comes_back (planned c.args.back) (planned c.args.forth) p ≡ true) (omega arith) (c.run_comes_back.ensures e)
    (j * a.stride + i) j i (zero-add _) (omega arith)

pub returns-then-a : goal.returns-then-a
returns-then-a c e = absurd (true≢false (sym e))
