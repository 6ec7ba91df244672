-- `scan::runs_fine` meets its contract: no sample of a run is above the largest of the part that holds it, and that is one of them.
use mathlib.Core.Path.{◌≡◌, ap, ◌∙◌}
use lib.ListN.{length}
use Rattle.sample.specs.declared.Pixel.{Pixel}
use Rattle.tables.proofs.Tables.{part_width}
use Rattle.planes.specs.Three.{Three, held, row_parts}
use Rattle.scan.specs.First.{largest_pixel}
use Rattle.scan.proofs.Searches.{run_within, run_top}
use Rattle.scan.proofs.runs_fine.Goals as goal
use Rattle.scan.proofs.runs_fine.Goals.{After-largest_of_three}

-- the largest of each part, which has n elements
most_is : (c : After-largest_of_three) → c.largest_of_three.result ≡ largest_pixel c.args.n (row_parts (held c.args.a) c.args.from c.args.n)
most_is c =
    let x = c.args in
    c.largest_of_three.ensures ∙ ap (λ (q : Three). largest_pixel (length q.p0) q) c.part.ensures
    ∙ ap (λ k. largest_pixel k (row_parts (held x.a) x.from x.n)) (part_width x.a.p0.now x.from x.n c.requires.long0)

pub returns : goal.returns
returns c =
    let x = c.args in
    let a = x.a in
    let t = x.tops in
    let most = most_is ((goal.at.returns c).After-largest_of_three) in
    let m0 = ap (λ (p : Pixel). p.p0) most in
    let m1 = ap (λ (p : Pixel). p.p1) most in
    let m2 = ap (λ (p : Pixel). p.p2) most in
    let r = c.requires in (
      λ e.
          let h = c.is_within.ensures.0 e in (
            run_within a.p0.now x.from x.n t.p0 _ r.long0 m0 h.0,
            (run_within a.p1.now x.from x.n t.p1 _ r.long1 m1 h.1.0, run_within a.p2.now x.from x.n t.p2 _ r.long2 m2 h.1.1),
          ),
      λ e fine.
          c.is_within.ensures.1 e (
            run_top a.p0.now x.from x.n t.p0 _ r.long0 m0 fine.0,
            (run_top a.p1.now x.from x.n t.p1 _ r.long1 m1 fine.1.0, run_top a.p2.now x.from x.n t.p2 _ r.long2 m2 fine.1.1),
          ),
    )
