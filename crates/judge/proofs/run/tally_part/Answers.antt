-- `judge::run::tally_part` meets its contract: what stands in the rows that are lent is what the part's pixels become.
use Rattle.row_plan.specs.RowPlan.{row_planned}
use Rattle.planes.specs.Three.{three, held, row_parts}
use Rattle.compare.proofs.CompareLaws.{compared_same}
use Rattle.judge.proofs.RunLaws.{part_put, part_same, tells_runs}
use Rattle.judge.proofs.run.tally_part.Goals as goal

pub returns : goal.returns
returns c =
    let x = c.args in
    let yes = c.if-not-paint_row.false in
    let long = c.requires.long in
    let q = three c.paint_row.new.b0 c.paint_row.new.b1 c.paint_row.new.b2 in
    let put = part_put (row_planned x.plan) x.from x.to x.n (held x.a) (held x.b) long.long0 (three x.c0.now x.c1.now x.c2.now) q (c.paint_row.ensures.1 yes) in (
      (tells_runs x.tops x.from x.n (held x.a) long _ c.paint_row.ensures.0).0 yes,
      compared_same (part_same (row_planned x.plan) x.from x.to x.n (held x.a) (held x.b) long.long0 (row_parts q 0 x.n) put) c.compare_part.ensures,
    )
