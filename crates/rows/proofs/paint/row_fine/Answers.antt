-- `rows::paint::row_fine` meets its contract: the samples of three parts are those of three runs.
use Rattle.planes.specs.Three.{held}
use Rattle.rows.proofs.FineLaws.{fine_parts, first_fine, second_fine, third_fine}
use Rattle.rows.proofs.paint.row_fine.Goals as goal

pub returns : goal.returns
returns c =
    let x = c.args in
    let told = c.runs_fine.ensures in (
      λ e. let h = told.0 e in fine_parts x.tops x.from x.n (held x.a) c.requires h.0 h.1.0 h.1.1,
      λ e h.
          told.1 e (
            first_fine x.tops x.from x.n (held x.a) c.requires h,
            (second_fine x.tops x.from x.n (held x.a) c.requires h, third_fine x.tops x.from x.n (held x.a) c.requires h),
          ),
    )
