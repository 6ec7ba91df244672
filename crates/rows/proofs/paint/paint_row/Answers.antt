-- `rows::paint::paint_row` meets its contract: the six parts that are lent have the row's width, their pixels were seen to be within their tops, and
-- each output part comes back as the converted row.
use mathlib.Core.Path.{sym, ap, subst}
use mathlib.Core.Bool.{true≢false}
use Prim.Native.Nat.{◌+◌}
use Rattle.tables.specs.Table.{patched}
use Rattle.planes.specs.Three.{three, held, row_parts}
use Rattle.scan.proofs.Searches.{yes, no}
use Rattle.row_plan.specs.RowPlan.{row_planned, RowTakes}
use Rattle.convert.specs.Row.{OneWidth, EveryOf, ConvertedRows}
use Rattle.rows.proofs.RowLaws.{parts_one_width}
use Rattle.rows.proofs.paint.paint_row.Goals as goal

pub convert_row-requires : goal.convert_row-requires
convert_row-requires c =
    let p = c.requires in
    let x = c.args in
    let fine = c.row_fine.ensures.0 c.if-not-row_fine.false in
    let b = three x.b0.now x.b1.now x.b2.now in
    record {
      row_roomy = p.row_roomy;
      one_width = subst (λ a. OneWidth a (row_parts b x.to x.width)) (sym c.part.ensures) (parts_one_width (held x.a) b _ _ _ p.long p.long_2);
      every_of = subst (EveryOf (RowTakes x.plan)) (sym c.part.ensures) (λ k l. p.takes_up_to.each _ (fine k l));
    }

pub returns : goal.returns
returns c =
    let x = c.args in
    let n = c.convert_row.new in
    let e = subst (λ a. ConvertedRows (row_planned x.plan) a (three n.b0 n.b1 n.b2)) c.part.ensures c.convert_row.ensures in (
      yes (c.row_fine.ensures.0 c.if-not-row_fine.false),
      λ t. (
        ap (patched x.b0.now x.to (x.to + x.width)) e.0,
        (ap (patched x.b1.now x.to (x.to + x.width)) e.1.0, ap (patched x.b2.now x.to (x.to + x.width)) e.1.1),
      ),
    )

pub returns-then-not-row_fine : goal.returns-then-not-row_fine
returns-then-not-row_fine c = (no (c.row_fine.ensures.1 c.if-not-row_fine.true), λ t. absurd (true≢false (sym t)))
