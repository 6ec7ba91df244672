-- `image_check::passing::run_comes_back` meets its contract: the three parts that are lent have one width.
use mathlib.Core.Path.{◌≡◌, sym, ◌∙◌, subst}
use lib.ListN.{length}
use Rattle.tables.proofs.Tables.{part_width}
use Rattle.planes.specs.Three.{Three}
use Rattle.plan.specs.Plan.{planned, Takes}
use Rattle.convert.specs.Row.{EveryOf, KnownBack}
use Rattle.image_check.proofs.passing.run_comes_back.Goals as goal

pub row_comes_back-requires : goal.row_comes_back-requires
row_comes_back-requires c =
    let x = c.args in
    let long = c.requires.long in
    let part = sym c.part.ensures in
    let w0 = part_width x.a.p0.now x.from x.n long.long0 in
    record {
      roomy = c.requires.roomy;
      a1_len = subst (λ (a : Three). length a.p1 ≡ length a.p0) part (part_width x.a.p1.now x.from x.n long.long1 ∙ sym w0);
      a2_len = subst (λ (a : Three). length a.p2 ≡ length a.p0) part (part_width x.a.p2.now x.from x.n long.long2 ∙ sym w0);
      every_of = subst (EveryOf (λ p. Takes x.forth (planned x.back p))) part c.requires.every_of;
    }

pub returns : goal.returns
returns c = subst (KnownBack c.row_comes_back.result (planned c.args.back) (planned c.args.forth)) c.part.ensures c.row_comes_back.ensures
