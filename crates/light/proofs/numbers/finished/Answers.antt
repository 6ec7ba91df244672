-- `light::numbers::finished` meets its contract: what each step found is what the numbers have to be.
use mathlib.Core.Path.{refl}
use native.Mathlib.Omega.{arith}
use Rattle.light.proofs.Numbering.{Sums, sums, start_below}
use Rattle.light.proofs.numbers.finished.Goals as goal
use Rattle.light.proofs.numbers.finished.Goals.{Else-half-run}

module _ (c : Else-half-run) where
  known : Sums c.in_ok-factor.factor c.args.run.start c.args.reach c.args.at.half
      c.args.run.level c.lift_of-lift.result c.args.spare
  known =
      let s = c.requires.steps in
      let r = s.reach_in in
      sums _ _ _ _ _ _ _ (omega arith) c.in_ok-factor.ensures.upper_bound (omega arith) s.start_in c.lift_of-lift.ensures.above

pub returns : goal.returns
returns c =
    let k = known ((goal.at.returns c).Else-half-run) in
    let steps = c.requires.steps in
    let lift = c.lift_of-lift in
    let f = c.in_ok-factor.ensures.factor in
    let half = steps.past.half_is in (
      record {
        g = steps.reduced.g;
        q = c.args.by.q;
        e = c.args.by.e;
        lift = lift.result;
        spare = c.args.spare;
        half = c.args.at.half;
        g_some = steps.reduced.g_some;
        q_some = steps.reduced.q_some;
        e_some = steps.e_some;
        times_is = steps.reduced.times_is;
        over_is = steps.reduced.over_is;
        unit_is = omega arith;
        factor_over = f.over;
        factor_under = f.under;
        base_is = omega arith;
        above = start_below c.in_ok-factor.factor _ c.args.at.half _ _ _ f.over lift.ensures.above steps.e_some;
        fine = steps.past.above;
        start_in = steps.start_in;
        sides = steps.sides;
        under_is = let m = lift.ensures.mid_in in omega arith;
        top_is = refl;
      },
      record { sum_in = omega arith; whole_in = omega arith; top_in = c.requires.top_bound; shift_in = steps.past.shift_in },
    )
