-- `fixed::reduce::reduce` meets its contract: each number is divided by what divides them all, and the marks' share goes to the constant.
use Prim.Native.Nat.{◌+◌, ◌*◌, ◌/◌, ◌^◌, ◌<◌}
use native.Mathlib.Nat.{mul-div_cancel', div-le_self}
use native.Mathlib.Omega.{arith}
use Rattle.fixed.proofs.Reducing.{quotient_some, balance, taken_in}
use Rattle.fixed.proofs.reduce.reduce.Goals as goal
use Rattle.fixed.proofs.reduce.reduce.Goals.{After-parted-constant}

-- all that is taken away has room
room : (c : After-parted-constant)
    → c.turned-first.result.moved + c.turned-second.result.moved + c.turned-third.result.moved + c.parted-constant.result.minus
    < 2 ^ 64
room c =
    let taken = taken_in c.requires.room c.requires.most_le_most_sample in
    let m0 = c.turned-first.ensures.moved_in in
    let m1 = c.turned-second.ensures.moved_in in
    let m2 = c.turned-third.ensures.moved_in in
    let m = c.parted-constant.ensures.minus_in in
    omega arith

pub returns : goal.returns
returns c =
    let l = c.args.line in
    let g = c.factor-g.result in
    let f = c.factor-g.ensures in
    let t0 = c.turned-first in
    let t1 = c.turned-second in
    let t2 = c.turned-third in
    let d = c.parted-constant in
    let is = mul-div_cancel' g f.over in
    record {
      g = g;
      g_some = f.some;
      e_some = quotient_some g (2 * l.equation.over / g) (2 * l.equation.over) is (omega (arith, c.requires.room));
      e_in = div-le_self (2 * l.equation.over) g;
      denominator = is;
      weight0 = t0.ensures.weight;
      weight1 = t1.ensures.weight;
      weight2 = t2.ensures.weight;
      constant =
          balance g (t0.result.a * t0.result.mark) (t1.result.a * t1.result.mark) (t2.result.a * t2.result.mark)
          t0.result.moved t1.result.moved t2.result.moved d.result.plus d.result.minus l.up l.down l.equation.over
          t0.ensures.moved_is t1.ensures.moved_is t2.ensures.moved_is d.ensures.is;
    }

pub overflow_add-minus-3 : goal.overflow_add-minus-3
overflow_add-minus-3 c = let l = room ((goal.at.overflow_add-minus-3 c).After-parted-constant) in omega arith
