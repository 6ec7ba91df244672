-- `fixed::reduce::factor` meets its contract: what divides the last of a chain divides all before it.
use mathlib.Core.Path.{subst}
use Prim.Native.Nat.{◌*◌, ◌∣◌}
use native.Mathlib.Nat.{dvd_trans}
use Rattle.fixed.proofs.reduce.factor.Goals as goal

pub returns : goal.returns
returns c =
    let g = c.common.result in
    let last = c.common.ensures in
    let third = c.common-g2.ensures in
    let second = c.common-g1.ensures in
    let first = c.common-g0.ensures in
    let g2 = last.first in
    let g1 = dvd_trans g g2 third.first in
    let g0 = dvd_trans g g1 second.first in
    record {
      some = last.some;
      over = dvd_trans g g0 first.first;
      weight0 = subst (λ n. g ∣ 2 * n) c.abs_diff-n0.ensures (dvd_trans g g0 first.second);
      weight1 = subst (λ n. g ∣ 2 * n) c.abs_diff-n1.ensures (dvd_trans g g1 second.second);
      weight2 = subst (λ n. g ∣ 2 * n) c.abs_diff-n2.ensures (dvd_trans g g2 third.second);
      constant = subst (λ n. g ∣ n) c.abs_diff-n.ensures last.second;
    }
