-- `quotients::pixel_of` meets its contract: each number has few bits, and there is as much as is taken away.
use mathlib.Core.Path.{sym, subst, ◌∙◌}
use Prim.Native.Nat.{◌+◌, ◌-◌, ◌*◌, ◌≤◌}
use native.Mathlib.Omega.{arith}
use Rattle.quotients.specs.Parts.{parts}
use Rattle.quotients.proofs.Reaching.{blue_there, red_there}
use Rattle.quotients.proofs.pixel_of.Goals as goal

pub lowered-p1-requires : goal.lowered-p1-requires
lowered-p1-requires c =
    let k = c.args.by in
    let v = c.args.p in
    let light = c.light_of-light.ensures.value in
    let all = sym k.weighs.sum in
    let is = c.away.ensures.value ∙ (λ i. all i * v.p2 + k.mix.bias - light i) in
    let few = k.bias_in in
    let most = c.away.ensures.upper_bound in
    record { take_bound = subst (λ n. k.blue.take ≤ parts k.blue.factor n) (sym is) (blue_there k v c.requires.up_to); n_bound = omega arith; top_bound = k.top_in }

pub lowered-p2-requires : goal.lowered-p2-requires
lowered-p2-requires c =
    let k = c.args.by in
    let v = c.args.p in
    let light = c.light_of-light.ensures.value in
    let all = sym k.weighs.sum in
    let is = c.away-2.ensures.value ∙ (λ i. all i * v.p0 + k.mix.bias - light i) in
    let few = k.bias_in in
    let most = c.away-2.ensures.upper_bound in
    record { take_bound = subst (λ n. k.red.take ≤ parts k.red.factor n) (sym is) (red_there k v c.requires.up_to); n_bound = omega arith; top_bound = k.top_in }
