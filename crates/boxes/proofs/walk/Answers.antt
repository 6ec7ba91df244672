-- What remains of the walk from each position is the walk, and each box leads on.
use Rattle.std.proofs.Common.{arith, sym, ◌∙◌}
use Rattle.boxes.proofs.WalkLaws.{rest_all, rest_next, rest_found, rest_other, good_box, good_found}
use Rattle.boxes.proofs.walk.Goals as goal

pub loop-h-init : goal.loop-h-init
loop-h-init c = record { within = omega arith; rest = rest_all _ _ _ }

pub returns-in_default : goal.returns-in_default
returns-in_default c =
    let a = c.args in
    let l = c.loop-h in
    let b = c.box_at-seen.ensures in
    record {
      value = b ∙ sym (rest_other a.part.now a.room a.kind l.at l.invariant.rest (λ h e. c.in_default.not-Found h (b ∙ e)));
      placed = record { is = rw b (good_box a.part.now a.room l.at l.invariant.within).0 };
    }

pub returns-then-is_wanted-clause-value : goal.returns-then-is_wanted-clause-value
returns-then-is_wanted-clause-value c =
    let e = sym c.box_at-seen.ensures ∙ c.in-Found.is in
    sym (rest_found _ _ _ c.loop-h.at c.loop-h.invariant.rest _ e (sym c.is_wanted.ensures ∙ c.if-is_wanted.true))

pub returns-then-is_wanted-clause-placed : goal.returns-then-is_wanted-clause-placed
returns-then-is_wanted-clause-placed c =
    let e = sym c.box_at-seen.ensures ∙ c.in-Found.is in
    record { is = (good_found c.args.part.now c.args.room c.loop-h.at c.loop-h.invariant.within _ e).0 }

pub overflow_add-at : goal.overflow_add-at
overflow_add-at c =
    let e = sym c.box_at-seen.ensures ∙ c.in-Found.is in
    let p = good_found c.args.part.now c.args.room c.loop-h.at c.loop-h.invariant.within _ e in
    omega arith

pub loop-h-smaller : goal.loop-h-smaller
loop-h-smaller c =
    let e = sym c.box_at-seen.ensures ∙ c.in-Found.is in
    let p = good_found c.args.part.now c.args.room c.loop-h.at c.loop-h.invariant.within _ e in
    omega arith

pub loop-h-preserved : goal.loop-h-preserved
loop-h-preserved c =
    let e = sym c.box_at-seen.ensures ∙ c.in-Found.is in
    let p = good_found c.args.part.now c.args.room c.loop-h.at c.loop-h.invariant.within _ e in
    let w = sym c.is_wanted.ensures ∙ c.if-is_wanted.false in
    record {
      within = p.0.within;
      rest =
          rest_next _ _ _ c.loop-h.at c.loop-h.invariant.rest _ c.loop-h.invariant.within e w (omega arith) p.0.within;
    }
