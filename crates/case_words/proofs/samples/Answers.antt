-- What was read and what is still to be read make up the whole.
use Rattle.std.proofs.Common.{arith, refl, sym, ap, ◌∙◌, ◌≡◌, ◌+◌, ◌-◌, length, take, replicate}
use Rattle.std.proofs.Math.Seq.{take_all}
use Rattle.std.proofs.lemmas.List.{length-set}
use Rattle.case_words.specs.Lines.{Read}
use Rattle.case_words.proofs.PlaneLaws.{read_more, read_none, read_end, over_more, take_more, both_parts}
use Rattle.case_words.proofs.samples.Goals as goal

pub loop-i-init : goal.loop-i-init
loop-i-init c =
    let n : length c.fill.new.self - 0 ≡ length c.fill.new.self = omega arith in
    record {
      whole = rw n refl;
      zeros = rw (n, c.fill.ensures.len) (c.fill.ensures.after (λ y e. e));
      size = refl;
      gap = refl;
    }

pub loop-i-preserved : goal.loop-i-preserved
loop-i-preserved c =
    let l = c.loop-i in
    let v = c.in_ok-out.field-0 in
    let k = c.next_number.ensures in
    let n = length c.fill.new.self in
    let q : n - (l.i + 1) ≡ n - l.i - 1 = omega arith in
    record {
      whole =
          rw (k.gap, k.after.is, take_more l.out l.i v (omega (arith, l.invariant.size)), q)
          (read_more _ _ (take l.i l.out) (n - l.i) v _ (omega arith) (sym k.value ∙ c.in_ok-out.was) l.invariant.whole);
      zeros = over_more l.out l.i v n (omega arith) l.invariant.size l.invariant.zeros;
      size = simp length-set l.invariant.size;
      gap = k.gap ∙ l.invariant.gap;
    }

pub returns-in_err-out-clause-out_after : goal.returns-in_err-out-clause-out_after
returns-in_err-out-clause-out_after c =
    let l = c.loop-i in
    let n = length c.fill.new.self in
    let p = read_none _ _ (take l.i l.out) (n - l.i) _ (omega arith) (sym c.next_number.ensures.value ∙ c.in_err-out.was) l.invariant.whole in
    rw (← c.fill.ensures.len) (both_parts l.out (replicate (n - l.i) 0) l.i l.invariant.zeros ∙ sym p.0)

pub returns-in_err-out-clause-all : goal.returns-in_err-out-clause-all
returns-in_err-out-clause-all c =
    let l = c.loop-i in
    let n = length c.fill.new.self in
    let p = read_none _ _ (take l.i l.out) (n - l.i) _ (omega arith) (sym c.next_number.ensures.value ∙ c.in_err-out.was) l.invariant.whole in
    rw (← c.fill.ensures.len, c.from_residual.ensures) (sym p.1)

pub returns-in_err-out-clause-rest : goal.returns-in_err-out-clause-rest
returns-in_err-out-clause-rest c =
    let l = c.loop-i in
    let n = length c.fill.new.self in
    let p = read_none _ _ (take l.i l.out) (n - l.i) _ (omega arith) (sym c.next_number.ensures.value ∙ c.in_err-out.was) l.invariant.whole in
    rw (← c.fill.ensures.len) (c.next_number.ensures.after.is ∙ sym p.2)

pub returns : goal.returns
returns c =
    let l = c.loop-i in
    let n = length c.fill.new.self in
    let p = read_end _ _ (take l.i l.out) (n - l.i) _ (omega arith) l.invariant.whole in
    record {
      out_after = rw (← c.fill.ensures.len, p) (sym (take_all l.i l.out (omega (arith, l.invariant.size))));
      all = rw (← c.fill.ensures.len, p) refl;
      rest = rw (← c.fill.ensures.len, p) refl;
      gap = l.invariant.gap;
    }
