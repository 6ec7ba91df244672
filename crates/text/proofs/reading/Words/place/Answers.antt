-- So many names were passed, and the place among the rest is counted from there.
use Rattle.std.proofs.Common.{arith, sym, ◌∙◌, rules}
use Rattle.text.proofs.NumeralLaws.{is_none, is_some}
use Rattle.text.proofs.WordLaws.{further_none, place_here, place_on, place_over}
use Rattle.text.proofs.reading.Words.place.Goals as goal

pub loop-word-init : goal.loop-word-init
loop-word-init c = record { place = further_none _; gap = search rules; passed = omega arith }

pub returns-then-eq : goal.returns-then-eq
returns-then-eq c =
    let e = place_here c.loop-word.names.gap c.args.word.now c.loop-word.n c.loop-word.names.text.now
    (is_some _ _ c.is_empty.ensures c.loop-word-test.true) (rw (← c.first.ensures) (sym c.eq.ensures ∙ c.if-eq.true)) in
    sym (rw c.loop-word.invariant.gap at e) ∙ c.loop-word.invariant.place

pub loop-word-preserved : goal.loop-word-preserved
loop-word-preserved c =
    let l = is_some _ _ c.is_empty.ensures c.loop-word-test.true in
    let a = c.rest-names.ensures.after in
    let e = place_on c.loop-word.names.gap c.args.word.now c.loop-word.n c.loop-word.names.text.now _ l
    (rw (← c.first.ensures) (sym c.eq.ensures ∙ c.if-eq.false)) a in
    record {
      place = sym (rw c.loop-word.invariant.gap at e) ∙ c.loop-word.invariant.place;
      gap = c.rest-names.ensures.gap ∙ c.loop-word.invariant.gap;
      passed = (let o = a.onward l in omega arith);
    }

pub returns : goal.returns
returns c =
    let e = place_over c.loop-word.names.gap c.args.word.now c.loop-word.n c.loop-word.names.text.now
    (is_none _ _ c.is_empty.ensures c.loop-word-test.false) in
    sym (rw c.loop-word.invariant.gap at e) ∙ c.loop-word.invariant.place
