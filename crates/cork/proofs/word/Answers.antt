-- A word is put, and the gap behind it; what is put at a place inside the buffer ends inside it.
use Rattle.std.proofs.Common.{arith}
use Rattle.text.proofs.WritingLaws.{inside}
use Rattle.cork.proofs.WordsLaws.{one_word, cut_word}
use Rattle.cork.proofs.word.Goals as goal

pub returns-then-one-ne0-clause-words : goal.returns-then-one-ne0-clause-words
returns-then-one-ne0-clause-words g c = cut_word c.put-cut.ensures c.put.ensures

pub returns-then-one-ne0-clause-upper_bound : goal.returns-then-one-ne0-clause-upper_bound
returns-then-one-ne0-clause-upper_bound g c =
    let e = inside c.put-cut.ensures c.requires in
    let f = inside c.put.ensures (omega arith) in
    omega arith

pub returns-clause-words : goal.returns-clause-words
returns-clause-words g c = one_word c.put-next.ensures c.put-2.ensures

pub returns-clause-upper_bound : goal.returns-clause-upper_bound
returns-clause-upper_bound g c =
    let e = inside c.put-next.ensures c.requires in
    let f = inside c.put-2.ensures (omega arith) in
    omega arith
