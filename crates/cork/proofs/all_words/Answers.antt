-- One word more was written behind those before it.
use Rattle.std.proofs.Common.{◌≡◌, ◌+◌, ◌-◌, arith, refl}
use Rattle.std.specs.Prelude.{min}
use Rattle.cork.specs.CommandLine.{most_words}
use Rattle.cork.proofs.WordsLaws.{no_words, more_words}
use Rattle.cork.proofs.all_words.Goals as goal

pub loop-i-init : goal.loop-i-init
loop-i-init g c = record { written = no_words _ _; inside = omega arith; size = refl; few = omega arith; given = omega arith }

pub loop-i-preserved : goal.loop-i-preserved
loop-i-preserved g c =
    let e : c.loop-i.i - 1 + 1 ≡ c.loop-i.i + 1 - 1 = omega arith in
    record {
      written = rw e at (more_words c.loop-i.invariant.written c.word-at.ensures.words);
      inside = omega arith;
      size = omega arith;
      few = omega (arith, c.min-i-end.ensures);
      given = omega (arith, c.min-i-end.ensures);
    }

pub returns-clause-words : goal.returns-clause-words
returns-clause-words g c =
    let e : c.loop-i.i - 1 ≡ min (c.args.count - 1) most_words = omega (arith, c.min-i-end.ensures) in
    rw e at c.loop-i.invariant.written
