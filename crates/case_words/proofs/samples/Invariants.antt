-- What was read and what is still to be read make up the whole.
use Rattle.std.proofs.Common.{◌≡◌, ◌-◌, length, take, drop, replicate}
use Rattle.case_words.specs.Lines.{read}
use Rattle.case_words.proofs.PlaneLaws.{glue}
use Rattle.case_words.proofs.samples.Given as goal

abbrev pub invariant-loop-i : goal.invariant-loop-i
invariant-loop-i l = record {
  whole : glue (take l.i l.out) (read l.words.gap l.words.text.now (length l.initial.out - l.i))
      ≡ read l.initial.words.gap l.initial.words.text.now (length l.initial.out);
  zeros : drop l.i l.out ≡ replicate (length l.initial.out - l.i) 0;
  size : length l.out ≡ length l.initial.out;
  gap : l.words.gap ≡ l.initial.words.gap;
}
