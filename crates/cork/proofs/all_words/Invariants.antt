-- Before word i there are i - 1 words.
use Rattle.std.proofs.Common.{◌≡◌, ◌-◌, ◌≤◌, length}
use Rattle.cork.specs.CommandLine.{Words}
use Rattle.cork.proofs.all_words.Given as goal

abbrev pub invariant-loop-i : goal.invariant-loop-i
invariant-loop-i g l = record {
  written : Words (l.i - 1) l.initial.words 0 l.words l.at;
  inside : l.at ≤ length l.initial.words;
  size : length l.words ≡ length l.initial.words;
  few : l.i ≤ 21;
  given : l.i - 1 ≤ l.count - 1;
}
