-- What is read so far and what is left make up the word's number.
use Rattle.std.proofs.Common.{◌≡◌, drop}
use Rattle.text.specs.Numerals.{value_of, all_digits}
use Rattle.text.proofs.reading.number_in.Given as goal

abbrev pub invariant-loop-b : goal.invariant-loop-b
invariant-loop-b l = record {
  value : value_of l.value (drop l.b-index l.word) ≡ value_of 0 l.word;
  digits : all_digits (drop l.b-index l.word) ≡ all_digits l.word;
}
