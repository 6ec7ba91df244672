-- Words written after words are more words.
use mathlib.Core.Path.{◌≡◌, refl}
use mathlib.Core.List.{List, [], ◌∷◌, ◌++◌, append_assoc}
use Prim.Native.Nat.{ℕ, ◌+◌}
use native.Mathlib.Omega.{arith}
use lib.ListN.{length-append}
use Rattle.text.specs.Writing.{Wrote}
use Rattle.text.proofs.WritingLaws.{then, none}
use Rattle.cork.specs.CommandLine.{ended, Words}

ended_append : (a b : List (List ℕ)) → ended (a ++ b) ≡ ended a ++ ended b
unfolding ended
ended_append [] b = refl
ended_append (w ∷ a) b = rw (ended_append a b, append_assoc)

pub no_words : (old : List ℕ) (at : ℕ) → Words 0 old at old at
unfolding ended
no_words old at = record { words = []; count = refl; wrote = none old at }

pub more_words : {n m : ℕ} {old mid new : List ℕ} {at p q : ℕ} → Words n old at mid p → Words m mid p new q → Words (n + m) old at new q
more_words f s =
    record {
      words = f.words ++ s.words;
      count = omega (arith, length-append f.words s.words);
      wrote = rw (ended_append f.words s.words) (then f.wrote s.wrote);
    }

-- one word, and one whose beginning alone is there
pub one_word : {old mid new w : List ℕ} {at p q : ℕ} → Wrote old at w mid p → Wrote mid p (0 ∷ []) new q → Words 1 old at new q
unfolding ended
one_word {w} f s = record { words = w ∷ []; count = refl; wrote = then f s }

pub cut_word : {old mid new w : List ℕ} {at p q : ℕ} → Wrote old at w mid p → Wrote mid p (46 ∷ 46 ∷ 0 ∷ []) new q → Words 1 old at new q
unfolding ended
cut_word {w} f s = record { words = (w ++ (46 ∷ 46 ∷ [])) ∷ []; count = refl; wrote = rw append_assoc (then f s) }
