-- What the words of the command line leave in a buffer. Which words they are, no contract can say. And the edition that is meant.
use Rattle.std.specs.Prelude.{◌≡◌, cond, List, [], ◌∷◌, ◌++◌, ℕ, ◌+◌, ltb, length, Option, Some, None}
use Rattle.text.specs.Words.{split, word_of, index_in}
use Rattle.text.specs.Writing.{Wrote}
use Rattle.cork.specs.declared.Said.{Said}

-- how many words are read: no request has so many
abbrev pub most_words : ℕ
most_words = 20

-- words, each with the gap behind it
unfoldable pub ended : List (List ℕ) → List ℕ
ended [] = []
ended (w ∷ ws) = w ++ (0 ∷ ended ws)

-- some n words were written at a position of an old buffer, which gave a new one and the position after them
pub record Words (n : ℕ) (old : List ℕ) (at : ℕ) (new : List ℕ) (next : ℕ) : Type 0 where
  pub words : List (List ℕ)
  pub count : length words ≡ n
  pub wrote : Wrote old at (ended words) new next

-- the edition that word 1 names, and that it took a word; the published one where it names none
abbrev pub said_at : Option ℕ → Said
said_at (Some place) = cond (ltb place 3) (record { edition = place + 1; words = 1 }) (record { edition = 3; words = 0 })
said_at None = record { edition = 3; words = 0 }

abbrev pub edition_said : ℕ → List ℕ → List ℕ → Said
edition_said gap words names = said_at (index_in (word_of gap words 1) (split 32 names))
