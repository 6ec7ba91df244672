-- Boxes as ISO/IEC 14496-12 writes them: a size of 32 bits, four letters, a size of 64 bits where the first is 1, and what the box holds. A size counts
-- the header too, and 0 means all that is left of what holds the box.
use Rattle.std.specs.Prelude.{Bool, true, cond, List, ℕ, zero, suc, ◌+◌, ◌-◌, ◌*◌, ltb, eqb, length, get_or, Option, Some, None}
use Rattle.boxes.specs.declared.Header.{Header}
use Rattle.boxes.specs.declared.Walked.{Walked}
use Rattle.boxes.specs.declared.Walked.TheVariants.{Found, Beyond, Small, Further, Cut, End}

-- the number that four bytes write, the high one first
unfoldable pub word_at : List ℕ → ℕ → ℕ
word_at s at = ((get_or s at 0 * 256 + get_or s (at + 1) 0) * 256 + get_or s (at + 2) 0) * 256 + get_or s (at + 3) 0

-- the same of eight bytes
abbrev pub long_word_at : List ℕ → ℕ → ℕ
long_word_at s at = word_at s at * 4294967296 + word_at s (at + 4)

-- a size of 0 means all that is left
abbrev pub whole_of : ℕ → ℕ → ℕ
whole_of size left = cond (eqb size 0) left size

abbrev pub header_of : ℕ → ℕ → ℕ → ℕ → Header
header_of at kind len size = record { at = at; kind = kind; length = len; size = size }

-- what a header claims, of what is left: no less than the header itself and no more than that
unfoldable pub fitted : Header → ℕ → Walked
fitted h left = cond (ltb h.size h.length) (Small h) (cond (ltb left h.size) (Beyond h) (Found h))

-- what was read of a header of so many bytes: it has to lie in the room, and what was read has to reach over it
abbrev pub headed : ℕ → List ℕ → ℕ → ℕ → Walked → Walked
headed n s room at w = cond (ltb (room - at) n) (Cut at) (cond (ltb (length s) (at + n)) (Further at) w)

unfoldable pub long_box : List ℕ → ℕ → ℕ → ℕ → Walked
long_box s room at kind = headed 16 s room at (fitted (header_of at kind 16 (long_word_at s (at + 8))) (room - at))

-- the box at a position
unfoldable pub box_at : List ℕ → ℕ → ℕ → Walked
box_at s room at =
    cond (eqb (room - at) 0) End
    (headed 8 s room at
    (cond (eqb (word_at s at) 1) (long_box s room at (word_at s (at + 4)))
    (fitted (header_of at (word_at s (at + 4)) 8 (whole_of (word_at s at) (room - at))) (room - at))))

-- no kind asks for a box of any kind
abbrev pub wanted : Option ℕ → ℕ → Bool
wanted None found = true
wanted (Some kind) found = eqb kind found

-- a box that is wanted ends a walk, another one leads to the next, and all else ends it
unfoldable pub onward : Option ℕ → (ℕ → Walked) → Walked → Walked
onward kind rest (Found h) = cond (wanted kind h.kind) (Found h) (rest (h.at + h.size))
onward kind rest (Beyond h) = Beyond h
onward kind rest (Small h) = Small h
onward kind rest (Further at) = Further at
onward kind rest (Cut at) = Cut at
onward kind rest End = End

-- the walk from a position on, over fewer boxes than the first number
unfoldable pub walked_from : ℕ → List ℕ → ℕ → Option ℕ → ℕ → Walked
walked_from zero s room kind at = End
walked_from (suc n) s room kind at = onward kind (walked_from n s room kind) (box_at s room at)

-- a box takes bytes of the room, so there are no more boxes than bytes
abbrev pub walked : List ℕ → ℕ → Option ℕ → Walked
walked s room kind = walked_from (suc room) s room kind 0
