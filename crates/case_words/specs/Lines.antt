-- A line with planes: its sizes are words by their number, its planes are numbers read one after the other, each where the one before ended.
use Rattle.std.specs.Prelude.{Bool, true, false, List, [], ◌∷◌, ◌++◌, ℕ, zero, suc, ◌+◌, ◌*◌, ◌-◌, ◌%◌, ◌^◌, length as size, get_or, drop, replicate, Option, Some, None, Result, Ok, option_and_then, cond}
use Rattle.tables.specs.Table.{tab}
use Rattle.text.specs.Words.{word_of, rest_of}
use Rattle.text.specs.Numerals.{number_of}
use Rattle.request.specs.Form.{largest_sample, number_word, setting_words, next}
use Rattle.case_words.specs.declared.Picture.{Picture}

-- the ranges are called 0 and 1
abbrev pub narrow : List ℕ
narrow = 48 ∷ []

abbrev pub full : List ℕ
full = 49 ∷ []

-- the largest number of 64 bits: the largest size that a word may say
abbrev pub largest : ℕ
largest = 2 ^ 64 - 1

-- word n as a width, a height or a stride
abbrev pub size_word : ℕ → List ℕ → ℕ → Result ℕ ℕ
size_word gap line n = number_word gap line n largest

-- words 1 to 11
unfoldable pub picture_words : ℕ → List ℕ → ℕ → Result Picture ℕ
picture_words gap line edition =
    next (setting_words edition gap line narrow full) (λ w.
    next (size_word gap line 9) (λ width.
    next (size_word gap line 10) (λ height.
    next (size_word gap line 11) (λ stride.
    Ok (record { setting = w; width = width; height = height; stride = stride })))))

-- so many samples, with which a text begins: themselves, whether all of them are samples, and what
-- stands behind them, or behind the first word that is none
pub record Read : Type 0 where
  pub samples : List ℕ
  pub all : Bool
  pub rest : List ℕ

-- from a word that is none on the samples are zeros, and no word is read
abbrev pub read_on : List ℕ → Option ℕ → ℕ → Read → Read
read_on rest (Some v) n more = record { samples = v ∷ more.samples; all = more.all; rest = more.rest }
read_on rest None n more = record { samples = replicate (suc n) 0; all = false; rest = rest }

unfoldable pub read : ℕ → List ℕ → ℕ → Read
read gap s zero = record { samples = []; all = true; rest = s }
read gap s (suc n) =
    read_on (rest_of gap s) (number_of (word_of gap s 0) largest_sample) n (read gap (rest_of gap s) n)

-- a plane says its length first; there is none where a word is at fault
abbrev pub length_at : ℕ → List ℕ → ℕ → Option ℕ
length_at gap s room = number_of (word_of gap s 0) room

abbrev pub plane_of : ℕ → List ℕ → ℕ → Option ℕ
plane_of gap s n = cond (read gap (rest_of gap s) n).all (Some n) None

abbrev pub plane_at : ℕ → List ℕ → ℕ → Option ℕ
plane_at gap s room = option_and_then (plane_of gap s) (length_at gap s room)

-- what stands behind it, or behind the word at fault
abbrev pub behind : ℕ → List ℕ → Option ℕ → List ℕ
behind gap s (Some n) = (read gap (rest_of gap s) n).rest
behind gap s None = rest_of gap s

abbrev pub plane_rest : ℕ → List ℕ → ℕ → List ℕ
plane_rest gap s room = behind gap s (length_at gap s room)

-- its samples, before what stood behind them in a buffer
abbrev pub over : ℕ → List ℕ → List ℕ → Option ℕ → List ℕ
over gap s out (Some n) = (read gap (rest_of gap s) n).samples ++ drop n out
over gap s out None = out

abbrev pub plane_over : ℕ → List ℕ → List ℕ → List ℕ
plane_over gap s out = over gap s out (length_at gap s (size out))

-- a record is read as a plane is; its numbers are bytes then, with zeros behind them
abbrev pub record_room : ℕ
record_room = 300

abbrev pub low_byte : List ℕ → ℕ → ℕ
low_byte numbers i = get_or numbers i 0 % 256

unfoldable pub record_over : ℕ → List ℕ → ℕ → List ℕ
record_over gap s n = tab n (low_byte (plane_over gap s (replicate record_room 0)))

-- what an output plane of n elements holds before the call
abbrev pub old_sample : ℕ → ℕ → ℕ
old_sample fill i = (fill + 7919 * i) % (largest_sample + 1)

abbrev pub old_plane : ℕ → ℕ → List ℕ
old_plane fill n = tab n (old_sample fill)
