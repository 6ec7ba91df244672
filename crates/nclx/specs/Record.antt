-- The 'nclx' colour record of ISO/IEC 14496-12: four letters, then primaries, transfer and matrix as 16-bit numbers, high byte first, then one byte
-- with the full-range flag on top and seven reserved bits below it.
use Rattle.std.specs.Prelude.{◌≡◌, Bool, not, cond, ◌&&◌, ◌||◌, List, [], ◌∷◌, ◌++◌, ℕ, ◌+◌, ◌*◌, ◌/◌, ◌%◌, ◌≤◌, eqb, ltb, length, get_or, Result, Ok, Err}
use Rattle.refusal.specs.Rules.{Rule, rule, first}
use Rattle.tables.specs.Table.{zeros}
use Rattle.nclx.specs.declared.ColourLabel.{ColourLabel}
use Rattle.refusal.specs.declared.Refusal.{Refusal}

-- how long a record is, and how it begins: n, c, l, x
abbrev pub record_bytes : ℕ
record_bytes = 11

abbrev pub letters : List ℕ
letters = 110 ∷ 99 ∷ 108 ∷ 120 ∷ []

-- the byte at a place of a record, and the code of two bytes there
abbrev pub byte_at : List ℕ → ℕ → ℕ
byte_at bytes at = get_or bytes at 0

abbrev pub code_at : List ℕ → ℕ → ℕ
code_at bytes at = byte_at bytes at * 256 + byte_at bytes (at + 1)

abbrev pub primaries_in : List ℕ → ℕ
primaries_in bytes = code_at bytes 4

abbrev pub transfer_in : List ℕ → ℕ
transfer_in bytes = code_at bytes 6

abbrev pub matrix_in : List ℕ → ℕ
matrix_in bytes = code_at bytes 8

-- the last byte, and its highest bit, which is the flag
abbrev pub range_in : List ℕ → ℕ
range_in bytes = byte_at bytes 10

abbrev pub flag : ℕ
flag = 128

abbrev pub full_in : List ℕ → Bool
full_in bytes = eqb (range_in bytes) flag

-- ---- the rules on a record, in their order

unfoldable pub wrong_length : List ℕ → Bool
wrong_length bytes = not (eqb (length bytes) record_bytes)

abbrev pub is_letter : List ℕ → ℕ → Bool
is_letter bytes n = eqb (byte_at bytes n) (byte_at letters n)

unfoldable pub other_letters : List ℕ → Bool
other_letters bytes = not (is_letter bytes 0 && (is_letter bytes 1 && (is_letter bytes 2 && is_letter bytes 3)))

-- a test holds of one of the three codes
abbrev pub some_code : (ℕ → Bool) → List ℕ → Bool
some_code test bytes = test (primaries_in bytes) || (test (transfer_in bytes) || test (matrix_in bytes))

unfoldable pub code_above : List ℕ → Bool
code_above bytes = some_code (ltb 255) bytes

-- something beside the flag is set
unfoldable pub reserved_bit : List ℕ → Bool
reserved_bit bytes = not (eqb (range_in bytes) 0 || eqb (range_in bytes) flag)

abbrev pub record_rules : List ℕ → List Rule
record_rules bytes =
    rule 20 (wrong_length bytes) ∷ rule 21 (other_letters bytes) ∷ rule 22 (code_above bytes) ∷ rule 23 (reserved_bit bytes) ∷ []

-- what a record that no rule refuses says
abbrev pub label_in : List ℕ → ColourLabel
label_in bytes =
    record { primaries = primaries_in bytes; transfer = transfer_in bytes; matrix = matrix_in bytes; full = full_in bytes }

-- a label whose codes are bytes
pub record CodesFit (l : ColourLabel) : Type 0 where
  pub primaries_fits : l.primaries ≤ 255
  pub transfer_fits : l.transfer ≤ 255
  pub matrix_fits : l.matrix ≤ 255

-- what is known of such a record
pub record Sound (bytes : List ℕ) : Type 0 where
  pub whole : length bytes ≡ record_bytes
  pub codes : CodesFit (label_in bytes)

abbrev pub read_by : List ℕ → Result Unit Refusal → Result ColourLabel Refusal
read_by bytes (Ok u) = Ok (label_in bytes)
read_by bytes (Err x) = Err x

unfoldable pub label_read : List ℕ → Result ColourLabel Refusal
label_read bytes = read_by bytes (first (record_rules bytes))

-- ---- a label, written

abbrev pub code_bytes : ℕ → List ℕ
code_bytes code = code / 256 ∷ code % 256 ∷ []

abbrev pub range_of : Bool → ℕ
range_of full = cond full flag 0

abbrev pub record_of : ColourLabel → List ℕ
record_of l = letters ++ (code_bytes l.primaries ++ (code_bytes l.transfer ++ (code_bytes l.matrix ++ (range_of l.full ∷ []))))

-- what a buffer holds that a label was written into: the record, or zeros where it has another length
abbrev pub write_rules : List ℕ → List Rule
write_rules out = rule 20 (wrong_length out) ∷ []

unfoldable pub written_into : ColourLabel → List ℕ → List ℕ
written_into l out = cond (wrong_length out) (zeros (length out)) (record_of l)
