-- The answers of the calls on colour records, as one number each. A label that was read has its flag from bit 8, its primaries from bit 16, its transfer from
-- bit 32 and its matrix from bit 48; a choice is 0 from bit 8 for the container and 1 for the stream.
use Rattle.std.specs.Prelude.{◌≡◌, Bool, cond, List, ℕ, eqb, Result, Ok, Err}
use Rattle.sample.specs.Flag.{one_if}
use Rattle.refusal.specs.Rules.{first}
use Rattle.nclx.specs.Record.{write_rules, written_into}
use Rattle.nclx.specs.declared.ColourLabel.{ColourLabel}
use Rattle.corkplover.specs.Packing.{packed, number_in, second_in, first_in, middle_in, last_in, packed_refusal, packed_done}
use Rattle.corkplover.specs.Meaning.{refusal_in}
use Rattle.refusal.specs.declared.Refusal.{Refusal}
use Rattle.nclx.specs.declared.picking.Winner.{Winner}
use Rattle.nclx.specs.declared.picking.Winner.TheVariants as winner

-- a label of four parameters
abbrev pub label_from : ℕ → ℕ → ℕ → Bool → ColourLabel
label_from primaries transfer matrix full = record { primaries = primaries; transfer = transfer; matrix = matrix; full = full }

abbrev pub packed_read : Result ColourLabel Refusal → ℕ
packed_read (Ok l) = packed 0 (one_if l.full) l.primaries l.transfer l.matrix
packed_read (Err r) = packed_refusal r

abbrev pub packed_check : Result Unit Refusal → ℕ
packed_check = packed_done

abbrev pub packed_choice : Result Winner Refusal → ℕ
packed_choice (Ok winner.Container) = 0
packed_choice (Ok winner.Stream) = packed 0 1 0 0 0
packed_choice (Err r) = packed_refusal r

-- what a write leaves: its number, and the buffer
abbrev pub WrittenAfter : ColourLabel → List ℕ → ℕ → List ℕ → Type 0
WrittenAfter l out x new = (x ≡ packed_check (first (write_rules out))) × (new ≡ written_into l out)

-- ---- what a caller reads off the number

abbrev pub read_in : ℕ → Result ColourLabel Refusal
read_in x = cond (eqb (number_in x) 0) (Ok (label_from (first_in x) (middle_in x) (last_in x) (eqb (second_in x) 1))) (Err (refusal_in x))

abbrev pub check_in : ℕ → Result Unit Refusal
check_in x = cond (eqb (number_in x) 0) (Ok tt) (Err (refusal_in x))

abbrev pub choice_in : ℕ → Result Winner Refusal
choice_in x = cond (eqb (number_in x) 0) (cond (eqb (second_in x) 0) (Ok winner.Container) (Ok winner.Stream)) (Err (refusal_in x))
