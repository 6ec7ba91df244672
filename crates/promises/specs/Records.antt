-- What is promised of the calls on colour records: each refusal exactly if its rule says, a label that is read is the one that was written, and of two
-- records the part that is lent is the end of the winner.
use Rattle.std.specs.Prelude.{◌≡◌, List, [], ◌++◌, ◌↔◌, ℕ, length, Result, Ok, Err}
use Rattle.refusal.specs.Rules.{FirstIs, NoneApplies}
use Rattle.refusal.specs.declared.Refusal.{Refusal}
use Rattle.tables.specs.Table.{zeros}
use Rattle.nclx.specs.Record.{record_bytes, record_rules, CodesFit, label_read, record_of, write_rules}
use Rattle.nclx.specs.Choice.{container_rules, part_bytes}
use Rattle.nclx.specs.declared.ColourLabel.{ColourLabel}
use Rattle.nclx.specs.declared.picking.Winner.{Winner}
use Rattle.nclx.specs.declared.picking.Winner.TheVariants as winner

-- a read record: refused exactly if a rule says so, and else the one label that is written as these bytes
pub record ReadsRecord (bytes : List ℕ) (r : Result ColourLabel Refusal) : Type 0 where
  pub refused : (x : Refusal) → (r ≡ Err x) ↔ FirstIs x (record_rules bytes)
  pub accepted : (l : ColourLabel) → (r ≡ Ok l) ↔ (NoneApplies (record_rules bytes) × (record_of l ≡ bytes))

-- a written label: a record of its length, which reads as the label
pub record WritesRecord (l : ColourLabel) (bytes : List ℕ) : Type 0 where
  pub whole : length bytes ≡ record_bytes
  pub comes_back : CodesFit l → label_read bytes ≡ Ok l

-- a label written into a buffer: 20 and zeros exactly if its length is another
pub record WritesInto (l : ColourLabel) (out : List ℕ) (r : Result Unit Refusal) (new : List ℕ) : Type 0 where
  pub refused : (x : Refusal) → (r ≡ Err x) ↔ FirstIs x (write_rules out)
  pub zeroed : (x : Refusal) → r ≡ Err x → new ≡ zeros (length out)
  pub wrote : r ≡ Ok tt → WritesRecord l new

-- the winner, or the container's refusal
pub record PicksRecord (container stream : List ℕ) (c : Result Winner Refusal) : Type 0 where
  pub by_container : (c ≡ Ok winner.Container) ↔ NoneApplies (container_rules container)
  pub by_stream : (c ≡ Ok winner.Stream) ↔ ((NoneApplies (container_rules container) → ⊥) × NoneApplies (record_rules stream))
  pub refused : (x : Refusal) → (c ≡ Err x) ↔ (FirstIs x (container_rules container) × (NoneApplies (record_rules stream) → ⊥))

-- a part is the end of a record
pub record EndOf (whole part : List ℕ) : Type 0 where
  pub front : List ℕ
  pub is : front ++ part ≡ whole
  pub long : length part ≡ part_bytes

-- the part that is lent, and the number that comes out with it, agree with the choice c
pub record LendsPart (container stream : List ℕ) (c : Result Winner Refusal) (part : List ℕ) (number : ℕ) : Type 0 where
  pub of_container : c ≡ Ok winner.Container → EndOf container part × (number ≡ 0)
  pub of_stream : c ≡ Ok winner.Stream → EndOf stream part × (number ≡ 0)
  pub of_neither : (x : Refusal) → c ≡ Err x → (part ≡ []) × (number ≡ x.number)
  pub agree : (number ≡ 0) ↔ (length part ≡ part_bytes)
