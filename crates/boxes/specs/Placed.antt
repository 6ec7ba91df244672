-- Where what a walk names lies: within the room.
use Rattle.std.specs.Prelude.{ℕ, ◌+◌, ◌≤◌, ◌<◌}
use Rattle.boxes.specs.declared.Header.{Header}
use Rattle.boxes.specs.declared.Walked.{Walked}
use Rattle.boxes.specs.declared.Walked.TheVariants.{Found, Beyond, Small, Further, Cut, End}

-- a whole box with its header
pub record Lies (room : ℕ) (h : Header) : Type 0 where
  pub some : 8 ≤ h.length
  pub short : h.length ≤ 16
  pub headed : h.length ≤ h.size
  pub within : h.at + h.size ≤ room

-- reading goes on further on, where at least the largest header was read
pub record Onward (read room at : ℕ) : Type 0 where
  pub more : 16 ≤ read → 0 < at
  pub within : at ≤ room

abbrev pub PlacedBy : ℕ → ℕ → Walked → Type 0
PlacedBy read room (Found h) = Lies room h
PlacedBy read room (Beyond h) = h.at ≤ room
PlacedBy read room (Small h) = h.at ≤ room
PlacedBy read room (Further at) = Onward read room at
PlacedBy read room (Cut at) = at ≤ room
PlacedBy read room End = 0 ≤ room

pub record Placed (read room : ℕ) (w : Walked) : Type 0 where
  pub is : PlacedBy read room w
