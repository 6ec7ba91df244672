-- Where what was found in a part of a file lies: inside that part. What was read can't be spoken of.
use Rattle.std.specs.Prelude.{ℕ, ◌≤◌, ◌<◌, Option, Some, None, Result, Ok, Err}
use Rattle.boxes.specs.declared.Walked.{Walked}
use Rattle.boxes.specs.declared.Walked.TheVariants as walked
use Rattle.boxes.specs.Placed.{Lies}
use Rattle.media.specs.declared.finding.Span.{Span}
use Rattle.media.specs.declared.finding.Trouble.{Trouble}
use Rattle.media.specs.declared.finding.Trouble.TheVariants as trouble

-- what a walk names, whatever was read
abbrev pub Lying : ℕ → Walked → Type 0
Lying room (walked.Found h) = Lies room h
Lying room (walked.Beyond h) = h.at ≤ room
Lying room (walked.Small h) = h.at ≤ room
Lying room (walked.Further at) = at ≤ room
Lying room (walked.Cut at) = at ≤ room
Lying room walked.End = 0 ≤ room

-- a position
pub record Between (from end at : ℕ) : Type 0 where
  pub after : from ≤ at
  pub before : at ≤ end

-- a part
pub record Part (from end : ℕ) (s : Span) : Type 0 where
  pub after : from ≤ s.from
  pub whole : s.from ≤ s.end
  pub before : s.end ≤ end

-- the box that trouble is with
abbrev pub TroubleIn : ℕ → ℕ → Trouble → Type 0
TroubleIn from end (trouble.Unread reason) = 0 ≤ end
TroubleIn from end trouble.Ended = 0 ≤ end
TroubleIn from end trouble.Stranger = 0 ≤ end
TroubleIn from end (trouble.Beyond h left) = Between from end h.at
TroubleIn from end (trouble.Small h least) = Between from end h.at
TroubleIn from end (trouble.Cut at left) = Between from end at

-- what a path led to
abbrev pub Here : ℕ → ℕ → Result (Option Span) Trouble → Type 0
Here from end (Ok (Some s)) = Part from end s
Here from end (Ok None) = 0 ≤ end
Here from end (Err t) = TroubleIn from end t

-- a box holds less than the part that it was found in, so that a search goes on further on
pub record Within (from end : ℕ) (s : Span) : Type 0 where
  pub part : Part from end s
  pub onward : from < s.end

abbrev pub FoundIn : ℕ → ℕ → Result (Option Span) Trouble → Type 0
FoundIn from end (Ok (Some s)) = Within from end s
FoundIn from end (Ok None) = 0 ≤ end
FoundIn from end (Err t) = TroubleIn from end t
