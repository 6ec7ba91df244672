-- The trouble that a part of a file is said to have lies in that part.
use Rattle.std.specs.Prelude.{ℕ, ◌≤◌, Result, Ok, Err}
use Rattle.media.specs.declared.records.Said.{Said}
use Rattle.media.specs.declared.finding.Trouble.{Trouble}
use Rattle.media.specs.declared.file.FileSaid.{FileSaid}
use Rattle.media.specs.Inside.{TroubleIn}

abbrev pub SaidIn : ℕ → ℕ → Result Said Trouble → Type 0
SaidIn from end (Ok said) = 0 ≤ end
SaidIn from end (Err t) = TroubleIn from end t

pub record FileIn (size : ℕ) (f : FileSaid) : Type 0 where
  pub whole : SaidIn 0 size f.said
  pub image : SaidIn 0 size f.image
