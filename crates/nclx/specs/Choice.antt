-- Two records, the container's and the stream's, and which of them wins.
use Rattle.std.specs.Prelude.{Bool, List, [], ◌∷◌, ◌++◌, ℕ, ◌-◌, eqb, length, drop, Result, Ok, Err}
use Rattle.refusal.specs.Rules.{Rule, rule, first}
use Rattle.nclx.specs.Record.{some_code, record_rules}
use Rattle.refusal.specs.declared.Refusal.{Refusal}
use Rattle.nclx.specs.declared.picking.Winner.{Winner}
use Rattle.nclx.specs.declared.picking.Winner.TheVariants as winner

-- one of the three codes is 2, unspecified
unfoldable pub unspecified_code : List ℕ → Bool
unspecified_code bytes = some_code (eqb 2) bytes

-- the container is held to one rule more
abbrev pub container_rules : List ℕ → List Rule
container_rules bytes = record_rules bytes ++ (rule 24 (unspecified_code bytes) ∷ [])

-- the container wins if it passes; otherwise the stream, if it is well formed; and if neither, the refusal is the container's
abbrev pub choice_by : Result Unit Refusal → Result Unit Refusal → Result Winner Refusal
choice_by (Ok u) s = Ok winner.Container
choice_by (Err x) (Ok u) = Ok winner.Stream
choice_by (Err x) (Err y) = Err x

unfoldable pub choice : List ℕ → List ℕ → Result Winner Refusal
choice container stream = choice_by (first (container_rules container)) (first (record_rules stream))

-- how long the part of a record is that is lent on, and that part: its end
abbrev pub part_bytes : ℕ
part_bytes = 7

abbrev pub last_seven : List ℕ → List ℕ
last_seven bytes = drop (length bytes - part_bytes) bytes

-- what comes out together: the winner's part, and 0, or nothing, and the refusal's number
abbrev pub chosen_part : Result Winner Refusal → List ℕ → List ℕ → List ℕ
chosen_part (Ok winner.Container) container stream = last_seven container
chosen_part (Ok winner.Stream) container stream = last_seven stream
chosen_part (Err x) container stream = []

abbrev pub chosen_number : Result Winner Refusal → ℕ
chosen_number (Ok winner.Container) = 0
chosen_number (Ok winner.Stream) = 0
chosen_number (Err x) = x.number
