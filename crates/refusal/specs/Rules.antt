-- The refusals of a call are one list of rules, in the order in which they are tested. The first rule that applies gives the refusal.
use Rattle.std.specs.Prelude.{Bool, true, false, cond, List, [], ◌∷◌, ℕ, Result, Ok, Err}
use Rattle.refusal.specs.declared.Place.{Place}
use Rattle.refusal.specs.declared.Refusal.{Refusal}

-- a place, and the place that a refusal other than 10 has: none, written as zeros
abbrev pub at : ℕ → ℕ → ℕ → Place
at plane row column = record { plane = plane; row = row; column = column }

abbrev pub nowhere : Place
nowhere = at 0 0 0

-- a refusal that names no sample, and refusal 10, which does: its place, and the number that stands there
abbrev pub numbered : ℕ → Refusal
numbered n = record { number = n; place = nowhere; sample = 0 }

abbrev pub bad_at : Place → ℕ → Refusal
bad_at p v = record { number = 10; place = p; sample = v }

pub record Rule : Type 0 where
  pub refusal : Refusal
  pub applies : Bool

-- a rule by its number, and whether it applies
abbrev pub rule : ℕ → Bool → Rule
rule n b = record { refusal = numbered n; applies = b }

-- what a list of rules comes to
unfoldable pub first : List Rule → Result Unit Refusal
first [] = Ok tt
first (r ∷ rs) = cond r.applies (Err r.refusal) (first rs)

-- what two lists come to, one after the other
abbrev pub or_else : Result Unit Refusal → Result Unit Refusal → Result Unit Refusal
or_else (Ok u) c = c
or_else (Err r) c = Err r

-- A rule with the refusal x applies, and no earlier one does.
pub data FirstIs (x : Refusal) : List Rule → Type 0 where
  here : {rs : List Rule} → FirstIs x (record { refusal = x; applies = true } ∷ rs)
  later : {y : Refusal} {rs : List Rule} → FirstIs x rs → FirstIs x (record { refusal = y; applies = false } ∷ rs)

-- No rule applies.
pub data NoneApplies : List Rule → Type 0 where
  end : NoneApplies []
  past : {y : Refusal} {rs : List Rule} → NoneApplies rs → NoneApplies (record { refusal = y; applies = false } ∷ rs)
