-- The record that wins is well formed.
use Rattle.std.specs.Prelude.{Result, Ok, Err}
use mathlib.Core.Path.{◌≡◌, refl, sym, ◌∙◌}
use mathlib.Core.Bool.{true≢false}
use mathlib.Core.List.{List, [], ◌∷◌}
use Prim.Native.Nat.{ℕ}
use Rattle.refusal.specs.Rules.{rule, first}
use Rattle.refusal.proofs.RuleLaws.{first_append, neither}
use Rattle.nclx.specs.Record.{record_rules, Sound}
use Rattle.nclx.specs.Choice.{unspecified_code, container_rules, choice_by, choice}
use Rattle.nclx.proofs.RecordLaws.{sound}
use Rattle.refusal.specs.declared.Refusal.{Refusal}
use Rattle.nclx.specs.declared.picking.Winner.TheVariants as winner

pub container_passed : (a b : Result Unit Refusal) → choice_by a b ≡ Ok winner.Container → a ≡ Ok tt
container_passed (Ok u) b e = refl
container_passed (Err x) (Ok u) e = absurd (true≢false cc)
container_passed (Err x) (Err y) e = absurd (true≢false cc)

pub stream_passed : (a b : Result Unit Refusal) → choice_by a b ≡ Ok winner.Stream → b ≡ Ok tt
stream_passed (Ok u) b e = absurd (true≢false cc)
stream_passed (Err x) (Ok u) e = refl
stream_passed (Err x) (Err y) e = absurd (true≢false cc)

-- the container's rules are those of every record, and one more
pub of_record : (bytes : List ℕ) → first (container_rules bytes) ≡ Ok tt → first (record_rules bytes) ≡ Ok tt
of_record bytes e = (neither _ _ (sym (first_append (record_rules bytes) (rule 24 (unspecified_code bytes) ∷ [])) ∙ e)).0

pub container_sound : (container stream : List ℕ) → choice container stream ≡ Ok winner.Container → Sound container
unfolding choice
container_sound container stream e = sound container (of_record container (container_passed _ _ e))

pub stream_sound : (container stream : List ℕ) → choice container stream ≡ Ok winner.Stream → Sound stream
unfolding choice
stream_sound container stream e = sound stream (stream_passed (first (container_rules container)) _ e)
