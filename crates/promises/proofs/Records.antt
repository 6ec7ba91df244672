-- The calls on colour records keep their promises.
use Rattle.std.specs.Prelude.{Result, Ok, Err}
use mathlib.Core.Path.{◌≡◌, refl, sym, ap, subst, ◌∙◌}
use mathlib.Core.Bool.{Bool, true, false, true≢false, cond}
use mathlib.Core.List.{List}
use mathlib.Core.Logic.{◌↔◌}
use Prim.Native.Nat.{ℕ, ◌+◌, ◌*◌, ◌/◌, ◌%◌, ◌-◌}
use native.Mathlib.Omega.{arith}
use lib.ListN.{length, take, length-drop, take-append-drop}
use Rattle.refusal.specs.Rules.{first, numbered}
use Rattle.refusal.specs.declared.Refusal.{Refusal}
use Rattle.refusal.proofs.RuleLaws.{EveryRule, first_has, never_both, refused_exactly, passed_exactly}
use Rattle.tables.specs.Table.{zeros}
use Rattle.nclx.specs.Record.{wrong_length, record_rules, label_in, Sound, read_by, label_read, record_of, write_rules, written_into}
use Rattle.nclx.specs.Choice.{container_rules, choice_by, choice, last_seven, chosen_part, chosen_number}
use Rattle.nclx.specs.declared.ColourLabel.{ColourLabel}
use Rattle.nclx.proofs.ChoiceLaws.{container_passed, container_sound, stream_sound}
use Rattle.nclx.proofs.TripLaws.{read_passed, written_reads, read_writes}
use Rattle.promises.specs.Records.{ReadsRecord, WritesRecord, WritesInto, PicksRecord, EndOf, LendsPart}
use Rattle.nclx.specs.declared.picking.Winner.{Winner}
use Rattle.nclx.specs.declared.picking.Winner.TheVariants as winner

-- ---- reading

read_refused : (bytes : List ℕ) (c : Result Unit Refusal) (x : Refusal) → (read_by bytes c ≡ Err x) ↔ (c ≡ Err x)
read_refused bytes (Ok u) x = (λ e. absurd (true≢false cc), λ e. absurd (never_both x e))
read_refused bytes (Err y) x = (λ e. cc, λ e. cc)

-- a label is in its own record
code_out : (code : ℕ) → code / 256 * 256 + code % 256 ≡ code
code_out code = omega arith

label_out : (l : ColourLabel) → label_in (record_of l) ≡ l
label_out l = go l.full
  where
    go : (full : Bool) → label_in (record_of (record { primaries = l.primaries; transfer = l.transfer; matrix = l.matrix; full = full })) ≡ record { primaries = l.primaries; transfer = l.transfer; matrix = l.matrix; full = full }
    go true = rw (code_out l.primaries, code_out l.transfer, code_out l.matrix)
    go false = rw (code_out l.primaries, code_out l.transfer, code_out l.matrix)

pub record_reads : (bytes : List ℕ) → ReadsRecord bytes (label_read bytes)
unfolding label_read
record_reads bytes =
    let c = first (record_rules bytes) in
    record {
      refused = λ x. (λ e. (refused_exactly (record_rules bytes) x).0 ((read_refused bytes c x).0 e), λ f. (read_refused bytes c x).1 ((refused_exactly (record_rules bytes) x).1 f));
      accepted = λ l. (
        λ e. ((passed_exactly (record_rules bytes)).0 (read_passed bytes c l e).0, read_writes bytes l e),
        λ h. ap (read_by bytes) ((passed_exactly (record_rules bytes)).1 h.0) ∙ ap Ok (ap label_in (sym h.1) ∙ label_out l),
      );
    }

-- ---- writing

pub record_writes : (l : ColourLabel) → WritesRecord l (record_of l)
record_writes l = record { whole = refl; comes_back = written_reads l }

module _ (l : ColourLabel) (out : List ℕ) where
  -- by whether the buffer has another length
  left_zeros : (b : Bool) (x : Refusal) → ◌≡◌ {A = Result Unit Refusal} (cond b (Err (numbered 20)) (Ok tt)) (Err x) → cond b (zeros (length out)) (record_of l) ≡ zeros (length out)
  left_zeros true x e = refl
  left_zeros false x e = absurd (never_both x e)

  left_record : (b : Bool) → ◌≡◌ {A = Result Unit Refusal} (cond b (Err (numbered 20)) (Ok tt)) (Ok tt) → cond b (zeros (length out)) (record_of l) ≡ record_of l
  left_record true e = absurd (never_both _ (sym e))
  left_record false e = refl

  pub into_writes : WritesInto l out (first (write_rules out)) (written_into l out)
  unfolding first written_into
  into_writes =
      record {
        refused = refused_exactly (write_rules out);
        zeroed = left_zeros (wrong_length out);
        wrote = λ e. subst (WritesRecord l) (sym (left_record (wrong_length out) e)) (record_writes l);
      }

-- ---- choosing

-- what a choice tells of the two checks that it was made by
by_first : (a b : Result Unit Refusal) → (choice_by a b ≡ Ok winner.Container) ↔ (a ≡ Ok tt)
by_first a b = (container_passed a b, λ e. ap (λ z. choice_by z b) e)

by_second : (a b : Result Unit Refusal) → (choice_by a b ≡ Ok winner.Stream) ↔ ((a ≡ Ok tt → ⊥) × (b ≡ Ok tt))
by_second (Ok u) b = (λ e. absurd (true≢false cc), λ h. absurd (h.0 refl))
by_second (Err x) (Ok u) = (λ e. (λ f. never_both x (sym f), refl), λ h. refl)
by_second (Err x) (Err y) = (λ e. absurd (true≢false cc), λ h. absurd (never_both y (sym h.1)))

by_neither : (a b : Result Unit Refusal) (x : Refusal) → (choice_by a b ≡ Err x) ↔ ((a ≡ Err x) × (b ≡ Ok tt → ⊥))
by_neither (Ok u) b x = (λ e. absurd (true≢false cc), λ h. absurd (never_both x h.0))
by_neither (Err y) (Ok u) x = (λ e. absurd (true≢false cc), λ h. absurd (h.1 refl))
by_neither (Err y) (Err z) x = (λ e. (cc, λ f. never_both z (sym f)), λ h. cc)

pub record_picks : (container stream : List ℕ) → PicksRecord container stream (choice container stream)
unfolding choice
record_picks container stream =
    let a = first (container_rules container) in
    let b = first (record_rules stream) in
    let held = passed_exactly (container_rules container) in
    let formed = passed_exactly (record_rules stream) in
    record {
      by_container = (λ e. held.0 ((by_first a b).0 e), λ h. (by_first a b).1 (held.1 h));
      by_stream = (λ e. let t = (by_second a b).0 e in (λ h. t.0 (held.1 h), formed.0 t.1), λ h. (by_second a b).1 (λ e. h.0 (held.0 e), formed.1 h.1));
      refused = λ x. (
        λ e. let t = (by_neither a b x).0 e in ((refused_exactly (container_rules container) x).0 t.0, λ h. t.1 (formed.1 h)),
        λ h. (by_neither a b x).1 ((refused_exactly (container_rules container) x).1 h.0, λ e. h.1 (formed.0 e)),
      );
    }

-- ---- the part, and the number that comes with it

end_of : (bytes : List ℕ) → Sound bytes → EndOf bytes (last_seven bytes)
end_of bytes s =
    record {
      front = take (length bytes - 7) bytes;
      is = take-append-drop (length bytes - 7) bytes;
      long = rw length-drop (omega (arith, s.whole));
    }

-- no refusal has the number 0
abbrev NotNone : Refusal → Type 0
NotNone x = x.number ≡ 0 → ⊥

container_numbers : (bytes : List ℕ) → EveryRule NotNone (container_rules bytes)
container_numbers bytes = (λ e. omega arith, (λ e. omega arith, (λ e. omega arith, (λ e. omega arith, (λ e. omega arith, tt)))))

module _ (container stream : List ℕ) where
  lends_by : (c : Result Winner Refusal) → choice container stream ≡ c → LendsPart container stream c (chosen_part c container stream) (chosen_number c)
  lends_by (Ok winner.Container) e =
      let s = end_of container (container_sound container stream e) in
      record {
        of_container = λ _. (s, refl);
        of_stream = λ f. absurd (true≢false cc);
        of_neither = λ x f. absurd (true≢false cc);
        agree = (λ _. s.long, λ _. refl);
      }
  lends_by (Ok winner.Stream) e =
      let s = end_of stream (stream_sound container stream e) in
      record {
        of_container = λ f. absurd (true≢false cc);
        of_stream = λ _. (s, refl);
        of_neither = λ x f. absurd (true≢false cc);
        agree = (λ _. s.long, λ _. refl);
      }
  lends_by (Err x) e =
      let some = first_has NotNone (container_rules container) x (container_numbers container) ((refused_exactly (container_rules container) x).1 (((record_picks container stream).refused x).0 e).0) in
      record {
        of_container = λ f. absurd (true≢false cc);
        of_stream = λ f. absurd (true≢false cc);
        of_neither = λ y f. (refl, cc);
        agree = (λ n. absurd (some n), λ n. absurd (omega (arith, n)));
      }

  pub record_lends : LendsPart container stream (choice container stream) (chosen_part (choice container stream) container stream) (chosen_number (choice container stream))
  record_lends = lends_by (choice container stream) refl
