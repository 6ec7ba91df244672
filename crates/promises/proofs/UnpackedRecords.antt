-- What a call on colour records packs into one number comes out again.
use Rattle.std.specs.Prelude.{Result, Ok, Err}
use mathlib.Core.Path.{◌≡◌, refl, ap, ◌∙◌}
use mathlib.Core.Bool.{cond}
use mathlib.Core.List.{List}
use Prim.Native.Nat.{ℕ}
use native.Mathlib.Omega.{arith}
use lib.Dec.{eqb}
use Rattle.sample.specs.Flag.{one_if}
use Rattle.sample.proofs.FlagLaws.{one_most, one_out}
use Rattle.refusal.specs.Rules.{first}
use Rattle.refusal.specs.declared.Refusal.{Refusal}
use Rattle.refusal.proofs.RuleLaws.{EveryRule, first_has}
use Rattle.nclx.specs.Record.{record_rules, label_in, CodesFit, read_by, label_read, write_rules}
use Rattle.nclx.specs.Choice.{container_rules, choice_by, choice}
use Rattle.nclx.specs.declared.ColourLabel.{ColourLabel}
use Rattle.nclx.proofs.RecordLaws.{sound}
use Rattle.corkplover.specs.Meaning.{refusal_in}
use Rattle.corkplover.specs.Packing.{number_in, packed_refusal}
use Rattle.corkplover.specs.RecordPacking.{label_from, packed_read, packed_check, packed_choice, read_in, check_in, choice_in}
use Rattle.promises.proofs.Fields.{fields}
use Rattle.promises.proofs.Refusing.{Other, other}
use Rattle.promises.proofs.Unpacked.{other_small, refused_means, free_means, refusal_back}

module _ {A : Type 0} (r : Refusal) (o : Other r) (accepted : A) (refused : Refusal → A) where
  -- a refusal, whatever its number would else mean
  refusal_unpacked : cond (eqb (number_in (packed_refusal r)) 0) accepted (refused (refusal_in (packed_refusal r))) ≡ refused r
  refusal_unpacked = let t = refusal_back r (other_small r o) in refused_means _ _ _ t.0 ∙ ap refused t.1

container_others : (bytes : List ℕ) → EveryRule Other (container_rules bytes)
container_others bytes =
    let o = other in
    (o 20 (refl, refl) (omega arith), (o 21 (refl, refl) (omega arith), (o 22 (refl, refl) (omega arith), (o 23 (refl, refl) (omega arith), (o 24 (refl, refl) (omega arith), tt)))))

record_others : (bytes : List ℕ) → EveryRule Other (record_rules bytes)
record_others bytes = let a = container_others bytes in (a.0, (a.1.0, (a.1.1.0, (a.1.1.1.0, tt))))

-- ---- a read

label_unpacked : (l : ColourLabel) → CodesFit l → read_in (packed_read (Ok l)) ≡ Ok l
label_unpacked l h =
    let p = h.primaries_fits in
    let t = h.transfer_fits in
    let small = one_most l.full in
    let f = fields 0 (one_if l.full) l.primaries l.transfer l.matrix (omega arith) (omega arith) (omega arith) (omega arith) in
    free_means _ _ _ (ap (λ n. eqb n 0) f.number_out)
    ∙ (λ i. Ok (label_from (f.first_out i) (f.middle_out i) (f.last_out i) ((ap (λ n. eqb n 1) f.second_out ∙ one_out l.full) i)))

read_by_lem : (bytes : List ℕ) (c : Result Unit Refusal) → first (record_rules bytes) ≡ c → read_in (packed_read (read_by bytes c)) ≡ read_by bytes c
read_by_lem bytes (Ok u) e = label_unpacked (label_in bytes) (sound bytes e).codes
read_by_lem bytes (Err x) e = refusal_unpacked x (first_has Other (record_rules bytes) x (record_others bytes) e) _ Err

pub read_unpacked : (bytes : List ℕ) → read_in (packed_read (label_read bytes)) ≡ label_read bytes
unfolding label_read
read_unpacked bytes = read_by_lem bytes (first (record_rules bytes)) refl

-- ---- a write

write_by : (out : List ℕ) (c : Result Unit Refusal) → first (write_rules out) ≡ c → check_in (packed_check c) ≡ c
write_by out (Ok u) e = refl
write_by out (Err x) e = refusal_unpacked x (first_has Other (write_rules out) x ((container_others out).0, tt) e) _ Err

pub write_unpacked : (out : List ℕ) → check_in (packed_check (first (write_rules out))) ≡ first (write_rules out)
write_unpacked out = write_by out (first (write_rules out)) refl

-- ---- a choice

choice_by_lem : (container : List ℕ) (a b : Result Unit Refusal) → first (container_rules container) ≡ a → choice_in (packed_choice (choice_by a b)) ≡ choice_by a b
choice_by_lem container (Ok u) b e = refl
choice_by_lem container (Err x) (Ok u) e = refl
choice_by_lem container (Err x) (Err y) e = refusal_unpacked x (first_has Other (container_rules container) x (container_others container) e) _ Err

pub choice_unpacked : (container stream : List ℕ) → choice_in (packed_choice (choice container stream)) ≡ choice container stream
unfolding choice
choice_unpacked container stream = choice_by_lem container (first (container_rules container)) (first (record_rules stream)) refl
