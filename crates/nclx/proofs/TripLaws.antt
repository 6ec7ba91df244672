-- A label that is written reads as itself, and a record that is read is written as it was.
use Rattle.std.specs.Prelude.{Result, Ok, Err}
use mathlib.Core.Path.{◌≡◌, refl, sym, ap, ◌∙◌}
use mathlib.Core.Bool.{Bool, true, false, not, ◌||◌, or-false, true≢false}
use mathlib.Core.List.{List, [], ◌∷◌}
use Prim.Native.Nat.{ℕ, zero, suc, ◌+◌, ◌*◌, ◌≤◌}
use native.Mathlib.Omega.{arith}
use borrow.Author.Tests.{eqb-true, le-ltb, not-false}
use lib.Dec.{eqb, ltb}
use lib.ListN.{length, drop}
use lib.Seq.{drop-cons, drop-length}
use Rattle.refusal.specs.Rules.{first}
use Rattle.refusal.proofs.RuleLaws.{passed_over}
use Rattle.sample.proofs.Choices.{both_true}
use Rattle.nclx.specs.Record.{byte_at, range_in, flag, full_in, CodesFit, Sound, wrong_length, other_letters, code_above, reserved_bit, record_rules, read_by, label_in, label_read, range_of, record_of}
use Rattle.nclx.specs.declared.ColourLabel.{ColourLabel}
use Rattle.nclx.proofs.RecordLaws.{sound, written}
use Rattle.refusal.specs.declared.Refusal.{Refusal}

-- ---- written, then read

low : (code : ℕ) → 0 * 256 + code ≡ code
low code = omega arith

below : (code : ℕ) → code ≤ 255 → ltb 255 (0 * 256 + code) ≡ false
below code h = le-ltb 255 (0 * 256 + code) (omega arith)

module _ (p t m : ℕ) (hp : p ≤ 255) (ht : t ≤ 255) (hm : m ≤ 255) where
  abbrev plain : Bool → List ℕ
  plain full = 110 ∷ 99 ∷ 108 ∷ 120 ∷ 0 ∷ p ∷ 0 ∷ t ∷ 0 ∷ m ∷ range_of full ∷ []

  plain_passes : (full : Bool) → first (record_rules (plain full)) ≡ Ok tt
  unfolding first wrong_length other_letters code_above reserved_bit
  plain_passes true = rw (below p hp, below t ht, below m hm)
  plain_passes false = rw (below p hp, below t ht, below m hm)

  plain_reads : (full : Bool) → label_read (plain full) ≡ Ok (record { primaries = p; transfer = t; matrix = m; full = full })
  unfolding label_read
  plain_reads true = ap (read_by (plain true)) (plain_passes true) ∙ rw (low p, low t, low m)
  plain_reads false = ap (read_by (plain false)) (plain_passes false) ∙ rw (low p, low t, low m)

-- reading what was written gives the label
pub written_reads : (l : ColourLabel) → CodesFit l → label_read (record_of l) ≡ Ok l
written_reads l h =
    rw (written l h) (plain_reads l.primaries l.transfer l.matrix h.primaries_fits h.transfer_fits h.matrix_fits l.full)

-- ---- read, then written

-- the elements of a list from place k on, one by one
abbrev elements : ℕ → ℕ → List ℕ → List ℕ
elements k zero l = []
elements k (suc n) l = byte_at l k ∷ elements (suc k) n l

elements_are : (n k : ℕ) (l : List ℕ) → k + n ≡ length l → elements k n l ≡ drop k l
elements_are zero k l e = let h : length l ≡ k = omega arith in rw (← h, drop-length)
elements_are (suc n) k l e = ap (λ z. byte_at l k ∷ z) (elements_are n (suc k) l (omega arith)) ∙ sym (drop-cons l k 0 (omega arith))

-- the last byte is the flag's, where no other bit is set
range_back : (n : ℕ) (b : Bool) → eqb n flag ≡ b → not (eqb n 0 || b) ≡ false → range_of b ≡ n
range_back n true e h = sym (eqb-true n flag e)
range_back n false e h = sym (eqb-true n 0 (sym (or-false (eqb n 0)) ∙ not-false _ h))

-- a record that passes the rules, byte by byte
record Kept (bytes : List ℕ) : Type 0 where
  is_sound : Sound bytes
  letter0 : byte_at bytes 0 ≡ 110
  letter1 : byte_at bytes 1 ≡ 99
  letter2 : byte_at bytes 2 ≡ 108
  letter3 : byte_at bytes 3 ≡ 120
  range : range_of (full_in bytes) ≡ range_in bytes

kept : (bytes : List ℕ) → first (record_rules bytes) ≡ Ok tt → Kept bytes
unfolding other_letters reserved_bit
kept bytes e =
    let long = passed_over _ _ e in
    let named = passed_over _ _ long.1 in
    let codes = passed_over _ _ named.1 in
    let bits = passed_over _ _ codes.1 in
    let n = both_true _ _ (not-false _ named.0) in
    let c = both_true _ _ n.1 in
    let l = both_true _ _ c.1 in
    record {
      is_sound = sound bytes e;
      letter0 = eqb-true _ _ n.0;
      letter1 = eqb-true _ _ c.0;
      letter2 = eqb-true _ _ l.0;
      letter3 = eqb-true _ _ l.1;
      range = range_back (range_in bytes) (full_in bytes) refl bits.0;
    }

-- a code that fits a byte has its high byte 0, and is its low byte
high_byte : (a b : ℕ) → a * 256 + b ≤ 255 → 0 ≡ a
high_byte a b h = omega arith

low_byte_lem : (a b : ℕ) → a * 256 + b ≤ 255 → a * 256 + b ≡ b
low_byte_lem a b h = omega arith

module _ (bytes : List ℕ) (k : Kept bytes) where
  rewritten : record_of (label_in bytes) ≡ elements 0 11 bytes
  rewritten =
      let s = k.is_sound.codes in
      let p = s.primaries_fits in
      let t = s.transfer_fits in
      let m = s.matrix_fits in
      written (label_in bytes) s
      ∙ (λ i. sym k.letter0 i ∷ sym k.letter1 i ∷ sym k.letter2 i ∷ sym k.letter3 i
      ∷ high_byte (byte_at bytes 4) (byte_at bytes 5) p i ∷ low_byte_lem (byte_at bytes 4) (byte_at bytes 5) p i
      ∷ high_byte (byte_at bytes 6) (byte_at bytes 7) t i ∷ low_byte_lem (byte_at bytes 6) (byte_at bytes 7) t i
      ∷ high_byte (byte_at bytes 8) (byte_at bytes 9) m i ∷ low_byte_lem (byte_at bytes 8) (byte_at bytes 9) m i
      ∷ k.range i ∷ [])

  same_record : record_of (label_in bytes) ≡ bytes
  same_record = rewritten ∙ elements_are 11 0 bytes (sym k.is_sound.whole)

-- what a read comes to tells what the rules came to
pub read_passed : (bytes : List ℕ) (c : Result Unit Refusal) (l : ColourLabel) → read_by bytes c ≡ Ok l → (c ≡ Ok tt) × (label_in bytes ≡ l)
read_passed bytes (Ok u) l e = (refl, cc)
read_passed bytes (Err x) l e = absurd (true≢false cc)

-- a record is accepted with a label exactly if no rule refuses it and it is that label, written
pub read_writes : (bytes : List ℕ) (l : ColourLabel) → label_read bytes ≡ Ok l → record_of l ≡ bytes
unfolding label_read
read_writes bytes l e =
    let t = read_passed bytes (first (record_rules bytes)) l e in
    ap record_of (sym t.1) ∙ same_record bytes (kept bytes t.0)
