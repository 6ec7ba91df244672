-- What is known of a record that no rule refuses, and what a written one is byte by byte.
use Rattle.std.specs.Prelude.{Ok}
use mathlib.Core.Path.{◌≡◌}
use mathlib.Core.Bool.{Bool, true, false}
use mathlib.Core.List.{List, [], ◌∷◌, ◌++◌}
use Prim.Native.Nat.{ℕ, ◌/◌, ◌%◌, ◌≤◌}
use native.Mathlib.Omega.{arith}
use borrow.Author.Tests.{eqb-true, ltb-false, not-false}
use lib.ListN.{length}
use lib.Seq.{ext_get_or}
use Rattle.refusal.specs.Rules.{first}
use Rattle.refusal.proofs.RuleLaws.{passed_over}
use Rattle.sample.proofs.Choices.{neither}
use Rattle.tables.specs.Table.{tab}
use Rattle.tables.proofs.Tables.{length_tab, tab_at}
use Rattle.nclx.specs.Record.{letters, byte_at, primaries_in, transfer_in, matrix_in, some_code, wrong_length, code_above, record_rules, CodesFit, Sound, code_bytes, range_of, record_of}
use Rattle.nclx.specs.declared.ColourLabel.{ColourLabel}

pub sound : (bytes : List ℕ) → first (record_rules bytes) ≡ Ok tt → Sound bytes
unfolding wrong_length code_above
sound bytes e =
    let long = passed_over _ _ e in
    let named = passed_over _ _ long.1 in
    let codes = passed_over _ _ named.1 in
    let two = neither _ _ codes.0 in
    let three = neither _ _ two.1 in
    record {
      whole = eqb-true _ _ (not-false _ long.0);
      codes = record { primaries_fits = ltb-false _ _ two.0; transfer_fits = ltb-false _ _ three.0; matrix_fits = ltb-false _ _ three.1 };
    }

-- a code of one byte has no high byte
pub code_bytes_lem : (code : ℕ) → code ≤ 255 → code_bytes code ≡ 0 ∷ code ∷ []
code_bytes_lem code h =
    let high : code / 256 ≡ 0 = omega arith in
    let low : code % 256 ≡ code = omega arith in
    rw (high, low)

pub written : (l : ColourLabel) → CodesFit l
    → record_of l ≡ 110 ∷ 99 ∷ 108 ∷ 120 ∷ 0 ∷ l.primaries ∷ 0 ∷ l.transfer ∷ 0 ∷ l.matrix ∷ range_of l.full ∷ []
written l h =
    let p = code_bytes_lem l.primaries h.primaries_fits in
    let t = code_bytes_lem l.transfer h.transfer_fits in
    let m = code_bytes_lem l.matrix h.matrix_fits in
    λ i. letters ++ (p i ++ (t i ++ (m i ++ (range_of l.full ∷ []))))

-- a list is the table of its elements
pub table_of : (bytes : List ℕ) → tab (length bytes) (byte_at bytes) ≡ bytes
table_of bytes =
    let n = length_tab (length bytes) (byte_at bytes) in
    ext_get_or 0 _ _ n (λ i h. tab_at (length bytes) (byte_at bytes) i (omega arith))

-- of the three codes, asked one after the other, the first, the second or the last decides
module _ (test : ℕ → Bool) (bytes : List ℕ) where
  pub first_decides : {p : ℕ} → p ≡ primaries_in bytes → test p ≡ true → true ≡ some_code test bytes
  first_decides e h = rw (← e, h)

  pub second_decides : {p t : ℕ} → p ≡ primaries_in bytes → test p ≡ false → t ≡ transfer_in bytes → test t ≡ true → true ≡ some_code test bytes
  second_decides e h f k = rw (← e, h, ← f, k)

  pub last_decides : {p t m : ℕ} → p ≡ primaries_in bytes → test p ≡ false → t ≡ transfer_in bytes → test t ≡ false → m ≡ matrix_in bytes
      → test m ≡ some_code test bytes
  last_decides e h f k g = rw (← e, h, ← f, k, ← g)
