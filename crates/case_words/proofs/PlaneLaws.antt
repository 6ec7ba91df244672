-- A plane is read sample by sample: what was read stands in front of what is still to be read.
use mathlib.Core.Path.{◌≡◌, refl, sym, ap, ◌∙◌}
use mathlib.Core.Bool.{Bool, true, false}
use mathlib.Core.List.{List, [], ◌∷◌, ◌++◌, append_assoc, append-nil}
use Prim.Native.Nat.{ℕ, zero, suc, ◌+◌, ◌-◌, ◌<◌}
use native.Mathlib.Numerals.{add-one}
use native.Mathlib.Omega.{arith}
use lib.ListN.{length as size, take, drop, set, replicate, take-append-drop}
use lib.Seq.{drop-drop, drop-set-lt, take-suc-set}
use Rattle.std.specs.Prelude.{Option, Some, None}
use Rattle.std.proofs.lemmas.List.{drop-replicate}
use Rattle.text.specs.Words.{word_of, rest_of}
use Rattle.text.specs.Numerals.{number_of}
use Rattle.request.specs.Form.{largest_sample}
use Rattle.case_words.specs.Lines.{Read, read_on, read}

abbrev pub glue : List ℕ → Read → Read
glue front r = record { samples = front ++ r.samples; all = r.all; rest = r.rest }

module _ (gap : ℕ) (t : List ℕ) where
  read_next : (k : ℕ) → 0 < k
      → read gap t k
      ≡ read_on (rest_of gap t) (number_of (word_of gap t 0) largest_sample) (k - 1)
      (read gap (rest_of gap t) (k - 1))
  unfolding read
  read_next zero h = absurd (omega arith)
  read_next (suc k) h = let e : suc k - 1 ≡ k = omega arith in rw e refl

  -- one sample more
  pub read_more : (front : List ℕ) (k v : ℕ) (r : Read) → 0 < k → number_of (word_of gap t 0) largest_sample ≡ Some v
      → glue front (read gap t k) ≡ r → glue (front ++ (v ∷ [])) (read gap (rest_of gap t) (k - 1)) ≡ r
  read_more front k v r h e f = rw append_assoc (sym (rw e at (ap (glue front) (read_next k h))) ∙ f)

  -- a word that is none
  pub read_none : (front : List ℕ) (k : ℕ) (r : Read) → 0 < k → number_of (word_of gap t 0) largest_sample ≡ None
      → glue front (read gap t k) ≡ r
      → (r.samples ≡ front ++ replicate k 0) × (r.all ≡ false) × (r.rest ≡ rest_of gap t)
  unfolding read
  read_none front zero r h e f = absurd (omega arith)
  read_none front (suc k) r h e f =
      let g = rw e at (sym f) in
      (ap (λ (x : Read). x.samples) g, ap (λ (x : Read). x.all) g, ap (λ (x : Read). x.rest) g)

  -- nothing is left to read
  pub read_end : (front : List ℕ) (k : ℕ) (r : Read) → k ≡ 0 → glue front (read gap t k) ≡ r → r ≡ record { samples = front; all = true; rest = t }
  unfolding read
  read_end front zero r h f = sym f ∙ rw (append-nil front) refl
  read_end front (suc k) r h f = absurd (omega arith)

-- the buffer after so many samples
pub over_more : (out : List ℕ) (i v n : ℕ) → i < n → size out ≡ n → drop i out ≡ replicate (n - i) 0
    → drop (i + 1) (set out i v) ≡ replicate (n - (i + 1)) 0
over_more out i v n h l e =
    drop-set-lt (i + 1) out i v (omega arith) ∙ sym (drop-drop 1 i out) ∙ ap (drop 1) e ∙ drop-replicate 1 (n - i) 0
    ∙ ap (λ k. replicate k 0) (omega arith)

pub take_more : (out : List ℕ) (i v : ℕ) → i < size out → take (i + 1) (set out i v) ≡ take i out ++ (v ∷ [])
take_more out i v h = rw (add-one i) (take-suc-set out i v h)

pub both_parts : (out z : List ℕ) (i : ℕ) → drop i out ≡ z → out ≡ take i out ++ z
both_parts out z i e = sym (take-append-drop i out) ∙ ap (λ x. take i out ++ x) e
