-- Where a word ends, the rest of a text begins: so words found one after the other are the words of the whole.
use mathlib.Core.Path.{◌≡◌, refl, sym, ap, ◌∙◌}
use mathlib.Core.Bool.{Bool, true, false, cond, not, ◌&&◌}
use mathlib.Core.List.{List, [], ◌∷◌}
use Prim.Native.Nat.{ℕ, suc, ◌+◌, ◌-◌, ◌≤◌, ◌<◌}
use native.Mathlib.Decide.{dec_lt}
use native.Mathlib.Nat.{add-zero}
use native.Mathlib.Numerals.{add-one, one-add}
use native.Mathlib.Omega.{arith}
use borrow.Author.Tests.{eq-eqb, ne_eqb, lt-ltb, le-ltb}
use lib.Dec.{eqb, ltb}
use lib.Pointwise.{pointwise}
use lib.ListN.{length, get_or, take, drop, length-drop, drop_of_length-le}
use lib.Seq.{drop-drop, get_or-drop, take_all}
use Rattle.std.specs.Prelude.{Option, Some, None, option_map, position}
use Rattle.std.specs.List.{position_or_len}
use Rattle.std.proofs.lemmas.List.Recursion.{is_position_or_len}
use Rattle.text.specs.Words.{begun, split, word_of, before, text_from, same_word, index_in, After}

-- the bytes before the first gap, one byte at a time
before_gap : (gap b : ℕ) (s : List ℕ) → b ≡ gap → before gap (b ∷ s) ≡ 0
unfolding before
before_gap gap b s e = rw (eq-eqb b gap e)

before_other : (gap b : ℕ) (s : List ℕ) → (b ≡ gap → ⊥) → before gap (b ∷ s) ≡ suc (before gap s)
unfolding before
before_other gap b s f = rw (ne_eqb b gap f)

before_most : (gap : ℕ) (s : List ℕ) → before gap s ≤ length s
unfolding before
before_most gap [] = omega arith
before_most gap (b ∷ s) = go (eqb b gap) (before_most gap s)
  where
    go : (t : Bool) → before gap s ≤ length s → cond t 0 (suc (before gap s)) ≤ length (b ∷ s)
    go true h = omega arith
    go false h = omega arith

-- the first word, and the words after it
first_word : (gap b : ℕ) (s : List ℕ)
    → split gap (b ∷ s) ≡ take (before gap (b ∷ s)) (b ∷ s) ∷ split gap (drop (suc (before gap (b ∷ s))) (b ∷ s))
unfolding split before
first_word gap b [] = go (eqb b gap)
  where
    go : (t : Bool) → cond t ([] ∷ []) ((b ∷ []) ∷ []) ≡ take (cond t 0 (suc 0)) (b ∷ []) ∷ split gap (drop (suc (cond t 0 (suc 0))) (b ∷ []))
    go true = refl
    go false = refl
first_word gap b (c ∷ s) = go (eqb b gap) (first_word gap c s)
  where
    k : ℕ
    k = before gap (c ∷ s)

    go : (t : Bool) → split gap (c ∷ s) ≡ take k (c ∷ s) ∷ split gap (drop (suc k) (c ∷ s))
        → cond t ([] ∷ split gap (c ∷ s)) (begun b (split gap (c ∷ s)))
        ≡ take (cond t 0 (suc k)) (b ∷ c ∷ s) ∷ split gap (drop (suc (cond t 0 (suc k))) (b ∷ c ∷ s))
    go true e = refl
    go false e = ap (begun b) e

module _ (gap : ℕ) where
  before_is : (s : List ℕ) → before gap s ≡ position_or_len (λ b. eqb b gap) s
  unfolding before
  before_is = is_position_or_len (before gap) (λ b. eqb b gap) refl (λ x xs. rw (one-add (before gap xs)) refl)

  -- a gap stands where the first word ends
  pub gap_there : (s : List ℕ) (e : ℕ) → position (λ b. eqb b gap) s ≡ Some e → (before gap s ≡ e) × (e < length s)
  gap_there s e h = go (dec_lt (position_or_len (λ b. eqb b gap) s) (length s)) h
    where
      go : Dec (position_or_len (λ b. eqb b gap) s < length s)
          → cond (ltb (position_or_len (λ b. eqb b gap) s) (length s)) (Some (position_or_len (λ b. eqb b gap) s)) None ≡ Some e
          → (before gap s ≡ e) × (e < length s)
      go (yes l) h = let f : position_or_len (λ b. eqb b gap) s ≡ e = (let g = rw (lt-ltb _ _ l) at h in cc) in (before_is s ∙ f, omega arith)
      go (no n) h = absurd (let f = rw (le-ltb (position_or_len (λ b. eqb b gap) s) (length s) (omega arith)) at h in cc)

  -- without one it is the whole text
  pub gap_nowhere : (s : List ℕ) → position (λ b. eqb b gap) s ≡ None → before gap s ≡ length s
  gap_nowhere s h = go (dec_lt (position_or_len (λ b. eqb b gap) s) (length s)) h
    where
      go : Dec (position_or_len (λ b. eqb b gap) s < length s)
          → cond (ltb (position_or_len (λ b. eqb b gap) s) (length s)) (Some (position_or_len (λ b. eqb b gap) s)) None ≡ None
          → before gap s ≡ length s
      go (yes l) h = absurd (let f = rw (lt-ltb (position_or_len (λ b. eqb b gap) s) (length s) l) at h in cc)
      go (no n) h = omega (arith, before_is s, before_most gap s)

  -- the first word of a text
  pub word_here : (s : List ℕ) → take (before gap s) s ≡ word_of gap s 0
  unfolding split before
  word_here [] = refl
  word_here (b ∷ s) = rw (first_word gap b s)

  -- the words behind it
  rest_words : (s : List ℕ) → split gap (drop (before gap s + 1) s) ≡ drop 1 (split gap s)
  unfolding split before
  rest_words [] = refl
  rest_words (b ∷ s) = rw (add-one (before gap (b ∷ s)), first_word gap b s)

  pub after : (s rest : List ℕ) → rest ≡ drop (before gap s + 1) s → After gap s rest
  after s rest e = record {
    is = e;
    words = rw e (rest_words s);
    within = omega (arith, ap length e, length-drop (before gap s + 1) s);
    onward = λ h. omega (arith, ap length e, length-drop (before gap s + 1) s);
  }

  -- by where the gap is
  pub word_to : (s : List ℕ) (e : ℕ) → position (λ b. eqb b gap) s ≡ Some e → take e s ≡ word_of gap s 0
  word_to s e h = rw (← (gap_there s e h).0) (word_here s)

  pub word_all : (s : List ℕ) → position (λ b. eqb b gap) s ≡ None → s ≡ word_of gap s 0
  word_all s h = sym (take_all (length s) s (omega arith)) ∙ rw (← gap_nowhere s h) (word_here s)

  pub after_gap : (s : List ℕ) (e : ℕ) → position (λ b. eqb b gap) s ≡ Some e → After gap s (take (length s - (e + 1)) (drop (e + 1) s))
  after_gap s e h = after s _ (take_all (length s - (e + 1)) (drop (e + 1) s) (omega (arith, length-drop (e + 1) s)) ∙ rw (gap_there s e h).0 refl)

  pub after_none : (s : List ℕ) → position (λ b. eqb b gap) s ≡ None → After gap s []
  after_none s h = after s [] (let l : length s ≤ before gap s + 1 = omega (arith, gap_nowhere s h) in sym (drop_of_length-le s l))

  -- words counted from the front
  pub from_none : (s : List ℕ) → s ≡ text_from gap s 0
  unfolding text_from
  from_none s = refl

  pub from_next : (s t u : List ℕ) (n : ℕ) → t ≡ text_from gap s n → After gap t u → u ≡ text_from gap s (n + 1)
  unfolding text_from
  from_next s t u n e f = f.is ∙ rw (e, add-one n) refl

  pub one_fewer : (s t u : List ℕ) (n : ℕ) → split gap t ≡ drop n (split gap s) → After gap t u → split gap u ≡ drop (n + 1) (split gap s)
  one_fewer s t u n e f = f.words ∙ ap (drop 1) e ∙ drop-drop 1 n (split gap s)

  pub word_skipped : (s t : List ℕ) (n : ℕ) → split gap t ≡ drop n (split gap s) → word_of gap t 0 ≡ word_of gap s n
  word_skipped s t n e = ap (λ (l : List (List ℕ)). get_or l 0 []) e ∙ get_or-drop n (split gap s) 0 [] ∙ rw (add-zero n)

  some_word : (b : ℕ) (s : List ℕ) → 0 < length (split gap (b ∷ s))
  some_word b s = rw (first_word gap b s) (omega arith)

  pub word_there : (s t : List ℕ) (n : ℕ) → split gap t ≡ drop n (split gap s) → not (eqb (length t) 0) ≡ ltb n (length (split gap s))
  unfolding split
  word_there s [] n e = sym (le-ltb n (length (split gap s)) (omega (arith, ap length e, length-drop n (split gap s))))
  word_there s (b ∷ t) n e =
      ap not (ne_eqb (length (b ∷ t)) 0 (λ q. omega arith))
      ∙ sym (lt-ltb n (length (split gap s)) (omega (arith, ap length e, length-drop n (split gap s), some_word b t)))

-- equal words
same_bytes : (v w : List ℕ) → pointwise eqb v w ≡ same_word v w
unfolding same_word
same_bytes [] [] = refl
same_bytes [] (c ∷ w) = refl
same_bytes (b ∷ v) [] = refl
same_bytes (b ∷ v) (c ∷ w) = ap (λ t. eqb b c && t) (same_bytes v w)

-- the place of a word among two
pub place_of_two : (w u v : List ℕ) → index_in w (u ∷ v ∷ []) ≡ cond (pointwise eqb w u) (Some 0) (cond (pointwise eqb w v) (Some 1) None)
unfolding index_in
place_of_two w u v = rw (same_bytes w u, same_bytes w v) (go (same_word w u) (same_word w v))
  where
    go : (a b : Bool) → cond a (Some 0) (option_map suc (cond b (Some 0) (option_map suc None))) ≡ cond a (Some 0) (cond b (Some 1) None)
    go true b = refl
    go false true = refl
    go false false = refl

-- a place that is counted from further on
abbrev pub further : ℕ → Option ℕ → Option ℕ
further n None = None
further n (Some k) = Some (n + k)

pub further_none : (o : Option ℕ) → further 0 o ≡ o
further_none None = refl
further_none (Some k) = ap Some (omega arith)

further_one : (n : ℕ) (o : Option ℕ) → further n (option_map suc o) ≡ further (n + 1) o
further_one n None = refl
further_one n (Some k) = ap Some (omega arith)

-- the place of a word among words found one after the other
module _ (gap : ℕ) (w : List ℕ) (n : ℕ) where
  pub place_here : (s : List ℕ) → 0 < length s → pointwise eqb w (word_of gap s 0) ≡ true → further n (index_in w (split gap s)) ≡ Some n
  unfolding index_in
  place_here [] h e = absurd (omega arith)
  place_here (b ∷ s) h e = rw (first_word gap b s, ← same_bytes, rw (first_word gap b s) at e) (ap Some (omega arith))

  pub place_on : (s t : List ℕ) → 0 < length s → pointwise eqb w (word_of gap s 0) ≡ false → After gap s t
      → further n (index_in w (split gap s)) ≡ further (n + 1) (index_in w (split gap t))
  unfolding index_in
  place_on [] t h e f = absurd (omega arith)
  place_on (b ∷ s) t h e f = rw (f.words, first_word gap b s, ← same_bytes, rw (first_word gap b s) at e) (further_one n _)

  pub place_over : (s : List ℕ) → length s ≡ 0 → further n (index_in w (split gap s)) ≡ None
  unfolding index_in split
  place_over [] h = refl
  place_over (b ∷ s) h = absurd (omega arith)
