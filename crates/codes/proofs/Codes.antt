-- What a match on a code has found out by the time it comes to a range, and what follows for the code without naming it: what holds at
-- every code below 256 that fits the clues holds at this one.
use mathlib.Core.Path.{◌≡◌, refl, sym, subst}
use mathlib.Core.Bool.{Bool, true, false, true≢false, ◌&&◌, not, cond}
use mathlib.Core.List.{List, [], ◌∷◌}
use mathlib.Core.Logic.{◌⊎◌, inl, inr, ⊎_elim}
use Prim.Native.Nat.{ℕ, zero, suc, ◌≤◌, ◌<◌}
use native.Mathlib.Nat.{eq-or-lt_of_le, le_of_suc-le-suc, not-suc-le-zero}
use borrow.Author.Tests.{le-leb, lt-ltb, ne_eqb}
use lib.Dec.{eqb, leb, ltb}
use Rattle.sample.proofs.Choices.{both_true}

pub data Clue : Type 0 where
  is_not at_least under : ℕ → Clue

abbrev pub fits : Clue → ℕ → Bool
fits (is_not k) n = not (eqb n k)
fits (at_least k) n = leb k n
fits (under k) n = ltb n k

abbrev pub fits_all : List Clue → ℕ → Bool
fits_all [] n = true
fits_all (c ∷ cs) n = fits c n && fits_all cs n

-- clues that a code fits, gathered one by one
pub data Clues (n : ℕ) : List Clue → Type 0 where
  none : Clues n []
  other : {k : ℕ} {cs : List Clue} → Clues n cs → (n ≡ k → ⊥) → Clues n (is_not k ∷ cs)
  from : {k : ℕ} {cs : List Clue} → Clues n cs → k ≤ n → Clues n (at_least k ∷ cs)
  below : {k : ℕ} {cs : List Clue} → Clues n cs → n < k → Clues n (under k ∷ cs)

fit : {n : ℕ} {cs : List Clue} → Clues n cs → fits_all cs n ≡ true
fit none = refl
fit {n} (other {k} c f) = rw (ne_eqb n k f) (fit c)
fit {n} (from {k} c l) = rw (le-leb k n l) (fit c)
fit {n} (below {k} c l) = rw (lt-ltb n k l) (fit c)

-- the arms for one code that were passed, as the match lists them: each with those before it
pub passed : {X : Type 0} {n k : ℕ} {cs : List Clue} → (X → Clues n cs) → X × (n ≡ k → ⊥) → Clues n (is_not k ∷ cs)
passed f r = other (f r.0) r.1

-- and an arm for two codes
pub both_passed : {X : Type 0} {n j k : ℕ} {cs : List Clue} → (X → Clues n cs) → X × ((n ≡ j) ⊎ (n ≡ k) → ⊥) → Clues n (is_not k ∷ is_not j ∷ cs)
both_passed f r = other (other (f r.0) (λ e. r.1 (inl e))) (λ e. r.1 (inr e))

-- a fact at every code below m that fits
abbrev pub When : Bool → Type 0 → Type 0 → Type 0
When true A B = A × B
When false A B = B

abbrev pub AtEach : (ℕ → Type 0) → List Clue → ℕ → Type 0
AtEach P cs zero = Unit
AtEach P cs (suc m) = When (fits_all cs m) (P m) (AtEach P cs m)

pick : (t : Bool) (A B : Type 0) → When t A B → (t ≡ true → A) × B
pick true A B a = (λ e. a.0, a.1)
pick false A B a = (λ e. absurd (true≢false (sym e)), a)

at_each : (P : ℕ → Type 0) (cs : List Clue) (m n : ℕ) → fits_all cs n ≡ true → AtEach P cs m → n < m → P n
at_each P cs zero n f a l = absurd (not-suc-le-zero l)
at_each P cs (suc m) n f a l =
    let t = pick (fits_all cs m) (P m) (AtEach P cs m) a in
    ⊎_elim (λ (w : n ≡ m). subst P (sym w) (t.0 (rw w at f))) (at_each P cs m n f t.1) (eq-or-lt_of_le (le_of_suc-le-suc l))

pub by_clues : (P : ℕ → Type 0) {n : ℕ} {cs : List Clue} → Clues n cs → n < 256 → AtEach P cs 256 → P n
by_clues P {n} {cs} c l a = at_each P cs 256 n (fit c) a l

-- a test at every code below m that fits
abbrev pub everywhere : (ℕ → Bool) → List Clue → ℕ → Bool
everywhere test cs zero = true
everywhere test cs (suc m) = cond (fits_all cs m) (test m) true && everywhere test cs m

tested : (t b : Bool) (A : Type 0) (B : Type 0) → cond t b true ≡ true → (b ≡ true → A) → B → When t A B
tested true b A B e f r = (f e, r)
tested false b A B e f r = r

all_true : (test : ℕ → Bool) (cs : List Clue) (m : ℕ) → everywhere test cs m ≡ true → AtEach (λ n. test n ≡ true) cs m
all_true test cs zero e = tt
all_true test cs (suc m) e =
    let t = both_true (cond (fits_all cs m) (test m) true) (everywhere test cs m) e in
    tested (fits_all cs m) (test m) _ _ t.0 (λ q. q) (all_true test cs m t.1)

pub by_test : (test : ℕ → Bool) {n : ℕ} {cs : List Clue} → Clues n cs → n < 256 → everywhere test cs 256 ≡ true → test n ≡ true
by_test test {cs = cs} c l e = by_clues (λ m. test m ≡ true) c l (all_true test cs 256 e)
