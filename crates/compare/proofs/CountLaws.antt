-- Laws of counting, and of the first that passes: over one more, over two parts, and of all the places of a picture.
use mathlib.Core.Path.{◌≡◌, refl, ap, ◌∙◌, subst}
use mathlib.Core.Bool.{Bool, false}
use mathlib.Core.Logic.{⊎_elim}
use Prim.Native.Nat.{ℕ, zero, suc, ◌+◌, ◌-◌, ◌≤◌, ◌<◌}
use native.Mathlib.Nat.{add-zero, add-suc, eq-or-lt_of_le, le_of_suc-le-suc, not-suc-le-zero}
use native.Mathlib.Omega.{arith}
use Rattle.std.proofs.Common.{None}
use Rattle.sample.proofs.Choices.{below_or_not}
use Rattle.sample.specs.Flag.{one_if}
use Rattle.sample.proofs.FlagLaws.{one_most, one_none}
use Rattle.compare.specs.Count.{count_of, FirstAt, FirstFound}

-- ---- counting

pub count_none : (test : ℕ → Bool) → count_of 0 test ≡ 0
unfolding count_of
count_none test = refl

pub count_more : (n : ℕ) (test : ℕ → Bool) → count_of (n + 1) test ≡ count_of n test + one_if (test n)
unfolding count_of
count_more n test = ap (λ k. count_of k test) (let e : n + 1 ≡ suc n = omega arith in e)

pub count_most : (n : ℕ) (test : ℕ → Bool) → count_of n test ≤ n
unfolding count_of
count_most zero test = omega arith
count_most (suc n) test = omega (arith, count_most n test, one_most (test n))

-- two parts, one after the other
pub count_parts : (n m : ℕ) (test : ℕ → Bool) → count_of (n + m) test ≡ count_of n test + count_of m (λ k. test (n + k))
unfolding count_of
count_parts n zero test = ap (λ k. count_of k test) (add-zero n) ∙ (let e : count_of n test ≡ count_of n test + 0 = omega arith in e)
count_parts n (suc m) test =
    ap (λ k. count_of k test) (add-suc n m)
    ∙ ap (λ k. k + one_if (test (n + m))) (count_parts n m test)
    ∙ (let e : count_of n test + count_of m (λ k. test (n + k)) + one_if (test (n + m)) ≡ count_of n test + (count_of m (λ k. test (n + k)) + one_if (test (n + m))) = omega arith in e)

-- what is counted depends on the test of what is counted alone
pub count_same : (n : ℕ) (f g : ℕ → Bool) → ((k : ℕ) → k < n → f k ≡ g k) → count_of n f ≡ count_of n g
unfolding count_of
count_same zero f g e = refl
count_same (suc n) f g e = rw (count_same n f g (λ k h. e k (omega arith)), e n (omega arith))

-- none is counted exactly if none passes
pub none_counted : (n : ℕ) (test : ℕ → Bool) → count_of n test ≡ 0 → (k : ℕ) → k < n → test k ≡ false
unfolding count_of
none_counted zero test e k h = absurd (not-suc-le-zero h)
none_counted (suc n) test e k h =
    ⊎_elim
    (λ (w : k ≡ n). rw w (one_none (test n) (omega arith)))
    (λ (w : k < n). none_counted n test (omega arith) k w)
    (eq-or-lt_of_le (le_of_suc-le-suc h))

pub counted_none : (n : ℕ) (test : ℕ → Bool) → ((k : ℕ) → k < n → test k ≡ false) → count_of n test ≡ 0
unfolding count_of
counted_none zero test e = refl
counted_none (suc n) test e = rw (counted_none n test (λ k h. e k (omega arith)), e n (omega arith))

-- ---- the first that passes

pub first_none : (test : ℕ → Bool) → FirstAt test 0 0
first_none test = record { within = omega arith; none_before = λ k h. absurd (not-suc-le-zero h); passes = λ h. absurd (not-suc-le-zero h) }

pub first_past : (test : ℕ → Bool) (n : ℕ) → ((k : ℕ) → k < n → test k ≡ false) → FirstAt test n n
first_past test n e = record { within = omega arith; none_before = e; passes = λ h. absurd (omega arith) }

-- and then a part, or some have
pub first_part : (test : ℕ → Bool) (n m first : ℕ) → FirstAt test n n → FirstAt (λ k. test (n + k)) m first → FirstAt test (n + m) (n + first)
first_part test n m first a b =
    record {
      within = omega (arith, b.within);
      none_before = λ k h.
          ⊎_elim
          (λ (l : k < n). a.none_before k l)
          (λ (l : n ≤ k).
          let e : n + (k - n) ≡ k = omega arith in subst (λ i. test i ≡ false) e (b.none_before (k - n) (omega arith)))
          (below_or_not k n);
      passes = λ h. b.passes (omega arith);
    }

pub first_kept : (test : ℕ → Bool) (n m first : ℕ) → FirstAt test n first → (first ≡ n → ⊥) → FirstAt test (n + m) first
first_kept test n m first a l =
    let less : first < n = ⊎_elim (λ (e : first ≡ n). absurd (l e)) (λ h. h) (eq-or-lt_of_le a.within) in
    record { within = omega arith; none_before = a.none_before; passes = λ h. a.passes less }

-- where none passes none is found
pub none_found : (test : ℕ → Bool) (n : ℕ) → ((k : ℕ) → k < n → test k ≡ false) → FirstFound test n None
none_found test n e = record { inside = λ i h. cc; first_at = first_past test n e }
