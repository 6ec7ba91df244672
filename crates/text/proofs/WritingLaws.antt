-- Writing one text and then another is writing the two as one, however little room there is.
use mathlib.Core.Path.{◌≡◌, refl, sym, ap, ◌∙◌, subst}
use mathlib.Core.List.{List, [], ◌∷◌, ◌++◌}
use Prim.Native.Nat.{ℕ, zero, suc, ◌+◌, ◌-◌, ◌≤◌, min}
use native.Mathlib.Omega.{arith}
use borrow.Rule.Slice.PartMut.{put_mid}
use lib.ListN.{length, take, drop}
use lib.Seq.{drop-drop}
use Rattle.text.specs.Writing.{Page, page, behind, wrote, Wrote}

both : (o : List ℕ) (at : ℕ) (a b : List ℕ) → wrote (wrote o at a).bytes (wrote o at a).next b ≡ wrote o at (a ++ b)
unfolding wrote
both [] at a b = refl
both (x ∷ o) zero [] b = refl
both (x ∷ o) zero (y ∷ a) b = ap (behind y) (both o zero a b)
both (x ∷ o) (suc at) a b = ap (behind x) (both o at a b)

pub then : {o m n a b : List ℕ} {at p q : ℕ} → Wrote o at a m p → Wrote m p b n q → Wrote o at (a ++ b) n q
then {o} {m} {n} {a} {b} {at} {p} {q} f s = record { is = s.is ∙ ap (λ (x : Page). wrote x.bytes x.next b) f.is ∙ both o at a b }

-- nothing to write
wrote_none : (o : List ℕ) (at : ℕ) → page o at ≡ wrote o at []
unfolding wrote
wrote_none [] at = refl
wrote_none (x ∷ o) zero = refl
wrote_none (x ∷ o) (suc at) = ap (behind x) (wrote_none o at)

pub none : (o : List ℕ) (at : ℕ) → Wrote o at [] o at
none o at = record { is = wrote_none o at }

-- no room
wrote_full : (o : List ℕ) (at : ℕ) (t : List ℕ) → length o ≤ at → page o at ≡ wrote o at t
unfolding wrote
wrote_full [] at t h = refl
wrote_full (x ∷ o) zero t h = absurd (omega arith)
wrote_full (x ∷ o) (suc at) t h = ap (behind x) (wrote_full o at t (omega arith))

pub full : (o : List ℕ) (at : ℕ) (t : List ℕ) → length o ≤ at → Wrote o at t o at
full o at t h = record { is = wrote_full o at t h }

-- as much as there is room for
wrote_part : (o : List ℕ) (at : ℕ) (t : List ℕ) (n k : ℕ) → at ≤ length o → n ≡ min (length t) (length o - at) → k ≡ at + n
    → page (take at o ++ (take n t ++ drop k o)) k ≡ wrote o at t
unfolding wrote
wrote_part [] zero t zero zero h e f = refl
wrote_part [] zero t zero (suc k) h e f = absurd (omega arith)
wrote_part [] zero t (suc n) k h e f = absurd (omega arith)
wrote_part [] (suc at) t n k h e f = absurd (omega arith)
wrote_part (b ∷ o) zero [] zero zero h e f = refl
wrote_part (b ∷ o) zero [] zero (suc k) h e f = absurd (omega arith)
wrote_part (b ∷ o) zero [] (suc n) k h e f = absurd (omega arith)
wrote_part (b ∷ o) zero (c ∷ t) zero k h e f = absurd (omega arith)
wrote_part (b ∷ o) zero (c ∷ t) (suc n) zero h e f = absurd (omega arith)
wrote_part (b ∷ o) zero (c ∷ t) (suc n) (suc k) h e f = ap (behind c) (wrote_part o zero t n k (omega arith) (omega arith) (omega arith))
wrote_part (b ∷ o) (suc at) t n zero h e f = absurd (omega arith)
wrote_part (b ∷ o) (suc at) t n (suc k) h e f = ap (behind b) (wrote_part o at t n k (omega arith) (omega arith) (omega arith))

pub part : (o : List ℕ) (at : ℕ) (t : List ℕ) (n m : ℕ) → at ≤ length o → n ≡ min (length t) (length o - at) → m ≡ n
    → Wrote o at t (put_mid at m o (take n t)) (at + n)
part o at t n m h e f = record { is = rw (f, drop-drop n at o) (wrote_part o at t n (at + n) h e refl) }

-- a position inside the buffer stays inside it
next_inside : (o : List ℕ) (at : ℕ) (t : List ℕ) → at ≤ length o → (wrote o at t).next ≤ length o
unfolding wrote
next_inside [] at t h = h
next_inside (x ∷ o) zero [] h = omega arith
next_inside (x ∷ o) zero (b ∷ t) h = let k = next_inside o zero t (omega arith) in omega arith
next_inside (x ∷ o) (suc at) t h = let k = next_inside o at t (omega arith) in omega arith

pub inside : {o t n : List ℕ} {at p : ℕ} → Wrote o at t n p → at ≤ length o → p ≤ length o
inside {o} {t} {n} {at} w h = subst (λ (x : Page). x.next ≤ length o) (sym w.is) (next_inside o at t h)
