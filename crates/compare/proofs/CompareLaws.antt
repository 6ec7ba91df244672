-- Laws of what is compared: a test that is the same wherever it is asked tells the same.
use mathlib.Core.Path.{◌≡◌, refl, sym, ◌∙◌}
use mathlib.Core.Bool.{Bool, true, false}
use Prim.Native.Nat.{ℕ, ◌<◌}
use native.Mathlib.Omega.{arith}
use Rattle.std.proofs.Common.{Some, None}
use Rattle.compare.specs.Count.{FirstAt}
use Rattle.compare.specs.Compare.{Compared}
use Rattle.compare.specs.declared.Tally.{Tally}
use Rattle.compare.proofs.CountLaws.{count_same}

pub first_same : {f g : ℕ → Bool} {n first : ℕ} → ((k : ℕ) → k < n → f k ≡ g k) → FirstAt f n first → FirstAt g n first
first_same e h =
    record {
      within = h.within;
      none_before = λ k l. sym (e k (omega (arith, l, h.within))) ∙ h.none_before k l;
      passes = λ l. sym (e _ l) ∙ h.passes l;
    }

pub compared_same : {r : Tally} {sought : Bool} {n : ℕ} {f g : ℕ → Bool} → ((k : ℕ) → k < n → f k ≡ g k) → Compared r sought n f → Compared r sought n g
compared_same e h =
    record {
      counted = h.counted ∙ count_same _ _ _ e;
      unsought = h.unsought;
      found = λ s. let g = h.found s in record { inside = g.inside; first_at = first_same e g.first_at };
    }

-- an index that was found is that of a pixel
pub found_inside : {r : Tally} {sought : Bool} {n : ℕ} {f : ℕ → Bool} → Compared r sought n f → (i : ℕ) → r.first ≡ Some i → i < n
found_inside {sought = true} h i e = (h.found refl).inside i e
found_inside {sought = false} h i e = absurd (let q : None ≡ Some i = sym (h.unsought refl) ∙ e in cc)
