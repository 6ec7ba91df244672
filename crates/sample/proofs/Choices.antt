-- Choices by a test: what is chosen tells how the test went.
use mathlib.Core.Path.{◌≡◌, refl}
use mathlib.Core.Bool.{Bool, true, false, ◌&&◌, ◌||◌, cond}
use mathlib.Core.Logic.{◌⊎◌, inl, inr, ⊎_elim}
use Prim.Native.Nat.{ℕ, zero, suc, ◌≤◌, ◌<◌}
use native.Mathlib.Omega.{arith}
use borrow.Author.Tests.{leb-true}
use lib.Dec.{leb}

-- the first was chosen, since the second is something else
pub chose_first : {A : Type 0} (b : Bool) (x y z : A) → cond b x y ≡ z → (y ≡ z → ⊥) → (b ≡ true) × (x ≡ z)
chose_first true x y z e f = (refl, e)
chose_first false x y z e f = absurd (f e)

pub chose_second : {A : Type 0} (b : Bool) (x y z : A) → cond b x y ≡ z → (x ≡ z → ⊥) → (b ≡ false) × (y ≡ z)
chose_second true x y z e f = absurd (f e)
chose_second false x y z e f = (refl, e)

-- a test that cannot hold
pub cannot : (b : Bool) → (b ≡ true → ⊥) → b ≡ false
cannot true h = absurd (h refl)
cannot false h = refl

-- two tests that hold together
pub both_true : (a b : Bool) → a && b ≡ true → (a ≡ true) × (b ≡ true)
both_true true b e = (refl, e)
both_true false b e = (e, cc)

pub le_and : (m n : ℕ) (b : Bool) → leb m n && b ≡ true → (m ≤ n) × (b ≡ true)
le_and m n b e = let t = both_true (leb m n) b e in (leb-true m n t.0, t.1)

-- a test that must hold
pub must : (b : Bool) → (b ≡ false → ⊥) → b ≡ true
must true h = refl
must false h = absurd (h refl)

-- two tests of which neither holds
pub neither : (a b : Bool) → a || b ≡ false → (a ≡ false) × (b ≡ false)
neither true b e = (e, cc)
neither false b e = (refl, e)

-- a number is below another or it is not
pub below_or_not : (a b : ℕ) → (a < b) ⊎ (b ≤ a)
below_or_not a zero = inr (omega arith)
below_or_not zero (suc b) = inl (omega arith)
below_or_not (suc a) (suc b) = ⊎_elim (λ p. inl (omega arith)) (λ q. inr (omega arith)) (below_or_not a b)
