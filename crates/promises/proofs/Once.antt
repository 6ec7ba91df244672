-- What a contract settles by a definition it settles once: two values that are equal to a third.
use mathlib.Core.Path.{◌≡◌, sym, ◌∙◌}

pub once : {A : Type 0} {x a b : A} → a ≡ x → b ≡ x → a ≡ b
once e f = e ∙ sym f

-- a result, and one or three things beside it
pub once_both : {A B : Type 0} {x a a' : A} {y b b' : B} → (a ≡ x) × (b ≡ y) → (a' ≡ x) × (b' ≡ y) → (a ≡ a') × (b ≡ b')
once_both e f = (once e.0 f.0, once e.1 f.1)

pub once_all : {A B : Type 0} {x a a' : A} {y0 y1 y2 b0 b1 b2 b0' b1' b2' : B} → (a ≡ x) × ((b0 ≡ y0) × ((b1 ≡ y1) × (b2 ≡ y2)))
    → (a' ≡ x) × ((b0' ≡ y0) × ((b1' ≡ y1) × (b2' ≡ y2))) → (a ≡ a') × ((b0 ≡ b0') × ((b1 ≡ b1') × (b2 ≡ b2')))
once_all e f = (once e.0 f.0, (once e.1.0 f.1.0, (once e.1.1.0 f.1.1.0, once e.1.1.1 f.1.1.1)))
