-- When the sizes of a call give refusal 8, when 9, and when neither: exactly by the facts that the two rules test.
use Rattle.std.specs.Prelude.{Result, Ok, Err}
use mathlib.Core.Path.{◌≡◌, refl, sym, ap, ◌∙◌}
use mathlib.Core.Bool.{Bool, true, false, true≢false, or_self_left}
use mathlib.Core.List.{List, [], ◌∷◌}
use mathlib.Core.Logic.{◌↔◌}
use Prim.Native.Nat.{ℕ}
use native.Mathlib.Omega.{arith}
use Rattle.refusal.specs.Rules.{first, numbered}
use Rattle.refusal.specs.declared.Refusal.{Refusal}
use Rattle.refusal.proofs.RuleLaws.{same_refusal}
use Rattle.planes.specs.declared.size.Layout.{Layout}
use Rattle.planes.specs.Sizes.{most_size, stride_outside, size_outside, layout_short, some_layout, size_rules, Within, StrideWithin, Fits, EveryLayout, SizesWithin, PlanesLong}
use Rattle.planes.proofs.SizeLaws.{sizes_exactly, planes_exactly}

-- two rules go in one of three ways
by_tests : (a b : Bool) (P : Type 0) → (a ≡ true → P) → (a ≡ false → b ≡ true → P) → (a ≡ false → b ≡ false → P) → P
by_tests true b P x y z = x refl
by_tests false true P x y z = y refl refl
by_tests false false P x y z = z refl refl

eight_not_nine : ◌≡◌ {A = Result Unit Refusal} (Err (numbered 8)) (Err (numbered 9)) → ⊥
eight_not_nine e = let z : ◌≡◌ {A = ℕ} 8 9 = ap (λ r. r.number) (same_refusal e) in omega arith

module _ (width height : ℕ) (layouts : List Layout) where
  -- each of the three answers, with what holds where it is given
  by_answer : (P : Type 0)
      → ((SizesWithin width height layouts → ⊥) → first (size_rules width height layouts) ≡ Err (numbered 8) → P)
      → (SizesWithin width height layouts → (PlanesLong width height layouts → ⊥) → first (size_rules width height layouts) ≡ Err (numbered 9) → P)
      → (SizesWithin width height layouts → PlanesLong width height layouts → first (size_rules width height layouts) ≡ Ok tt → P) → P
  unfolding first
  by_answer P x y z =
      let s = sizes_exactly width height layouts in
      let l = planes_exactly width height layouts in
      by_tests (size_outside width height layouts) (some_layout (layout_short width height) layouts) P
      (λ e. x (λ k. true≢false (sym e ∙ s.1 k)) (rw e))
      (λ e f. y (s.0 e) (λ k. true≢false (sym f ∙ l.1 k)) (rw (e, f)))
      (λ e f. z (s.0 e) (l.0 f) (rw (e, f)))

  -- rule 8 refuses exactly where a size is outside its limits
  pub refused_8 : (first (size_rules width height layouts) ≡ Err (numbered 8)) ↔ (SizesWithin width height layouts → ⊥)
  refused_8 = (
    λ e. by_answer _ (λ f q. f) (λ s f q. absurd (eight_not_nine (sym e ∙ q))) (λ s l q. absurd (true≢false cc)),
    λ f. by_answer _ (λ g q. q) (λ s g q. absurd (f s)) (λ s l q. absurd (f s)),
  )

  -- rule 9 exactly where none is and some plane is short
  pub refused_9 : (first (size_rules width height layouts) ≡ Err (numbered 9)) ↔ (SizesWithin width height layouts × (PlanesLong width height layouts → ⊥))
  refused_9 = (
    λ e. by_answer _ (λ f q. absurd (eight_not_nine (sym q ∙ e))) (λ s f q. (s, f)) (λ s l q. absurd (true≢false cc)),
    λ k. by_answer _ (λ f q. absurd (f k.0)) (λ s f q. q) (λ s l q. absurd (k.1 l)),
  )

  -- and neither exactly where none is and every plane is long enough
  pub sizes_pass : (first (size_rules width height layouts) ≡ Ok tt) ↔ (SizesWithin width height layouts × PlanesLong width height layouts)
  sizes_pass = (
    λ e. by_answer _ (λ f q. absurd (true≢false cc)) (λ s f q. absurd (true≢false cc)) (λ s l q. (s, l)),
    λ k. by_answer _ (λ f q. absurd (f k.0)) (λ s f q. absurd (f k.1)) (λ s l q. q),
  )

-- what each layout then has
each_fits : (width height : ℕ) → Within width 1 most_size → Within height 1 most_size → (layouts : List Layout)
    → EveryLayout (StrideWithin width) layouts → PlanesLong width height layouts → EveryLayout (Fits width height) layouts
each_fits width height w h [] a b = tt
each_fits width height w h (x ∷ xs) a b = (
  record { sized = record { width_within = w; height_within = h; stride_within = a.0 }; long = b.0 },
  each_fits width height w h xs a.1 b.1,
)

pub fits : (width height : ℕ) (layouts : List Layout) → first (size_rules width height layouts) ≡ Ok tt → EveryLayout (Fits width height) layouts
fits width height layouts e =
    let t = (sizes_pass width height layouts).0 e in
    each_fits width height t.0.width_within t.0.height_within layouts t.0.strides_within t.1

-- a call that names its own layout again
pub twice : (width height : ℕ) (x : Layout) → first (size_rules width height (x ∷ x ∷ [])) ≡ first (size_rules width height (x ∷ []))
unfolding size_outside some_layout
twice width height x = rw (or_self_left (stride_outside width x) false, or_self_left (layout_short width height x) false)
