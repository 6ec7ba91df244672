-- Laws of sizes: the tests of rules 8 and 9, and the facts that they test.
use mathlib.Core.Path.{◌≡◌, refl, sym, ap, ◌∙◌}
use mathlib.Core.Bool.{Bool, false}
use mathlib.Core.List.{List, [], ◌∷◌}
use mathlib.Core.Logic.{◌↔◌}
use Prim.Native.Nat.{ℕ, zero, suc, ◌+◌, ◌*◌, ◌-◌, ◌≤◌, ◌<◌}
use native.Mathlib.Nat.{mul-le-mul, mul-le-mul_right, suc-mul}
use native.Mathlib.Omega.{arith}
use borrow.Author.Tests.{ltb-false, le-ltb}
use lib.Dec.{ltb}
use Rattle.sample.proofs.Choices.{neither}
use Rattle.planes.specs.declared.size.Layout.{Layout}
use Rattle.planes.specs.Sizes.{most_size, most_stride, needed, outside, stride_outside, size_outside, any_short, layout_short, some_layout, RowStart, Within, StrideWithin, LongEnough, EveryLayout, SizesWithin, PlanesLong}

-- the start of a row of a size that is not refused
pub row_start : (j height stride : ℕ) → j < height → height ≤ most_size → stride ≤ most_stride → RowStart j height stride (j * stride)
row_start j height stride a b e =
    record {
      is = refl;
      last = mul-le-mul_right {m = j} {n = height - 1} stride (omega arith);
      most = mul-le-mul {n₁ = j} {m₁ = stride} {n₂ = most_size} {m₂ = most_stride} (omega arith) e;
    }

-- an element inside the picture is an element of the plane
pub index_inside : (width height stride j i : ℕ) → j < height → i < width → j * stride + i < needed width height stride
index_inside width height stride j i a b = omega (arith, mul-le-mul_right {m = j} {n = height - 1} stride (omega arith))

-- where the stride is the width, the elements that a plane must have are those of the picture
pub needed_whole : (width height : ℕ) → 1 ≤ height → needed width height width ≡ height * width
needed_whole width zero h = absurd (omega arith)
needed_whole width (suc m) h = ap (λ n. n * width + width) (let e : suc m - 1 ≡ m = omega arith in e) ∙ sym (suc-mul m width)

within_exactly : (n least most : ℕ) → (outside n least most ≡ false) ↔ Within n least most
unfolding outside
within_exactly n least most = (
  λ e. let t = neither (ltb n least) _ e in record { from_least = ltb-false n least t.0; to_most = ltb-false most n t.1 },
  λ k. rw (le-ltb n least k.from_least, le-ltb most n k.to_most),
)

-- no layout answers yes to a test exactly if each has the fact
every_exactly : (test : Layout → Bool) (fact : Layout → Type 0) → ((x : Layout) → (test x ≡ false) ↔ fact x) → (layouts : List Layout)
    → (some_layout test layouts ≡ false) ↔ EveryLayout fact layouts
unfolding some_layout
every_exactly test fact f [] = (λ e. tt, λ h. refl)
every_exactly test fact f (x ∷ xs) =
    let t = every_exactly test fact f xs in (
      λ e. let n = neither (test x) _ e in ((f x).0 n.0, t.0 n.1),
      λ h. rw ((f x).1 h.0, t.1 h.1),
    )

module _ (width height : ℕ) where
  pub long_exactly : (x : Layout) → (layout_short width height x ≡ false) ↔ LongEnough width height x
  unfolding layout_short any_short
  long_exactly x = (
    λ e.
        let t = neither (ltb x.n0 _) _ e in
        let u = neither (ltb x.n1 _) _ t.1 in
        record { long0 = ltb-false _ _ t.0; long1 = ltb-false _ _ u.0; long2 = ltb-false _ _ u.1 },
    λ k. rw (le-ltb _ _ k.long0, le-ltb _ _ k.long1, le-ltb _ _ k.long2),
  )

  -- rule 8 does not apply exactly if the sizes are within their limits
  pub sizes_exactly : (layouts : List Layout) → (size_outside width height layouts ≡ false) ↔ SizesWithin width height layouts
  unfolding size_outside
  sizes_exactly layouts =
      let s = every_exactly (stride_outside width) (StrideWithin width) (λ x. within_exactly x.stride width most_stride) layouts in (
        λ e.
            let t = neither (outside width 1 most_size) _ e in
            let u = neither (outside height 1 most_size) _ t.1 in
            record { width_within = (within_exactly _ _ _).0 t.0; height_within = (within_exactly _ _ _).0 u.0; strides_within = s.0 u.1 },
        λ k. rw ((within_exactly _ _ _).1 k.width_within, (within_exactly _ _ _).1 k.height_within, s.1 k.strides_within),
      )

  -- and rule 9 exactly if every plane is long enough
  pub planes_exactly : (layouts : List Layout) → (some_layout (layout_short width height) layouts ≡ false) ↔ PlanesLong width height layouts
  planes_exactly layouts = every_exactly (layout_short width height) (LongEnough width height) long_exactly layouts
