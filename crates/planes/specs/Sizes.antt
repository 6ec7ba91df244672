-- Rules 8 and 9 of the refusals. Of the definitions, this file alone has the limits of sizes and strides.
use Rattle.std.specs.Prelude.{◌≡◌, Bool, false, ◌||◌, List, [], ◌∷◌, ℕ, ◌+◌, ◌*◌, ◌-◌, ◌≤◌, ltb}
use Rattle.refusal.specs.Rules.{Rule, rule}
use Rattle.planes.specs.declared.size.Layout.{Layout}

abbrev pub most_size : ℕ
most_size = 8192

abbrev pub most_stride : ℕ
most_stride = 16384

-- a layout, by its stride and how many elements its planes have
abbrev pub layout : ℕ → ℕ → ℕ → ℕ → Layout
layout stride n0 n1 n2 = record { stride = stride; n0 = n0; n1 = n1; n2 = n2 }

-- whether n is below least or above most
unfoldable pub outside : ℕ → ℕ → ℕ → Bool
outside n least most = ltb n least || ltb most n

-- whether some layout answers yes
unfoldable pub some_layout : (Layout → Bool) → List Layout → Bool
some_layout test [] = false
some_layout test (x ∷ xs) = test x || some_layout test xs

-- a stride that is too small for a row or too large
abbrev pub stride_outside : ℕ → Layout → Bool
stride_outside width x = outside x.stride width most_stride

-- width or height outside 1..8192, or such a stride
unfoldable pub size_outside : ℕ → ℕ → List Layout → Bool
size_outside width height layouts =
    outside width 1 most_size || (outside height 1 most_size || some_layout (stride_outside width) layouts)

-- how many elements a plane must have
abbrev pub needed : ℕ → ℕ → ℕ → ℕ
needed width height stride = (height - 1) * stride + width

-- one of three planes has fewer elements
unfoldable pub any_short : ℕ → ℕ → ℕ → ℕ → Bool
any_short need n0 n1 n2 = ltb n0 need || (ltb n1 need || ltb n2 need)

-- a plane of the layout is shorter than (height - 1) × stride + width
unfoldable pub layout_short : ℕ → ℕ → Layout → Bool
layout_short width height x = any_short (needed width height x.stride) x.n0 x.n1 x.n2

-- rules 8 and 9, for the layouts that a call has
abbrev pub size_rules : ℕ → ℕ → List Layout → List Rule
size_rules width height layouts =
    rule 8 (size_outside width height layouts) ∷ rule 9 (some_layout (layout_short width height) layouts) ∷ []

-- n is from least to most
pub record Within (n least most : ℕ) : Type 0 where
  pub from_least : least ≤ n
  pub to_most : n ≤ most

-- three planes of at least need elements
pub record Long (need n0 n1 n2 : ℕ) : Type 0 where
  pub long0 : need ≤ n0
  pub long1 : need ≤ n1
  pub long2 : need ≤ n2

-- the sizes of a plane that are not refused
pub record Sized (width height stride : ℕ) : Type 0 where
  pub width_within : Within width 1 most_size
  pub height_within : Within height 1 most_size
  pub stride_within : Within stride width most_stride

-- the facts of a layout that the two rules test
abbrev pub StrideWithin : ℕ → Layout → Type 0
StrideWithin width x = Within x.stride width most_stride

abbrev pub LongEnough : ℕ → ℕ → Layout → Type 0
LongEnough width height x = Long (needed width height x.stride) x.n0 x.n1 x.n2

-- a fact of every layout
abbrev pub EveryLayout : (Layout → Type 0) → List Layout → Type 0
EveryLayout fact [] = Unit
EveryLayout fact (x ∷ xs) = fact x × EveryLayout fact xs

-- rule 8 does not apply
pub record SizesWithin (width height : ℕ) (layouts : List Layout) : Type 0 where
  pub width_within : Within width 1 most_size
  pub height_within : Within height 1 most_size
  pub strides_within : EveryLayout (StrideWithin width) layouts

-- rule 9 does not apply
abbrev pub PlanesLong : ℕ → ℕ → List Layout → Type 0
PlanesLong width height layouts = EveryLayout (LongEnough width height) layouts

-- what is known of a layout that was not refused
pub record Fits (width height : ℕ) (x : Layout) : Type 0 where
  pub sized : Sized width height x.stride
  pub long : LongEnough width height x

-- where row j starts: not after the last row, and far below the largest index
pub record RowStart (j height stride r : ℕ) : Type 0 where
  pub is : r ≡ j * stride
  pub last : r ≤ (height - 1) * stride
  pub most : r ≤ most_size * most_stride
