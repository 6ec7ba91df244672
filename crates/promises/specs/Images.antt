-- What is promised of the image check, by what its answer means.
use Rattle.std.specs.Prelude.{◌≡◌, true, false, [], ◌∷◌, ◌↔◌, ◌⊎◌, ℕ, ◌≤◌, ◌<◌}
use Rattle.refusal.specs.declared.Place.{Place}
use Rattle.sample.specs.Depth.{InsideRGB}
use Rattle.sample.specs.declared.Side.TheVariants.{Ycc}
use Rattle.setting.specs.Rules.{depths, served}
use Rattle.setting.specs.declared.Call.TheVariants.{ImageCheck}
use Rattle.setting.specs.declared.Setting.{Setting}
use Rattle.setting.specs.declared.Way.TheVariants.{Forward}
use Rattle.scan.specs.First.{IsFirstPlace}
use Rattle.planes.specs.Picture.{Picture, pixel_of, layout_of, EveryPixel}
use Rattle.planes.specs.Sizes.{LongEnough}
use Rattle.plan.specs.Conversion.{convert}
use Rattle.plan.specs.Source.{HasSource}
use Rattle.admit.specs.Rules.{picture_rules}
use Rattle.corkplover.specs.Meaning.{Meaning}
use Rattle.promises.specs.Refusing.{Refuses, BadIn}

-- an RGB picture within depth that converts to a by the forward formulas
pub record SourcePicture (s : Setting) (a : Picture) : Type 0 where
  pub source : Picture
  pub width_is : source.width ≡ a.width
  pub height_is : source.height ≡ a.height
  pub stride_is : source.width ≤ source.stride
  pub long : LongEnough source.width source.height (layout_of source)
  pub inside : EveryPixel (InsideRGB (depths s)) source
  pub converts : (j i : ℕ) → j < a.height → i < a.width → convert Forward (served s) (pixel_of source j i) ≡ pixel_of a j i

-- the first pixel without a source, by row and then by column
abbrev pub FirstSourceless : Setting → Picture → Place → Type 0
FirstSourceless s a =
    IsFirstPlace (λ j i. HasSource (served s) (pixel_of a j i) → ⊥) (λ j i. HasSource (served s) (pixel_of a j i)) 0 a.width a.height

-- rules 1 to 7, 11, 8, 9 and 10, and else yes exactly if there is such a picture, a none exactly with that pixel, and no third answer
pub record ChecksImage (s : Setting) (a : Picture) (m : Meaning) : Type 0 where
  pub refuses : Refuses (picture_rules ImageCheck s a []) (BadIn Ycc s a) m
  pub yes : m.number ≡ 0 → (m.source ≡ true ∷ []) ↔ SourcePicture s a
  pub none : m.number ≡ 0 → (place : Place) → ((m.source ≡ false ∷ []) × (m.place ≡ place)) ↔ FirstSourceless s a place
  pub decides : m.number ≡ 0 → (m.source ≡ true ∷ []) ⊎ (m.source ≡ false ∷ [])
