-- What is promised of a judgement, by what its answer means. A claimed pixel is right if it is the one that the box's own call on the same source
-- leaves there.
use Rattle.std.specs.Prelude.{◌≡◌, Bool, true, false, List, [], ◌∷◌, ◌↔◌, ◌⊎◌, ℕ}
use Rattle.refusal.specs.declared.Place.{Place}
use Rattle.setting.specs.Call.{input_of}
use Rattle.setting.specs.declared.Call.TheVariants.{Convert}
use Rattle.setting.specs.declared.Setting.{Setting}
use Rattle.setting.specs.declared.Way.{Way}
use Rattle.planes.specs.Picture.{Picture, picture, pixel_of, layout_of}
use Rattle.planes.specs.declared.size.Layout.{Layout}
use Rattle.scan.specs.First.{IsFirstPlace}
use Rattle.compare.specs.Count.{count_places}
use Rattle.compare.specs.Compare.{differ}
use Rattle.admit.specs.Rules.{picture_rules}
use Rattle.rows.specs.Paint.{input_picture, output_picture}
use Rattle.rows.specs.declared.paint.Size.{Size}
use Rattle.frame.specs.Frame.{out_plane}
use Rattle.corkplover.specs.Meaning.{Meaning}
use Rattle.promises.specs.Frames.{SamePixels}
use Rattle.promises.specs.Refusing.{Refuses, BadIn}

-- the picture that a conversion of a leaves in planes of layout b
abbrev pub own_picture : Way → Setting → Picture → Layout → Picture
own_picture w s a b = picture a.width a.height b.stride (out_plane 0 w s a b) (out_plane 1 w s a b) (out_plane 2 w s a b)

-- the claimed pixel at row j and column i is the call's
abbrev pub Right : Way → Setting → Picture → Picture → ℕ → ℕ → Type 0
Right w s a b j i = pixel_of (own_picture w s a (layout_of b)) j i ≡ pixel_of b j i

-- the same as a test, of which the places where it fails can be counted
abbrev pub wrong_at : Way → Setting → Picture → Picture → ℕ → ℕ → Bool
wrong_at w s a b j i = differ (pixel_of (own_picture w s a (layout_of b)) j i) (pixel_of b j i)

-- the first wrong pixel, by row and then by column
abbrev pub FirstWrong : Way → Setting → Picture → Picture → Place → Type 0
FirstWrong w s a b = IsFirstPlace (λ j i. Right w s a b j i → ⊥) (Right w s a b) 0 a.width a.height

-- the conversion's own refusals, with the claimed planes for its output planes, and else: it agrees exactly if every claimed pixel is right, differs
-- exactly with the first that is not, and there is no third answer; it counts the pixels that are not, and none exactly if it agrees
pub record JudgesFrame (w : Way) (s : Setting) (a b : Picture) (m : Meaning) : Type 0 where
  pub refuses : Refuses (picture_rules (Convert w) s a (layout_of b ∷ [])) (BadIn (input_of w) s a) m
  pub agrees : m.number ≡ 0 → (m.agrees ≡ true ∷ []) ↔ SamePixels (own_picture w s a (layout_of b)) b
  pub differs : m.number ≡ 0 → (place : Place) → ((m.agrees ≡ false ∷ []) × (m.place ≡ place)) ↔ FirstWrong w s a b place
  pub decides : m.number ≡ 0 → (m.agrees ≡ true ∷ []) ⊎ (m.agrees ≡ false ∷ [])
  pub counts : m.number ≡ 0 → m.wrong ≡ count_places (wrong_at w s a b) a.width a.height
  pub none_counted : m.number ≡ 0 → (m.wrong ≡ 0) ↔ (m.agrees ≡ true ∷ [])

-- the same by a call's parameters: planes a are the source, planes b are claimed
abbrev pub JudgesPlanes : Way → Setting → Size → (a0 a1 a2 b0 b1 b2 : List ℕ) → Meaning → Type 0
JudgesPlanes w s z a0 a1 a2 b0 b1 b2 m = JudgesFrame w s (input_picture z a0 a1 a2) (output_picture z b0 b1 b2) m

-- what a frame call answered, beside a judgement of the planes that it left: it agrees, or is refused as the frame was
pub record OwnAgrees (m m' : Meaning) : Type 0 where
  pub accepted : m.number ≡ 0 → (m'.number ≡ 0) × ((m'.agrees ≡ true ∷ []) × (m'.wrong ≡ 0))
  pub refused : (m.number ≡ 0 → ⊥) → m' ≡ m
