-- What is promised of a call on a frame, by what its answer means and what it leaves in its three output planes.
use Rattle.std.specs.Prelude.{◌≡◌, List, [], ◌∷◌, ℕ, ◌+◌, ◌*◌, ◌<◌, length, get_or}
use Rattle.setting.specs.Call.{input_of}
use Rattle.setting.specs.Rules.{served}
use Rattle.setting.specs.declared.Call.TheVariants as call
use Rattle.setting.specs.declared.Setting.{Setting}
use Rattle.setting.specs.declared.Way.{Way}
use Rattle.planes.specs.Picture.{Picture, plane_at, pixel_of}
use Rattle.planes.specs.Plane.{SamePicture}
use Rattle.planes.specs.declared.size.Layout.{Layout}
use Rattle.plan.specs.Conversion.{convert}
use Rattle.admit.specs.Rules.{picture_rules}
use Rattle.rows.specs.Paint.{input_picture, output_picture, output_layout}
use Rattle.rows.specs.declared.paint.Size.{Size}
use Rattle.frame.specs.Frame.{length_of}
use Rattle.corkplover.specs.Meaning.{Meaning}
use Rattle.promises.specs.Refusing.{Refuses, BadIn}

-- element n of a plane belongs to no pixel of a picture of that width and height
abbrev pub Outside : ℕ → ℕ → ℕ → ℕ → Type 0
Outside width height stride n = (j i : ℕ) → j < height → i < width → n ≡ j * stride + i → ⊥

-- a picture a converted into planes of layout b, in which the picture c then stands: rules 1 to 10, and else every pixel by the formulas.
-- What belongs to no pixel is 0, and everything is on a refusal.
pub record ConvertsFrame (w : Way) (s : Setting) (a : Picture) (b : Layout) (m : Meaning) (c : Picture) : Type 0 where
  pub refuses : Refuses (picture_rules (call.Convert w) s a (b ∷ [])) (BadIn (input_of w) s a) m
  pub long : (k : ℕ) → k < 3 → length (plane_at k c) ≡ length_of k b
  pub zeroed : (m.number ≡ 0 → ⊥) → (k n : ℕ) → k < 3 → n < length_of k b → get_or (plane_at k c) n 0 ≡ 0
  pub inside : m.number ≡ 0 → (j i : ℕ) → j < a.height → i < a.width → pixel_of c j i ≡ convert w (served s) (pixel_of a j i)
  pub outside : m.number ≡ 0 → (k n : ℕ) → k < 3 → n < length_of k b → Outside a.width a.height b.stride n → get_or (plane_at k c) n 0 ≡ 0

-- the same by a call's parameters: planes a are read, planes b are lent, and planes p are what is in those afterwards
abbrev pub ConvertsPlanes : Way → Setting → Size → (a0 a1 a2 b0 b1 b2 : List ℕ) → Meaning → (p0 p1 p2 : List ℕ) → Type 0
ConvertsPlanes w s z a0 a1 a2 b0 b1 b2 m p0 p1 p2 =
    ConvertsFrame w s (input_picture z a0 a1 a2) (output_layout z (length b0) (length b1) (length b2)) m (output_picture z p0 p1 p2)

-- two planes of one length with the same samples inside the picture
pub record SamePlane (width height stride : ℕ) (p q : List ℕ) : Type 0 where
  pub long : length p ≡ length q
  pub same : SamePicture width height stride p q

-- three planes each
pub record Alike (width height stride : ℕ) (p0 p1 p2 q0 q1 q2 : List ℕ) : Type 0 where
  pub first : SamePlane width height stride p0 q0
  pub second : SamePlane width height stride p1 q1
  pub third : SamePlane width height stride p2 q2

-- the planes p that a call of sizes z left, handed on to a call of sizes z' as its planes q
pub record HandedOn (z z' : Size) (p0 p1 p2 q0 q1 q2 : List ℕ) : Type 0 where
  pub width_is : z'.width ≡ z.width
  pub height_is : z'.height ≡ z.height
  pub stride_is : z'.input_stride ≡ z.output_stride
  pub plane0_is : q0 ≡ p0
  pub plane1_is : q1 ≡ p1
  pub plane2_is : q2 ≡ p2

-- two pictures of one width and height have the same pixels
abbrev pub SamePixels : Picture → Picture → Type 0
SamePixels a c = (j i : ℕ) → j < a.height → i < a.width → pixel_of a j i ≡ pixel_of c j i
