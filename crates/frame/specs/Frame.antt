-- A frame, converted: what is answered, and what each output plane then holds. Of an output plane only its length counts: what it
-- held before is nowhere here.
use Rattle.std.specs.Prelude.{◌≡◌, Bool, true, List, [], ◌∷◌, ℕ, get_or, Result, Ok, Err}
use Rattle.sample.specs.Depth.{InsideOf}
use Rattle.sample.specs.declared.Pixel.{Pixel}
use Rattle.setting.specs.Call.{input_of}
use Rattle.setting.specs.declared.Setting.{Setting}
use Rattle.setting.specs.declared.Way.{Way}
use Rattle.setting.specs.declared.admission.Served.{Served}
use Rattle.tables.specs.Table.{zeros}
use Rattle.scan.specs.First.{NotAbove, Tells}
use Rattle.planes.specs.Picture.{Picture, pixel_of, sample_of, EveryPixel}
use Rattle.planes.specs.Plane.{plane_of}
use Rattle.planes.specs.declared.size.Layout.{Layout}
use Rattle.plan.specs.Conversion.{convert}
use Rattle.admit.specs.Rules.{frame_admission}
use Rattle.refusal.specs.declared.Refusal.{Refusal}

abbrev pub frame_by : Result Served Refusal → Result Unit Refusal
frame_by (Ok x) = Ok tt
frame_by (Err r) = Err r

-- THE answer of a conversion
unfoldable pub frame_answer : Way → Setting → Picture → Layout → Result Unit Refusal
frame_answer way s a b = frame_by (frame_admission way s a b)

-- a picture by a function of its pixels: the sample of plane k at row j and column i, and the plane of n elements
abbrev pub mapped_sample : ℕ → (Pixel → Pixel) → Picture → ℕ → ℕ → ℕ
mapped_sample k f a j i = sample_of k (f (pixel_of a j i))

abbrev pub mapped_plane : ℕ → (Pixel → Pixel) → Picture → ℕ → ℕ → List ℕ
mapped_plane k f a stride n = plane_of n a.width a.height stride (mapped_sample k f a)

-- a converted plane of n elements
abbrev pub converted_plane : ℕ → Way → Served → Picture → ℕ → ℕ → List ℕ
converted_plane k way x a stride n = mapped_plane k (convert way x) a stride n

-- the converted plane where nothing refuses, and else zeros
abbrev pub plane_by : Result Served Refusal → ℕ → Way → Picture → ℕ → ℕ → List ℕ
plane_by (Ok x) k way a stride n = converted_plane k way x a stride n
plane_by (Err r) k way a stride n = zeros n

-- how many elements plane k of a layout has
abbrev pub length_of : ℕ → Layout → ℕ
length_of k b = get_or (b.n0 ∷ b.n1 ∷ b.n2 ∷ []) k 0

-- THE contents of output plane k after a conversion
unfoldable pub out_plane : ℕ → Way → Setting → Picture → Layout → List ℕ
out_plane k way s a b = plane_by (frame_admission way s a b) k way a b.stride (length_of k b)

-- the three planes after a conversion, and with its answer all that there is after it
abbrev pub PlanesAfter : Way → Setting → Picture → Layout → List ℕ → List ℕ → List ℕ → Type 0
PlanesAfter way s a b p0 p1 p2 = (p0 ≡ out_plane 0 way s a b) × ((p1 ≡ out_plane 1 way s a b) × (p2 ≡ out_plane 2 way s a b))

abbrev pub FrameAfter : Way → Setting → Picture → Layout → Result Unit Refusal → List ℕ → List ℕ → List ℕ → Type 0
FrameAfter way s a b x p0 p1 p2 = (x ≡ frame_answer way s a b) × PlanesAfter way s a b p0 p1 p2

-- the same of an attempt: where it is refused the planes hold whatever they hold
abbrev pub AttemptAfter : Way → Setting → Picture → Layout → Result Unit Refusal → List ℕ → List ℕ → List ℕ → Type 0
AttemptAfter way s a b x p0 p1 p2 = (x ≡ frame_answer way s a b) × (x ≡ Ok tt → PlanesAfter way s a b p0 p1 p2)

-- a picture by such a function, in three planes of layout b
abbrev pub MappedPlanes : (Pixel → Pixel) → Picture → Layout → List ℕ → List ℕ → List ℕ → Type 0
MappedPlanes f a b p0 p1 p2 =
    (p0 ≡ mapped_plane 0 f a b.stride b.n0)
    × ((p1 ≡ mapped_plane 1 f a b.stride b.n1) × (p2 ≡ mapped_plane 2 f a b.stride b.n2))

-- the same, answered yes, exactly if no sample of the picture is above its top; after a no they hold whatever they hold
abbrev pub PaintedIf : Bool → Pixel → (Pixel → Pixel) → Picture → Layout → List ℕ → List ℕ → List ℕ → Type 0
PaintedIf r tops f a b p0 p1 p2 = Tells r (EveryPixel (NotAbove tops) a) × (r ≡ true → MappedPlanes f a b p0 p1 p2)

-- a conversion, answered yes exactly if every pixel that is read lies within depth
abbrev pub ConvertedIf : Bool → Way → Served → Picture → Layout → List ℕ → List ℕ → List ℕ → Type 0
ConvertedIf r way x a b p0 p1 p2 =
    Tells r (EveryPixel (InsideOf (input_of way) x.depths) a) × (r ≡ true → MappedPlanes (convert way x) a b p0 p1 p2)
