-- A claimed picture, held against what a conversion makes of its source: whether each claimed pixel is that, and else which is the first that is
-- not, and how many are not. Only what stands at the picture's own places counts.
use Rattle.std.specs.Prelude.{◌≡◌, Bool, true, Option, Some, None, MatchOption, ℕ, ◌+◌, ◌*◌, ◌/◌, ◌%◌, Result, Ok, Err}
use Rattle.refusal.specs.Rules.{at}
use Rattle.sample.specs.Depth.{InsideOf}
use Rattle.sample.specs.declared.Pixel.{Pixel}
use Rattle.setting.specs.Call.{input_of}
use Rattle.setting.specs.declared.Setting.{Setting}
use Rattle.setting.specs.declared.Way.{Way}
use Rattle.setting.specs.declared.admission.Served.{Served}
use Rattle.planes.specs.Picture.{Picture, layout_of, pixel_of, EveryPixel}
use Rattle.planes.specs.Sizes.{most_size}
use Rattle.planes.specs.Three.{Three, pixel_in}
use Rattle.scan.specs.First.{or_found, first_place, NotAbove, RunsFine}
use Rattle.plan.specs.Conversion.{convert}
use Rattle.compare.specs.Count.{count_places}
use Rattle.compare.specs.Compare.{differ, Compared}
use Rattle.compare.specs.declared.Tally.{Tally}
use Rattle.admit.specs.Rules.{frame_admission}
use Rattle.judge.specs.declared.picture.Told.{Told}
use Rattle.refusal.specs.declared.Refusal.{Refusal}
use Rattle.refusal.specs.declared.Place.{Place}
use Rattle.judge.specs.declared.Difference.{Difference}

-- whether the claimed pixel at row j and column i is another than f makes of the source's
abbrev pub is_wrong : (Pixel → Pixel) → Picture → Picture → ℕ → ℕ → Bool
is_wrong f a b j i = differ (f (pixel_of a j i)) (pixel_of b j i)

-- the first such pixel, as a place of plane 0, and how many there are
abbrev pub first_wrong : (Pixel → Pixel) → Picture → Picture → Option Place
first_wrong f a b = first_place (is_wrong f a b) 0 a.width a.height

abbrev pub count_wrong : (Pixel → Pixel) → Picture → Picture → ℕ
count_wrong f a b = count_places (is_wrong f a b) a.width a.height

abbrev pub verdict : Option Place → ℕ → Option Difference
verdict (Some place) wrong = Some (record { first = place; count = wrong })
verdict None wrong = None

-- what is refused is what the conversion refuses, with the claimed planes for its output planes
abbrev pub judge_by : Result Served Refusal → Way → Picture → Picture → Result (Option Difference) Refusal
judge_by (Ok x) way a b = Ok (verdict (first_wrong (convert way x) a b) (count_wrong (convert way x) a b))
judge_by (Err r) way a b = Err r

-- THE judgement of a claimed picture b, with a as its source
unfoldable pub judgement : Way → Setting → Picture → Picture → Result (Option Difference) Refusal
judgement way s a b = judge_by (frame_admission way s a (layout_of b)) way a b

-- whether the pixel at index k of two runs is wrong: they lie from index `from` of the source's planes and from index `to` of the claimed
abbrev pub run_wrong : (Pixel → Pixel) → ℕ → ℕ → (a b : Three) → ℕ → Bool
run_wrong f from to a b k = differ (f (pixel_in a (from + k))) (pixel_in b (to + k))

-- how many pixels a run has at most
abbrev pub most_run : ℕ
most_run = most_size * most_size

-- something told exactly if a fact holds
abbrev pub ToldIf : {T : Type 0} → Option T → Type 0 → (T → Type 0) → Type 0
ToldIf r fact says = MatchOption r (fact → ⊥) (λ t. fact × says t)

-- n pixels of two runs, compared exactly if no sample of the source's is above its top
abbrev pub PartTold : Option Tally → Bool → Pixel → (Pixel → Pixel) → ℕ → ℕ → ℕ → (a b : Three) → Type 0
PartTold r sought tops f from to n a b =
    ToldIf r (RunsFine tops from n a) (λ t. Compared t sought n (run_wrong f from to a b))

abbrev pub RunTold : Option Tally → Pixel → (Pixel → Pixel) → ℕ → ℕ → ℕ → (a b : Three) → Type 0
RunTold r = PartTold r true

-- the pixel of row j at a column, if there is one
abbrev pub in_row : ℕ → Option ℕ → Option Place
in_row j (Some i) = Some (at 0 j i)
in_row j None = None

-- what was found, unless that is nothing, and then row j's pixel at this column, if there is one
abbrev pub or_row : Option Place → ℕ → Option ℕ → Option Place
or_row f j column = or_found f (in_row j column)

-- the pixel at an index of rows without gaps, if there is one
abbrev pub found_in : Option ℕ → ℕ → Option Place
found_in (Some k) width = Some (at 0 (k / width) (k % width))
found_in None width = None

-- and a whole picture
abbrev pub PictureTold : Option Told → Pixel → (Pixel → Pixel) → Picture → Picture → Type 0
PictureTold r tops f a b =
    ToldIf r (EveryPixel (NotAbove tops) a) (λ t. (t.first ≡ first_wrong f a b) × (t.wrong ≡ count_wrong f a b))

-- by a conversion, where every pixel of the source lies within depth
abbrev pub JudgedIf : Option Told → Way → Served → Picture → Picture → Type 0
JudgedIf r way x a b =
    ToldIf r (EveryPixel (InsideOf (input_of way) x.depths) a)
    (λ t. (t.first ≡ first_wrong (convert way x) a b) × (t.wrong ≡ count_wrong (convert way x) a b))
