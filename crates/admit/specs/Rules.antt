-- THE rules of each kind of call, whole and in their order: on its setting, on its sizes where it has a picture, and on the samples that it
-- was handed. Who meets none of them is let in.
use Rattle.std.specs.Prelude.{List, [], ◌∷◌, ◌++◌, ℕ, Result, Option, None}
use Rattle.sample.specs.Depth.{M, plane_depth, tops}
use Rattle.sample.specs.declared.Depths.{Depths}
use Rattle.sample.specs.declared.Pixel.{Pixel}
use Rattle.sample.specs.declared.Side.{Side}
use Rattle.sample.specs.declared.Side.TheVariants.{Ycc}
use Rattle.refusal.specs.Rules.{Rule, first}
use Rattle.meter.specs.Level.{plane_number}
use Rattle.meter.specs.declared.SampleKind.{SampleKind}
use Rattle.setting.specs.Call.{reads}
use Rattle.setting.specs.Rules.{depths, served, setting_rules, admitted}
use Rattle.setting.specs.declared.Call.{Call}
use Rattle.setting.specs.declared.Call.TheVariants as call
use Rattle.setting.specs.declared.Setting.{Setting}
use Rattle.setting.specs.declared.Way.{Way}
use Rattle.scan.specs.First.{first_bad, bad_found, with_sample, bad_rule}
use Rattle.planes.specs.Picture.{Picture, picture, layout_of}
use Rattle.planes.specs.Sizes.{size_rules}
use Rattle.planes.specs.declared.size.Layout.{Layout}
use Rattle.refusal.specs.declared.Refusal.{Refusal}
use Rattle.setting.specs.declared.admission.Served.{Served}
use Rattle.refusal.specs.declared.Place.{Place}

-- a call with some rules on sizes, whose first bad sample is looked for
abbrev pub call_rules : Call → Setting → List Rule → Option (Place × ℕ) → List Rule
call_rules call s sizes bad = setting_rules call s ++ (sizes ++ (bad_rule bad ∷ []))

unfoldable pub call_admission : Call → Setting → List Rule → Option (Place × ℕ) → Result Served Refusal
call_admission call s sizes bad = admitted (first (call_rules call s sizes bad)) (served s)

-- a call whose samples are not looked at yet: its setting and its sizes alone
abbrev pub sized_admission : Call → Setting → List Rule → Result Served Refusal
sized_admission call s sizes = call_admission call s sizes None

-- the first bad sample of a picture of one side
abbrev pub beyond_depth : Side → Depths → Picture → Option (Place × ℕ)
beyond_depth side d a = bad_found a (tops side d)

-- a call on a picture, with the layouts of the planes that it writes
abbrev pub picture_rules : Call → Setting → Picture → List Layout → List Rule
picture_rules call s a others =
    call_rules call s (size_rules a.width a.height (layout_of a ∷ others)) (beyond_depth (reads call) (depths s) a)

abbrev pub picture_admission : Call → Setting → Picture → List Layout → Result Served Refusal
picture_admission call s a others =
    call_admission call s (size_rules a.width a.height (layout_of a ∷ others)) (beyond_depth (reads call) (depths s) a)

-- the same before its samples are looked at
abbrev pub by_sizes : Call → Setting → Picture → Layout → Result Served Refusal
by_sizes call s a other = sized_admission call s (size_rules a.width a.height (layout_of a ∷ other ∷ []))

-- a conversion of picture a into planes of layout b
abbrev pub frame_admission : Way → Setting → Picture → Layout → Result Served Refusal
frame_admission way s a b = picture_admission (call.Convert way) s a (b ∷ [])

-- a call on a pixel, which is a picture of one row and one column and has no sizes of its own
abbrev pub pixel_picture : Pixel → Picture
pixel_picture p = picture 1 1 1 (p.p0 ∷ []) (p.p1 ∷ []) (p.p2 ∷ [])

abbrev pub pixel_rules : Call → Setting → Pixel → List Rule
pixel_rules call s p = call_rules call s [] (beyond_depth (reads call) (depths s) (pixel_picture p))

abbrev pub pixel_admission : Call → Setting → Pixel → Result Served Refusal
pixel_admission call s p = call_admission call s [] (beyond_depth (reads call) (depths s) (pixel_picture p))

-- the meter on one sample of a kind, which alone is looked at and whose plane is named
abbrev pub top_of : SampleKind → Depths → ℕ
top_of k d = M (plane_depth Ycc d (plane_number k))

abbrev pub bad_one : SampleKind → Depths → ℕ → Option (Place × ℕ)
bad_one k d v = with_sample (λ place. v) (first_bad (v ∷ []) (plane_number k) 1 1 1 (top_of k d))

abbrev pub sample_rules : SampleKind → Setting → ℕ → List Rule
sample_rules k s v = call_rules call.Meter s [] (bad_one k (depths s) v)

abbrev pub sample_admission : SampleKind → Setting → ℕ → Result Served Refusal
sample_admission k s v = call_admission call.Meter s [] (bad_one k (depths s) v)
