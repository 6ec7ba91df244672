-- What an exported call leaves: its number, and what stands behind each pointer.
use Rattle.std.specs.Prelude.{◌≡◌, List, ℕ, Float, length}
use Rattle.sample.specs.declared.Pixel.{Pixel}
use Rattle.setting.specs.declared.Setting.{Setting}
use Rattle.meter.specs.declared.SampleKind.{SampleKind}
use Rattle.setting.specs.declared.Way.{Way}
use Rattle.rows.specs.Paint.{input_picture, output_picture, output_layout}
use Rattle.rows.specs.declared.paint.Size.{Size}
use Rattle.frame.specs.Frame.{frame_answer, PlanesAfter}
use Rattle.judge.specs.Judge.{judgement}
use Rattle.corkplover.specs.Answers.{reading, levels_answer}
use Rattle.corkplover.specs.Packing.{packed_reading, level_in, packed_levels, y_in, cb_in, cr_in, packed_frame, packed_judgement, wrong_in}

-- a meter's call on one sample, and on a pixel
abbrev pub ReadingAfter : SampleKind → Setting → ℕ → ℕ → Float → Type 0
ReadingAfter kind s v x level = (x ≡ packed_reading (reading kind s v)) × (level ≡ level_in (reading kind s v))

abbrev pub LevelsAfter : Setting → Pixel → ℕ → Float → Float → Float → Type 0
LevelsAfter s p x y cb cr =
    (x ≡ packed_levels (levels_answer s p)) × ((y ≡ y_in (levels_answer s p)) × ((cb ≡ cb_in (levels_answer s p)) × (cr ≡ cr_in (levels_answer s p))))

-- a frame's call, which reads the planes a and is lent the planes b: of what those held, only their lengths count
abbrev pub FrameExportAfter : Way → Setting → Size → List ℕ → List ℕ → List ℕ → List ℕ → List ℕ → List ℕ → ℕ → List ℕ → List ℕ → List ℕ → Type 0
FrameExportAfter way s size a0 a1 a2 b0 b1 b2 x p0 p1 p2 =
    let input = input_picture size a0 a1 a2 in
    let output = output_layout size (length b0) (length b1) (length b2) in
    (x ≡ packed_frame (frame_answer way s input output)) × PlanesAfter way s input output p0 p1 p2

-- a judgement of the planes b, with the planes a as their source, and its count
abbrev pub JudgementAfter : Way → Setting → Size → List ℕ → List ℕ → List ℕ → List ℕ → List ℕ → List ℕ → ℕ → ℕ → Type 0
JudgementAfter way s size a0 a1 a2 b0 b1 b2 x wrong =
    let told = judgement way s (input_picture size a0 a1 a2) (output_picture size b0 b1 b2) in
    (x ≡ packed_judgement told) × (wrong ≡ wrong_in told)
