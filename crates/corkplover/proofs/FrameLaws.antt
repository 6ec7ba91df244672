-- The exports of a frame call: its setting and its sizes come in as single numbers, and its answer goes out packed.
use Rattle.std.specs.Prelude.{Result}
use mathlib.Core.Path.{◌≡◌, ap, ◌∙◌}
use mathlib.Core.List.{List}
use Prim.Native.Nat.{ℕ}
use lib.ListN.{length}
use Rattle.setting.specs.declared.Setting.{Setting}
use Rattle.setting.specs.declared.Way.{Way}
use Rattle.rows.specs.Paint.{input_picture, output_layout}
use Rattle.rows.specs.declared.paint.Size.{Size}
use Rattle.frame.specs.Frame.{frame_answer, out_plane}
use Rattle.corkplover.specs.Packing.{packed_frame}
use Rattle.refusal.specs.declared.Refusal.{Refusal}

-- a call that reads the planes a, and writes planes as long as the planes b were
module _ (w : Way) (a0 a1 a2 b0 b1 b2 : List ℕ) where
  abbrev answer : Setting → Size → Result Unit Refusal
  answer s z = frame_answer w s (input_picture z a0 a1 a2) (output_layout z (length b0) (length b1) (length b2))

  abbrev plane : ℕ → Setting → Size → List ℕ
  plane k s z = out_plane k w s (input_picture z a0 a1 a2) (output_layout z (length b0) (length b1) (length b2))

  abbrev Left : List ℕ → List ℕ → List ℕ → Setting → Size → Type 0
  Left y0 y1 y2 s z = (y0 ≡ plane 0 s z) × ((y1 ≡ plane 1 s z) × (y2 ≡ plane 2 s z))

  pub exported : {s t : Setting} {z u : Size} {x : Result Unit Refusal} {n : ℕ} {y0 y1 y2 : List ℕ} → s ≡ t → z ≡ u → n ≡ packed_frame x
      → (x ≡ answer s z) × Left y0 y1 y2 s z → (n ≡ packed_frame (answer t u)) × Left y0 y1 y2 t u
  exported e f p h = rw (← e, ← f) (p ∙ ap packed_frame h.0, h.1)
