-- Levels: what a sample of each kind stands for, as an exact fraction, and the sample that a level is written as.
use Rattle.std.specs.Prelude.{Bool, true, false, ℕ, ◌*◌, pos, ◌+ℤ◌, ◌-ℤ◌}
use Rattle.rounding.specs.Rounding.{Clip}
use Rattle.fraction.specs.Fraction.{Frac, ◌⊕◌, ◌⊗◌, part, whole, Round}
use Rattle.sample.specs.Depth.{M, H, S}
use Rattle.sample.specs.declared.RgbDepth.{RgbDepth}
use Rattle.sample.specs.declared.LumaDepth.{LumaDepth}
use Rattle.sample.specs.declared.ChromaDepth.{ChromaDepth}
use Rattle.scale.specs.declared.Scale.{Scale}

-- Narrow range, in steps: from black to white and where black lies, and as far as chroma goes and where no colour lies.
abbrev pub light_span : ℕ
light_span = 219

abbrev pub black : ℕ
black = 16

abbrev pub chroma_span : ℕ
chroma_span = 224

abbrev pub grey : ℕ
grey = 128

-- R, G, B and Y, by the largest sample and the step: v / M in full range, (v - 16·2^s) / (219·2^s) in narrow range
abbrev pub light_by : Bool → ℕ → ℕ → Scale
light_by true top step = record { times = top; plus = 0 }
light_by false top step = record { times = light_span * step; plus = black * step }

abbrev pub light_scale : Bool → ℕ → Scale
light_scale full d = light_by full (M d) (S d)

abbrev pub rgb_scale : Bool → RgbDepth → Scale
rgb_scale full d = light_scale full d.0

abbrev pub luma_scale : Bool → LumaDepth → Scale
luma_scale full d = light_scale full d.0

-- Cb and Cr: (v - H) / M in full range, (v - 128·2^s) / (224·2^s) in narrow range
abbrev pub chroma_scale : Bool → ChromaDepth → Scale
chroma_scale true d = record { times = M d.0; plus = H d.0 }
chroma_scale false d = record { times = chroma_span * S d.0; plus = grey * S d.0 }

-- the level that a sample stands for
abbrev pub level : Scale → ℕ → Frac
level s v = part (pos v -ℤ pos s.plus) s.times

-- R, G, B and Y written: Round(M·E) in full range (33), Round(2^s(219·E + 16)) in narrow range (27)
abbrev pub written : Bool → ℕ → Frac → ℕ
written true d e = Clip d (Round (whole (M d) ⊗ e))
written false d e = Clip d (Round (whole (S d) ⊗ (whole light_span ⊗ e ⊕ whole black)))

abbrev pub written_rgb : Bool → RgbDepth → Frac → ℕ
written_rgb full d e = written full d.0 e

abbrev pub written_luma : Bool → LumaDepth → Frac → ℕ
written_luma full d e = written full d.0 e

-- Cb and Cr written: Round(M·E) + H in full range (34, 35), Round(2^s(224·E + 128)) in narrow range (28, 29)
abbrev pub written_chroma : Bool → ChromaDepth → Frac → ℕ
written_chroma true d e = Clip d.0 (Round (whole (M d.0) ⊗ e) +ℤ pos (H d.0))
written_chroma false d e = Clip d.0 (Round (whole (S d.0) ⊗ (whole chroma_span ⊗ e ⊕ whole grey)))
