-- What follows from depths that are served: the scales are small, so each line has room.
use mathlib.Core.Path.{◌≡◌, refl}
use native.Mathlib.Omega.{arith}
use Rattle.rounding.proofs.Quotients.{divides}
use Rattle.levels.specs.Conversion.{EquationFits, EquationsFit, LevelDepths, rgb_of, luma_of, chroma_of}
use Rattle.levels.specs.Lines.{readers_of_rgb, readers_of_ycc, rgb_writer, luma_writer, chroma_writer, ready_line, forward_lines, reverse_lines}
use Rattle.levels.specs.Room.{ScaleFits, LineFits, LineReady, AllReady}
use Rattle.levels.specs.declared.LevelSetting.{LevelSetting}
use Rattle.levels.specs.declared.equations.Equation.{Equation}
use Rattle.levels.specs.declared.equations.Equations.{Equations}
use Rattle.levels.specs.declared.lines.Readers.{Readers}
use Rattle.levels.specs.declared.lines.Writer.{Writer}
use Rattle.levels.proofs.Bounds.{light_scale_fits, light_writer_fits, chroma_scale_fits, chroma_writer_fits, wider, forward_fits, reverse_fits, room}

-- what is said of a reader and a writer holds of those that equal them
pub fits_as : {w : Equation} {f g : Readers} {t u : Writer} → f ≡ g → t ≡ u → LineFits w g u → LineFits w f t
fits_as e p h = rw (e, p) h

-- a line that has room is ready: its divisor is some number
line_ready : {w : Equation} {from : Readers} {to : Writer} → LineFits w from to → LineReady (ready_line w from to)
line_ready h = let r = room h in record { room = r; divides = divides _ (omega arith); twice = refl }

module _ (s : LevelSetting) (h : LevelDepths s) where
  pub rgb_fits : ScaleFits (rgb_of s)
  rgb_fits = light_scale_fits s.depths.rgb.0 h.rgb s.rgb_full

  pub luma_fits : ScaleFits (luma_of s)
  luma_fits = light_scale_fits s.depths.luma.0 h.luma s.ycc_full

  pub chroma_fits : ScaleFits (chroma_of s)
  chroma_fits = chroma_scale_fits s.depths.chroma h.chroma s.ycc_full

  -- an equation's line into each kind of plane
  module _ (w : Equation) (r : EquationFits w) where
    pub into_luma : LineFits w (readers_of_rgb (rgb_of s)) (luma_writer s)
    into_luma = forward_fits w r _ (rgb_of s) rgb_fits (wider (light_writer_fits s.depths.luma.0 h.luma s.ycc_full))

    pub into_chroma : LineFits w (readers_of_rgb (rgb_of s)) (chroma_writer s)
    into_chroma = forward_fits w r _ (rgb_of s) rgb_fits (chroma_writer_fits s.depths.chroma h.chroma s.ycc_full)

    pub into_rgb : LineFits w (readers_of_ycc (luma_of s) (chroma_of s)) (rgb_writer s)
    into_rgb = reverse_fits w r _ (luma_of s) (chroma_of s) luma_fits chroma_fits (light_writer_fits s.depths.rgb.0 h.rgb s.rgb_full)

  -- so the lines of three equations are ready, either way
  module _ (e : Equations) (r : EquationsFit e) where
    pub forward_ready : AllReady (forward_lines e s)
    unfolding forward_lines
    forward_ready =
        record {
          first = line_ready (into_luma e.first r.first);
          second = line_ready (into_chroma e.second r.second);
          third = line_ready (into_chroma e.third r.third);
        }

    pub reverse_ready : AllReady (reverse_lines e s)
    unfolding reverse_lines
    reverse_ready =
        record {
          first = line_ready (into_rgb e.first r.first);
          second = line_ready (into_rgb e.second r.second);
          third = line_ready (into_rgb e.third r.third);
        }
