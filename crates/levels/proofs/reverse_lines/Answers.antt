-- `levels::reverse_lines` meets its contract: what it reads and writes by is what the definition does, and each line has room.
use mathlib.Core.Path.{◌≡◌, ◌∙◌}
use Rattle.levels.specs.Conversion.{luma_of, chroma_of}
use Rattle.levels.specs.Lines.{readers_of_ycc, writer_of, rgb_writer, lines_of, reverse_lines}
use Rattle.levels.proofs.Fitting.{fits_as, luma_fits, chroma_fits, into_rgb}
use Rattle.levels.proofs.reverse_lines.Goals as goal
use Rattle.levels.proofs.reverse_lines.Goals.{After-writer_of-to}

module _ (c : After-writer_of-to) where
  from_is : c.readers_of_ycc-from.result ≡ readers_of_ycc (luma_of c.args.s) (chroma_of c.args.s)
  from_is =
      c.readers_of_ycc-from.ensures
      ∙ (λ i. readers_of_ycc (c.luma_scale-of_luma.ensures i) (c.chroma_scale-of_chroma.ensures i))

  to_is : c.writer_of-to.result ≡ rgb_writer c.args.s
  to_is =
      c.writer_of-to.ensures
      ∙ (λ i. writer_of c.args.s.rgb_full (c.rgb_scale.ensures i) (c.largest.ensures i))

pub readers_of_ycc-from-requires : goal.readers_of_ycc-from-requires
readers_of_ycc-from-requires c =
    record {
      scale_fits = rw c.luma_scale-of_luma.ensures (luma_fits c.args.s c.requires.level_depths);
      scale_fits_2 = rw c.chroma_scale-of_chroma.ensures (chroma_fits c.args.s c.requires.level_depths);
    }

pub lines_of-requires : goal.lines_of-requires
lines_of-requires c =
    let e = c.requires.equations_fit in
    let h = c.requires.level_depths in record {
      line_fits = fits_as (from_is ((goal.at.lines_of-requires c).After-writer_of-to)) (to_is ((goal.at.lines_of-requires c).After-writer_of-to)) (into_rgb c.args.s h _ e.first);
      line_fits_2 = fits_as (from_is ((goal.at.lines_of-requires c).After-writer_of-to)) (to_is ((goal.at.lines_of-requires c).After-writer_of-to)) (into_rgb c.args.s h _ e.second);
      line_fits_3 = fits_as (from_is ((goal.at.lines_of-requires c).After-writer_of-to)) (to_is ((goal.at.lines_of-requires c).After-writer_of-to)) (into_rgb c.args.s h _ e.third);
    }

pub returns : goal.returns
unfolding reverse_lines
returns c =
    c.lines_of.ensures ∙ (λ i. lines_of c.args.e (from_is ((goal.at.returns c).After-writer_of-to) i) (to_is ((goal.at.returns c).After-writer_of-to) i) (to_is ((goal.at.returns c).After-writer_of-to) i))
