-- `levels::forward_lines` meets its contract: what it reads and writes by is what the definition does, and each line has room.
use mathlib.Core.Path.{◌≡◌, ap, ◌∙◌}
use Rattle.levels.specs.Conversion.{rgb_of}
use Rattle.levels.specs.Lines.{readers_of_rgb, writer_of, luma_writer, chroma_writer, lines_of, forward_lines}
use Rattle.levels.proofs.Fitting.{fits_as, into_luma, into_chroma}
use Rattle.levels.proofs.forward_lines.Goals as goal
use Rattle.levels.proofs.forward_lines.Goals.{After-writer_of-colour}

module _ (c : After-writer_of-colour) where
  from_is : c.readers_of_rgb-from.result ≡ readers_of_rgb (rgb_of c.args.s)
  from_is = c.readers_of_rgb-from.ensures ∙ ap readers_of_rgb c.rgb_scale.ensures

  light_is : c.writer_of-light.result ≡ luma_writer c.args.s
  light_is =
      c.writer_of-light.ensures
      ∙ (λ i. writer_of c.args.s.ycc_full (c.luma_scale.ensures i) (c.largest.ensures i))

  colour_is : c.writer_of-colour.result ≡ chroma_writer c.args.s
  colour_is =
      c.writer_of-colour.ensures
      ∙ (λ i. writer_of c.args.s.ycc_full (c.chroma_scale.ensures i) (c.largest-2.ensures i))

pub lines_of-requires : goal.lines_of-requires
lines_of-requires c =
    let e = c.requires.equations_fit in
    let h = c.requires.level_depths in record {
      line_fits = fits_as (from_is ((goal.at.lines_of-requires c).After-writer_of-colour)) (light_is ((goal.at.lines_of-requires c).After-writer_of-colour)) (into_luma c.args.s h _ e.first);
      line_fits_2 = fits_as (from_is ((goal.at.lines_of-requires c).After-writer_of-colour)) (colour_is ((goal.at.lines_of-requires c).After-writer_of-colour)) (into_chroma c.args.s h _ e.second);
      line_fits_3 = fits_as (from_is ((goal.at.lines_of-requires c).After-writer_of-colour)) (colour_is ((goal.at.lines_of-requires c).After-writer_of-colour)) (into_chroma c.args.s h _ e.third);
    }

pub returns : goal.returns
unfolding forward_lines
returns c =
    c.lines_of.ensures ∙ (λ i. lines_of c.args.e (from_is ((goal.at.returns c).After-writer_of-colour) i) (light_is ((goal.at.returns c).After-writer_of-colour) i) (colour_is ((goal.at.returns c).After-writer_of-colour) i))
