-- The prepared lines of a matrix give the pixel that its equations give, and of a luma matrix the pixel that the printed formulas give:
-- any formula with the value of an equation is written as the equation's line writes it.
use mathlib.Core.Path.{◌≡◌, sym, ◌∙◌}
use Prim.Native.Nat.{ℕ, ◌*◌}
use native.Mathlib.Nat.{mul-pos}
use Rattle.fraction.proofs.Value.{Value}
use Rattle.sample.specs.declared.Pixel.{Pixel}
use Rattle.scale.specs.Scale.{level}
use Rattle.levels.specs.Equations.{level_by, luma_matrix}
use Rattle.levels.specs.Conversion.{Formula, Shares, EquationsFit, MatrixFits, LevelDepths, rgb_of, luma_of, chroma_of, to_ycc, to_rgb, levels_forward, levels_reverse, luma_forward, luma_reverse}
use Rattle.levels.specs.Lines.{reader, read, readers_of_rgb, readers_of_ycc, forward_lines, reverse_lines, lines_pixel}
use Rattle.levels.specs.declared.LevelSetting.{LevelSetting}
use Rattle.levels.specs.declared.equations.Equations.{Equations}
use Rattle.levels.specs.declared.equations.LevelMatrix.{LevelMatrix}
use Rattle.levels.specs.declared.equations.Weights.{Weights}
use Rattle.levels.proofs.Bounds as bounds
use Rattle.levels.proofs.Formulas.{Gives, by_equation, gives_y, gives_pb, gives_pr, gives_r, gives_g, gives_b}
use Rattle.levels.proofs.Writing.{rgb_value, luma_value, chroma_value, light_sample, chroma_sample}
use Rattle.levels.proofs.Fitting.{rgb_fits, luma_fits, chroma_fits}

-- three formulas with the values of three equations
pub record AllGive (f g k : Formula) (e : Equations) : Type 0 where
  pub first : Gives f e.first
  pub second : Gives g e.second
  pub third : Gives k e.third

pub by_equations : (e : Equations) → EquationsFit e → AllGive (level_by e.first) (level_by e.second) (level_by e.third) e
by_equations e h =
    record {
      first = by_equation e.first h.first.some;
      second = by_equation e.second h.second.some;
      third = by_equation e.third h.third.some;
    }

module _ (s : LevelSetting) (h : LevelDepths s) (p : Pixel) where
  -- what the samples of p stand for, on either side
  of_rgb_lem : (v : ℕ) → Value (level (rgb_of s) v) (read (reader 1 (rgb_of s).plus) v) (rgb_of s).times
  of_rgb_lem v = rgb_value (rgb_of s) v (rgb_fits s h).some

  of_luma : (v : ℕ) → Value (level (luma_of s) v) (read (reader (chroma_of s).times (luma_of s).plus) v) ((chroma_of s).times * (luma_of s).times)
  of_luma v = luma_value (luma_of s) (chroma_of s) v (luma_fits s h).some

  of_chroma : (v : ℕ) → Value (level (chroma_of s) v) (read (reader (luma_of s).times (chroma_of s).plus) v) ((chroma_of s).times * (luma_of s).times)
  of_chroma v = chroma_value (luma_of s) (chroma_of s) v (chroma_fits s h).some

  module _ (e : Equations) (k : EquationsFit e) {f g j : Formula} (a : AllGive f g j e) where
    pub forward_by : lines_pixel (forward_lines e s) p ≡ to_ycc s f g j p
    unfolding forward_lines
    forward_by =
        let from = readers_of_rgb (rgb_of s) in
        let some = (rgb_fits s h).some in
        let r = of_rgb_lem p.p0 in
        let t = of_rgb_lem p.p1 in
        let b = of_rgb_lem p.p2 in
        λ i.
        record {
          p0 = light_sample e.first from p (a.first.value r t b) (mul-pos k.first.some some) s.ycc_full s.depths.luma.0 i;
          p1 = chroma_sample e.second from p (a.second.value r t b) (mul-pos k.second.some some) s.ycc_full s.depths.chroma i;
          p2 = chroma_sample e.third from p (a.third.value r t b) (mul-pos k.third.some some) s.ycc_full s.depths.chroma i;
        }

    pub reverse_by : lines_pixel (reverse_lines e s) p ≡ to_rgb s f g j p
    unfolding reverse_lines
    reverse_by =
        let from = readers_of_ycc (luma_of s) (chroma_of s) in
        let some = mul-pos (chroma_fits s h).some (luma_fits s h).some in
        let y = of_luma p.p0 in
        let cb = of_chroma p.p1 in
        let cr = of_chroma p.p2 in
        λ i.
        record {
          p0 = light_sample e.first from p (a.first.value y cb cr) (mul-pos k.first.some some) s.rgb_full s.depths.rgb.0 i;
          p1 = light_sample e.second from p (a.second.value y cb cr) (mul-pos k.second.some some) s.rgb_full s.depths.rgb.0 i;
          p2 = light_sample e.third from p (a.third.value y cb cr) (mul-pos k.third.some some) s.rgb_full s.depths.rgb.0 i;
        }

  -- the lines of a matrix
  module _ (m : LevelMatrix) (k : MatrixFits m) where
    pub forward_law : lines_pixel (forward_lines m.forward s) p ≡ levels_forward m s p
    unfolding levels_forward
    forward_law = forward_by m.forward k.forward (by_equations m.forward k.forward)

    pub reverse_law : lines_pixel (reverse_lines m.reverse s) p ≡ levels_reverse m s p
    unfolding levels_reverse
    reverse_law = reverse_by m.reverse k.reverse (by_equations m.reverse k.reverse)

  -- a luma matrix is the printed formulas
  module _ (k : Weights) (w : Shares k) where
    pub luma_forward_lem : levels_forward (luma_matrix k) s p ≡ luma_forward k s p
    unfolding levels_forward luma_forward luma_matrix
    luma_forward_lem =
        let e = (luma_matrix k).forward in
        let fits = (bounds.luma_fits k w).forward in
        sym (forward_by e fits (by_equations e fits))
        ∙ forward_by e fits (record { first = gives_y k w; second = gives_pb k w; third = gives_pr k w })

    pub luma_reverse_lem : levels_reverse (luma_matrix k) s p ≡ luma_reverse k s p
    unfolding levels_reverse luma_reverse luma_matrix
    luma_reverse_lem =
        let e = (luma_matrix k).reverse in
        let fits = (bounds.luma_fits k w).reverse in
        sym (reverse_by e fits (by_equations e fits))
        ∙ reverse_by e fits (record { first = gives_r k w; second = gives_g k w; third = gives_b k w })
