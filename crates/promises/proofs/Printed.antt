-- Demand 2 on the luma matrices: what the box converts by is the printed formulas, (42) to (44) and their solution, with the weights that
-- the table of matrices gives the code.
use Rattle.std.specs.Prelude.{Ok}
use mathlib.Core.Path.{◌≡◌, ap, ◌∙◌, subst}
use Prim.Native.Nat.{ℕ, ◌+◌, ◌<◌}
use Rattle.sample.specs.declared.Pixel.{Pixel}
use Rattle.refusal.specs.Rules.{first}
use Rattle.levels.specs.Conversion.{LevelDepths, luma_forward, luma_reverse}
use Rattle.levels.specs.Equations.{all_parts, weights, luma_matrix}
use Rattle.levels.proofs.Bounds.{shares}
use Rattle.levels.proofs.Pixels.{luma_forward_lem, luma_reverse_lem}
use Rattle.codes.specs.Matrix.{luma_entry}
use Rattle.codes.specs.Standing.{entry_of}
use Rattle.codes.specs.declared.matrix.Formulas.TheVariants.{Levels}
use Rattle.codes.specs.declared.matrix.Matrix.{Matrix}
use Rattle.codes.specs.declared.matrix.Matrix.TheVariants as matrix
use Rattle.setting.specs.Ready.{level_setting, Agreed}
use Rattle.setting.specs.Rules.{matrix_in, entry, served, setting_rules}
use Rattle.setting.specs.declared.Call.TheVariants.{Convert}
use Rattle.setting.specs.declared.Setting.{Setting}
use Rattle.setting.specs.declared.Way.{Way}
use Rattle.setting.specs.declared.Way.TheVariants.{Forward, Reverse}
use Rattle.setting.proofs.ReadyLaws.{ready}
use Rattle.plan.specs.Conversion.{convert_by, convert}

-- a luma matrix by its KR and KB in ten-thousandths, as the table of matrices has it for its code
abbrev luma : ℕ → ℕ → Matrix
luma kr kb = matrix.Served (luma_entry kr kb)

module _ (s : Setting) (kr kb : ℕ) (h : kr + kb < all_parts) (e : matrix_in s ≡ luma kr kb) where
  formulas_are : (entry s).formulas ≡ Levels (luma_matrix (weights kr kb))
  formulas_are = ap (λ m. (entry_of m).formulas) e

  depths_served_lem : (w : Way) → first (setting_rules (Convert w) s) ≡ Ok tt → LevelDepths (level_setting (served s))
  depths_served_lem w q = (subst (λ f. Agreed f (served s)) formulas_are (ready (Convert w) s q).agreed).1

  pub printed_forward : first (setting_rules (Convert Forward) s) ≡ Ok tt → (p : Pixel)
      → convert Forward (served s) p ≡ luma_forward (weights kr kb) (level_setting (served s)) p
  unfolding convert
  printed_forward q p =
      ap (λ f. convert_by Forward f (served s) p) formulas_are
      ∙ luma_forward_lem (level_setting (served s)) (depths_served_lem Forward q) p (weights kr kb) (shares kr kb h)

  pub printed_reverse : first (setting_rules (Convert Reverse) s) ≡ Ok tt → (p : Pixel)
      → convert Reverse (served s) p ≡ luma_reverse (weights kr kb) (level_setting (served s)) p
  unfolding convert
  printed_reverse q p =
      ap (λ f. convert_by Reverse f (served s) p) formulas_are
      ∙ luma_reverse_lem (level_setting (served s)) (depths_served_lem Reverse q) p (weights kr kb) (shares kr kb h)
