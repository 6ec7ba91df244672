-- The settings that the rules list as lossless, among those that are not refused. A matrix is listed by what its code means in the setting's
-- edition; which code that is has its one home in the table of matrices.
use Rattle.std.specs.Prelude.{◌≡◌, ◌+◌}
use Rattle.codes.specs.Matrix.{changed_places, ycgco_r, ycgco_re, ycgco_ro}
use Rattle.codes.specs.declared.matrix.Entry.{Entry}
use Rattle.codes.specs.declared.matrix.Matrix.TheVariants.{Served}
use Rattle.setting.specs.Rules.{matrix_in}
use Rattle.setting.specs.declared.Setting.{Setting}

-- the setting's matrix code means this
abbrev pub Means : Setting → Entry → Type 0
Means s e = matrix_in s ≡ Served e

pub data Listed (s : Setting) : Type 0 where
  -- planes change places
  change_places : Means s changed_places → Listed s
  -- YCgCo-R, where chroma has a bit more than luma
  is_ycgco_r : Means s ycgco_r → s.c_depth ≡ s.y_depth + 1 → Listed s
  -- YCgCo-Re and YCgCo-Ro
  is_ycgco_re : Means s ycgco_re → Listed s
  is_ycgco_ro : Means s ycgco_ro → Listed s
