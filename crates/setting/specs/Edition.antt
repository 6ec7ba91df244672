-- A setting in another edition.
use Rattle.std.specs.Prelude.{ℕ}
use Rattle.setting.specs.declared.Setting.{Setting}

-- the same codes, depths and flags, read by the edition of another number
abbrev pub in_edition : ℕ → Setting → Setting
in_edition n s =
    record {
      primaries = s.primaries;
      transfer = s.transfer;
      matrix = s.matrix;
      rgb_depth = s.rgb_depth;
      y_depth = s.y_depth;
      c_depth = s.c_depth;
      rgb_full = s.rgb_full;
      ycc_full = s.ycc_full;
      edition = n;
    }
