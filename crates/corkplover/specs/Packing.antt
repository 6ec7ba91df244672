-- Answers and settings as one number each, for callers in other languages. In an answer bits 0 to 7 are 0 or the refusal's number; a 10
-- has its plane from bit 8, its row from bit 16, its column from bit 32 and its sample from bit 48; an accepted pixel has its samples from
-- bits 16, 32 and 48. All other bits are 0.
use Rattle.std.specs.Prelude.{false, ℕ, ◌+◌, ◌*◌, ◌/◌, ◌%◌, eqb, pos, Float, Result, Ok, Err, Option, Some, None}
use Rattle.std.specs.Float.{fin}
use Rattle.sample.specs.Flag.{one_if}
use Rattle.sample.specs.declared.Pixel.{Pixel}
use Rattle.meter.specs.declared.PixelLevels.{PixelLevels}
use Rattle.refusal.specs.declared.Refusal.{Refusal}
use Rattle.codes.specs.Label.{label_number}
use Rattle.setting.specs.declared.Setting.{Setting}
use Rattle.rows.specs.declared.paint.Size.{Size}
use Rattle.refusal.specs.declared.Place.{Place}
use Rattle.judge.specs.declared.Difference.{Difference}
use Rattle.codes.specs.declared.label.Label.{Label}

-- five fields: 8 bits, 8 bits and three times 16 bits
abbrev pub packed : ℕ → ℕ → ℕ → ℕ → ℕ → ℕ
packed number second a b c = number + second * 256 + a * 65536 + b * 4294967296 + c * 281474976710656

-- and each of them out again
abbrev pub number_in : ℕ → ℕ
number_in x = x % 256

abbrev pub second_in : ℕ → ℕ
second_in x = x / 256 % 256

abbrev pub first_in : ℕ → ℕ
first_in x = x / 65536 % 65536

abbrev pub middle_in : ℕ → ℕ
middle_in x = x / 4294967296 % 65536

-- nothing stands above the last: a word has 64 bits
abbrev pub last_in : ℕ → ℕ
last_in x = x / 281474976710656

abbrev pub packed_refusal : Refusal → ℕ
packed_refusal r = packed r.number r.place.plane r.place.row r.place.column r.sample

abbrev pub packed_pixel : Result Pixel Refusal → ℕ
packed_pixel (Ok p) = packed 0 0 p.p0 p.p1 p.p2
packed_pixel (Err r) = packed_refusal r

-- 0 where nothing was refused; what there is then goes where the caller said
abbrev pub packed_done : {A : Type 0} → Result A Refusal → ℕ
packed_done (Ok x) = 0
packed_done (Err r) = packed_refusal r

-- so the meter's number, whose levels are 0 on a refusal
abbrev pub packed_reading : Result Float Refusal → ℕ
packed_reading = packed_done

abbrev pub packed_levels : Result PixelLevels Refusal → ℕ
packed_levels = packed_done

abbrev pub no_level : Float
no_level = fin false 0 (pos 0)

abbrev pub level_in : Result Float Refusal → Float
level_in (Ok x) = x
level_in (Err r) = no_level

abbrev pub levels_in : Result PixelLevels Refusal → PixelLevels
levels_in (Ok x) = x
levels_in (Err r) = record { y = no_level; cb = no_level; cr = no_level }

abbrev pub y_in : Result PixelLevels Refusal → Float
y_in a = (levels_in a).y

abbrev pub cb_in : Result PixelLevels Refusal → Float
cb_in a = (levels_in a).cb

abbrev pub cr_in : Result PixelLevels Refusal → Float
cr_in a = (levels_in a).cr

-- A setting in one word: a byte each for primaries, transfer, matrix and the depths of RGB, Y and C, from the lowest byte up, then a bit each
-- for full RGB and full YCbCr, and in the highest byte the edition. What stands between, in bits 50 to 55, is not looked at.
unfoldable pub setting_in : ℕ → Setting
setting_in word =
    record {
      primaries = word % 256;
      transfer = word / 256 % 256;
      matrix = word / 65536 % 256;
      rgb_depth = word / 16777216 % 256;
      y_depth = word / 4294967296 % 256;
      c_depth = word / 1099511627776 % 256;
      rgb_full = eqb (word / 281474976710656 % 2) 1;
      ycc_full = eqb (word / 562949953421312 % 2) 1;
      edition = word / 72057594037927936 % 256;
    }

-- and a setting put into one, with anything in the bits between
abbrev pub setting_word : Setting → ℕ → ℕ
setting_word s between =
    s.primaries + s.transfer * 256 + s.matrix * 65536 + s.rgb_depth * 16777216 + s.y_depth * 4294967296 + s.c_depth * 1099511627776
    + one_if s.rgb_full * 281474976710656 + one_if s.ycc_full * 562949953421312 + between * 1125899906842624
    + s.edition * 72057594037927936

-- a pixel of three parameters, and sizes of four
abbrev pub pixel_from : ℕ → ℕ → ℕ → Pixel
pixel_from a b c = record { p0 = a; p1 = b; p2 = c }

abbrev pub sizes : ℕ → ℕ → ℕ → ℕ → Size
sizes w h source output = record { width = w; height = h; input_stride = source; output_stride = output }

-- and that of a frame
abbrev pub packed_frame : Result Unit Refusal → ℕ
packed_frame = packed_done

-- the image check: 0 or 1 from bit 8 for yes or none, and a none's row and column from bits 16 and 32
abbrev pub packed_image : Result (Option Place) Refusal → ℕ
packed_image (Ok None) = 0
packed_image (Ok (Some place)) = packed 0 1 place.row place.column 0
packed_image (Err r) = packed_refusal r

-- a judgement likewise, 0 for agrees and 1 for differs; its count goes where the caller said, and is 0 where there is nothing to count
abbrev pub packed_judgement : Result (Option Difference) Refusal → ℕ
packed_judgement (Ok None) = 0
packed_judgement (Ok (Some d)) = packed 0 1 d.first.row d.first.column 0
packed_judgement (Err r) = packed_refusal r

abbrev pub wrong_in : Result (Option Difference) Refusal → ℕ
wrong_in (Ok None) = 0
wrong_in (Ok (Some d)) = d.count
wrong_in (Err r) = 0

-- a label is a byte: its own number, or that of the refusal
abbrev pub packed_label : Result Label Refusal → ℕ
packed_label (Ok l) = label_number l
packed_label (Err r) = r.number
