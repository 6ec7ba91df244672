-- What a pixel's light becomes by a factor: n times the factor, in parts of 2^32, is moved by whole parts and then divided by a power of two.
use Rattle.std.specs.Prelude.{ℕ, ◌+◌, ◌*◌, ◌-◌, ◌/◌, ◌^◌, ◌≤◌, ◌<◌, min}
use Rattle.sample.specs.declared.Pixel.{Pixel}
use Rattle.runs.specs.Light.{light_by, blue_by, red_by, Weighs}
use Rattle.quotients.specs.Parts.{parts}
use Rattle.quotients.specs.declared.factors.Quotients.{Quotients}
use Rattle.quotients.specs.declared.factors.Share.{Share}

-- Y: 32,768 parts are one, and a half is added
abbrev pub nearest_sample : ℕ → ℕ → ℕ → ℕ
nearest_sample factor top n = min ((parts factor n + 16384) / 32768) top

-- Cb and Cr: 65,536 parts are one, and those that are too many are taken away
abbrev pub lowered_sample : Share → ℕ → ℕ → ℕ
lowered_sample s top n = min ((parts s.factor n - s.take) / 65536) top

abbrev pub quotients_pixel : Quotients → Pixel → Pixel
quotients_pixel k p =
    record {
      p0 = nearest_sample k.luma k.top (light_by k.mix.kr k.mix.kg k.mix.kb p);
      p1 = lowered_sample k.blue k.top (blue_by k.mix.kr k.mix.kg k.mix.kb k.mix.bias p);
      p2 = lowered_sample k.red k.top (red_by k.mix.kr k.mix.kg k.mix.kb k.mix.bias p);
    }

-- There is room: no more is taken away than is there where a colour is furthest below the light.
pub record QuotientsFit (k : Quotients) : Type 0 where
  pub weighs : Weighs k.mix
  pub bias_in : 2 * k.mix.bias < 2 ^ 30
  pub top_in : k.top < 2 ^ 15
  pub blue : k.blue.take ≤ parts k.blue.factor (k.mix.kb * k.mix.most)
  pub red : k.red.take ≤ parts k.red.factor (k.mix.kr * k.mix.most)
