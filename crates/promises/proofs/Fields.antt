-- Every field of a packed answer comes out again, and so does every field of a setting that was put into a word.
use mathlib.Core.Path.{◌≡◌, refl, ap, ◌∙◌}
use mathlib.Core.Bool.{true, false}
use Prim.Native.Nat.{ℕ, ◌+◌, ◌*◌, ◌/◌, ◌%◌, ◌^◌, ◌≤◌, ◌<◌}
use native.Mathlib.Omega.{arith}
use lib.Dec.{eqb}
use Rattle.sample.specs.Flag.{one_if}
use Rattle.sample.proofs.FlagLaws.{one_most, one_out}
use Rattle.setting.specs.declared.Setting.{Setting}
use Rattle.corkplover.specs.Packing.{packed, number_in, second_in, first_in, middle_in, last_in, setting_in, setting_word}

pub record Fields (number second a b c x : ℕ) : Type 0 where
  pub number_out : number_in x ≡ number
  pub second_out : second_in x ≡ second
  pub first_out : first_in x ≡ a
  pub middle_out : middle_in x ≡ b
  pub last_out : last_in x ≡ c

pub fields : (number second a b c : ℕ) → number < 256 → second < 256 → a < 65536 → b < 65536
    → Fields number second a b c (packed number second a b c)
fields number second a b c h k l m = omega arith

-- the numbers of a word that holds a setting
record SettingFields (p t m r y c f g e word : ℕ) : Type 0 where
  primaries_out : word % 256 ≡ p
  transfer_out : word / 256 % 256 ≡ t
  matrix_out : word / 65536 % 256 ≡ m
  rgb_out : word / 16777216 % 256 ≡ r
  luma_out : word / 4294967296 % 256 ≡ y
  chroma_out : word / 1099511627776 % 256 ≡ c
  rgb_full_out : word / 281474976710656 % 2 ≡ f
  ycc_full_out : word / 562949953421312 % 2 ≡ g
  edition_out : word / 72057594037927936 % 256 ≡ e

setting_fields : (p t m r y c f g between e : ℕ) → p < 256 → t < 256 → m < 256 → r < 256 → y < 256 → c < 256 → f ≤ 1 → g ≤ 1 → between < 64 → e < 256
    → SettingFields p t m r y c f g e
    (p + t * 256 + m * 65536 + r * 16777216 + y * 4294967296 + c * 1099511627776 + f * 281474976710656 + g * 562949953421312 + between * 1125899906842624 + e * 72057594037927936)
setting_fields p t m r y c f g between e hp ht hm hr hy hc hf hg hb he = omega arith

-- a setting whose codes and depths fit into bytes, as those of every caller do
pub record Bytes (s : Setting) : Type 0 where
  pub primaries_fits : s.primaries < 256
  pub transfer_fits : s.transfer < 256
  pub matrix_fits : s.matrix < 256
  pub rgb_fits : s.rgb_depth < 256
  pub luma_fits : s.y_depth < 256
  pub chroma_fits : s.c_depth < 256
  pub edition_fits : s.edition < 256

-- what stands in the bits between flags and edition changes nothing
pub setting_out : (s : Setting) (between : ℕ) → Bytes s → between < 64 → setting_in (setting_word s between) ≡ s
unfolding setting_in
setting_out s between h k =
    let f = setting_fields s.primaries s.transfer s.matrix s.rgb_depth s.y_depth s.c_depth (one_if s.rgb_full) (one_if s.ycc_full) between s.edition
    h.primaries_fits h.transfer_fits h.matrix_fits h.rgb_fits h.luma_fits h.chroma_fits (one_most s.rgb_full) (one_most s.ycc_full) k h.edition_fits in
    let rgb = ap (λ n. eqb n 1) f.rgb_full_out ∙ one_out s.rgb_full in
    let ycc = ap (λ n. eqb n 1) f.ycc_full_out ∙ one_out s.ycc_full in
    λ i. record {
      primaries = f.primaries_out i;
      transfer = f.transfer_out i;
      matrix = f.matrix_out i;
      rgb_depth = f.rgb_out i;
      y_depth = f.luma_out i;
      c_depth = f.chroma_out i;
      rgb_full = rgb i;
      ycc_full = ycc i;
      edition = f.edition_out i;
    }

-- bit 48 is full RGB and no other flag
pub flags_apart : ((setting_in (2 ^ 48)).rgb_full ≡ true) × ((setting_in (2 ^ 48)).ycc_full ≡ false)
unfolding setting_in
flags_apart = (refl, refl)

-- and a word of 64 bits has room for it
pub word_fits : (s : Setting) (between : ℕ) → Bytes s → between < 64 → setting_word s between < 18446744073709551616
word_fits s between h k = let f = one_most s.rgb_full in let g = one_most s.ycc_full in omega arith
