-- YCgCo over the whole numbers. Equation numbers are those of H.273.
use Rattle.std.specs.Prelude.{ℕ, ◌+◌, ◌≤◌, ℤ, pos, ◌+ℤ◌, ◌-ℤ◌, ◌*ℤ◌}
use Rattle.rounding.specs.Rounding.{half, round, Clip, sample}
use Rattle.sample.specs.Depth.{most_depth, H}
use Rattle.sample.specs.declared.Depths.{Depths}
use Rattle.sample.specs.declared.Pixel.{Pixel}

-- the samples of a pixel, by the names of either side
abbrev pub R : Pixel → ℤ
R p = pos p.p0

abbrev pub G : Pixel → ℤ
G p = pos p.p1

abbrev pub B : Pixel → ℤ
B p = pos p.p2

abbrev pub Y : Pixel → ℤ
Y p = pos p.p0

abbrev pub Cb : Pixel → ℤ
Cb p = pos p.p1

abbrev pub Cr : Pixel → ℤ
Cr p = pos p.p2

-- the middle of the chroma planes, as a whole number
abbrev pub mid : Depths → ℤ
mid d = pos (H d.chroma.0)

-- Lossy forward (48 to 50). The clip on chroma is the box's own: without it full green gives 256 at 8 bits.
abbrev pub lossy_y : Pixel → ℤ
lossy_y p = round (pos 2 *ℤ G p +ℤ R p +ℤ B p) 4

abbrev pub lossy_cb : Depths → Pixel → ℤ
lossy_cb d p = round (pos 2 *ℤ G p -ℤ R p -ℤ B p) 4 +ℤ mid d

abbrev pub lossy_cr : Depths → Pixel → ℤ
lossy_cr d p = round (R p -ℤ B p) 2 +ℤ mid d

unfoldable pub lossy_forward : Depths → Pixel → Pixel
lossy_forward d p =
    record { p0 = sample (lossy_y p); p1 = Clip d.chroma.0 (lossy_cb d p); p2 = Clip d.chroma.0 (lossy_cr d p) }

-- Lossy reverse (51 to 54)
abbrev pub lossy_t : Depths → Pixel → ℤ
lossy_t d p = Y p -ℤ (Cb p -ℤ mid d)

unfoldable pub lossy_reverse : Depths → Pixel → Pixel
lossy_reverse d p =
    record {
      p0 = Clip d.rgb.0 (lossy_t d p +ℤ (Cr p -ℤ mid d));
      p1 = Clip d.rgb.0 (Y p +ℤ (Cb p -ℤ mid d));
      p2 = Clip d.rgb.0 (lossy_t d p -ℤ (Cr p -ℤ mid d));
    }

-- Lossless forward (55 to 58), each in terms of those before it
abbrev pub cr_of : Depths → Pixel → ℤ
cr_of d p = R p -ℤ B p +ℤ mid d

abbrev pub t_of : Depths → Pixel → ℤ
t_of d p = B p +ℤ half (cr_of d p -ℤ mid d)

abbrev pub cb_of : Depths → Pixel → ℤ
cb_of d p = G p -ℤ t_of d p +ℤ mid d

abbrev pub y_of : Depths → Pixel → ℤ
y_of d p = t_of d p +ℤ half (cb_of d p -ℤ mid d)

unfoldable pub lossless_forward : Depths → Pixel → Pixel
lossless_forward d p = record { p0 = sample (y_of d p); p1 = sample (cb_of d p); p2 = sample (cr_of d p) }

-- Lossless reverse (59 to 62). Red is made of the blue that was clipped.
abbrev pub t_back : Depths → Pixel → ℤ
t_back d p = Y p -ℤ half (Cb p -ℤ mid d)

abbrev pub g_back : Depths → Pixel → ℕ
g_back d p = Clip d.rgb.0 (t_back d p +ℤ (Cb p -ℤ mid d))

abbrev pub b_back : Depths → Pixel → ℕ
b_back d p = Clip d.rgb.0 (t_back d p -ℤ half (Cr p -ℤ mid d))

abbrev pub r_back : Depths → Pixel → ℕ
r_back d p = Clip d.rgb.0 (pos (b_back d p) +ℤ (Cr p -ℤ mid d))

unfoldable pub lossless_reverse : Depths → Pixel → Pixel
lossless_reverse d p = record { p0 = r_back d p; p1 = g_back d p; p2 = b_back d p }

-- depths of which the lossless formulas lose nothing: chroma has a bit more than RGB, and luma no bit less
pub record LosslessDepths (d : Depths) : Type 0 where
  pub rgb_some : 1 ≤ d.rgb.0
  pub chroma_room : d.rgb.0 + 1 ≤ d.chroma.0
  pub luma_room : d.rgb.0 ≤ d.luma.0
  pub chroma_most : d.chroma.0 ≤ most_depth

-- depths that the lossy formulas take
pub record LossyDepths (d : Depths) : Type 0 where
  pub rgb_most : d.rgb.0 ≤ most_depth
  pub chroma_some : 1 ≤ d.chroma.0
  pub chroma_most : d.chroma.0 ≤ most_depth
