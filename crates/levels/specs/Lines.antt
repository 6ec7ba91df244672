-- A prepared line: an equation with the samples that it reads and the plane that it writes, in whole numbers.
use Rattle.std.specs.Prelude.{Bool, true, false, ℕ, ◌+◌, ◌*◌, ℤ, pos, ◌+ℤ◌, ◌-ℤ◌, ◌*ℤ◌}
use Rattle.rounding.specs.Rounding.{round, clip}
use Rattle.rounding.specs.Quotient.{divisor_of}
use Rattle.sample.specs.declared.Pixel.{Pixel}
use Rattle.sample.specs.Depth.{M}
use Rattle.levels.specs.Conversion.{rgb_of, luma_of, chroma_of}
use Rattle.levels.specs.Equations.{sum_of}
use Rattle.scale.specs.declared.Scale.{Scale}
use Rattle.levels.specs.declared.LevelSetting.{LevelSetting}
use Rattle.levels.specs.declared.lines.Line.{Line}
use Rattle.levels.specs.declared.lines.Lines.{Lines}
use Rattle.levels.specs.declared.lines.ReadyLine.{ReadyLine}
use Rattle.levels.specs.declared.equations.Equation.{Equation}
use Rattle.levels.specs.declared.equations.Equations.{Equations}
use Rattle.levels.specs.declared.lines.Reader.{Reader}
use Rattle.levels.specs.declared.lines.Readers.{Readers}
use Rattle.levels.specs.declared.lines.Writer.{Writer}

-- what a scale takes away is added again: after Round in full range, before it in narrow range
abbrev pub writer_of : Bool → Scale → ℕ → Writer
writer_of true s top = record { times = s.times; plus = 0; mid = s.plus; top = top }
writer_of false s top = record { times = s.times; plus = s.plus; mid = 0; top = top }

abbrev pub rgb_writer : LevelSetting → Writer
rgb_writer s = writer_of s.rgb_full (rgb_of s) (M s.depths.rgb.0)

abbrev pub luma_writer : LevelSetting → Writer
luma_writer s = writer_of s.ycc_full (luma_of s) (M s.depths.luma.0)

abbrev pub chroma_writer : LevelSetting → Writer
chroma_writer s = writer_of s.ycc_full (chroma_of s) (M s.depths.chroma.0)

-- a level z / n, written
abbrev pub wrote_level : Writer → ℤ → ℕ → ℕ
wrote_level t z n = clip t.top (round (pos t.times *ℤ z +ℤ pos (t.plus * n)) n +ℤ pos t.mid)

abbrev pub reader : ℕ → ℕ → Reader
reader mul plus = record { mul = mul; plus = plus }

-- a sample's level, as parts of the shared denominator
abbrev pub read : Reader → ℕ → ℤ
read f v = pos f.mul *ℤ (pos v -ℤ pos f.plus)

abbrev pub readers_of_rgb : Scale → Readers
readers_of_rgb s = record { first = reader 1 s.plus; rest = reader 1 s.plus; common = s.times }

abbrev pub readers_of_ycc : Scale → Scale → Readers
readers_of_ycc y c = record { first = reader c.times y.plus; rest = reader y.times c.plus; common = c.times * y.times }

-- an equation over the samples themselves: each weight with what its sample is read by, and with what the result is written by
abbrev pub spread : Equation → Readers → ℕ → Equation
spread w from t =
    let m = from.first.mul in
    let n = from.rest.mul in
    record {
      up0 = t * (m * w.up0);
      up1 = t * (n * w.up1);
      up2 = t * (n * w.up2);
      down0 = t * (m * w.down0);
      down1 = t * (n * w.down1);
      down2 = t * (n * w.down2);
      over = w.over * from.common;
    }

-- the line of an equation: with what the scales take away, and what the plane adds, multiplied out too
abbrev pub line_of : Equation → Readers → Writer → Line
line_of w from to =
    let r = spread w from to.times in
    let o = from.first.plus in
    let q = from.rest.plus in
    record {
      equation = r;
      up = r.down0 * o + r.down1 * q + r.down2 * q + to.plus * r.over;
      down = r.up0 * o + r.up1 * q + r.up2 * q;
      mid = to.mid;
      top = to.top;
    }

-- with what stands for its divisor, which is twice its denominator
abbrev pub ready_line : Equation → Readers → Writer → ReadyLine
ready_line w from to =
    let l = line_of w from to in
    record { line = l; by = divisor_of (2 * l.equation.over) }

-- the lines of three equations, the first into one plane and the others into two alike
abbrev pub lines_of : Equations → Readers → Writer → Writer → Lines
lines_of e from light colour =
    record {
      first = ready_line e.first from light;
      second = ready_line e.second from colour;
      third = ready_line e.third from colour;
    }

-- R, G, B to Y, Cb, Cr, prepared
unfoldable pub forward_lines : Equations → LevelSetting → Lines
forward_lines e s = lines_of e (readers_of_rgb (rgb_of s)) (luma_writer s) (chroma_writer s)

-- and Y, Cb, Cr to R, G, B
unfoldable pub reverse_lines : Equations → LevelSetting → Lines
reverse_lines e s = lines_of e (readers_of_ycc (luma_of s) (chroma_of s)) (rgb_writer s) (rgb_writer s)

-- a line's numerator at a pixel, and its sample: one Round, one Clip
abbrev pub line_at : Line → Pixel → ℤ
line_at l p = sum_of l.equation (pos p.p0) (pos p.p1) (pos p.p2) +ℤ (pos l.up -ℤ pos l.down)

abbrev pub line_sample : Line → Pixel → ℕ
line_sample l p = clip l.top (round (line_at l p) l.equation.over +ℤ pos l.mid)

-- the same numerator as what is added and what is taken away
abbrev pub added : Line → Pixel → ℕ
added l p = l.equation.up0 * p.p0 + l.equation.up1 * p.p1 + l.equation.up2 * p.p2 + l.up

abbrev pub taken : Line → Pixel → ℕ
taken l p = l.equation.down0 * p.p0 + l.equation.down1 * p.p1 + l.equation.down2 * p.p2 + l.down

abbrev pub lines_pixel : Lines → Pixel → Pixel
lines_pixel l p =
    record { p0 = line_sample l.first.line p; p1 = line_sample l.second.line p; p2 = line_sample l.third.line p }
