-- What the words of a line say, and when their sums have room.
use Rattle.std.specs.Prelude.{cond, ℕ, ◌+◌, ◌*◌, ◌-◌, ◌/◌, ◌^◌, ◌≤◌, ◌<◌, min, ltb, eqb}
use Rattle.sample.specs.Depth.{past_samples}
use Rattle.sample.specs.declared.Pixel.{Pixel}
use Rattle.fixed.specs.Numbers.{Numbers, distance}
use Rattle.fixed.specs.declared.words.Weight.{Weight}
use Rattle.fixed.specs.declared.words.Words.{Words}
use Rattle.fixed.specs.declared.by_words.Sums.{Sums}

-- past every word of 32 bits
abbrev pub past_words : ℕ
past_words = 2 ^ 32

abbrev pub word : ℕ → ℕ → ℕ
word high low = high * past_words + low

abbrev pub numbers_of : Words → Numbers
numbers_of w =
    record {
      w0 = word w.first.high w.first.low;
      w1 = word w.second.high w.second.low;
      w2 = word w.third.high w.third.low;
      base = word w.high w.low;
      mark0 = w.first.mark;
      mark1 = w.second.mark;
      mark2 = w.third.mark;
      most = w.most;
      unit = past_words * 2 ^ w.shift;
      add = w.add;
      lift = w.lift;
      under = w.under;
      top = w.top;
    }

-- the sum of the high words and that of the low ones
abbrev pub sums_of : Words → Pixel → Sums
sums_of w p =
    let u0 = distance p.p0 w.first.mark in
    let u1 = distance p.p1 w.second.mark in
    let u2 = distance p.p2 w.third.mark in
    record {
      high = w.first.high * u0 + w.second.high * u1 + w.third.high * u2 + w.high;
      low = w.first.low * u0 + w.second.low * u1 + w.third.low * u2 + w.low;
    }

-- both as one number, with `add` more, in whole units
abbrev pub whole_of : Sums → ℕ → ℕ → ℕ
whole_of s add shift = (s.high + (s.low + add) / past_words) / 2 ^ shift

-- that it has room, and is less than 65,536
pub record WholeFits (s : Sums) (add shift : ℕ) : Type 0 where
  pub low_in : s.low + add < 2 ^ 64
  pub high_in : s.high + (s.low + add) / past_words < past_samples * 2 ^ shift
  pub shift_in : shift ≤ 34

-- the two ways that a half can go
abbrev pub down_of : Words → Pixel → ℕ
down_of w p = whole_of (sums_of w p) 0 w.shift

abbrev pub up_of : Words → Pixel → ℕ
up_of w p = whole_of (sums_of w p) w.add w.shift

-- the sample by the one for its side of zero, and by the one upward alone
abbrev pub sided_sample : Words → Pixel → ℕ
sided_sample w p = min (cond (ltb (down_of w p) w.lift) (down_of w p) (up_of w p) - w.under) w.top

abbrev pub raised_sample : Words → Pixel → ℕ
raised_sample w p = min (up_of w p - w.under) w.top

-- the latter will do where the lift is all taken away again
abbrev pub word_sample : Words → Pixel → ℕ
word_sample w p = cond (eqb w.lift w.under) (raised_sample w p) (sided_sample w p)

-- a weight whose low word is one, and whose mark is a sample
pub record WeightFits (w : Weight) (most : ℕ) : Type 0 where
  pub low_in : w.low < past_words
  pub mark_in : w.mark ≤ most

-- At no pixel has a sum of words more than 64 bits, or the whole sum as much as 65,536 units. What the low words carry is at most
-- 3 most + 1.
pub record WordsFit (w : Words) : Type 0 where
  pub first : WeightFits w.first w.most
  pub second : WeightFits w.second w.most
  pub third : WeightFits w.third w.most
  pub low_in : w.low < past_words
  pub most_in : w.most < past_samples
  pub add_in : w.add ≤ 3 * w.most + 2
  pub shift_in : w.shift ≤ 34
  pub high_in : w.most * (w.first.high + w.second.high + w.third.high) + w.high + 3 * w.most + 2 < past_samples * 2 ^ w.shift
