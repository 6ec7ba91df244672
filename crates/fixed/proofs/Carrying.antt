-- The sums of the high words and of the low words give the whole units of the sum: what the low words carry belongs to the high ones.
use mathlib.Core.Path.{◌≡◌, refl, sym, ap, ◌∙◌}
use mathlib.Core.Bool.{Bool, true, false, cond}
use mathlib.Core.Logic.{⊎_elim}
use Prim.Native.Nat.{ℕ, ◌+◌, ◌*◌, ◌-◌, ◌/◌, ◌^◌, ◌≤◌, ◌<◌, min}
use native.Mathlib.Nat.{mul-le-mul_left, mul-add-div_right, div-div-eq-div-mul, div-lt_iff_lt-mul}
use native.Mathlib.Omega.{arith}
use borrow.Author.Tests.{eqb-true, lt-ltb, le-ltb}
use lib.Dec.{eqb}
use lib.Pow.{pow_mono}
use Rattle.sample.specs.Depth.{past_samples}
use Rattle.sample.specs.declared.Pixel.{Pixel}
use Rattle.sample.proofs.Choices.{below_or_not}
use Rattle.levels.specs.declared.lines.Line.{Line}
use Rattle.levels.specs.Lines.{line_sample}
use Rattle.sample.specs.Depth.{UpTo}
use Rattle.fixed.specs.Numbers.{distance, sum_of, Stands}
use Rattle.fixed.specs.Words.{past_words, word, numbers_of, sums_of, whole_of, down_of, sided_sample, raised_sample, word_sample, WholeFits, WordsFit}
use Rattle.fixed.specs.declared.words.Words.{Words}
use Rattle.fixed.proofs.Standing.{distance_in, sample_below, sample_above, sample_alone}

-- both sums are one
joined : (b h0 h1 h2 high l0 l1 l2 low u0 u1 u2 : ℕ)
    → (h0 * u0 + h1 * u1 + h2 * u2 + high) * b + (l0 * u0 + l1 * u1 + l2 * u2 + low)
    ≡ (h0 * b + l0) * u0 + (h1 * b + l1) * u1 + (h2 * b + l2) * u2 + (high * b + low)
joined b h0 h1 h2 high l0 l1 l2 low u0 u1 u2 = omega arith

module _ (w : Words) (p : Pixel) where
  sums_join : word (sums_of w p).high (sums_of w p).low ≡ sum_of (numbers_of w) p
  sums_join =
      joined past_words w.first.high w.second.high w.third.high w.high w.first.low w.second.low w.third.low w.low
      (distance p.p0 w.first.mark) (distance p.p1 w.second.mark) (distance p.p2 w.third.mark)

  whole_is : (k : ℕ) → whole_of (sums_of w p) k w.shift ≡ (sum_of (numbers_of w) p + k) / (numbers_of w).unit
  whole_is k =
      let s = sums_of w p in
      let join : s.high * past_words + (s.low + k) ≡ sum_of (numbers_of w) p + k = let both = sums_join in omega arith in
      ap (λ n. n / 2 ^ w.shift) (sym (mul-add-div_right {m = past_words} (omega arith) s.high (s.low + k)) ∙ ap (λ n. n / past_words) join)
      ∙ div-div-eq-div-mul (sum_of (numbers_of w) p + k) past_words (2 ^ w.shift)

-- a sum of products is largest at the largest sample
sum_most : (most w0 w1 w2 u0 u1 u2 : ℕ) → u0 ≤ most → u1 ≤ most → u2 ≤ most → w0 * u0 + w1 * u1 + w2 * u2 ≤ most * (w0 + w1 + w2)
sum_most most w0 w1 w2 u0 u1 u2 h0 h1 h2 =
    let t0 = mul-le-mul_left w0 h0 in
    let t1 = mul-le-mul_left w1 h1 in
    let t2 = mul-le-mul_left w2 h2 in
    omega arith

module _ {w : Words} (fits : WordsFit w) (u0 u1 u2 : ℕ) (k0 : u0 ≤ w.most) (k1 : u1 ≤ w.most) (k2 : u2 ≤ w.most) where
  high_in : w.first.high * u0 + w.second.high * u1 + w.third.high * u2 + w.high + 3 * w.most + 2 < past_samples * 2 ^ w.shift
  high_in =
      let s = sum_most w.most w.first.high w.second.high w.third.high u0 u1 u2 k0 k1 k2 in
      let l = fits.high_in in
      omega arith

  pub high_fits : w.first.high * u0 + w.second.high * u1 + w.third.high * u2 + w.high < 2 ^ 64
  high_fits = let small : 2 ^ w.shift ≤ 2 ^ 34 = pow_mono fits.shift_in in let l = high_in in omega arith

  low_in : w.first.low * u0 + w.second.low * u1 + w.third.low * u2 + w.low + 3 * w.most + 2 < (3 * w.most + 2) * past_words
  low_in =
      let s = sum_most w.most w.first.low w.second.low w.third.low u0 u1 u2 k0 k1 k2 in
      let words : w.first.low + w.second.low + w.third.low ≤ 3 * (past_words - 1) = omega arith in
      let l = mul-le-mul_left w.most words in
      let base = fits.low_in in
      omega arith

  pub low_fits : w.first.low * u0 + w.second.low * u1 + w.third.low * u2 + w.low + 3 * w.most + 2 < 2 ^ 64
  low_fits = let l = low_in in let m = fits.most_in in omega arith

module _ {w : Words} (fits : WordsFit w) {p : Pixel} (inside : UpTo w.most p) where
  -- what is carried is less than 3 most + 2
  pub whole_fits : (k : ℕ) → k ≤ 3 * w.most + 2 → WholeFits (sums_of w p) k w.shift
  whole_fits k h =
      let u0 = distance p.p0 w.first.mark in
      let u1 = distance p.p1 w.second.mark in
      let u2 = distance p.p2 w.third.mark in
      let in0 : u0 ≤ w.most = distance_in inside.p0_in fits.first.mark_in in
      let in1 : u1 ≤ w.most = distance_in inside.p1_in fits.second.mark_in in
      let in2 : u2 ≤ w.most = distance_in inside.p2_in fits.third.mark_in in
      let low = low_in fits u0 u1 u2 in0 in1 in2 in
      let room = low_fits fits u0 u1 u2 in0 in1 in2 in
      let high = high_in fits u0 u1 u2 in0 in1 in2 in
      let carried : ((sums_of w p).low + k) / past_words < 3 * w.most + 2 = (div-lt_iff_lt-mul {k = past_words} (omega arith)).1 (omega arith) in
      record { low_in = omega arith; high_in = omega arith; shift_in = fits.shift_in }

-- so words that stand for a line give its samples
module _ {l : Line} (w : Words) (h : Stands l (numbers_of w)) (p : Pixel) (inside : UpTo w.most p) where
  down_is : down_of w p ≡ sum_of (numbers_of w) p / (numbers_of w).unit
  down_is = whole_is w p 0 ∙ ap (λ n. n / (numbers_of w).unit) (omega arith)

  raised : w.lift ≡ w.under → raised_sample w p ≡ line_sample l p
  raised e =
      let none : l.mid ≡ 0 = let is = h.lift_is in omega arith in
      ap (λ n. min (n - w.under) w.top) (whole_is w p w.add) ∙ sample_alone h p inside none

  sided : sided_sample w p ≡ line_sample l p
  sided =
      ⊎_elim
      (λ (k : down_of w p < w.lift).
      rw (lt-ltb _ _ k) (ap (λ n. min (n - w.under) w.top) down_is ∙ sample_below h p inside (rw down_is at k)))
      (λ (k : w.lift ≤ down_of w p).
      rw (le-ltb _ _ k) (ap (λ n. min (n - w.under) w.top) (whole_is w p w.add) ∙ sample_above h p inside (rw down_is at k)))
      (below_or_not (down_of w p) w.lift)

  by_test : (b : Bool) → eqb w.lift w.under ≡ b → cond b (raised_sample w p) (sided_sample w p) ≡ line_sample l p
  by_test true e = raised (eqb-true _ _ e)
  by_test false e = sided

  pub words_are : word_sample w p ≡ line_sample l p
  words_are = by_test _ refl
