-- Each sample as the code computes it is the whole number of the formula. H stands for the middle of the chroma plane. Forward, what the code
-- has is a variable here that is equal to what is meant, so that a sum may be written either way round.
use mathlib.Core.Path.{◌≡◌, ◌∙◌}
use Prim.Native.Nat.{ℕ, ◌+◌, ◌-◌, ◌*◌, ◌/◌, ◌≤◌}
use native.Mathlib.Omega.{arith}
use lib.IntN.{ℤ, pos, ◌+ℤ◌, ◌-ℤ◌, ◌*ℤ◌}
use Rattle.rounding.specs.Rounding.{half, round, sample}
use Rattle.sample.specs.declared.Pixel.{Pixel}
use Rattle.rounding.proofs.Difference.{parts}
use Rattle.rounding.proofs.FromParts.{same, is_sample, round_up}

-- a pixel by its samples
pub made_of : {a b c x y z : ℕ} → a ≡ x → b ≡ y → c ≡ z → ◌≡◌ {A = Pixel} (record { p0 = a; p1 = b; p2 = c }) (record { p0 = x; p1 = y; p2 = z })
made_of e f g = λ i. record { p0 = e i; p1 = f i; p2 = g i }

-- lossless forward
module _ (H r g b : ℕ) where
  pub lossless_cr : {n : ℕ} → n ≡ r + H - b → b ≤ r + H → n ≡ sample (pos r -ℤ pos b +ℤ pos H)
  lossless_cr e l = e ∙ is_sample _ (search parts depth 20) (omega arith)

  abbrev pub T : ℤ
  T = pos b +ℤ half (pos r -ℤ pos b +ℤ pos H -ℤ pos H)

  pub lossless_cb : {n : ℕ} → n ≡ g + H - (r + b) / 2 → (r + b) / 2 ≤ g + H → n ≡ sample (pos g -ℤ T +ℤ pos H)
  lossless_cb e l = e ∙ is_sample _ (search parts depth 20) (omega arith)

  pub lossless_y : {n : ℕ} → n ≡ (g + (r + b) / 2) / 2 → n ≡ sample (T +ℤ half (pos g -ℤ T +ℤ pos H -ℤ pos H))
  lossless_y e = e ∙ is_sample _ (search parts depth 20) (omega arith)

-- lossless reverse, where H is even
module _ (H y cb cr : ℕ) where
  pub lossless_g : H ≡ H / 2 * 2 → pos (y + (cb - cb / 2)) -ℤ pos (H / 2) ≡ pos y -ℤ half (pos cb -ℤ pos H) +ℤ (pos cb -ℤ pos H)
  lossless_g e = same (search parts depth 20) (search parts depth 20) (omega arith)

  pub lossless_b : H ≡ H / 2 * 2 → pos (y + H) -ℤ pos (cb / 2 + cr / 2) ≡ pos y -ℤ half (pos cb -ℤ pos H) -ℤ half (pos cr -ℤ pos H)
  lossless_b e = same (search parts depth 20) (search parts depth 20) (omega arith)

  pub lossless_r : (b : ℕ) → pos (b + cr) -ℤ pos H ≡ pos b +ℤ (pos cr -ℤ pos H)
  lossless_r b = same (search parts depth 20) (search parts depth 20) (omega arith)

  -- lossy reverse
  pub lossy_r : pos (y + cr) -ℤ pos cb ≡ pos y -ℤ (pos cb -ℤ pos H) +ℤ (pos cr -ℤ pos H)
  lossy_r = same (search parts depth 20) (search parts depth 20) (omega arith)

  pub lossy_g : pos (y + cb) -ℤ pos H ≡ pos y +ℤ (pos cb -ℤ pos H)
  lossy_g = same (search parts depth 20) (search parts depth 20) (omega arith)

  pub lossy_b : pos (y + 2 * H) -ℤ pos (cb + cr) ≡ pos y -ℤ (pos cb -ℤ pos H) -ℤ (pos cr -ℤ pos H)
  lossy_b = same (search parts depth 20) (search parts depth 20) (omega arith)

-- lossy forward
module _ (r g b : ℕ) where
  abbrev pub Sum : ℤ
  Sum = pos 2 *ℤ pos g +ℤ pos r +ℤ pos b

  pub sum_round : round Sum 4 ≡ pos ((2 * (2 * g + r + b) + 4) / 8)
  sum_round = round_up (2 * g + r + b) 4 (search parts) (omega arith)

  pub lossy_y_lem : {n : ℕ} → n ≡ (2 * g + r + b + 2) / 4 → n ≡ sample (round Sum 4)
  unfolding sample
  lossy_y_lem e = rw sum_round (omega arith)

  pub lossy_cb_lem : pos (2 * g) -ℤ pos (r + b) ≡ pos 2 *ℤ pos g -ℤ pos r -ℤ pos b
  lossy_cb_lem = same (search parts) (search parts) (omega arith)
