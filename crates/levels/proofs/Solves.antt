-- The reverse solves (42), (43) and (44): ER, EG and EB, put into them, give EY, EPB and EPR back, with no rounding.
use mathlib.Core.Path.{◌≡◌, refl, ap}
use Prim.Native.Nat.{ℕ, ◌+◌, ◌*◌, ◌<◌}
use native.Mathlib.Nat.{mul-pos}
use native.Mathlib.Omega.{arith}
use lib.IntN.{ℤ, pos, ◌+ℤ◌, ◌-ℤ◌, ◌*ℤ◌}
use Rattle.rounding.proofs.Difference.{parts, parts_of}
use Rattle.rounding.proofs.FromParts.{same}
use Rattle.fraction.specs.Fraction.{Frac, ◌⊖◌, ◌÷◌, SameValue}
use Rattle.fraction.proofs.Same.{ring}
use Rattle.fraction.proofs.Value.{Value, lift, rename, both, itself}
use Rattle.levels.specs.Paper.{EY, EPB, EPR, ER, EG, EB, Solved}
use Rattle.levels.specs.Conversion.{Shares}
use Rattle.levels.specs.Equations.{sum_of, equation_g}
use Rattle.levels.specs.declared.equations.Weights.{Weights}
use Rattle.levels.proofs.Formulas.{twice, over_twice, all_some, all_but_red, all_but_blue, sum_y, sum_r, sum_b, printed_y, printed_r, printed_b, g_value}

-- (42) over plain numbers, with the two parts of each of u, v and w
sum_numbers : (n kr kg kb ua ub va vb wa wb : ℕ) → kr + kg + kb ≡ n
    → kr * (kg * (n * ua + 2 * (kg + kb) * wa)) + kg * ((n * kg + 0) * ua + (0 * va + 2 * kb * (kr + kg) * vb) + (0 * wa + 2 * kr * (kg + kb) * wb)) + kb * (kg * (n * ua + 2 * (kr + kg) * va)) + n * (n * kg * ub)
    ≡ n * (n * kg * ua) + (kr * (kg * (n * ub + 2 * (kg + kb) * wb)) + kg * ((n * kg + 0) * ub + (0 * vb + 2 * kb * (kr + kg) * va) + (0 * wb + 2 * kr * (kg + kb) * wa)) + kb * (kg * (n * ub + 2 * (kr + kg) * vb)))
sum_numbers n kr kg kb ua ub va vb wa wb e =
    simp ring (omega (arith, simp ring at (ap (λ m. m * (n * kg * ua)) e), simp ring at (ap (λ m. m * (n * kg * ub)) e)))

-- n·kg·(n·u + 2j·t) less n·(n·kg·u), over plain numbers
difference_numbers : (n g j ua ub ta tb : ℕ)
    → n * (g * (n * ua + 2 * j * ta)) + n * (n * g * ub) + 2 * j * (g * n) * tb
    ≡ 2 * j * (g * n) * ta + (n * (g * (n * ub + 2 * j * tb)) + n * (n * g * ua))
difference_numbers n g j ua ub ta tb = simp ring (omega arith)

module _ (k : Weights) (h : Shares k) {x y z : Frac} {u v w : ℤ} {D : ℕ} (some : 0 < D) (hx : Value x u D) (hy : Value y v D) (hz : Value z w D) where
  abbrev n : ℕ
  n = k.all

  abbrev g : ℕ
  g = k.kg

  -- (42) of the three is EY, over the square of the whole
  sum_back : Value (EY k (ER k x y z) (EG k x y z) (EB k x y z)) (pos n *ℤ (pos (n * g) *ℤ u)) (n * (g * (n * D)))
  sum_back =
      let p = parts_of u in
      let q = parts_of v in
      let r = parts_of w in
      rename
      (same {x = sum_y k (pos g *ℤ sum_r k u w) (sum_of (equation_g k) u v w) (pos g *ℤ sum_b k u v)} {y = pos n *ℤ (pos (n * g) *ℤ u)}
      (search parts depth 14) (search parts depth 10)
      (sum_numbers n k.kr g k.kb p.plus p.minus q.plus q.minus r.plus r.minus h.sum))
      refl
      (printed_y k h (lift g (printed_r k h hx hy hz)) (rename refl (omega arith) (g_value k h hx hy hz)) (lift g (printed_b k h hx hy hz)))

  solves_42 : SameValue (EY k (ER k x y z) (EG k x y z) (EB k x y z)) x
  solves_42 =
      let a = all_some k h in
      both (mul-pos a (mul-pos h.green (mul-pos a some))) sum_back (rename refl (omega arith) (lift n (lift (n * g) hx)))

  -- a colour that is EY and 2(1 - K) of a difference gives the difference back
  difference_back : (i j : ℕ) → i + j ≡ n → 0 < j → {c d : Frac} {t : ℤ} → Value d t D → Value c (pos n *ℤ u +ℤ pos (2 * j) *ℤ t) (n * D)
      → SameValue ((c ⊖ EY k (ER k x y z) (EG k x y z) (EB k x y z)) ÷ twice i n) d
  difference_back i j e l {t = t} hd hc =
      let a = all_some k h in
      let p = parts_of u in
      let q = parts_of t in
      both (mul-pos (omega arith) (mul-pos h.green (mul-pos a some)))
      (rename
      (same {x = pos n *ℤ (pos g *ℤ (pos n *ℤ u +ℤ pos (2 * j) *ℤ t)) -ℤ pos n *ℤ (pos (n * g) *ℤ u)} {y = pos (2 * j * (g * n)) *ℤ t}
      (search parts depth 10) (search parts depth 10)
      (difference_numbers n g j p.plus p.minus q.plus q.minus))
      refl
      (over_twice i j n e a (g * (n * D)) l (lift n (lift g hc)) sum_back))
      (rename refl (omega arith) (lift (2 * j * (g * n)) hd))

  solves_43 : SameValue (EPB k (ER k x y z) (EG k x y z) (EB k x y z)) y
  solves_43 = difference_back k.kb (k.kr + g) (all_but_blue k h) (omega arith) hy (printed_b k h hx hy hz)

  solves_44 : SameValue (EPR k (ER k x y z) (EG k x y z) (EB k x y z)) z
  solves_44 = difference_back k.kr (g + k.kb) (all_but_red k h) (omega arith) hz (printed_r k h hx hy hz)

-- any three fractions share a denominator, and so the reverse solves for any levels
pub reverse_solves : (k : Weights) → Shares k → (ey epb epr : Frac) → 0 < ey.den → 0 < epb.den → 0 < epr.den → Solved k ey epb epr
reverse_solves k h x y z p q r =
    let D = x.den * (y.den * z.den) in
    let some = mul-pos p (mul-pos q r) in
    let hx = rename {F = D} refl (omega arith) (lift (y.den * z.den) (itself x p)) in
    let hy = rename {F = D} refl (omega arith) (lift (x.den * z.den) (itself y q)) in
    let hz = rename {F = D} refl (omega arith) (lift (x.den * y.den) (itself z r)) in
    record { in_42 = solves_42 k h some hx hy hz; in_43 = solves_43 k h some hx hy hz; in_44 = solves_44 k h some hx hy hz }
