-- The luma matrices as printed, over exact fractions: (42) to (44) and their solution.
use Rattle.std.specs.Prelude.{pos}
use Rattle.fraction.specs.Fraction.{Frac, ◌⊕◌, ◌⊖◌, ◌⊗◌, ◌÷◌, part, whole, SameValue}
use Rattle.levels.specs.declared.equations.Weights.{Weights}

-- KR, KG and KB
abbrev pub KR : Weights → Frac
KR k = part (pos k.kr) k.all

abbrev pub KG : Weights → Frac
KG k = part (pos k.kg) k.all

abbrev pub KB : Weights → Frac
KB k = part (pos k.kb) k.all

-- (42)
abbrev pub EY : Weights → Frac → Frac → Frac → Frac
EY k er eg eb = KR k ⊗ er ⊕ KG k ⊗ eg ⊕ KB k ⊗ eb

-- (43)
abbrev pub EPB : Weights → Frac → Frac → Frac → Frac
EPB k er eg eb = (eb ⊖ EY k er eg eb) ÷ (whole 2 ⊗ (whole 1 ⊖ KB k))

-- (44)
abbrev pub EPR : Weights → Frac → Frac → Frac → Frac
EPR k er eg eb = (er ⊖ EY k er eg eb) ÷ (whole 2 ⊗ (whole 1 ⊖ KR k))

-- (44) solved for ER
abbrev pub ER : Weights → Frac → Frac → Frac → Frac
ER k ey epb epr = ey ⊕ whole 2 ⊗ (whole 1 ⊖ KR k) ⊗ epr

-- (43) solved for EB
abbrev pub EB : Weights → Frac → Frac → Frac → Frac
EB k ey epb epr = ey ⊕ whole 2 ⊗ (whole 1 ⊖ KB k) ⊗ epb

-- (42) solved for EG, at that ER and that EB
abbrev pub EG : Weights → Frac → Frac → Frac → Frac
EG k ey epb epr = (ey ⊖ KR k ⊗ ER k ey epb epr ⊖ KB k ⊗ EB k ey epb epr) ÷ KG k

-- ER, EG and EB, put into (42), (43) and (44), give EY, EPB and EPR back
pub record Solved (k : Weights) (ey epb epr : Frac) : Type 0 where
  pub in_42 : SameValue (EY k (ER k ey epb epr) (EG k ey epb epr) (EB k ey epb epr)) ey
  pub in_43 : SameValue (EPB k (ER k ey epb epr) (EG k ey epb epr) (EB k ey epb epr)) epb
  pub in_44 : SameValue (EPR k (ER k ey epb epr) (EG k ey epb epr) (EB k ey epb epr)) epr
