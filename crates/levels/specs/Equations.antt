-- An equation gives one level by three others: three signed weights over one denominator. A matrix has three each way.
use Rattle.std.specs.Prelude.{ℕ, ◌+◌, ◌*◌, ◌-◌, ℤ, pos, ◌+ℤ◌, ◌-ℤ◌, ◌*ℤ◌}
use Rattle.fraction.specs.Fraction.{Frac, ◌⊕◌, ◌⊗◌, part}
use Rattle.levels.specs.declared.equations.Equation.{Equation}
use Rattle.levels.specs.declared.equations.Equations.{Equations}
use Rattle.levels.specs.declared.equations.LevelMatrix.{LevelMatrix}
use Rattle.levels.specs.declared.equations.Weights.{Weights}

-- the level that an equation gives
abbrev pub level_by : Equation → Frac → Frac → Frac → Frac
level_by w x y z =
    part (pos w.up0 -ℤ pos w.down0) w.over ⊗ x
    ⊕ part (pos w.up1 -ℤ pos w.down1) w.over ⊗ y
    ⊕ part (pos w.up2 -ℤ pos w.down2) w.over ⊗ z

-- its weighted sum of three whole numbers
abbrev pub sum_of : Equation → ℤ → ℤ → ℤ → ℤ
sum_of w x y z =
    (pos w.up0 -ℤ pos w.down0) *ℤ x
    +ℤ (pos w.up1 -ℤ pos w.down1) *ℤ y
    +ℤ (pos w.up2 -ℤ pos w.down2) *ℤ z

-- The luma matrices. Their weights are in ten-thousandths, and KG is what KR and KB leave.
abbrev pub all_parts : ℕ
all_parts = 10000

abbrev pub weights : ℕ → ℕ → Weights
weights kr kb = record { kr = kr; kg = all_parts - kr - kb; kb = kb; all = all_parts }

-- EY
abbrev pub equation_y : Weights → Equation
equation_y k = record { up0 = k.kr; up1 = k.kg; up2 = k.kb; down0 = 0; down1 = 0; down2 = 0; over = k.all }

-- EPB, where 1 - KB is KR + KG
abbrev pub equation_pb : Weights → Equation
equation_pb k =
    record {
      up0 = 0;
      up1 = 0;
      up2 = k.kr + k.kg;
      down0 = k.kr;
      down1 = k.kg;
      down2 = 0;
      over = 2 * (k.kr + k.kg);
    }

-- EPR, where 1 - KR is KG + KB
abbrev pub equation_pr : Weights → Equation
equation_pr k =
    record {
      up0 = k.kg + k.kb;
      up1 = 0;
      up2 = 0;
      down0 = 0;
      down1 = k.kg;
      down2 = k.kb;
      over = 2 * (k.kg + k.kb);
    }

-- ER
abbrev pub equation_r : Weights → Equation
equation_r k =
    record { up0 = k.all; up1 = 0; up2 = 2 * (k.kg + k.kb); down0 = 0; down1 = 0; down2 = 0; over = k.all }

-- EG, multiplied out
abbrev pub equation_g : Weights → Equation
equation_g k =
    record {
      up0 = k.all * k.kg;
      up1 = 0;
      up2 = 0;
      down0 = 0;
      down1 = 2 * k.kb * (k.kr + k.kg);
      down2 = 2 * k.kr * (k.kg + k.kb);
      over = k.all * k.kg;
    }

-- EB
abbrev pub equation_b : Weights → Equation
equation_b k =
    record { up0 = k.all; up1 = 2 * (k.kr + k.kg); up2 = 0; down0 = 0; down1 = 0; down2 = 0; over = k.all }

abbrev pub equations : Equation → Equation → Equation → Equations
equations a b c = record { first = a; second = b; third = c }

-- the matrix of some weights
unfoldable pub luma_matrix : Weights → LevelMatrix
luma_matrix k =
    record {
      forward = equations (equation_y k) (equation_pb k) (equation_pr k);
      reverse = equations (equation_r k) (equation_g k) (equation_b k);
    }
