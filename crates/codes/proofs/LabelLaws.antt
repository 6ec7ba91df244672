-- A label by its number.
use mathlib.Core.Path.{◌≡◌, refl}
use native.Mathlib.Omega.{arith}
use Rattle.codes.specs.Label.{label_number}
use Rattle.codes.specs.declared.label.Label.{Label}
use Rattle.codes.specs.declared.label.Label.TheVariants.{Assigned, Unspecified, Reserved}

pub assigned : (l : Label) → label_number l ≡ 0 → Assigned ≡ l
assigned Assigned e = refl
assigned Unspecified e = absurd (omega arith)
assigned Reserved e = absurd (omega arith)

pub reserved : (l : Label) → label_number l ≡ 2 → Reserved ≡ l
reserved Assigned e = absurd (omega arith)
reserved Unspecified e = absurd (omega arith)
reserved Reserved e = refl
