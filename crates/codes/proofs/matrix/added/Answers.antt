-- `codes::matrix::added` meets its contract: each edition's own codes, and past them none.
use mathlib.Core.Path.{◌≡◌, refl}
use native.Mathlib.Omega.{arith}
use Rattle.codes.specs.Matrix.{ycgco, matrix_of}
use Rattle.codes.specs.declared.edition.Edition.TheVariants.{Draft, Published}
use Rattle.codes.specs.declared.matrix.Matrix.TheVariants.{Served, Unserved}
use Rattle.codes.proofs.Table.{past_end}
use Rattle.codes.proofs.matrix.added.Goals as goal

-- what each edition has at its own codes
draft_15 : matrix_of Draft 15 ≡ Served (ycgco 2 0)
unfolding matrix_of
draft_15 = refl

draft_16 : matrix_of Draft 16 ≡ Served (ycgco 1 0)
unfolding matrix_of
draft_16 = refl

published_15 : matrix_of Published 15 ≡ Unserved
unfolding matrix_of
published_15 = refl

published_16 : matrix_of Published 16 ≡ Served (ycgco 2 0)
unfolding matrix_of
published_16 = refl

published_17 : matrix_of Published 17 ≡ Served (ycgco 1 0)
unfolding matrix_of
published_17 = refl

pub returns-in-Of2021 : goal.returns-in-Of2021
returns-in-Of2021 c = rw c.in-Of2021.is (past_end _ _ (omega (arith, c.requires)))

pub returns-in-15 : goal.returns-in-15
returns-in-15 c = cc draft_15

pub returns-in-16 : goal.returns-in-16
returns-in-16 c = cc draft_16

pub returns-in_default : goal.returns-in_default
returns-in_default c = rw c.in-Draft.is (past_end _ _ (omega (arith, c.requires, c.in_default.in_default-own.rest)))

pub returns-in-15-code : goal.returns-in-15-code
returns-in-15-code c = cc published_15

pub returns-in-16-code : goal.returns-in-16-code
returns-in-16-code c = cc published_16

pub returns-in-17 : goal.returns-in-17
returns-in-17 c = cc published_17

pub returns-in_default-code : goal.returns-in_default-code
returns-in_default-code c = rw c.in-Published.is (past_end _ _ (omega (arith, c.requires, c.in_default-code.in_default-code-own.rest)))
