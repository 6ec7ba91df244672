-- `codes::matrix::matrix_of` meets its contract: an arm for one code is that code's entry of the table, and an arm for a range is what the
-- table has at every code that the match has left for it. Past 14 the edition decides.
use mathlib.Core.Path.{◌≡◌, refl}
use mathlib.Core.List.{◌++◌}
use Prim.Native.Nat.{◌≤◌, ◌<◌}
use native.Mathlib.Omega.{arith}
use borrow.Author.Tests.{eqb-true}
use lib.Dec.{eqb}
use lib.ListN.{length}
use Rattle.codes.specs.Matrix.{common, added, matrix_of}
use Rattle.codes.specs.Standing.{standing}
use Rattle.codes.specs.declared.edition.Edition.{Edition}
use Rattle.codes.specs.declared.edition.Edition.TheVariants.{Of2021, Draft, Published}
use Rattle.codes.specs.declared.matrix.Matrix.{Matrix}
use Rattle.codes.specs.declared.matrix.Matrix.TheVariants as matrix
use Rattle.codes.proofs.Codes.{none, from, below, passed, by_clues, by_test}
use Rattle.codes.proofs.Table.{past_end}
use Rattle.codes.proofs.matrix.matrix_of.Goals as goal

-- a matrix that is not served, by the rule that it meets
unserved : (m : Matrix) → standing m ≡ 3 → matrix.Unserved ≡ m
unserved (matrix.Served e) q = absurd (omega arith)
unserved matrix.Reserved q = absurd (omega arith)
unserved matrix.Unspecified q = absurd (omega arith)
unserved matrix.Unserved q = refl

pub returns-in-0 : goal.returns-in-0
unfolding matrix_of
returns-in-0 c = rw (c.changed_places.ensures, c.in-0.is)

pub returns-in-1 : goal.returns-in-1
unfolding matrix_of
returns-in-1 c = rw (c.luma.ensures, c.in-1.is)

pub returns-in-4 : goal.returns-in-4
unfolding matrix_of
returns-in-4 c = rw (c.luma-in-4.ensures, c.in-4.is)

pub returns-in-7 : goal.returns-in-7
unfolding matrix_of
returns-in-7 c = rw (c.luma-in-7.ensures, c.in-7.is)

pub returns-in-9 : goal.returns-in-9
unfolding matrix_of
returns-in-9 c = rw (c.luma-in-9.ensures, c.in-9.is)

pub returns-in-8 : goal.returns-in-8
unfolding matrix_of
returns-in-8 c = rw (c.ycgco.ensures, c.in-8.is)

pub returns-in-2 : goal.returns-in-2
unfolding matrix_of
returns-in-2 c = rw c.in-2.is

pub returns-in-5-to-6 : goal.returns-in-5-to-6
unfolding matrix_of
returns-in-5-to-6 c =
    let a = c.args in
    let small : a.code < 256 = omega arith in
    let each = c.luma-in-5-to-6.ensures in
    by_clues (λ m. c.luma-in-5-to-6.result ≡ matrix_of a.edition m) (below (passed (passed (passed (passed (passed (passed (passed (passed (λ _. none)))))))) c.in-5-to-6.in_default-own.rest) c.in-5-to-6.if-code-lt7-own.true) small (each, (each, tt))

pub returns-in-10-to-14 : goal.returns-in-10-to-14
unfolding matrix_of
returns-in-10-to-14 c =
    let a = c.args in
    let small : a.code < 256 = omega arith in
    unserved (matrix_of a.edition a.code) (eqb-true _ _ (by_test (λ m. eqb (standing (matrix_of a.edition m)) 3) (below (from (passed (passed (passed (passed (passed (passed (passed (passed (λ _. none)))))))) c.in-10-to-14.in_default-own.rest) c.in-10-to-14.if-code-lt7-own.false) c.in-10-to-14.if-code-lt15-own.true) small refl))

pub returns-in-15-to-17 : goal.returns-in-15-to-17
returns-in-15-to-17 c = c.added.ensures

pub returns-in-3 : goal.returns-in-3
unfolding matrix_of
returns-in-3 c = rw c.in-3.in-3-own.keys8

-- no edition has more than three codes of its own
own : (e : Edition) → length (common ++ added e) ≤ 18
own Of2021 = omega arith
own Draft = omega arith
own Published = omega arith

pub returns-in-3-2 : goal.returns-in-3-2
returns-in-3-2 c = let a = c.args in past_end a.edition a.code (omega (arith, own a.edition, c.in-3.if-code-lt18-own.false))
