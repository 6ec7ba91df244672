-- What holds of every matrix in the tables of all editions, and of one that is reserved, holds of every code's in each edition.
use Rattle.std.specs.Prelude.{Option, Some, None}
use mathlib.Core.Path.{◌≡◌, sym}
use mathlib.Core.List.{List, [], ◌∷◌, ◌++◌}
use Prim.Native.Nat.{ℕ, zero, suc, ◌≤◌}
use lib.ListN.{length, get_or, get_or-eq_default}
use Rattle.codes.specs.Matrix.{common, added, matrix_of}
use Rattle.codes.specs.Standing.{matrix_by}
use Rattle.codes.specs.declared.edition.Edition.{Edition}
use Rattle.codes.specs.declared.edition.Edition.TheVariants.{Of2021, Draft, Published}
use Rattle.codes.specs.declared.matrix.Matrix.{Matrix}
use Rattle.codes.specs.declared.matrix.Matrix.TheVariants.{Reserved}

-- all rows of all tables: those that the editions have in common, and each one's own
abbrev pub rows : List Matrix
rows = common ++ (added Of2021 ++ (added Draft ++ added Published))

abbrev pub Each : (Matrix → Type 0) → List Matrix → Type 0
Each P [] = Unit
Each P (m ∷ ms) = P m × Each P ms

at : (P : Matrix → Type 0) → P Reserved → (ms : List Matrix) (n : ℕ) → Each P ms → P (get_or ms n Reserved)
at P r [] n e = r
at P r (m ∷ ms) zero e = e.0
at P r (m ∷ ms) (suc n) e = at P r ms n e.1

-- of two tables one after the other, each
split : (P : Matrix → Type 0) (ms ns : List Matrix) → Each P (ms ++ ns) → Each P ms × Each P ns
split P [] ns e = (tt, e)
split P (m ∷ ms) ns e = let t = split P ms ns e.1 in ((e.0, t.0), t.1)

joined : (P : Matrix → Type 0) (ms ns : List Matrix) → Each P ms → Each P ns → Each P (ms ++ ns)
joined P [] ns e f = f
joined P (m ∷ ms) ns e f = (e.0, joined P ms ns e.1 f)

own : (P : Matrix → Type 0) (e : Edition) → Each P (added Of2021 ++ (added Draft ++ added Published)) → Each P (added e)
own P Of2021 h = tt
own P Draft h = (split P (added Draft) (added Published) h).0
own P Published h = (split P (added Draft) (added Published) h).1

pub at_code : (P : Matrix → Type 0) → P Reserved → Each P rows → (e : Option Edition) (code : ℕ) → P (matrix_by e code)
unfolding matrix_of
at_code P r h (Some e) code =
    let t = split P common (added Of2021 ++ (added Draft ++ added Published)) h in
    at P r (common ++ added e) code (joined P common (added e) t.0 (own P e t.1))
at_code P r h None code = r

-- past the end of an edition's table every code is reserved
pub past_end : (e : Edition) (code : ℕ) → length (common ++ added e) ≤ code → Reserved ≡ matrix_of e code
unfolding matrix_of
past_end e code h = sym (get_or-eq_default (common ++ added e) Reserved {n = code} h)
