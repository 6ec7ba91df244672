-- Of two editions that both take a setting, each serves it as the other does: where their tables differ, at most one takes it.
use Rattle.std.specs.Prelude.{Option, Some, None, Ok}
use mathlib.Core.Path.{◌≡◌, refl, sym, ap}
use mathlib.Core.Bool.{Bool, true, false, true≢false}
use mathlib.Core.List.{List, [], ◌∷◌, ◌++◌}
use mathlib.Core.Logic.{◌⊎◌, inl, inr, ⊎_elim}
use Prim.Native.Nat.{ℕ, zero, suc, ◌+◌}
use native.Mathlib.Omega.{arith}
use borrow.Author.Tests.{eqb-true}
use lib.Dec.{eqb}
use lib.ListN.{get_or}
use Rattle.sample.specs.declared.Depths.{Depths}
use Rattle.sample.proofs.Choices.{both_true}
use Rattle.refusal.specs.Rules.{first}
use Rattle.refusal.proofs.RuleLaws.{passed_over}
use Rattle.codes.specs.Edition.{edition_of}
use Rattle.codes.specs.Matrix.{common, added, matrix_of}
use Rattle.codes.specs.Standing.{standing, entry_of, matrix_by}
use Rattle.codes.specs.declared.edition.Edition.{Edition}
use Rattle.codes.specs.declared.edition.Edition.TheVariants.{Of2021, Draft, Published}
use Rattle.codes.specs.declared.matrix.Matrix.{Matrix}
use Rattle.codes.specs.declared.matrix.Matrix.TheVariants.{Served, Reserved, Unspecified, Unserved}
use Rattle.setting.specs.Agreement.{bonded}
use Rattle.setting.specs.Edition.{in_edition}
use Rattle.setting.specs.Rules.{matrix_in, entry, depths, setting_rules, served_by, served}
use Rattle.setting.specs.declared.Call.{Call}
use Rattle.setting.specs.declared.Setting.{Setting}
use Rattle.setting.proofs.ReadyLaws.{bonded_so}

-- ---- what two tables have at one code

-- no depths go with both
abbrev Unlike : Option ℕ → Option ℕ → Type 0
Unlike (Some j) (Some k) = j ≡ k → ⊥
Unlike (Some j) None = ⊥
Unlike None c = ⊥

-- if both are served, then as one, or for other depths
record Alike (m n : Matrix) : Type 0 where
  if_served : standing m ≡ 0 → standing n ≡ 0 → (entry_of m ≡ entry_of n) ⊎ Unlike (entry_of m).bond (entry_of n).bond

same : (m : Matrix) → Alike m m
same m = record { if_served = λ a b. inl refl }

reserved : (n : Matrix) → Alike Reserved n
reserved n = record { if_served = λ a b. absurd (omega arith) }

unlike_turned : (b c : Option ℕ) → Unlike b c → Unlike c b
unlike_turned (Some j) (Some k) u = λ e. u (sym e)
unlike_turned (Some j) None u = absurd u
unlike_turned None c u = absurd u

turned : (m n : Matrix) → Alike m n → Alike n m
turned m n f =
    record { if_served = λ b a. ⊎_elim (λ e. inl (sym e)) (λ u. inr (unlike_turned (entry_of m).bond (entry_of n).bond u)) (f.if_served a b) }

-- the draft and the published edition from code 15 on: YCgCo-Re or not served, YCgCo-Ro or YCgCo-Re, reserved or YCgCo-Ro
moved : (k : ℕ) → Alike (get_or (added Draft) k Reserved) (get_or (added Published) k Reserved)
moved zero = record { if_served = λ a b. absurd (omega arith) }
moved (suc zero) = record { if_served = λ a b. inr (λ e. omega arith) }
moved (suc (suc k)) = reserved _

own : (e f : Edition) (k : ℕ) → Alike (get_or (added e) k Reserved) (get_or (added f) k Reserved)
own Of2021 f k = reserved _
own Draft Of2021 k = turned _ _ (reserved _)
own Draft Draft k = same _
own Draft Published k = moved k
own Published Of2021 k = turned _ _ (reserved _)
own Published Draft k = turned _ _ (moved k)
own Published Published k = same _

in_common : (ms xs ys : List Matrix) → ((k : ℕ) → Alike (get_or xs k Reserved) (get_or ys k Reserved)) → (n : ℕ)
    → Alike (get_or (ms ++ xs) n Reserved) (get_or (ms ++ ys) n Reserved)
in_common [] xs ys f n = f n
in_common (m ∷ ms) xs ys f zero = same m
in_common (m ∷ ms) xs ys f (suc n) = in_common ms xs ys f n

alike : (e f : Option Edition) (code : ℕ) → Alike (matrix_by e code) (matrix_by f code)
unfolding matrix_of
alike (Some e) (Some f) code = in_common common (added e) (added f) (own e f) code
alike (Some e) None code = turned _ _ (reserved _)
alike None f code = reserved _

-- ---- what two editions make of one setting

is_served : (m : Matrix) → eqb (standing m) 1 ≡ false → eqb (standing m) 2 ≡ false → eqb (standing m) 3 ≡ false → standing m ≡ 0
is_served (Served e) p q r = refl
is_served Reserved p q r = absurd (true≢false p)
is_served Unspecified p q r = absurd (true≢false q)
is_served Unserved p q r = absurd (true≢false r)

pub past_matrix : (c : Call) (s : Setting) → first (setting_rules c s) ≡ Ok tt → standing (matrix_in s) ≡ 0
past_matrix c s e =
    let t = passed_over _ _ (passed_over _ _ e).1 in
    let u = passed_over _ _ t.1 in
    is_served (matrix_in s) t.0 u.0 (passed_over _ _ u.1).0

never_both : (a b : Option ℕ) (d : Depths) (rgb ycc : Bool) → Unlike a b → bonded a d rgb ycc ≡ true → bonded b d rgb ycc ≡ true → ⊥
never_both (Some j) (Some k) d rgb ycc u p q =
    let e = eqb-true d.luma.0 (d.rgb.0 + j) (both_true (eqb d.luma.0 (d.rgb.0 + j)) _ p).0 in
    let f = eqb-true d.luma.0 (d.rgb.0 + k) (both_true (eqb d.luma.0 (d.rgb.0 + k)) _ q).0 in
    u (omega arith)
never_both (Some j) None d rgb ycc u p q = u
never_both None c d rgb ycc u p q = u

pub same_served : (c : Call) (s : Setting) (n : ℕ) → first (setting_rules c s) ≡ Ok tt → first (setting_rules c (in_edition n s)) ≡ Ok tt
    → served (in_edition n s) ≡ served s
same_served c s n p q =
    let t = in_edition n s in
    ap (λ e. served_by e s)
    (⊎_elim sym (λ u. absurd (never_both (entry s).bond (entry t).bond (depths s) s.rgb_full s.ycc_full u (bonded_so c s p) (bonded_so c t q)))
    ((alike (edition_of s.edition) (edition_of n) s.matrix).if_served (past_matrix c s p) (past_matrix c t q)))
