-- Demand 3: which settings are lossless, for every setting there is.
use Rattle.std.specs.Prelude.{Option, Some, None, Ok}
use mathlib.Core.Path.{◌≡◌, refl, sym, ap, ◌∙◌, subst}
use mathlib.Core.Bool.{Bool, true, false, true≢false, not, cond}
use mathlib.Core.List.{List, [], ◌∷◌}
use mathlib.Core.Logic.{◌↔◌}
use Prim.Native.Nat.{ℕ, zero, suc, ◌+◌, ◌≤◌}
use native.Mathlib.Omega.{arith}
use borrow.Author.Tests.{eqb-true, leb-true, le-leb}
use lib.Dec.{eqb}
use Rattle.sample.specs.declared.Depths.{Depths}
use Rattle.sample.proofs.Choices.{both_true}
use Rattle.refusal.specs.Rules.{Rule, rule, first}
use Rattle.refusal.proofs.RuleLaws.{passed_over}
use Rattle.codes.specs.Edition.{edition_of}
use Rattle.codes.specs.Matrix.{changed_places, ycgco_r, ycgco_re, ycgco_ro, matrix_of}
use Rattle.codes.specs.Standing.{standing, entry_of}
use Rattle.codes.specs.declared.edition.Edition.{Edition}
use Rattle.codes.specs.declared.edition.Edition.TheVariants.{Of2021, Draft, Published}
use Rattle.codes.specs.declared.matrix.Entry.{Entry}
use Rattle.codes.specs.declared.matrix.Matrix.{Matrix}
use Rattle.codes.specs.declared.matrix.Matrix.TheVariants as matrix
use Rattle.codes.proofs.Table.{Each, rows, at_code}
use Rattle.setting.specs.Agreement.{bonded, keeps, answers}
use Rattle.setting.specs.Rules.{matrix_in, entry, depths, setting_rules}
use Rattle.setting.specs.declared.Call.{Call}
use Rattle.setting.specs.declared.Call.TheVariants.{Convert, ImageCheck}
use Rattle.setting.specs.declared.Setting.{Setting}
use Rattle.setting.specs.declared.Way.{Way}
use Rattle.setting.specs.declared.Way.TheVariants.{Forward}
use Rattle.setting.proofs.ReadyLaws.{rule_11, bonded_so, deeper}
use Rattle.promises.specs.Lossless.{Listed, change_places, is_ycgco_r, is_ycgco_re, is_ycgco_ro}

-- ---- of the rules on a setting rule 11 alone asks for the call

pass : (r : Rule) (a b : List Rule) → first (r ∷ a) ≡ Ok tt → (first a ≡ Ok tt → first b ≡ Ok tt) → first (r ∷ b) ≡ Ok tt
unfolding first
pass r a b e f = let t = passed_over r a e in rw t.0 (f t.1)

answered : (t : Bool) → t ≡ true → first (rule 11 (not t) ∷ []) ≡ Ok tt
unfolding first
answered true e = refl
answered false e = absurd (true≢false (sym e))

pub of_other_call : (c d : Call) (s : Setting) → first (setting_rules c s) ≡ Ok tt → answers d (entry s) (depths s) ≡ true → first (setting_rules d s) ≡ Ok tt
of_other_call c d s e t =
    pass _ _ _ e (λ e. pass _ _ _ e (λ e. pass _ _ _ e (λ e. pass _ _ _ e (λ e. pass _ _ _ e (λ e. pass _ _ _ e (λ e. pass _ _ _ e (λ e. pass _ _ _ e (λ e. answered _ t))))))))

-- so what the image check takes is converted, either way
pub converts_too : (w : Way) (s : Setting) → first (setting_rules ImageCheck s) ≡ Ok tt → first (setting_rules (Convert w) s) ≡ Ok tt
converts_too w s e = of_other_call ImageCheck (Convert w) s e refl

-- ---- what the image check takes is on the list

module _ (s : Setting) (e : first (setting_rules ImageCheck s) ≡ Ok tt) where
  abbrev d : Depths
  d = depths s

  -- what the rules have left of a matrix
  record Left (m : Matrix) : Type 0 where
    not_reserved : eqb (standing m) 1 ≡ false
    not_unspecified : eqb (standing m) 2 ≡ false
    not_unserved : eqb (standing m) 3 ≡ false
    kept : keeps (entry_of m).lossless d ≡ true
    bound : bonded (entry_of m).bond d s.rgb_full s.ycc_full ≡ true
    most : d.chroma.0 ≤ d.luma.0 + (entry_of m).chroma_bits

  left : Left (matrix_in s)
  left =
      let t = passed_over _ _ (passed_over _ _ e).1 in
      let u = passed_over _ _ t.1 in
      let v = passed_over _ _ u.1 in
      record {
        not_reserved = t.0;
        not_unspecified = u.0;
        not_unserved = v.0;
        kept = rule_11 ImageCheck s e;
        bound = bonded_so ImageCheck s e;
        most = (deeper ImageCheck s e).1;
      }

  -- so it is on the list, whichever the table has for the code: one that is never lossless keeps nothing, and YCgCo keeps all where chroma
  -- has its one bit more
  abbrev On : Matrix → Type 0
  On m = matrix_in s ≡ m → Left m → Listed s

  on_places : On (matrix.Served changed_places)
  on_places q l = change_places q

  on_r : On (matrix.Served ycgco_r)
  on_r q l =
      let b = eqb-true d.luma.0 (d.rgb.0 + 0) (both_true (eqb d.luma.0 (d.rgb.0 + 0)) _ l.bound).0 in
      let k = leb-true (d.rgb.0 + 1) d.chroma.0 l.kept in
      is_ycgco_r q (omega (arith, b, k, l.most))

  on_re : On (matrix.Served ycgco_re)
  on_re q l = is_ycgco_re q

  on_ro : On (matrix.Served ycgco_ro)
  on_ro q l = is_ycgco_ro q

  no_lossy : (x : Entry) → x.lossless ≡ None → On (matrix.Served x)
  no_lossy x v q l = absurd (true≢false (sym (subst (λ k. keeps k d ≡ true) v l.kept)))

  no_reserved : On matrix.Reserved
  no_reserved q l = absurd (true≢false l.not_reserved)

  no_unspecified : On matrix.Unspecified
  no_unspecified q l = absurd (true≢false l.not_unspecified)

  no_unserved : On matrix.Unserved
  no_unserved q l = absurd (true≢false l.not_unserved)

  each : Each On rows
  each = search (on_places, on_r, on_re, on_ro, no_lossy, no_reserved, no_unspecified, no_unserved) depth 60

  listed : Listed s
  listed = at_code On no_reserved each (edition_of s.edition) s.matrix refl left

-- ---- what is on the list and converted is taken by the image check

module _ (s : Setting) (e : first (setting_rules (Convert Forward) s) ≡ Ok tt) where
  bits : (n : ℕ) (b : Option ℕ) → b ≡ Some n → bonded b (depths s) s.rgb_full s.ycc_full ≡ true → (depths s).luma.0 ≡ (depths s).rgb.0 + n
  bits n b q h =
      let g = subst (λ c. bonded c (depths s) s.rgb_full s.ycc_full ≡ true) q h in
      eqb-true (depths s).luma.0 ((depths s).rgb.0 + n) (both_true (eqb (depths s).luma.0 ((depths s).rgb.0 + n)) _ g).0

  -- an entry that binds Y to so many bits more than RGB, and chroma to enough of them
  keeps_all : (x : Entry) (bound least : ℕ) → entry s ≡ x → x.bond ≡ Some bound → x.lossless ≡ Some least
      → ((depths s).luma.0 ≡ (depths s).rgb.0 + bound → (depths s).luma.0 ≤ (depths s).chroma.0 → (depths s).rgb.0 + least ≤ (depths s).chroma.0)
      → first (setting_rules ImageCheck s) ≡ Ok tt
  keeps_all x bound least q b l enough =
      let h = enough (bits bound (entry s).bond (ap (λ y. y.bond) q ∙ b) (bonded_so (Convert Forward) s e)) (deeper (Convert Forward) s e).0 in
      of_other_call (Convert Forward) ImageCheck s e
      (subst (λ k. keeps k (depths s) ≡ true) (sym (ap (λ y. y.lossless) q ∙ l)) (le-leb ((depths s).rgb.0 + least) (depths s).chroma.0 h))

  pub taken : Listed s → first (setting_rules ImageCheck s) ≡ Ok tt
  taken (change_places q) = keeps_all changed_places 0 0 (ap entry_of q) refl refl (λ b c. omega arith)
  taken (is_ycgco_r q p) = keeps_all ycgco_r 0 1 (ap entry_of q) refl refl (λ b c. omega (arith, p))
  taken (is_ycgco_re q) = keeps_all ycgco_re 2 1 (ap entry_of q) refl refl (λ b c. omega arith)
  taken (is_ycgco_ro q) = keeps_all ycgco_ro 1 1 (ap entry_of q) refl refl (λ b c. omega arith)

-- THE lossless settings: the image check takes a setting exactly if the forward call does and the setting is on the list
pub lossless_exactly : (s : Setting)
    → (first (setting_rules ImageCheck s) ≡ Ok tt) ↔ ((first (setting_rules (Convert Forward) s) ≡ Ok tt) × Listed s)
lossless_exactly s = (λ e. (converts_too Forward s e, listed s e), λ t. taken s t.0 t.1)

-- ---- the list by its codes

abbrev pub somewhere : Option ℕ → Bool
somewhere (Some n) = true
somewhere None = false

abbrev pub with_code : ℕ → Matrix → List (ℕ × Entry) → List (ℕ × Entry)
with_code n (matrix.Served e) rest = cond (somewhere e.lossless) ((n, e) ∷ rest) rest
with_code n matrix.Unserved rest = rest
with_code n matrix.Unspecified rest = rest
with_code n matrix.Reserved rest = rest

-- of so many codes from a number on, those whose matrix loses nothing at some depths in an edition, each with what it means
abbrev pub lossless_codes : Edition → ℕ → ℕ → List (ℕ × Entry)
lossless_codes e n zero = []
lossless_codes e n (suc more) = with_code n (matrix_of e n) (lossless_codes e (suc n) more)

-- each edition's own
abbrev pub own_lossless : Edition → List (ℕ × Entry)
own_lossless Of2021 = []
own_lossless Draft = (15, ycgco_re) ∷ (16, ycgco_ro) ∷ []
own_lossless Published = (16, ycgco_re) ∷ (17, ycgco_ro) ∷ []

-- THE list of an edition
pub lossless_codes_lem : (e : Edition) → lossless_codes e 0 256 ≡ (0, changed_places) ∷ (8, ycgco_r) ∷ own_lossless e
unfolding matrix_of
lossless_codes_lem Of2021 = refl
lossless_codes_lem Draft = refl
lossless_codes_lem Published = refl
