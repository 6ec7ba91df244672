-- A setting that no rule refuses is ready: rules 6 and 7 say so of its depths, and the table of matrices of its formulas.
use Rattle.std.specs.Prelude.{Option, Some, None, Ok}
use mathlib.Core.Path.{◌≡◌, refl, sym, subst}
use mathlib.Core.Bool.{Bool, true, true≢false}
use Prim.Native.Nat.{ℕ, ◌+◌, ◌≤◌, ◌<◌}
use native.Mathlib.Omega.{arith}
use borrow.Author.Rules.{rules}
use borrow.Author.Tests.{eqb-true, leb-true, not-false}
use lib.Dec.{eqb, leb}
use Rattle.sample.specs.Depth.{most_level_depth, are_depths, ThreeDepths}
use Rattle.sample.specs.declared.Depths.{Depths}
use Rattle.sample.proofs.DepthLaws.{AtMost, depths_of_lem, at_most_of}
use Rattle.sample.proofs.Choices.{both_true}
use Rattle.refusal.specs.Rules.{first}
use Rattle.refusal.proofs.RuleLaws.{passed_over}
use Rattle.levels.specs.Conversion.{MatrixFits}
use Rattle.levels.specs.Equations.{all_parts, weights}
use Rattle.levels.proofs.Bounds.{luma_fits, shares}
use Rattle.codes.specs.Edition.{edition_of}
use Rattle.codes.specs.Matrix.{luma_entry}
use Rattle.codes.specs.Standing.{entry_of}
use Rattle.codes.specs.declared.matrix.Entry.{Entry}
use Rattle.codes.specs.declared.matrix.Formulas.{Formulas}
use Rattle.codes.specs.declared.matrix.Formulas.TheVariants.{ChangePlaces, YCgCo, Levels}
use Rattle.codes.specs.declared.matrix.Matrix.{Matrix}
use Rattle.codes.specs.declared.matrix.Matrix.TheVariants as matrix
use Rattle.codes.proofs.Table.{at_code}
use Rattle.setting.specs.Agreement.{depths_served, bonded, agree, keeps, answers}
use Rattle.setting.specs.Rules.{matrix_in, entry, depths, depth_rules, entry_rules, setting_rules, served}
use Rattle.setting.specs.Ready.{Agreed, Ready, Keeping, Keeps}
use Rattle.setting.specs.declared.Call.{Call}
use Rattle.setting.specs.declared.Call.TheVariants as call
use Rattle.setting.specs.declared.Setting.{Setting}

-- what the table of matrices gives each kind of formulas
abbrev Bound : Option ℕ → Type 0
Bound (Some n) = Unit
Bound None = ⊥

abbrev SoundAs : Formulas → Entry → Type 0
SoundAs ChangePlaces e = (e.bond ≡ Some 0) × (e.chroma_bits ≡ 0)
SoundAs YCgCo e = Bound e.bond × (e.lossless ≡ Some 1)
SoundAs (Levels m) e = MatrixFits m × ((e.deepest ≡ most_level_depth) × (e.lossless ≡ None))

abbrev Sound : Matrix → Type 0
Sound m = SoundAs (entry_of m).formulas (entry_of m)

luma_sound : (kr kb : ℕ) → kr + kb < all_parts → Sound (matrix.Served (luma_entry kr kb))
luma_sound kr kb h = (luma_fits (weights kr kb) (shares kr kb h), (refl, refl))

sound : (s : Setting) → Sound (matrix_in s)
sound s = at_code Sound (refl, refl) (search (luma_sound, rules) depth 60) (edition_of s.edition) s.matrix

-- Y is no less deep than RGB where a bond binds them
bond_holds : (b : Option ℕ) (d : Depths) (rgb ycc : Bool) → Bound b → bonded b d rgb ycc ≡ true → d.rgb.0 ≤ d.luma.0
bond_holds (Some n) d rgb ycc k q =
    let e = eqb-true d.luma.0 (d.rgb.0 + n) (both_true (eqb d.luma.0 (d.rgb.0 + n)) _ q).0 in
    omega arith
bond_holds None d rgb ycc k q = absurd k

-- the rules on depths and flags, where none applies
module _ (call : Call) (s : Setting) (e : first (setting_rules call s) ≡ Ok tt) where
  abbrev d : Depths
  d = depths s

  past_3 : first (entry_rules call (entry s) s) ≡ Ok tt
  past_3 = (passed_over _ _ (passed_over _ _ (passed_over _ _ (passed_over _ _ e).1).1).1).1

  past_5 : first (depth_rules call (entry s) s) ≡ Ok tt
  past_5 = (passed_over _ _ (passed_over _ _ past_3).1).1

  rule_6 : depths_served (entry s).deepest s.rgb_depth s.y_depth s.c_depth ≡ true
  rule_6 = not-false _ (passed_over _ _ past_5).0

  rule_7 : agree (entry s) d s.rgb_full s.ycc_full ≡ true
  rule_7 = not-false _ (passed_over _ _ (passed_over _ _ past_5).1).0

  pub rule_11 : answers call (entry s) d ≡ true
  rule_11 = not-false _ (passed_over _ _ (passed_over _ _ (passed_over _ _ past_5).1).1).0

  three : ThreeDepths d
  unfolding depths_served
  three = depths_of_lem d (both_true _ _ rule_6).0

  at_most_lem : AtMost (entry s).deepest d
  unfolding depths_served
  at_most_lem = at_most_of _ _ (both_true (are_depths s.rgb_depth s.y_depth s.c_depth) _ rule_6).1

  pub bonded_so : bonded (entry s).bond d s.rgb_full s.ycc_full ≡ true
  unfolding agree
  bonded_so = (both_true _ _ rule_7).0

  pub deeper : (d.luma.0 ≤ d.chroma.0) × (d.chroma.0 ≤ d.luma.0 + (entry s).chroma_bits)
  unfolding agree
  deeper =
      let u = (both_true (bonded (entry s).bond d s.rgb_full s.ycc_full) _ rule_7).1 in
      let t = both_true (leb d.luma.0 d.chroma.0) _ u in
      (leb-true _ _ t.0, leb-true _ _ t.1)

  agreed : (f : Formulas) → SoundAs f (entry s) → Agreed f (served s)
  agreed ChangePlaces k =
      let q : bonded (Some 0) d s.rgb_full s.ycc_full ≡ true = subst (λ b. bonded b d s.rgb_full s.ycc_full ≡ true) k.0 bonded_so in
      let r = eqb-true d.luma.0 (d.rgb.0 + 0) (both_true (eqb d.luma.0 (d.rgb.0 + 0)) _ q).0 in
      (omega arith, omega (arith, deeper.0, deeper.1, k.1))
  agreed YCgCo k = (bond_holds (entry s).bond d s.rgb_full s.ycc_full k.0 bonded_so, deeper.0)
  agreed (Levels m) k =
      let t = three in
      let a = subst (λ n. AtMost n d) k.1.0 at_most_lem in (
        k.0,
        record {
          rgb = record { least = t.rgb.least; most = a.rgb };
          luma = record { least = t.luma.least; most = a.luma };
          chroma = record { least = t.chroma.least; most = a.chroma };
        },
      )

  pub ready : Ready (served s)
  ready = record { three = three; agreed = agreed (entry s).formulas (sound s) }

-- a setting that the image check takes loses nothing
keeping : (s : Setting) (f : Formulas) → SoundAs f (entry s) → keeps (entry s).lossless (depths s) ≡ true → Keeping f (served s)
keeping s ChangePlaces k e = tt
keeping s YCgCo k e = leb-true _ _ (subst (λ l. keeps l (depths s) ≡ true) k.1 e)
keeping s (Levels m) k e = let q : keeps None (depths s) ≡ true = subst (λ l. keeps l (depths s) ≡ true) k.1.1 e in true≢false (sym q)

pub is_kept : (s : Setting) → first (setting_rules call.ImageCheck s) ≡ Ok tt → Keeps (served s)
is_kept s e = keeping s (entry s).formulas (sound s) (rule_11 call.ImageCheck s e)
