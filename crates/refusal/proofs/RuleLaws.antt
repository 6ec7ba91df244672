-- A list's refusal is given exactly if its rule applies and no earlier one does; of two lists, one after the other, the second is asked
-- where the first passes.
use Rattle.std.specs.Prelude.{Result, Ok, Err}
use mathlib.Core.Path.{◌≡◌, refl, subst}
use mathlib.Core.Bool.{Bool, true, false, cond, true≢false}
use mathlib.Core.List.{List, [], ◌∷◌, ◌++◌}
use mathlib.Core.Logic.{◌↔◌}
use Rattle.refusal.specs.Rules.{Rule, first, or_else, FirstIs, NoneApplies, here, later, end, past}
use Rattle.refusal.specs.declared.Refusal.{Refusal}

-- the rule of a refusal x, which applies if b does
abbrev rule_of : Refusal → Bool → Rule
rule_of x b = record { refusal = x; applies = b }

append_step : (x : Refusal) (t : Bool) (a b c : Result Unit Refusal) → a ≡ or_else b c → cond t (Err x) a ≡ or_else (cond t (Err x) b) c
append_step x true a b c e = refl
append_step x false a b c e = e

pub first_append : (a b : List Rule) → first (a ++ b) ≡ or_else (first a) (first b)
unfolding first
first_append [] b = refl
first_append (r ∷ rs) b = append_step r.refusal r.applies (first (rs ++ b)) (first rs) (first b) (first_append rs b)

-- a check either passes or refuses
pub never_both : (x : Refusal) → ◌≡◌ {A = Result Unit Refusal} (Ok tt) (Err x) → ⊥
never_both x e = true≢false cc

-- one refusal alone is given
pub same_refusal : {x y : Refusal} → ◌≡◌ {A = Result Unit Refusal} (Err x) (Err y) → x ≡ y
same_refusal e = cc

is_step : (x y : Refusal) (t : Bool) (rs : List Rule) → (first rs ≡ Err y → FirstIs y rs) → cond t (Err x) (first rs) ≡ Err y → FirstIs y (rule_of x t ∷ rs)
is_step x y true rs f e = subst (λ z. FirstIs z (rule_of x true ∷ rs)) (same_refusal e) here
is_step x y false rs f e = later (f e)

is_first : (rs : List Rule) (x : Refusal) → first rs ≡ Err x → FirstIs x rs
unfolding first
is_first [] x e = absurd (never_both x e)
is_first (r ∷ rs) x e = is_step r.refusal x r.applies rs (is_first rs x) e

first_is : {x : Refusal} {rs : List Rule} → FirstIs x rs → first rs ≡ Err x
unfolding first
first_is here = refl
first_is (later f) = first_is f

-- a refusal is given exactly if its rule is the first that applies
pub refused_exactly : (rs : List Rule) (x : Refusal) → (first rs ≡ Err x) ↔ FirstIs x rs
refused_exactly rs x = (is_first rs x, first_is)

none_step : (x : Refusal) (t : Bool) (rs : List Rule) → (first rs ≡ Ok tt → NoneApplies rs) → cond t (Err x) (first rs) ≡ Ok tt → NoneApplies (rule_of x t ∷ rs)
none_step x true rs f e = absurd (true≢false cc)
none_step x false rs f e = past (f e)

no_rule : (rs : List Rule) → first rs ≡ Ok tt → NoneApplies rs
unfolding first
no_rule [] e = end
no_rule (r ∷ rs) e = none_step r.refusal r.applies rs (no_rule rs) e

rule_none : {rs : List Rule} → NoneApplies rs → first rs ≡ Ok tt
unfolding first
rule_none end = refl
rule_none (past h) = rule_none h

-- and none is given exactly if no rule applies
pub passed_exactly : (rs : List Rule) → (first rs ≡ Ok tt) ↔ NoneApplies rs
passed_exactly rs = (no_rule rs, rule_none)

-- of two lists none refuses exactly if neither does
pub neither : (a b : Result Unit Refusal) → or_else a b ≡ Ok tt → (a ≡ Ok tt) × (b ≡ Ok tt)
neither (Ok u) b e = (refl, e)
neither (Err x) b e = absurd (true≢false cc)

-- a rule that does not apply is passed over
pub passed_over : (r : Rule) (rs : List Rule) → first (r ∷ rs) ≡ Ok tt → (r.applies ≡ false) × (first rs ≡ Ok tt)
unfolding first
passed_over r rs e = go r.applies e
  where
    go : (t : Bool) → cond t (Err r.refusal) (first rs) ≡ Ok tt → (t ≡ false) × (first rs ≡ Ok tt)
    go true e = absurd (true≢false cc)
    go false e = (refl, e)

-- a fact of every refusal of a list, and so of the one that is given
abbrev pub EveryRule : (Refusal → Type 0) → List Rule → Type 0
EveryRule P [] = Unit
EveryRule P (r ∷ rs) = P r.refusal × EveryRule P rs

has_step : (P : Refusal → Type 0) (x y : Refusal) (t : Bool) (c : Result Unit Refusal) → P x → (c ≡ Err y → P y) → cond t (Err x) c ≡ Err y → P y
has_step P x y true c h f e = subst P (same_refusal e) h
has_step P x y false c h f e = f e

pub first_has : (P : Refusal → Type 0) (rs : List Rule) (x : Refusal) → EveryRule P rs → first rs ≡ Err x → P x
unfolding first
first_has P [] x h e = absurd (never_both x e)
first_has P (r ∷ rs) x h e = has_step P r.refusal x r.applies (first rs) h.0 (first_has P rs x h.1) e
