-- Laws of searches: what it means that the first of some places was found, or that nothing was.
use Rattle.std.proofs.lemmas.Option.{same_Some}
use Rattle.std.specs.Prelude.{Option, Some, None}
use mathlib.Core.Path.{◌≡◌, refl, sym, ap, ◌∙◌, subst}
use mathlib.Core.Bool.{Bool, true, false, true≢false}
use mathlib.Core.List.{List}
use mathlib.Core.Logic.{◌↔◌, ⊎_elim, inl, inr}
use Prim.Native.Nat.{ℕ, zero, suc, ◌+◌, ◌*◌, ◌-◌, ◌≤◌, ◌<◌, max}
use native.Mathlib.Nat.{eq-or-lt_of_le, le_of_suc-le-suc, not-suc-le-zero}
use native.Mathlib.Omega.{arith}
use lib.ListN.{length, get_or, take, drop}
use Rattle.sample.proofs.Choices.{chose_first, chose_second}
use Rattle.refusal.specs.Rules.{at}
use Rattle.refusal.specs.declared.Place.{Place}
use Rattle.tables.proofs.Tables.{part_length, part_at}
use Rattle.scan.specs.First.{or_found, first_of, place_if, place_in_row, first_place, with_sample, IsFirstPlace, largest_of, RunFine, Tells}
use Rattle.planes.specs.Plane.{sample_at}
use Rattle.planes.proofs.Parts.{part_sample}

-- ---- answers

pub yes : {fact : Type 0} → fact → Tells true fact
yes h = (λ e. h, λ e. absurd (true≢false e))

pub no : {fact : Type 0} → (fact → ⊥) → Tells false fact
no h = (λ e. absurd (true≢false (sym e)), λ e. h)

-- ---- any search

something : (place : Place) → Some place ≡ None → ⊥
something place e = true≢false cc

-- nothing at any of n places, and a place that stands at one index with nothing before it
none_of : (f : ℕ → Option Place) (n : ℕ) → ((i : ℕ) → i < n → f i ≡ None) → first_of n f ≡ None
unfolding first_of or_found
none_of f zero e = refl
none_of f (suc n) e = rw (none_of f n (λ i h. e i (omega arith)), e n (omega arith))

pub record FoundIn (f : ℕ → Option Place) (n : ℕ) (place : Place) : Type 0 where
  pub index : ℕ
  pub inside : index < n
  pub there : f index ≡ Some place
  pub none : (i : ℕ) → i < index → f i ≡ None

first_here : (f : ℕ → Option Place) (n : ℕ) (place : Place) → FoundIn f n place → first_of n f ≡ Some place
unfolding first_of or_found
first_here f zero place k = absurd (not-suc-le-zero k.inside)
first_here f (suc n) place k =
    ⊎_elim
    (λ (w : k.index ≡ n). rw (← w, none_of f k.index k.none, k.there))
    (λ (w : k.index < n). rw (first_here f n place (record { index = k.index; inside = w; there = k.there; none = k.none })))
    (eq-or-lt_of_le (le_of_suc-le-suc k.inside))

-- of two, nothing is found only if neither has anything
neither_found : (a b : Option Place) → or_found a b ≡ None → (a ≡ None) × (b ≡ None)
unfolding or_found
neither_found (Some place) b e = absurd (something place e)
neither_found None b e = (refl, e)

none_at : (f : ℕ → Option Place) (n : ℕ) → first_of n f ≡ None → (i : ℕ) → i < n → f i ≡ None
unfolding first_of
none_at f zero e i h = absurd (not-suc-le-zero h)
none_at f (suc n) e i h =
    let t = neither_found (first_of n f) (f n) e in
    ⊎_elim (λ (w : i ≡ n). rw w t.1) (λ (w : i < n). none_at f n t.0 i w) (eq-or-lt_of_le (le_of_suc-le-suc h))

found_step : (f : ℕ → Option Place) (n : ℕ) (place : Place) (x : Option Place) → first_of n f ≡ x → (first_of n f ≡ Some place → FoundIn f n place)
    → or_found x (f n) ≡ Some place → FoundIn f (suc n) place
unfolding or_found
found_step f n place (Some q) x earlier e =
    let r = earlier (x ∙ e) in
    record { index = r.index; inside = omega (arith, r.inside); there = r.there; none = r.none }
found_step f n place None x earlier e = record { index = n; inside = omega arith; there = e; none = none_at f n x }

found_in : (f : ℕ → Option Place) (n : ℕ) (place : Place) → first_of n f ≡ Some place → FoundIn f n place
unfolding first_of
found_in f zero place e = absurd (something place (sym e))
found_in f (suc n) place e = found_step f n place (first_of n f) refl (found_in f n place) e

-- nothing is found exactly if nothing is at any place searched, and a place exactly if it stands at the first index that has one
pub nothing_exactly : (f : ℕ → Option Place) (n : ℕ) → (first_of n f ≡ None) ↔ ((i : ℕ) → i < n → f i ≡ None)
nothing_exactly f n = (none_at f n, none_of f n)

pub found_exactly : (f : ℕ → Option Place) (n : ℕ) (place : Place) → (first_of n f ≡ Some place) ↔ FoundIn f n place
found_exactly f n place = (found_in f n place, first_here f n place)

-- what is found depends on the places searched alone
pub first_same : (f g : ℕ → Option Place) (n : ℕ) → ((i : ℕ) → i < n → f i ≡ g i) → first_of n f ≡ first_of n g
unfolding first_of
first_same f g zero e = refl
first_same f g (suc n) e = rw (first_same f g n (λ i h. e i (omega arith)), e n (omega arith))

-- the sample that stands where something was found adds nothing to whether something was, and where
pub none_with : (sample : Place → ℕ) (f : Option Place) → (with_sample sample f ≡ None) ↔ (f ≡ None)
none_with sample (Some place) = (λ e. absurd (true≢false cc), λ e. absurd (something place e))
none_with sample None = (λ e. refl, λ e. refl)

pub found_with : (sample : Place → ℕ) (f : Option Place) (place : Place) (v : ℕ) → with_sample sample f ≡ Some (place, v) → (f ≡ Some place) × (v ≡ sample place)
found_with sample (Some q) place v e =
    let same = same_Some _ _ e in
    (ap (λ x. Some x.0) same, sym (ap (λ x. x.1) same) ∙ ap (λ x. sample x.0) same)
found_with sample None place v e = absurd (true≢false cc)

-- ---- the places of a picture

-- a test of places, and what it is to fail and to pass it
module _ (test : ℕ → ℕ → Bool) (plane width height : ℕ) (Fails Passes : ℕ → ℕ → Type 0)
    (failing : (j i : ℕ) → j < height → i < width → (test j i ≡ true) ↔ Fails j i)
    (passing : (j i : ℕ) → j < height → i < width → (test j i ≡ false) ↔ Passes j i) where
  pass : (j i : ℕ) → j < height → i < width → (place_if test plane j i ≡ None) ↔ Passes j i
  unfolding place_if
  pass j i a b =
      (λ e. (passing j i a b).0 (chose_second (test j i) _ _ _ e (something (at plane j i))).0, λ h. rw ((passing j i a b).1 h))

  failed : (j i : ℕ) (place : Place) → j < height → i < width → place_if test plane j i ≡ Some place → Fails j i × (at plane j i ≡ place)
  unfolding place_if
  failed j i place a b e =
      let t = chose_first (test j i) _ _ _ e (λ q. something place (sym q)) in
      ((failing j i a b).0 t.0, (let q = t.1 in cc))

  row_passes : (j : ℕ) → j < height → (place_in_row test plane width j ≡ None) ↔ ((i : ℕ) → i < width → Passes j i)
  unfolding place_in_row
  row_passes j a =
      let t = nothing_exactly (place_if test plane j) width in
      (λ e i b. (pass j i a b).0 (t.0 e i b), λ h. t.1 (λ i b. (pass j i a b).1 (h i b)))

  -- None: every place passes
  pub no_place_means : (first_place test plane width height ≡ None) ↔ ((j i : ℕ) → j < height → i < width → Passes j i)
  unfolding first_place
  no_place_means =
      let t = nothing_exactly (place_in_row test plane width) height in
      (λ e j i a b. (row_passes j a).0 (t.0 e j a) i b, λ h. t.1 (λ j a. (row_passes j a).1 (λ i b. h j i a b)))

  found_first : (place : Place) → first_place test plane width height ≡ Some place → IsFirstPlace Fails Passes plane width height place
  unfolding first_place place_in_row
  found_first place e =
      let r = found_in _ height place e in
      let c = found_in _ width place r.there in
      let t = failed r.index c.index place r.inside c.inside c.there in
      subst (IsFirstPlace Fails Passes plane width height) t.1
      (record {
        plane_is = refl;
        row_inside = r.inside;
        column_inside = c.inside;
        fails = t.0;
        none_before = λ j i a b o.
            ⊎_elim
            (λ (w : j < r.index). (row_passes j a).0 (r.none j w) i b)
            (λ w. subst (λ n. Passes n i) (sym w.0) ((pass r.index i r.inside b).0 (c.none i w.1))) o;
      })

  first_found : (place : Place) → IsFirstPlace Fails Passes plane width height place → first_place test plane width height ≡ Some place
  unfolding first_place place_in_row place_if
  first_found place k =
      let j = place.row in
      let i = place.column in
      first_here _ height place
      (record {
        index = j;
        inside = k.row_inside;
        there =
            first_here _ width place
            (record {
              index = i;
              inside = k.column_inside;
              there = rw ((failing j i k.row_inside k.column_inside).1 k.fails, ← k.plane_is);
              none = λ c b. let l : c < width = omega (arith, k.column_inside) in (pass j c k.row_inside l).1 (k.none_before j c k.row_inside l (inr (refl, b)));
            });
        none = λ r b. let l : r < height = omega (arith, k.row_inside) in (row_passes r l).1 (λ c h. k.none_before r c l h (inl b));
      })

  -- a place: it fails, and every place before it passes
  pub first_place_means : (place : Place) → (first_place test plane width height ≡ Some place) ↔ IsFirstPlace Fails Passes plane width height place
  first_place_means place = (found_first place, first_found place)

-- what is found depends on the test inside the picture alone
pub first_place_same : (f g : ℕ → ℕ → Bool) (plane width height : ℕ) → ((j i : ℕ) → j < height → i < width → f j i ≡ g j i)
    → first_place f plane width height ≡ first_place g plane width height
unfolding first_place place_in_row place_if
first_place_same f g plane width height e = first_same _ _ height (λ j a. first_same _ _ width (λ i b. rw (e j i a b)))

-- ---- the largest element

pub largest_more : (n : ℕ) (s : List ℕ) → largest_of (n + 1) s ≡ max (largest_of n s) (get_or s n 0)
unfolding largest_of
largest_more n s = ap (λ k. largest_of k s) (let e : n + 1 ≡ suc n = omega arith in e)

pub none_above : (s : List ℕ) (n k : ℕ) → k < n → get_or s k 0 ≤ largest_of n s
unfolding largest_of
none_above s zero k h = absurd (omega arith)
none_above s (suc n) k h =
    ⊎_elim
    (λ e. subst (λ j. get_or s j 0 ≤ max (largest_of n s) (get_or s n 0)) (let q : n ≡ k = omega arith in q) (omega arith))
    (λ l. omega (arith, none_above s n k (omega arith)))
    (eq-or-lt_of_le h)

-- no sample that a part of a plane holds is above the largest of the part
pub part_fine : (p : List ℕ) (stride j i s e k top m : ℕ) → s + k ≡ j * stride + i → k < e - s → s ≤ e → e ≤ length p
    → let part = take (e - s) (drop s p) in m ≡ largest_of (length part) part → m ≤ top → sample_at p stride j i ≤ top
part_fine p stride j i s e k top m q h a b l w =
    let part = take (e - s) (drop s p) in
    omega (arith, none_above part (length part) k (omega (arith, part_length p s e a b)), part_sample p stride j i s e k q h)

-- where no element is above a number, the largest is not
pub largest_within : (s : List ℕ) (n top : ℕ) → ((k : ℕ) → k < n → get_or s k 0 ≤ top) → largest_of n s ≤ top
unfolding largest_of
largest_within s zero top h = omega arith
largest_within s (suc n) top h = omega (arith, largest_within s n top (λ k l. h k (omega arith)), h n (omega arith))

-- the samples of a run by the largest of the part that holds them
module _ (p : List ℕ) (from n top m : ℕ) (h : from + n ≤ length p) (e : m ≡ largest_of n (take (from + n - from) (drop from p))) where
  abbrev part : List ℕ
  part = take (from + n - from) (drop from p)

  pub run_within : m ≤ top → RunFine p from n top
  run_within w k l =
      let here = part_at p from (from + n) k (omega arith) in
      omega (arith, none_above part n k l, here)

  pub run_top : RunFine p from n top → m ≤ top
  run_top fine =
      let all : (k : ℕ) → k < n → get_or part k 0 ≤ top = λ k l. omega (arith, part_at p from (from + n) k (omega arith), fine k l) in
      omega (arith, largest_within part n top all)
