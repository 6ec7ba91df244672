-- The promise on a judgement holds of the box's answer: what it is held to is what the frame call leaves.
use Rattle.std.specs.Prelude.{Option, Some, None, Ok}
use mathlib.Core.Path.{◌≡◌, refl, sym, ap, ◌∙◌, subst}
use mathlib.Core.Bool.{true, false, true≢false, not}
use mathlib.Core.List.{List, [], ◌∷◌}
use mathlib.Core.Logic.{◌↔◌, ◌⊎◌, inl, inr}
use Prim.Native.Nat.{ℕ, ◌<◌}
use native.Mathlib.Omega.{arith}
use borrow.Author.Tests.{not-true, not-false}
use lib.ListN.{length}
use Rattle.sample.specs.declared.Pixel.{Pixel}
use Rattle.sample.proofs.Choices.{must}
use Rattle.refusal.specs.Rules.{Rule, FirstIs, NoneApplies}
use Rattle.refusal.specs.declared.Place.{Place}
use Rattle.setting.specs.Rules.{served}
use Rattle.setting.specs.declared.Call.TheVariants.{Convert}
use Rattle.setting.specs.declared.Setting.{Setting}
use Rattle.setting.specs.declared.Way.{Way}
use Rattle.planes.specs.Picture.{Picture, layout_of, pixel_of}
use Rattle.planes.specs.Sizes.{layout}
use Rattle.planes.specs.declared.size.Layout.{Layout}
use Rattle.scan.proofs.Searches.{no_place_means, first_place_means}
use Rattle.plan.specs.Conversion.{convert}
use Rattle.plan.specs.Source.{same_pixel}
use Rattle.plan.proofs.ConversionTheorems.{same_pixel_lem, pixel_same}
use Rattle.compare.specs.Count.{count_places}
use Rattle.compare.specs.Compare.{differ}
use Rattle.admit.specs.Rules.{picture_rules}
use Rattle.rows.specs.Paint.{input_picture, output_picture, output_layout}
use Rattle.rows.specs.declared.paint.Size.{Size}
use Rattle.judge.specs.Judge.{is_wrong, first_wrong, count_wrong, verdict, judge_by, judgement}
use Rattle.judge.proofs.PlaceLaws.{none_wrong, wrong_none, places_same}
use Rattle.corkplover.specs.Meaning.{Meaning, meaning_of_judgement}
use Rattle.promises.specs.Frames.{ConvertsFrame, ConvertsPlanes, SamePixels}
use Rattle.promises.specs.Judging.{own_picture, Right, wrong_at, FirstWrong, JudgesFrame, JudgesPlanes, OwnAgrees}
use Rattle.promises.proofs.Refusing.{none_admitted, judgement_refuses}
use Rattle.promises.proofs.Frames.{frame_converts}
use Rattle.promises.proofs.Pixels.{same_word}

-- what was found, from what the answer means
agrees_found : {m : Meaning} (f : Option Place) (n : ℕ) → m ≡ meaning_of_judgement (Ok (verdict f n)) → m.agrees ≡ true ∷ [] → f ≡ None
agrees_found (Some place) n e q = absurd (true≢false (same_word q (ap (λ m. m.agrees) e)))
agrees_found None n e q = refl

differs_found : {m : Meaning} (f : Option Place) (n : ℕ) (place : Place) → m ≡ meaning_of_judgement (Ok (verdict f n)) → m.agrees ≡ false ∷ [] → m.place ≡ place → f ≡ Some place
differs_found (Some at) n place e q p = ap Some (sym (ap (λ m. m.place) e) ∙ p)
differs_found None n place e q p = absurd (true≢false (same_word (ap (λ m. m.agrees) e) q))

by_found : {m : Meaning} (f : Option Place) (n : ℕ) → m ≡ meaning_of_judgement (Ok (verdict f n)) → (m.agrees ≡ true ∷ []) ⊎ (m.agrees ≡ false ∷ [])
by_found (Some place) n e = inr (ap (λ m. m.agrees) e)
by_found None n e = inl (ap (λ m. m.agrees) e)

-- the count is given where something was found, and is 0 where nothing was
counted : {m : Meaning} (f : Option Place) (n : ℕ) → m ≡ meaning_of_judgement (Ok (verdict f n)) → (f ≡ None → n ≡ 0) → m.wrong ≡ n
counted (Some place) n e z = ap (λ m. m.wrong) e
counted None n e z = ap (λ m. m.wrong) e ∙ sym (z refl)

module _ (w : Way) (s : Setting) (a b : Picture) (h : NoneApplies (picture_rules (Convert w) s a (layout_of b ∷ []))) where
  abbrev f : Pixel → Pixel
  f = convert w (served s)

  abbrev first : Option Place
  first = first_wrong f a b

  abbrev m : Meaning
  m = meaning_of_judgement (judgement w s a b)

  -- a call that no rule refuses is answered by the search and the count
  searched : m ≡ meaning_of_judgement (Ok (verdict first (count_wrong f a b)))
  unfolding judgement
  searched = ap (λ v. meaning_of_judgement (judge_by v w a b)) (none_admitted (Convert w) s _ _ h)

  -- what the frame call leaves at a pixel
  own : (j i : ℕ) → j < a.height → i < a.width → pixel_of (own_picture w s a (layout_of b)) j i ≡ f (pixel_of a j i)
  own j i x y = let c = frame_converts w s a (layout_of b) in c.inside (c.refuses.exactly.free h) j i x y

  -- the test of a pixel, and the claim
  exactly : (j i : ℕ) → j < a.height → i < a.width → (same_pixel (f (pixel_of a j i)) (pixel_of b j i) ≡ true) ↔ Right w s a b j i
  exactly j i x y = (λ q. own j i x y ∙ same_pixel_lem _ _ q, λ r. pixel_same _ _ (sym (own j i x y) ∙ r))

  passing : (j i : ℕ) → j < a.height → i < a.width → (is_wrong f a b j i ≡ false) ↔ Right w s a b j i
  passing j i x y = let t = exactly j i x y in (λ q. t.0 (not-false _ q), λ r. ap not (t.1 r))

  failing : (j i : ℕ) → j < a.height → i < a.width → (is_wrong f a b j i ≡ true) ↔ (Right w s a b j i → ⊥)
  failing j i x y =
      let t = exactly j i x y in (
        λ q r. true≢false (sym (t.1 r) ∙ not-true _ q),
        λ r. must (is_wrong f a b j i) (λ q. r (t.0 (not-false _ q))),
      )

  every : (first ≡ None) ↔ SamePixels (own_picture w s a (layout_of b)) b
  every = no_place_means (is_wrong f a b) 0 a.width a.height _ _ failing passing

  agrees : (m.agrees ≡ true ∷ []) ↔ SamePixels (own_picture w s a (layout_of b)) b
  agrees = (
    λ q. every.0 (agrees_found first _ searched q),
    λ r. ap (λ m. m.agrees) (searched ∙ ap (λ g. meaning_of_judgement (Ok (verdict g (count_wrong f a b)))) (every.1 r)),
  )

  differs : (place : Place) → ((m.agrees ≡ false ∷ []) × (m.place ≡ place)) ↔ FirstWrong w s a b place
  differs place =
      let t = first_place_means (is_wrong f a b) 0 a.width a.height _ _ failing passing place in (
        λ q. t.0 (differs_found first _ place searched q.0 q.1),
        λ p.
            let said = searched ∙ ap (λ g. meaning_of_judgement (Ok (verdict g (count_wrong f a b)))) (t.1 p) in
            (ap (λ m. m.agrees) said, ap (λ m. m.place) said),
      )

  decides : (m.agrees ≡ true ∷ []) ⊎ (m.agrees ≡ false ∷ [])
  decides = by_found first (count_wrong f a b) searched

  none : (count_wrong f a b ≡ 0) ↔ SamePixels (own_picture w s a (layout_of b)) b
  none = (
    λ e j i x y. (passing j i x y).0 (none_wrong (is_wrong f a b) a.width a.height e j i x y),
    λ r. wrong_none (is_wrong f a b) a.width a.height (λ j i x y. (passing j i x y).1 (r j i x y)),
  )

  wrong_is : m.wrong ≡ count_wrong f a b
  wrong_is = counted first _ searched (λ q. none.1 (every.0 q))

  counts : m.wrong ≡ count_places (wrong_at w s a b) a.width a.height
  counts = wrong_is ∙ places_same _ _ a.width a.height (λ j i x y. ap (λ p. differ p (pixel_of b j i)) (sym (own j i x y)))

  none_counted : (m.wrong ≡ 0) ↔ (m.agrees ≡ true ∷ [])
  none_counted = (λ e. agrees.1 (none.0 (sym wrong_is ∙ e)), λ q. wrong_is ∙ none.1 (agrees.0 q))

pub frame_judges : (w : Way) (s : Setting) (a b : Picture) → JudgesFrame w s a b (meaning_of_judgement (judgement w s a b))
frame_judges w s a b =
    let r = judgement_refuses w s a b in
    record {
      refuses = r;
      agrees = λ e. agrees w s a b (r.exactly.accepted e);
      differs = λ e. differs w s a b (r.exactly.accepted e);
      decides = λ e. decides w s a b (r.exactly.accepted e);
      counts = λ e. counts w s a b (r.exactly.accepted e);
      none_counted = λ e. none_counted w s a b (r.exactly.accepted e);
    }

-- ---- what the box's own call wrote

module _ (w : Way) (s : Setting) (a c : Picture) (b : Layout) (same : layout_of c ≡ b) {m m' : Meaning} (f : ConvertsFrame w s a b m c) (g : JudgesFrame w s a c m') where
  abbrev rules : Layout → List Rule
  rules x = picture_rules (Convert w) s a (x ∷ [])

  let_in : m.number ≡ 0 → m'.number ≡ 0
  let_in e = g.refuses.exactly.free (subst (λ x. NoneApplies (rules x)) (sym same) (f.refuses.exactly.accepted e))

  -- each pixel is the converted one on either side
  as_written : m.number ≡ 0 → SamePixels (own_picture w s a (layout_of c)) c
  as_written e j i x y = own w s a c (g.refuses.exactly.accepted (let_in e)) j i x y ∙ sym (f.inside e j i x y)

  pub own_agrees : OwnAgrees m m'
  own_agrees =
      record {
        accepted = λ e.
            let n = let_in e in
            let word = (g.agrees n).1 (as_written e) in
            (n, (word, (g.none_counted n).1 word));
        refused = λ e.
            let r = f.refuses.exactly.given e in
            g.refuses.exactly.only r.refusal (subst (λ x. FirstIs r.refusal (rules x)) (sym same) r.is_first) ∙ sym r.is;
      }

-- the same by the calls' parameters
pub own_planes_agree : (w : Way) (s : Setting) (z : Size) (a0 a1 a2 b0 b1 b2 : List ℕ) {p0 p1 p2 c0 c1 c2 : List ℕ} {m m' : Meaning}
    → ConvertsPlanes w s z a0 a1 a2 b0 b1 b2 m p0 p1 p2 → c0 ≡ p0 → c1 ≡ p1 → c2 ≡ p2 → JudgesPlanes w s z a0 a1 a2 c0 c1 c2 m' → OwnAgrees m m'
own_planes_agree w s z a0 a1 a2 b0 b1 b2 {p0} {p1} {p2} {m' = m'} f e0 e1 e2 g =
    let same : layout_of (output_picture z p0 p1 p2) ≡ output_layout z (length b0) (length b1) (length b2) =
    λ i. layout z.output_stride (f.long 0 (omega arith) i) (f.long 1 (omega arith) i) (f.long 2 (omega arith) i) in
    own_agrees w s (input_picture z a0 a1 a2) (output_picture z p0 p1 p2) (output_layout z (length b0) (length b1) (length b2)) same f
    (subst (λ c. JudgesFrame w s (input_picture z a0 a1 a2) c m') (λ i. output_picture z (e0 i) (e1 i) (e2 i)) g)
