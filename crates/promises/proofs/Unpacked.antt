-- What an exported call packs into one number comes out again, whole: what a caller from another language reads off it means what the answer
-- means. So every promise on answers holds of exports too.
use Rattle.std.specs.Prelude.{Result, Ok, Err, Option, Some, None}
use mathlib.Core.Path.{◌≡◌, refl, sym, ap, ◌∙◌}
use mathlib.Core.Bool.{Bool, true, false, true≢false, cond}
use mathlib.Core.List.{List, [], ◌∷◌}
use Prim.Native.Nat.{ℕ, ◌^◌, ◌<◌}
use native.Mathlib.Omega.{arith}
use lib.Dec.{eqb}
use Rattle.sample.specs.Depth.{Depth, most_depth}
use Rattle.sample.specs.declared.Pixel.{Pixel}
use Rattle.sample.specs.declared.Side.{Side}
use Rattle.sample.specs.declared.Side.TheVariants.{Rgb, Ycc}
use Rattle.sample.proofs.DepthLaws.{powers}
use Rattle.refusal.specs.Rules.{Rule, first, bad_at, at}
use Rattle.refusal.specs.declared.Place.{Place}
use Rattle.refusal.specs.declared.Refusal.{Refusal}
use Rattle.refusal.proofs.RuleLaws.{EveryRule, first_has}
use Rattle.planes.specs.Picture.{Picture, layout_of}
use Rattle.planes.specs.Sizes.{size_rules}
use Rattle.planes.specs.declared.size.Layout.{Layout}
use Rattle.scan.specs.First.{first_place, IsFirstPlace}
use Rattle.scan.proofs.Searches.{first_place_means}
use Rattle.planes.proofs.SizeTheorems as sizes
use Rattle.setting.specs.Call.{input_of}
use Rattle.setting.specs.Rules.{depths, served, setting_rules}
use Rattle.setting.specs.declared.Call.{Call}
use Rattle.setting.specs.declared.Call.TheVariants as call
use Rattle.setting.specs.declared.Setting.{Setting}
use Rattle.setting.specs.declared.Way.{Way}
use Rattle.setting.specs.declared.Way.TheVariants as way
use Rattle.setting.proofs.ReadyLaws.{ready}
use Rattle.meter.specs.Level.{plane_number}
use Rattle.meter.specs.declared.SampleKind.{SampleKind}
use Rattle.meter.specs.declared.SampleKind.TheVariants as kind
use Rattle.plan.specs.Conversion.{convert}
use Rattle.plan.specs.Source.{has_source}
use Rattle.plan.proofs.ConversionTheorems.{forward_inside, reverse_inside}
use Rattle.admit.specs.Rules.{call_admission, beyond_depth, pixel_picture, bad_one}
use Rattle.admit.proofs.Accepted.{Accepted, accepted_of, inside_exactly}
use Rattle.admit.proofs.AdmitLaws.{each_answer}
use Rattle.frame.specs.Frame.{frame_by, frame_answer}
use Rattle.image_check.specs.Image.{fails, first_failing, answer_found, image_by, image_answer}
use Rattle.judge.specs.Judge.{is_wrong, first_wrong, count_wrong, verdict, judge_by, judgement}
use Rattle.corkplover.specs.Answers.{converted_by, pixel_answer, read_by, reading, levels_read_by, levels_answer}
use Rattle.corkplover.specs.Meaning.{Meaning, refusal_in, meaning_refusal, meaning_samples, meaning_source, meaning_judged, meaning_unless, meaning_of_pixel, meaning_of_reading, meaning_of_levels, meaning_of_frame, meaning_of_image, meaning_of_judgement, meaning_in_pixel, meaning_in_reading, meaning_in_levels, meaning_in_frame, meaning_in_image, meaning_in_judgement}
use Rattle.corkplover.specs.Packing.{packed, number_in, second_in, first_in, middle_in, packed_refusal, packed_pixel, packed_reading, level_in, packed_levels, y_in, cb_in, cr_in, packed_frame, packed_image, packed_judgement, wrong_in}
use Rattle.promises.proofs.Fields.{fields}
use Rattle.promises.proofs.Beyond.{picture_beyond, sample_beyond}
use Rattle.promises.proofs.Refusing.{Other, setting_others, size_others}
use Rattle.setting.specs.declared.admission.Served.{Served}
use Rattle.judge.specs.declared.Difference.{Difference}

-- a refusal that the fields have room for, and that is told from none by its number
pub record Small (r : Refusal) : Type 0 where
  pub number_some : eqb r.number 0 ≡ false
  number_small : r.number < 256
  plane_small : r.place.plane < 256
  row_small : r.place.row < 65536
  column_small : r.place.column < 65536

pub other_small : (r : Refusal) → Other r → Small r
other_small r o =
    let plane = ap (λ p. p.plane) o.no_place in
    let row = ap (λ p. p.row) o.no_place in
    let column = ap (λ p. p.column) o.no_place in
    record { number_some = o.not_0; number_small = o.byte; plane_small = omega arith; row_small = omega arith; column_small = omega arith }

-- what a number means by whether its lowest bits are 0
pub refused_means : {A : Type 0} (b : Bool) (m n : A) → b ≡ false → cond b m n ≡ n
refused_means true m n e = absurd (true≢false e)
refused_means false m n e = refl

pub free_means : {A : Type 0} (b : Bool) (m n : A) → b ≡ true → cond b m n ≡ m
free_means true m n e = refl
free_means false m n e = absurd (true≢false (sym e))

-- a refusal is told from what is accepted, and comes out whole
pub refusal_back : (r : Refusal) → Small r → (eqb (number_in (packed_refusal r)) 0 ≡ false) × (refusal_in (packed_refusal r) ≡ r)
refusal_back r h =
    let f = fields r.number r.place.plane r.place.row r.place.column r.sample h.number_small h.plane_small h.row_small h.column_small in (
      ap (λ n. eqb n 0) f.number_out ∙ h.number_some,
      λ i. record { number = f.number_out i; place = at (f.second_out i) (f.first_out i) (f.middle_out i); sample = f.last_out i },
    )

refusal_out : (r : Refusal) (m : Meaning) → Small r → meaning_unless (packed_refusal r) m ≡ meaning_refusal r
refusal_out r m h = let t = refusal_back r h in refused_means _ m _ t.0 ∙ ap meaning_refusal t.1

-- ---- of any call: what is heard of it, and what it says

module _ (heard say : Result Served Refusal → Meaning) (c : Call) (s : Setting) (sizes : List Rule) (others : EveryRule Other sizes) (bad : Option (Place × ℕ))
    (refused : (r : Refusal) → Small r → heard (Err r) ≡ say (Err r))
    (fit : first sizes ≡ Ok tt → (place : Place) (v : ℕ) → bad ≡ Some (place, v) → Small (bad_at place v))
    (served-out : Accepted c s sizes bad → heard (Ok (served s)) ≡ say (Ok (served s)))
  where
    abbrev Out : Result Served Refusal → Type 0
    Out v = (v ≡ Ok (served s) → heard v ≡ say v) → heard v ≡ say v

    call_out : heard (call_admission c s sizes bad) ≡ say (call_admission c s sizes bad)
    call_out =
        each_answer Out c s sizes bad (λ r e f. refused r (other_small r (first_has Other (setting_rules c s) r (setting_others c s) e)))
        (λ r e f. refused r (other_small r (first_has Other sizes r others e))) (λ e place v g f. refused (bad_at place v) (fit e place v g)) (λ f. f refl)
        (λ e. rw e (served-out (accepted_of c s sizes bad (served s) e).0))

bad_small : (place : Place) (v : ℕ) → place.plane < 256 → place.row < 65536 → place.column < 65536 → Small (bad_at place v)
bad_small place v a b c = record { number_some = refl; number_small = omega arith; plane_small = a; row_small = b; column_small = c }

-- ---- calls on a pixel or a sample

bad_pixel : (side : Side) (s : Setting) (p : Pixel) (place : Place) (v : ℕ) → beyond_depth side (depths s) (pixel_picture p) ≡ Some (place, v)
    → Small (bad_at place v)
bad_pixel side s p place v e =
    let b = (picture_beyond side s (pixel_picture p) place v e).first_bad in
    bad_small place v (omega (arith, b.plane_inside)) (omega (arith, b.first_there.row_inside)) (omega (arith, b.first_there.column_inside))

-- the samples of an accepted pixel
below : (d v : ℕ) → Depth d → v < 2 ^ d → v < 65536
below d v h l = let p = powers d most_depth h.least h.most in omega arith

samples_out : (q : Pixel) → q.p0 < 65536 → q.p1 < 65536 → meaning_in_pixel (packed_pixel (Ok q)) ≡ meaning_of_pixel (Ok q)
samples_out q h k =
    let f = fields 0 0 q.p0 q.p1 q.p2 (omega arith) (omega arith) h k in
    free_means _ _ _ (ap (λ n. eqb n 0) f.number_out) ∙ (λ i. meaning_samples (f.first_out i ∷ f.middle_out i ∷ f.last_out i ∷ []))

pixel_out : (w : Way) (s : Setting) (p : Pixel) → Accepted (call.Convert w) s [] (beyond_depth (input_of w) (depths s) (pixel_picture p))
    → let q = convert w (served s) p in meaning_in_pixel (packed_pixel (Ok q)) ≡ meaning_of_pixel (Ok q)
pixel_out way.Forward s p a =
    let r = ready (call.Convert way.Forward) s a.setting in
    let i = forward_inside (served s) p r ((inside_exactly Rgb (depths s) (pixel_picture p)).0 a.samples 0 0 (omega arith) (omega arith)) in
    samples_out _ (below _ _ r.three.luma i.in0) (below _ _ r.three.chroma i.in1)
pixel_out way.Reverse s p a =
    let r = ready (call.Convert way.Reverse) s a.setting in
    let i = reverse_inside (served s) p r ((inside_exactly Ycc (depths s) (pixel_picture p)).0 a.samples 0 0 (omega arith) (omega arith)) in
    samples_out _ (below _ _ r.three.rgb i.in0) (below _ _ r.three.rgb i.in1)

pub pixel_unpacked : (w : Way) (s : Setting) (p : Pixel) → meaning_in_pixel (packed_pixel (pixel_answer w s p)) ≡ meaning_of_pixel (pixel_answer w s p)
unfolding pixel_answer
pixel_unpacked w s p =
    call_out (λ v. meaning_in_pixel (packed_pixel (converted_by w p v))) (λ v. meaning_of_pixel (converted_by w p v)) (call.Convert w) s [] tt _
    (λ r. refusal_out r _) (λ z. bad_pixel (input_of w) s p) (pixel_out w s p)

pub levels_unpacked : (s : Setting) (p : Pixel)
    → let l = levels_answer s p in meaning_in_levels (packed_levels l) (y_in l) (cb_in l) (cr_in l) ≡ meaning_of_levels l
unfolding levels_answer
levels_unpacked s p =
    call_out (λ v. let l = levels_read_by p v in meaning_in_levels (packed_levels l) (y_in l) (cb_in l) (cr_in l)) (λ v. meaning_of_levels (levels_read_by p v))
    call.Meter s [] tt _ (λ r. refusal_out r _) (λ z. bad_pixel Ycc s p) (λ a. refl)

kind_small : (k : SampleKind) → plane_number k < 256
kind_small kind.Y = omega arith
kind_small kind.Cb = omega arith
kind_small kind.Cr = omega arith

bad_one_lem : (k : SampleKind) (s : Setting) (v : ℕ) (place : Place) (w : ℕ) → bad_one k (depths s) v ≡ Some (place, w) → Small (bad_at place w)
bad_one_lem k s v place w e =
    let b = (sample_beyond k s v place w e).first_bad in
    bad_small place w (omega (arith, kind_small k, b.plane_is)) (omega (arith, b.row_inside)) (omega (arith, b.column_inside))

pub reading_unpacked : (k : SampleKind) (s : Setting) (v : ℕ)
    → let l = reading k s v in meaning_in_reading (packed_reading l) (level_in l) ≡ meaning_of_reading l
unfolding reading
reading_unpacked k s v =
    call_out (λ d. let l = read_by k v d in meaning_in_reading (packed_reading l) (level_in l)) (λ d. meaning_of_reading (read_by k v d)) call.Meter s [] tt _
    (λ r. refusal_out r _) (λ z. bad_one_lem k s v) (λ a. refl)

-- ---- calls on a picture

bad_in : (side : Side) (s : Setting) (a : Picture) (others : List Layout) → first (size_rules a.width a.height (layout_of a ∷ others)) ≡ Ok tt
    → (place : Place) (v : ℕ) → beyond_depth side (depths s) a ≡ Some (place, v) → Small (bad_at place v)
bad_in side s a others z place v e =
    let sized = (sizes.fits _ _ _ z).0.sized in
    let b = (picture_beyond side s a place v e).first_bad in
    bad_small place v (omega (arith, b.plane_inside)) (omega (arith, b.first_there.row_inside, sized.height_within.to_most))
    (omega (arith, b.first_there.column_inside, sized.width_within.to_most))

pub frame_unpacked : (w : Way) (s : Setting) (a : Picture) (b : Layout) → meaning_in_frame (packed_frame (frame_answer w s a b)) ≡ meaning_of_frame (frame_answer w s a b)
unfolding frame_answer
frame_unpacked w s a b =
    call_out (λ v. meaning_in_frame (packed_frame (frame_by v))) (λ v. meaning_of_frame (frame_by v)) (call.Convert w) s _
    (size_others a.width a.height (layout_of a ∷ b ∷ [])) _ (λ r. refusal_out r _) (bad_in (input_of w) s a (b ∷ [])) (λ k. refl)

-- a row and a column of a picture of a served size, beside a word
module _ (test : ℕ → ℕ → Bool) (width height : ℕ) (place : Place) (e : first_place test 0 width height ≡ Some place) (h : height < 65536) (w : width < 65536) where
  inside : IsFirstPlace (λ j i. test j i ≡ true) (λ j i. test j i ≡ false) 0 width height place
  inside = (first_place_means test 0 width height _ _ (λ j i x y. (λ q. q, λ q. q)) (λ j i x y. (λ q. q, λ q. q)) place).0 e

  place_out : (m : Bool → Place → Meaning) → let x = packed 0 1 place.row place.column 0 in
      meaning_unless x (m (eqb (second_in x) 0) (at 0 (first_in x) (middle_in x))) ≡ m false place
  place_out m =
      let f = fields 0 1 place.row place.column 0 (omega arith) (omega arith) (omega (arith, inside.row_inside)) (omega (arith, inside.column_inside)) in
      free_means _ _ _ (ap (λ n. eqb n 0) f.number_out)
      ∙ (λ i. m (eqb (f.second_out i) 0) (at (sym inside.plane_is i) (f.first_out i) (f.middle_out i)))

-- the image check's word: yes, or such a pixel
word_out : (test : _) (a : Picture) (f : Option Place) → first_failing test a ≡ f → a.height < 65536 → a.width < 65536
    → meaning_in_image (packed_image (answer_found f)) ≡ meaning_of_image (answer_found f)
word_out test a (Some place) e h w = place_out (fails test a) a.width a.height place e h w meaning_source
word_out test a None e h w = refl

pub image_unpacked : (s : Setting) (a : Picture) → meaning_in_image (packed_image (image_answer s a)) ≡ meaning_of_image (image_answer s a)
unfolding image_answer
image_unpacked s a =
    call_out (λ v. meaning_in_image (packed_image (image_by v a))) (λ v. meaning_of_image (image_by v a)) call.ImageCheck s _
    (size_others a.width a.height (layout_of a ∷ [])) _ (λ r. refusal_out r _) (bad_in Ycc s a [])
    (λ k.
    let sized = (sizes.fits _ _ _ k.sizes_pass).0.sized in
    word_out (has_source (served s)) a (first_failing (has_source (served s)) a) refl (omega (arith, sized.height_within.to_most)) (omega (arith, sized.width_within.to_most)))

-- and that of a judgement, with its count
verdict_out : (f : Pixel → Pixel) (a b : Picture) (n : ℕ) (v : Option Place) → first_wrong f a b ≡ v → a.height < 65536 → a.width < 65536
    → let r = Ok (verdict v n) in meaning_in_judgement (packed_judgement r) (wrong_in r) ≡ meaning_of_judgement r
verdict_out f a b n (Some place) e h w = place_out (is_wrong f a b) a.width a.height place e h w (λ word p. meaning_judged word p n)
verdict_out f a b n None e h w = refl

pub judgement_unpacked : (w : Way) (s : Setting) (a b : Picture)
    → let r = judgement w s a b in meaning_in_judgement (packed_judgement r) (wrong_in r) ≡ meaning_of_judgement r
unfolding judgement
judgement_unpacked w s a b =
    call_out (λ v. let r = judge_by v w a b in meaning_in_judgement (packed_judgement r) (wrong_in r)) (λ v. meaning_of_judgement (judge_by v w a b)) (call.Convert w) s _
    (size_others a.width a.height (layout_of a ∷ layout_of b ∷ [])) _ (λ r. refusal_out r _) (bad_in (input_of w) s a (layout_of b ∷ []))
    (λ k.
    let sized = (sizes.fits _ _ _ k.sizes_pass).0.sized in
    let f = convert w (served s) in
    verdict_out f a b (count_wrong f a b) (first_wrong f a b) refl (omega (arith, sized.height_within.to_most)) (omega (arith, sized.width_within.to_most)))

-- what stands behind the pointer is the count, whatever is answered: of a refusal it is 0
pub wrong_unpacked : (r : Result (Option Difference) Refusal) → wrong_in r ≡ (meaning_of_judgement r).wrong
wrong_unpacked (Ok None) = refl
wrong_unpacked (Ok (Some d)) = refl
wrong_unpacked (Err r) = refl
