-- Demand 1 on refusals. It is shown once of any call's rules, and then read off the answer of each kind of call.
use Rattle.std.specs.Prelude.{Result, Ok, Err, Option, Some, None}
use mathlib.Core.Path.{◌≡◌, refl, sym, ap, ◌∙◌, subst}
use mathlib.Core.Bool.{Bool, true, false, cond}
use mathlib.Core.List.{List, [], ◌∷◌, ◌++◌}
use Prim.Native.Nat.{ℕ, ◌<◌}
use native.Mathlib.Omega.{arith}
use borrow.Author.Tests.{eqb-false}
use lib.Dec.{eqb}
use Rattle.sample.specs.declared.Pixel.{Pixel}
use Rattle.sample.specs.declared.Side.TheVariants.{Ycc}
use Rattle.refusal.specs.Rules.{Rule, first, FirstIs, NoneApplies, nowhere, numbered}
use Rattle.refusal.specs.declared.Place.{Place}
use Rattle.refusal.specs.declared.Refusal.{Refusal}
use Rattle.refusal.proofs.RuleLaws.{EveryRule, first_has, never_both, same_refusal, refused_exactly, passed_exactly}
use Rattle.setting.specs.Call.{input_of}
use Rattle.setting.specs.Rules.{served, setting_rules, admitted}
use Rattle.setting.specs.declared.Call.{Call}
use Rattle.setting.specs.declared.Call.TheVariants as call
use Rattle.setting.specs.declared.Setting.{Setting}
use Rattle.setting.specs.declared.Way.{Way}
use Rattle.setting.specs.declared.admission.Served.{Served}
use Rattle.meter.specs.declared.SampleKind.{SampleKind}
use Rattle.scan.specs.First.{bad_rule}
use Rattle.planes.specs.Picture.{Picture, layout_of}
use Rattle.planes.specs.Sizes.{size_rules}
use Rattle.planes.specs.declared.size.Layout.{Layout}
use Rattle.plan.specs.Conversion.{convert}
use Rattle.plan.specs.Source.{has_source}
use Rattle.admit.specs.Rules.{call_rules, call_admission, picture_rules, pixel_rules, sample_rules, pixel_picture}
use Rattle.admit.proofs.Accepted.{Accepted, accepted_of, of_accepted}
use Rattle.admit.proofs.AdmitLaws.{admitted_passed, each_answer}
use Rattle.frame.specs.Frame.{frame_by, frame_answer}
use Rattle.image_check.specs.Image.{first_failing, answer_found, image_by, image_answer}
use Rattle.judge.specs.Judge.{first_wrong, count_wrong, verdict, judge_by, judgement}
use Rattle.corkplover.specs.Answers.{converted_by, pixel_answer, source_by, source_answer, read_by, reading, levels_read_by, levels_answer}
use Rattle.corkplover.specs.Meaning.{Meaning, meaning_refusal, meaning_of_pixel, meaning_of_source, meaning_of_reading, meaning_of_levels, meaning_of_frame, meaning_of_image, meaning_of_judgement}
use Rattle.promises.proofs.Beyond.{picture_beyond, sample_beyond}
use Rattle.promises.specs.Refusing.{Exactly, NamesSample, Refuses, BadIn, BadPixel, BadSampleOf}

-- rules whose numbers are not 0
abbrev Numbered : List Rule → Type 0
Numbered rs = EveryRule (λ x. eqb x.number 0 ≡ false) rs

not_zero : (rs : List Rule) (x : Refusal) → Numbered rs → first rs ≡ Err x → x.number ≡ 0 → ⊥
not_zero rs x h e q = eqb-false x.number 0 (first_has _ rs x h e) q

all_numbered : (call : Call) (s : Setting) (sizes : List Rule) (bad : Option (Place × ℕ)) → Numbered sizes → Numbered (call_rules call s sizes bad)
all_numbered call s sizes bad h = (refl, (refl, (refl, (refl, (refl, (refl, (refl, (refl, (refl, rest sizes h)))))))))
  where
    last : (f : Option (Place × ℕ)) → Numbered (bad_rule f ∷ [])
    last (Some b) = (refl, tt)
    last None = (refl, tt)

    rest : (rs : List Rule) → Numbered rs → Numbered (rs ++ (bad_rule bad ∷ []))
    rest [] h = last bad
    rest (r ∷ rs) h = (h.0, rest rs h.1)

-- a refusal that is neither 0 nor 10, whose number fits into a byte, and that names no place and no sample
pub record Other (x : Refusal) : Type 0 where
  pub not_0 : eqb x.number 0 ≡ false
  pub not_10 : eqb x.number 10 ≡ false
  pub byte : x.number < 256
  pub no_place : x.place ≡ nowhere
  pub no_sample : x.sample ≡ 0

pub other : (n : ℕ) → (eqb n 0 ≡ false) × (eqb n 10 ≡ false) → n < 256 → Other (numbered n)
other n e h = record { not_0 = e.0; not_10 = e.1; byte = h; no_place = refl; no_sample = refl }

pub setting_others : (c : Call) (s : Setting) → EveryRule Other (setting_rules c s)
setting_others c s =
    let o = other in
    (o 12 (refl, refl) (omega arith), (o 1 (refl, refl) (omega arith), (o 2 (refl, refl) (omega arith), (o 3 (refl, refl) (omega arith), (o 4 (refl, refl) (omega arith), (o 5 (refl, refl) (omega arith), (o 6 (refl, refl) (omega arith), (o 7 (refl, refl) (omega arith), (o 11 (refl, refl) (omega arith), tt)))))))))

pub size_others : (width height : ℕ) (layouts : List Layout) → EveryRule Other (size_rules width height layouts)
size_others width height layouts = (other 8 (refl, refl) (omega arith), (other 9 (refl, refl) (omega arith), tt))

numbered_others : (rs : List Rule) → EveryRule Other rs → Numbered rs
numbered_others [] h = tt
numbered_others (r ∷ rs) h = (h.0.not_0, numbered_others rs h.1)

-- what no rule refuses is let in
pub none_admitted : (c : Call) (s : Setting) (sizes : List Rule) (bad : Option (Place × ℕ)) → NoneApplies (call_rules c s sizes bad)
    → call_admission c s sizes bad ≡ Ok (served s)
unfolding call_admission
none_admitted c s sizes bad h = ap (λ k. admitted k (served s)) ((passed_exactly _).1 h)

-- and the refusal of the first rule that applies is given
pub first_refused : (c : Call) (s : Setting) (sizes : List Rule) (bad : Option (Place × ℕ)) (r : Refusal) → FirstIs r (call_rules c s sizes bad)
    → call_admission c s sizes bad ≡ Err r
unfolding call_admission
first_refused c s sizes bad r h = ap (λ k. admitted k (served s)) ((refused_exactly _ r).1 h)

pub none_accepted : (c : Call) (s : Setting) (sizes : List Rule) (bad : Option (Place × ℕ)) → NoneApplies (call_rules c s sizes bad) → Accepted c s sizes bad
none_accepted c s sizes bad h = (accepted_of c s sizes bad (served s) (none_admitted c s sizes bad h)).0

pub accepted_none : (c : Call) (s : Setting) (sizes : List Rule) (bad : Option (Place × ℕ)) → Accepted c s sizes bad → NoneApplies (call_rules c s sizes bad)
unfolding call_admission
accepted_none c s sizes bad k = (passed_exactly _).0 (admitted_passed _ (served s) (served s) (of_accepted c s sizes bad k)).0

-- what an answer means that is no refusal
abbrev Unrefused : Meaning → Type 0
Unrefused m = (m.number ≡ 0) × (m.bad ≡ 0)

-- an answer that says of every refusal what it is, and of nothing else that it is one
module _ (say : Result Served Refusal → Meaning) (unrefused : (x : Served) → Unrefused (say (Ok x)))
    (refuses : (r : Refusal) → say (Err r) ≡ meaning_refusal r)
  where
    free : (x : Served) → (say (Ok x)).number ≡ 0
    free x = (unrefused x).0

    by_check : (rules : List Rule) (x : Served) → Numbered rules → (c : Result Unit Refusal) → first rules ≡ c → Exactly (say (admitted c x)) rules
    by_check rules x h (Ok tt) e =
        record {
          given = λ n. absurd (n (free x));
          only = λ y f. absurd (never_both y (sym e ∙ (refused_exactly rules y).1 f));
          accepted = λ n. (passed_exactly rules).0 e;
          free = λ n. free x;
        }
    by_check rules x h (Err r) e =
        record {
          given = λ n. record { refusal = r; is_first = (refused_exactly rules r).0 e; is = refuses r };
          only = λ y f. refuses r ∙ ap meaning_refusal (same_refusal (sym e ∙ (refused_exactly rules y).1 f));
          accepted = λ n. absurd (not_zero rules r h e (sym (ap (λ m. m.number) (refuses r)) ∙ n));
          free = λ n. absurd (never_both r (sym ((passed_exactly rules).1 n) ∙ e));
        }

    module _ (c : Call) (s : Setting) (sizes : List Rule) (h : EveryRule Other sizes) (bad : Option (Place × ℕ)) (Is : Place → ℕ → Type 0)
        (means : (place : Place) (v : ℕ) → bad ≡ Some (place, v) → Is place v)
      where
        answered : Exactly (say (call_admission c s sizes bad)) (call_rules c s sizes bad)
        unfolding call_admission
        answered = by_check (call_rules c s sizes bad) (served s) (all_numbered c s sizes bad (numbered_others sizes h)) _ refl

        abbrev Names : Result Served Refusal → Type 0
        Names v = NamesSample Is (say v)

        other_names : (r : Refusal) → Other r → Names (Err r)
        other_names r o =
            subst (NamesSample Is) (sym (refuses r))
            (record {
              ten = λ t. absurd (eqb-false _ _ o.not_10 t);
              not_ten = λ t. o.no_sample;
              other = λ t u. o.no_place;
              alone = λ t. (refl, (refl, (refl, (refl, refl))));
            })

        named : Names (call_admission c s sizes bad)
        named =
            let e = free (served s) in
            each_answer Names c s sizes bad (λ r f. other_names r (first_has Other (setting_rules c s) r (setting_others c s) f))
            (λ r f. other_names r (first_has Other sizes r h f))
            (λ f place v g.
            subst (NamesSample Is) (sym (refuses _))
            (record {
              ten = λ t. means place v g;
              not_ten = λ t. absurd (t refl);
              other = λ t u. absurd (u refl);
              alone = λ t. (refl, (refl, (refl, (refl, refl))));
            }))
            (record {
              ten = λ t. absurd (omega arith);
              not_ten = λ t. (unrefused (served s)).1;
              other = λ t u. absurd (t e);
              alone = λ t. absurd (t e);
            })

        call_refuses : Refuses (call_rules c s sizes bad) Is (say (call_admission c s sizes bad))
        call_refuses = record { exactly = answered; names = named }

-- ---- each kind of call

-- the image check's word is no refusal
found_free : (f : Option Place) → Unrefused (meaning_of_image (answer_found f))
found_free (Some place) = (refl, refl)
found_free None = (refl, refl)

-- nor is a verdict
verdict_free : (f : Option Place) (n : ℕ) → Unrefused (meaning_of_judgement (Ok (verdict f n)))
verdict_free (Some place) n = (refl, refl)
verdict_free None n = (refl, refl)

pub pixel_refuses : (w : Way) (s : Setting) (p : Pixel)
    → Refuses (pixel_rules (call.Convert w) s p) (BadPixel (input_of w) s p) (meaning_of_pixel (pixel_answer w s p))
unfolding pixel_answer
pixel_refuses w s p =
    call_refuses (λ v. meaning_of_pixel (converted_by w p v)) (λ x. (refl, refl)) (λ r. refl) (call.Convert w) s [] tt _ _
    (picture_beyond (input_of w) s (pixel_picture p))

pub source_refuses : (s : Setting) (p : Pixel) → Refuses (pixel_rules call.ImageCheck s p) (BadPixel Ycc s p) (meaning_of_source (source_answer s p))
unfolding source_answer
source_refuses s p =
    call_refuses (λ v. meaning_of_source (source_by p v)) (λ x. (refl, refl)) (λ r. refl) call.ImageCheck s [] tt _ _
    (picture_beyond Ycc s (pixel_picture p))

pub reading_refuses : (k : SampleKind) (s : Setting) (v : ℕ) → Refuses (sample_rules k s v) (BadSampleOf k s v) (meaning_of_reading (reading k s v))
unfolding reading
reading_refuses k s v =
    call_refuses (λ d. meaning_of_reading (read_by k v d)) (λ x. (refl, refl)) (λ r. refl) call.Meter s [] tt _ _
    (sample_beyond k s v)

pub levels_refuses : (s : Setting) (p : Pixel) → Refuses (pixel_rules call.Meter s p) (BadPixel Ycc s p) (meaning_of_levels (levels_answer s p))
unfolding levels_answer
levels_refuses s p =
    call_refuses (λ v. meaning_of_levels (levels_read_by p v)) (λ x. (refl, refl)) (λ r. refl) call.Meter s [] tt _ _
    (picture_beyond Ycc s (pixel_picture p))

pub frame_refuses : (w : Way) (s : Setting) (a : Picture) (b : Layout)
    → Refuses (picture_rules (call.Convert w) s a (b ∷ [])) (BadIn (input_of w) s a) (meaning_of_frame (frame_answer w s a b))
unfolding frame_answer
frame_refuses w s a b =
    call_refuses (λ v. meaning_of_frame (frame_by v)) (λ x. (refl, refl)) (λ r. refl) (call.Convert w) s (size_rules a.width a.height (layout_of a ∷ b ∷ []))
    (size_others a.width a.height (layout_of a ∷ b ∷ [])) _ _ (picture_beyond (input_of w) s a)

pub image_refuses : (s : Setting) (a : Picture) → Refuses (picture_rules call.ImageCheck s a []) (BadIn Ycc s a) (meaning_of_image (image_answer s a))
unfolding image_answer
image_refuses s a =
    call_refuses (λ v. meaning_of_image (image_by v a)) (λ x. found_free (first_failing (has_source x) a)) (λ r. refl) call.ImageCheck s
    (size_rules a.width a.height (layout_of a ∷ [])) (size_others a.width a.height (layout_of a ∷ [])) _ _ (picture_beyond Ycc s a)

pub judgement_refuses : (w : Way) (s : Setting) (a b : Picture)
    → Refuses (picture_rules (call.Convert w) s a (layout_of b ∷ [])) (BadIn (input_of w) s a) (meaning_of_judgement (judgement w s a b))
unfolding judgement
judgement_refuses w s a b =
    call_refuses (λ v. meaning_of_judgement (judge_by v w a b)) (λ x. verdict_free (first_wrong (convert w x) a b) (count_wrong (convert w x) a b)) (λ r. refl) (call.Convert w) s
    (size_rules a.width a.height (layout_of a ∷ layout_of b ∷ [])) (size_others a.width a.height (layout_of a ∷ layout_of b ∷ [])) _ _ (picture_beyond (input_of w) s a)
