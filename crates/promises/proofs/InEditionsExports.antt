-- Every exported function in two editions: words that hold the same setting but for the edition's number, and the other arguments the same.
use mathlib.Core.Path.{◌≡◌, ap, ◌∙◌}
use mathlib.Core.List.{List}
use Prim.Native.Nat.{ℕ}
use lib.Ieee.{Float}
use lib.ListN.{length}
use Rattle.sample.specs.declared.Pixel.{Pixel}
use Rattle.setting.specs.Edition.{in_edition}
use Rattle.setting.specs.declared.Setting.{Setting}
use Rattle.setting.specs.declared.Way.{Way}
use Rattle.setting.specs.declared.Way.TheVariants.{Forward, Reverse}
use Rattle.meter.specs.declared.SampleKind.{SampleKind}
use Rattle.meter.specs.declared.SampleKind.TheVariants.{Y, Cb, Cr}
use Rattle.planes.specs.Picture.{picture}
use Rattle.rows.specs.Paint.{input_picture, output_picture, output_layout}
use Rattle.rows.specs.declared.paint.Size.{Size}
use Rattle.image_check.specs.Image.{image_answer}
use Rattle.corkplover.specs.After.{ReadingAfter, LevelsAfter, FrameExportAfter, JudgementAfter}
use Rattle.corkplover.specs.Answers.{pixel_answer}
use Rattle.corkplover.specs.Meaning.{meaning_in_pixel, meaning_in_reading, meaning_in_levels, meaning_in_frame, meaning_in_image, meaning_in_judgement}
use Rattle.corkplover.specs.Packing.{setting_in, pixel_from, sizes, packed_pixel, packed_image}
use Rattle.corkplover.proofs.ExportedCalls.{corkplover_forward_pixel_answers, corkplover_reverse_pixel_answers, corkplover_meter_y_answers, corkplover_meter_cb_answers, corkplover_meter_cr_answers, corkplover_meter_pixel_answers, corkplover_forward_frame_answers, corkplover_reverse_frame_answers, corkplover_image_check_answers, corkplover_judge_forward_answers, corkplover_judge_reverse_answers}
use Rattle.corkplover.proofs.exports.corkplover_forward_pixel.Reads as forward-pixel
use Rattle.corkplover.proofs.exports.corkplover_reverse_pixel.Reads as reverse-pixel
use Rattle.corkplover.proofs.exports.corkplover_meter_y.Reads as meter-y
use Rattle.corkplover.proofs.exports.corkplover_meter_cb.Reads as meter-cb
use Rattle.corkplover.proofs.exports.corkplover_meter_cr.Reads as meter-cr
use Rattle.corkplover.proofs.exports.corkplover_meter_pixel.Reads as meter-pixel
use Rattle.corkplover.proofs.frame_exports.corkplover_forward_frame.Reads as forward-frame
use Rattle.corkplover.proofs.frame_exports.corkplover_reverse_frame.Reads as reverse-frame
use Rattle.corkplover.proofs.frame_exports.corkplover_image_check.Reads as image-check
use Rattle.corkplover.proofs.judge_exports.corkplover_judge_forward.Reads as judge-forward
use Rattle.corkplover.proofs.judge_exports.corkplover_judge_reverse.Reads as judge-reverse
use Rattle.promises.specs.Editions.{SameOrRefused, SamePlanesOrRefused}
use Rattle.promises.proofs.Editions.{pixel_in_editions, reading_in_editions, levels_in_editions, image_in_editions, frame_in_editions, judgement_in_editions}
use Rattle.promises.proofs.Unpacked.{pixel_unpacked, reading_unpacked, levels_unpacked, frame_unpacked, image_unpacked, judgement_unpacked}

-- ---- each kind of call, where t is s in the edition of number n

module _ (s t : Setting) (n : ℕ) (other : t ≡ in_edition n s) where
  pixels_in : (w : Way) (p : Pixel) {x x' : ℕ} → x ≡ packed_pixel (pixel_answer w s p) → x' ≡ packed_pixel (pixel_answer w t p)
      → SameOrRefused (meaning_in_pixel x) (meaning_in_pixel x')
  pixels_in w p h k =
      rw (ap meaning_in_pixel h ∙ pixel_unpacked w s p, ap meaning_in_pixel k ∙ pixel_unpacked w t p, other) (pixel_in_editions w s n p)

  readings_in : (k : SampleKind) (v : ℕ) {x x' : ℕ} {l l' : Float} → ReadingAfter k s v x l → ReadingAfter k t v x' l'
      → SameOrRefused (meaning_in_reading x l) (meaning_in_reading x' l')
  readings_in k v h h' =
      rw ((λ i. meaning_in_reading (h.0 i) (h.1 i)) ∙ reading_unpacked k s v, (λ i. meaning_in_reading (h'.0 i) (h'.1 i)) ∙ reading_unpacked k t v, other)
      (reading_in_editions k s n v)

  levels_in_lem : (p : Pixel) {x x' : ℕ} {y cb cr y' cb' cr' : Float} → LevelsAfter s p x y cb cr → LevelsAfter t p x' y' cb' cr'
      → SameOrRefused (meaning_in_levels x y cb cr) (meaning_in_levels x' y' cb' cr')
  levels_in_lem p h k =
      rw (
        (λ i. meaning_in_levels (h.0 i) (h.1.0 i) (h.1.1.0 i) (h.1.1.1 i)) ∙ levels_unpacked s p,
        (λ i. meaning_in_levels (k.0 i) (k.1.0 i) (k.1.1.0 i) (k.1.1.1 i)) ∙ levels_unpacked t p,
        other,
      ) (levels_in_editions s n p)

  images_in : (a : _) {x x' : ℕ} → x ≡ packed_image (image_answer s a) → x' ≡ packed_image (image_answer t a)
      → SameOrRefused (meaning_in_image x) (meaning_in_image x')
  images_in a h k =
      rw (ap meaning_in_image h ∙ image_unpacked s a, ap meaning_in_image k ∙ image_unpacked t a, other) (image_in_editions s n a)

  frames_in : (w : Way) (z : Size) (a0 a1 a2 b0 b1 b2 : List ℕ) {x x' : ℕ} {p0 p1 p2 q0 q1 q2 : List ℕ}
      → FrameExportAfter w s z a0 a1 a2 b0 b1 b2 x p0 p1 p2 → FrameExportAfter w t z a0 a1 a2 b0 b1 b2 x' q0 q1 q2
      → SamePlanesOrRefused (meaning_in_frame x) p0 p1 p2 (meaning_in_frame x') q0 q1 q2
  frames_in w z a0 a1 a2 b0 b1 b2 h k =
      let a = input_picture z a0 a1 a2 in
      let b = output_layout z (length b0) (length b1) (length b2) in
      rw (
        ap meaning_in_frame h.0 ∙ frame_unpacked w s a b,
        h.1.0,
        h.1.1.0,
        h.1.1.1,
        ap meaning_in_frame k.0 ∙ frame_unpacked w t a b,
        k.1.0,
        k.1.1.0,
        k.1.1.1,
        other,
      ) (frame_in_editions w s n a b)

  judgements_in : (w : Way) (z : Size) (a0 a1 a2 b0 b1 b2 : List ℕ) {x x' k k' : ℕ} → JudgementAfter w s z a0 a1 a2 b0 b1 b2 x k
      → JudgementAfter w t z a0 a1 a2 b0 b1 b2 x' k' → SameOrRefused (meaning_in_judgement x k) (meaning_in_judgement x' k')
  judgements_in w z a0 a1 a2 b0 b1 b2 h h' =
      let a = input_picture z a0 a1 a2 in
      let b = output_picture z b0 b1 b2 in
      rw (
        (λ i. meaning_in_judgement (h.0 i) (h.1 i)) ∙ judgement_unpacked w s a b,
        (λ i. meaning_in_judgement (h'.0 i) (h'.1 i)) ∙ judgement_unpacked w t a b,
        other,
      ) (judgement_in_editions w s n a b)

-- ---- each export

pub corkplover_forward_pixel_in_editions : (κs κs' word word' n r g b x x' t t' : _) → setting_in word' ≡ in_edition n (setting_in word)
    → forward-pixel.Post κs (word, (r, (g, (b, tt)))) x t → forward-pixel.Post κs' (word', (r, (g, (b, tt)))) x' t' → SameOrRefused (meaning_in_pixel x) (meaning_in_pixel x')
corkplover_forward_pixel_in_editions κs κs' word word' n r g b x x' t t' other h h' =
    pixels_in (setting_in word) (setting_in word') n other Forward (pixel_from r g b) (corkplover_forward_pixel_answers κs word r g b x t h) (corkplover_forward_pixel_answers κs' word' r g b x' t' h')

pub corkplover_reverse_pixel_in_editions : (κs κs' word word' n y cb cr x x' t t' : _) → setting_in word' ≡ in_edition n (setting_in word)
    → reverse-pixel.Post κs (word, (y, (cb, (cr, tt)))) x t → reverse-pixel.Post κs' (word', (y, (cb, (cr, tt)))) x' t' → SameOrRefused (meaning_in_pixel x) (meaning_in_pixel x')
corkplover_reverse_pixel_in_editions κs κs' word word' n y cb cr x x' t t' other h h' =
    pixels_in (setting_in word) (setting_in word') n other Reverse (pixel_from y cb cr) (corkplover_reverse_pixel_answers κs word y cb cr x t h) (corkplover_reverse_pixel_answers κs' word' y cb cr x' t' h')

pub corkplover_meter_y_in_editions : (κs κs' word word' n v level x x' t t' : _) → setting_in word' ≡ in_edition n (setting_in word)
    → meter-y.Post κs (word, (v, (level, tt))) x t → meter-y.Post κs' (word', (v, (level, tt))) x' t'
    → SameOrRefused (meaning_in_reading x t.1.1.0.now) (meaning_in_reading x' t'.1.1.0.now)
corkplover_meter_y_in_editions κs κs' word word' n v level x x' t t' other h h' =
    readings_in (setting_in word) (setting_in word') n other Y v (corkplover_meter_y_answers κs word v level x t h) (corkplover_meter_y_answers κs' word' v level x' t' h')

pub corkplover_meter_cb_in_editions : (κs κs' word word' n v level x x' t t' : _) → setting_in word' ≡ in_edition n (setting_in word)
    → meter-cb.Post κs (word, (v, (level, tt))) x t → meter-cb.Post κs' (word', (v, (level, tt))) x' t'
    → SameOrRefused (meaning_in_reading x t.1.1.0.now) (meaning_in_reading x' t'.1.1.0.now)
corkplover_meter_cb_in_editions κs κs' word word' n v level x x' t t' other h h' =
    readings_in (setting_in word) (setting_in word') n other Cb v (corkplover_meter_cb_answers κs word v level x t h) (corkplover_meter_cb_answers κs' word' v level x' t' h')

pub corkplover_meter_cr_in_editions : (κs κs' word word' n v level x x' t t' : _) → setting_in word' ≡ in_edition n (setting_in word)
    → meter-cr.Post κs (word, (v, (level, tt))) x t → meter-cr.Post κs' (word', (v, (level, tt))) x' t'
    → SameOrRefused (meaning_in_reading x t.1.1.0.now) (meaning_in_reading x' t'.1.1.0.now)
corkplover_meter_cr_in_editions κs κs' word word' n v level x x' t t' other h h' =
    readings_in (setting_in word) (setting_in word') n other Cr v (corkplover_meter_cr_answers κs word v level x t h) (corkplover_meter_cr_answers κs' word' v level x' t' h')

pub corkplover_meter_pixel_in_editions : (κs κs' word word' n y cb cr ylevel cblevel crlevel x x' t t' : _) → setting_in word' ≡ in_edition n (setting_in word)
    → meter-pixel.Post κs (word, (y, (cb, (cr, (ylevel, (cblevel, (crlevel, tt))))))) x t → meter-pixel.Post κs' (word', (y, (cb, (cr, (ylevel, (cblevel, (crlevel, tt))))))) x' t'
    → let left = t.1.1.1.1 in
    let left' = t'.1.1.1.1 in
    SameOrRefused (meaning_in_levels x left.0.now left.1.0.now left.1.1.0.now)
    (meaning_in_levels x' left'.0.now left'.1.0.now left'.1.1.0.now)
corkplover_meter_pixel_in_editions κs κs' word word' n y cb cr ylevel cblevel crlevel x x' t t' other h h' =
    levels_in_lem (setting_in word) (setting_in word') n other (pixel_from y cb cr) (corkplover_meter_pixel_answers κs word y cb cr ylevel cblevel crlevel x t h)
    (corkplover_meter_pixel_answers κs' word' y cb cr ylevel cblevel crlevel x' t' h')

pub corkplover_image_check_in_editions : (κs κs' word word' n width height stride y cb cr x x' t t' : _) → setting_in word' ≡ in_edition n (setting_in word)
    → image-check.Post κs (word, (width, (height, (stride, (y, (cb, (cr, tt))))))) x t → image-check.Post κs' (word', (width, (height, (stride, (y, (cb, (cr, tt))))))) x' t' → SameOrRefused (meaning_in_image x) (meaning_in_image x')
corkplover_image_check_in_editions κs κs' word word' n width height stride y cb cr x x' t t' other h h' =
    images_in (setting_in word) (setting_in word') n other (picture width height stride y.now cb.now cr.now) (corkplover_image_check_answers κs word width height stride y cb cr x t h)
    (corkplover_image_check_answers κs' word' width height stride y cb cr x' t' h')

pub corkplover_forward_frame_in_editions : (κs κs' word word' n width height from to r g b y cb cr x x' t t' : _) → setting_in word' ≡ in_edition n (setting_in word)
    → forward-frame.Post κs (word, (width, (height, (from, (to, (r, (g, (b, (y, (cb, (cr, tt))))))))))) x t
    → forward-frame.Post κs' (word', (width, (height, (from, (to, (r, (g, (b, (y, (cb, (cr, tt))))))))))) x' t'
    → let left = t.1.1.1.1.1.1.1.1 in
    let left' = t'.1.1.1.1.1.1.1.1 in
    SamePlanesOrRefused (meaning_in_frame x) left.0.now left.1.0.now left.1.1.0.now
    (meaning_in_frame x') left'.0.now left'.1.0.now left'.1.1.0.now
corkplover_forward_frame_in_editions κs κs' word word' n width height from to r g b y cb cr x x' t t' other h h' =
    frames_in (setting_in word) (setting_in word') n other Forward (sizes width height from to) r.now g.now b.now y.now cb.now cr.now
    (corkplover_forward_frame_answers κs word width height from to r g b y cb cr x t h)
    (corkplover_forward_frame_answers κs' word' width height from to r g b y cb cr x' t' h')

pub corkplover_reverse_frame_in_editions : (κs κs' word word' n width height from to y cb cr r g b x x' t t' : _) → setting_in word' ≡ in_edition n (setting_in word)
    → reverse-frame.Post κs (word, (width, (height, (from, (to, (y, (cb, (cr, (r, (g, (b, tt))))))))))) x t
    → reverse-frame.Post κs' (word', (width, (height, (from, (to, (y, (cb, (cr, (r, (g, (b, tt))))))))))) x' t'
    → let left = t.1.1.1.1.1.1.1.1 in
    let left' = t'.1.1.1.1.1.1.1.1 in
    SamePlanesOrRefused (meaning_in_frame x) left.0.now left.1.0.now left.1.1.0.now
    (meaning_in_frame x') left'.0.now left'.1.0.now left'.1.1.0.now
corkplover_reverse_frame_in_editions κs κs' word word' n width height from to y cb cr r g b x x' t t' other h h' =
    frames_in (setting_in word) (setting_in word') n other Reverse (sizes width height from to) y.now cb.now cr.now r.now g.now b.now
    (corkplover_reverse_frame_answers κs word width height from to y cb cr r g b x t h)
    (corkplover_reverse_frame_answers κs' word' width height from to y cb cr r g b x' t' h')

pub corkplover_judge_forward_in_editions : (κs κs' word word' n width height from to r g b y cb cr wrong x x' t t' : _) → setting_in word' ≡ in_edition n (setting_in word)
    → judge-forward.Post κs (word, (width, (height, (from, (to, (r, (g, (b, (y, (cb, (cr, (wrong, tt)))))))))))) x t
    → judge-forward.Post κs' (word', (width, (height, (from, (to, (r, (g, (b, (y, (cb, (cr, (wrong, tt)))))))))))) x' t'
    → SameOrRefused (meaning_in_judgement x t.1.1.1.1.1.1.1.1.1.1.1.0.now) (meaning_in_judgement x' t'.1.1.1.1.1.1.1.1.1.1.1.0.now)
corkplover_judge_forward_in_editions κs κs' word word' n width height from to r g b y cb cr wrong x x' t t' other h h' =
    judgements_in (setting_in word) (setting_in word') n other Forward (sizes width height from to) r.now g.now b.now y.now cb.now cr.now
    (corkplover_judge_forward_answers κs word width height from to r g b y cb cr wrong x t h)
    (corkplover_judge_forward_answers κs' word' width height from to r g b y cb cr wrong x' t' h')

pub corkplover_judge_reverse_in_editions : (κs κs' word word' n width height from to y cb cr r g b wrong x x' t t' : _) → setting_in word' ≡ in_edition n (setting_in word)
    → judge-reverse.Post κs (word, (width, (height, (from, (to, (y, (cb, (cr, (r, (g, (b, (wrong, tt)))))))))))) x t
    → judge-reverse.Post κs' (word', (width, (height, (from, (to, (y, (cb, (cr, (r, (g, (b, (wrong, tt)))))))))))) x' t'
    → SameOrRefused (meaning_in_judgement x t.1.1.1.1.1.1.1.1.1.1.1.0.now) (meaning_in_judgement x' t'.1.1.1.1.1.1.1.1.1.1.1.0.now)
corkplover_judge_reverse_in_editions κs κs' word word' n width height from to y cb cr r g b wrong x x' t t' other h h' =
    judgements_in (setting_in word) (setting_in word') n other Reverse (sizes width height from to) y.now cb.now cr.now r.now g.now b.now
    (corkplover_judge_reverse_answers κs word width height from to y cb cr r g b wrong x t h)
    (corkplover_judge_reverse_answers κs' word' width height from to y cb cr r g b wrong x' t' h')
