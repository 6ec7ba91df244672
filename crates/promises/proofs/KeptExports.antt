-- Every exported function keeps the same promises, by what its number means and what it leaves behind its pointers.
use mathlib.Core.Path.{◌≡◌, ap, ◌∙◌, sym, subst}
use mathlib.Core.List.{List}
use Prim.Native.Nat.{ℕ}
use lib.Ieee.{Float}
use Rattle.sample.specs.declared.Pixel.{Pixel}
use Rattle.codes.specs.declared.label.CodeKind.TheVariants.{Primaries, Transfer, Matrix}
use Rattle.setting.specs.declared.Setting.{Setting}
use Rattle.setting.specs.declared.Way.{Way}
use Rattle.setting.specs.declared.Way.TheVariants.{Forward, Reverse}
use Rattle.meter.specs.declared.SampleKind.{SampleKind}
use Rattle.meter.specs.declared.SampleKind.TheVariants.{Y, Cb, Cr}
use Rattle.planes.specs.Picture.{picture}
use Rattle.rows.specs.Paint.{input_picture, output_picture}
use Rattle.rows.specs.declared.paint.Size.{Size}
use Rattle.judge.specs.Judge.{judgement}
use Rattle.corkplover.specs.After.{ReadingAfter, JudgementAfter}
use Rattle.corkplover.specs.Answers.{pixel_answer}
use Rattle.corkplover.specs.Meaning.{meaning_in_pixel, meaning_in_reading, meaning_in_levels, meaning_in_frame, meaning_in_image, meaning_in_judgement}
use Rattle.corkplover.specs.Packing.{setting_in, pixel_from, sizes, packed_pixel}
use Rattle.corkplover.proofs.ExportedCalls.{corkplover_primaries_label_answers, corkplover_transfer_label_answers, corkplover_matrix_label_answers, corkplover_forward_pixel_answers, corkplover_reverse_pixel_answers, corkplover_meter_y_answers, corkplover_meter_cb_answers, corkplover_meter_cr_answers, corkplover_meter_pixel_answers, corkplover_forward_frame_answers, corkplover_reverse_frame_answers, corkplover_image_check_answers, corkplover_judge_forward_answers, corkplover_judge_reverse_answers}
use Rattle.corkplover.proofs.exports.corkplover_primaries_label.Reads as primaries-label
use Rattle.corkplover.proofs.exports.corkplover_transfer_label.Reads as transfer-label
use Rattle.corkplover.proofs.exports.corkplover_matrix_label.Reads as matrix-label
use Rattle.corkplover.proofs.exports.corkplover_forward_pixel.Reads as forward-pixel
use Rattle.corkplover.proofs.exports.corkplover_reverse_pixel.Reads as reverse-pixel
use Rattle.corkplover.proofs.exports.corkplover_meter_y.Reads as meter-y
use Rattle.corkplover.proofs.exports.corkplover_meter_cb.Reads as meter-cb
use Rattle.corkplover.proofs.exports.corkplover_meter_cr.Reads as meter-cr
use Rattle.corkplover.proofs.exports.corkplover_meter_pixel.Reads as meter-pixel
use Rattle.corkplover.proofs.frame_exports.corkplover_forward_frame.Reads as forward-frame
use Rattle.corkplover.proofs.frame_exports.corkplover_reverse_frame.Reads as reverse-frame
use Rattle.corkplover.proofs.frame_exports.corkplover_image_check.Reads as image-check
use Rattle.corkplover.proofs.judge_exports.corkplover_judge_forward.Reads as judge-forward
use Rattle.corkplover.proofs.judge_exports.corkplover_judge_reverse.Reads as judge-reverse
use Rattle.promises.specs.Labels.{AnswersLabel}
use Rattle.promises.specs.Pixels.{ConvertsPixel, ReadsSample, ReadsPixel}
use Rattle.promises.specs.Frames.{ConvertsPlanes}
use Rattle.promises.specs.Images.{ChecksImage}
use Rattle.promises.specs.Judging.{JudgesPlanes}
use Rattle.promises.proofs.Labels.{label_kept}
use Rattle.promises.proofs.Pixels.{pixel_converts, sample_reads, pixel_reads}
use Rattle.promises.proofs.Frames.{converts_by}
use Rattle.promises.proofs.Images.{image_checks}
use Rattle.promises.proofs.Judging.{frame_judges}
use Rattle.promises.proofs.Unpacked.{pixel_unpacked, reading_unpacked, levels_unpacked, frame_unpacked, image_unpacked, judgement_unpacked, wrong_unpacked}

-- either way of a pixel, and each kind of sample
pixel_by : (w : Way) (s : Setting) (p : Pixel) (x : ℕ) → x ≡ packed_pixel (pixel_answer w s p) → ConvertsPixel w s p (meaning_in_pixel x)
pixel_by w s p x e = subst (ConvertsPixel w s p) (sym (ap meaning_in_pixel e ∙ pixel_unpacked w s p)) (pixel_converts w s p)

reading_by : (k : SampleKind) (s : Setting) (v x : ℕ) (level : Float) → ReadingAfter k s v x level → ReadsSample k s v (meaning_in_reading x level)
reading_by k s v x level e = subst (ReadsSample k s v) (sym ((λ i. meaning_in_reading (e.0 i) (e.1 i)) ∙ reading_unpacked k s v)) (sample_reads k s v)

-- either way of a judgement, and what it leaves behind its pointer: the count, which is 0 on a refusal
judgement_by : (w : Way) (s : Setting) (z : Size) (a0 a1 a2 b0 b1 b2 : List ℕ) (x n : ℕ) → JudgementAfter w s z a0 a1 a2 b0 b1 b2 x n
    → let m = meaning_in_judgement x n in JudgesPlanes w s z a0 a1 a2 b0 b1 b2 m × (n ≡ m.wrong)
judgement_by w s z a0 a1 a2 b0 b1 b2 x n e =
    let a = input_picture z a0 a1 a2 in
    let b = output_picture z b0 b1 b2 in
    let means = (λ i. meaning_in_judgement (e.0 i) (e.1 i)) ∙ judgement_unpacked w s a b in
    (subst (JudgesPlanes w s z a0 a1 a2 b0 b1 b2) (sym means) (frame_judges w s a b), e.1 ∙ wrong_unpacked (judgement w s a b) ∙ sym (ap (λ m. m.wrong) means))

pub corkplover_primaries_label_keeps : (κs edition code x t : _) → primaries-label.Post κs (edition, (code, tt)) x t → AnswersLabel Primaries edition code x
corkplover_primaries_label_keeps κs edition code x t h = rw (corkplover_primaries_label_answers κs edition code x t h) (label_kept Primaries edition code)

pub corkplover_transfer_label_keeps : (κs edition code x t : _) → transfer-label.Post κs (edition, (code, tt)) x t → AnswersLabel Transfer edition code x
corkplover_transfer_label_keeps κs edition code x t h = rw (corkplover_transfer_label_answers κs edition code x t h) (label_kept Transfer edition code)

pub corkplover_matrix_label_keeps : (κs edition code x t : _) → matrix-label.Post κs (edition, (code, tt)) x t → AnswersLabel Matrix edition code x
corkplover_matrix_label_keeps κs edition code x t h = rw (corkplover_matrix_label_answers κs edition code x t h) (label_kept Matrix edition code)

pub corkplover_forward_pixel_keeps : (κs word r g b x t : _) → forward-pixel.Post κs (word, (r, (g, (b, tt)))) x t
    → ConvertsPixel Forward (setting_in word) (pixel_from r g b) (meaning_in_pixel x)
corkplover_forward_pixel_keeps κs word r g b x t h = pixel_by Forward (setting_in word) (pixel_from r g b) x (corkplover_forward_pixel_answers κs word r g b x t h)

pub corkplover_reverse_pixel_keeps : (κs word y cb cr x t : _) → reverse-pixel.Post κs (word, (y, (cb, (cr, tt)))) x t
    → ConvertsPixel Reverse (setting_in word) (pixel_from y cb cr) (meaning_in_pixel x)
corkplover_reverse_pixel_keeps κs word y cb cr x t h =
    pixel_by Reverse (setting_in word) (pixel_from y cb cr) x (corkplover_reverse_pixel_answers κs word y cb cr x t h)

pub corkplover_meter_y_keeps : (κs word v level x t : _) → meter-y.Post κs (word, (v, (level, tt))) x t
    → ReadsSample Y (setting_in word) v (meaning_in_reading x t.1.1.0.now)
corkplover_meter_y_keeps κs word v level x t h = reading_by Y (setting_in word) v x _ (corkplover_meter_y_answers κs word v level x t h)

pub corkplover_meter_cb_keeps : (κs word v level x t : _) → meter-cb.Post κs (word, (v, (level, tt))) x t
    → ReadsSample Cb (setting_in word) v (meaning_in_reading x t.1.1.0.now)
corkplover_meter_cb_keeps κs word v level x t h = reading_by Cb (setting_in word) v x _ (corkplover_meter_cb_answers κs word v level x t h)

pub corkplover_meter_cr_keeps : (κs word v level x t : _) → meter-cr.Post κs (word, (v, (level, tt))) x t
    → ReadsSample Cr (setting_in word) v (meaning_in_reading x t.1.1.0.now)
corkplover_meter_cr_keeps κs word v level x t h = reading_by Cr (setting_in word) v x _ (corkplover_meter_cr_answers κs word v level x t h)

pub corkplover_meter_pixel_keeps : (κs word y cb cr ylevel cblevel crlevel x t : _)
    → meter-pixel.Post κs (word, (y, (cb, (cr, (ylevel, (cblevel, (crlevel, tt))))))) x t
    → let left = t.1.1.1.1 in
    ReadsPixel (setting_in word) (pixel_from y cb cr) (meaning_in_levels x left.0.now left.1.0.now left.1.1.0.now)
corkplover_meter_pixel_keeps κs word y cb cr ylevel cblevel crlevel x t h =
    let e = corkplover_meter_pixel_answers κs word y cb cr ylevel cblevel crlevel x t h in
    let means = (λ i. meaning_in_levels (e.0 i) (e.1.0 i) (e.1.1.0 i) (e.1.1.1 i)) ∙ levels_unpacked (setting_in word) (pixel_from y cb cr) in
    subst (ReadsPixel (setting_in word) (pixel_from y cb cr)) (sym means) (pixel_reads (setting_in word) (pixel_from y cb cr))

pub corkplover_image_check_keeps : (κs word width height stride y cb cr x t : _) → image-check.Post κs (word, (width, (height, (stride, (y, (cb, (cr, tt))))))) x t
    → ChecksImage (setting_in word) (picture width height stride y.now cb.now cr.now) (meaning_in_image x)
corkplover_image_check_keeps κs word width height stride y cb cr x t h =
    let s = setting_in word in
    let a = picture width height stride y.now cb.now cr.now in
    let e = corkplover_image_check_answers κs word width height stride y cb cr x t h in
    subst (ChecksImage s a) (sym (ap meaning_in_image e ∙ image_unpacked s a)) (image_checks s a)

pub corkplover_forward_frame_keeps : (κs word width height sourcestride outputstride r g b y cb cr x t : _)
    → forward-frame.Post κs (word, (width, (height, (sourcestride, (outputstride, (r, (g, (b, (y, (cb, (cr, tt))))))))))) x t
    → let left = t.1.1.1.1.1.1.1.1 in
    ConvertsPlanes Forward (setting_in word) (sizes width height sourcestride outputstride) r.now g.now b.now y.now cb.now cr.now (meaning_in_frame x) left.0.now left.1.0.now left.1.1.0.now
corkplover_forward_frame_keeps κs word width height sourcestride outputstride r g b y cb cr x t h =
    let e = corkplover_forward_frame_answers κs word width height sourcestride outputstride r g b y cb cr x t h in
    converts_by Forward (setting_in word) _ _ (ap meaning_in_frame e.0 ∙ frame_unpacked Forward (setting_in word) _ _) e.1

pub corkplover_reverse_frame_keeps : (κs word width height sourcestride outputstride y cb cr r g b x t : _)
    → reverse-frame.Post κs (word, (width, (height, (sourcestride, (outputstride, (y, (cb, (cr, (r, (g, (b, tt))))))))))) x t
    → let left = t.1.1.1.1.1.1.1.1 in
    ConvertsPlanes Reverse (setting_in word) (sizes width height sourcestride outputstride) y.now cb.now cr.now r.now g.now b.now (meaning_in_frame x) left.0.now left.1.0.now left.1.1.0.now
corkplover_reverse_frame_keeps κs word width height sourcestride outputstride y cb cr r g b x t h =
    let e = corkplover_reverse_frame_answers κs word width height sourcestride outputstride y cb cr r g b x t h in
    converts_by Reverse (setting_in word) _ _ (ap meaning_in_frame e.0 ∙ frame_unpacked Reverse (setting_in word) _ _) e.1

pub corkplover_judge_forward_keeps : (κs word width height sourcestride claimedstride r g b y cb cr wrong x t : _)
    → judge-forward.Post κs (word, (width, (height, (sourcestride, (claimedstride, (r, (g, (b, (y, (cb, (cr, (wrong, tt)))))))))))) x t
    → let n = t.1.1.1.1.1.1.1.1.1.1.1.0.now in
    let m = meaning_in_judgement x n in
    JudgesPlanes Forward (setting_in word) (sizes width height sourcestride claimedstride) r.now g.now b.now y.now cb.now cr.now m × (n ≡ m.wrong)
corkplover_judge_forward_keeps κs word width height sourcestride claimedstride r g b y cb cr wrong x t h =
    judgement_by Forward (setting_in word) (sizes width height sourcestride claimedstride) r.now g.now b.now y.now cb.now cr.now x _
    (corkplover_judge_forward_answers κs word width height sourcestride claimedstride r g b y cb cr wrong x t h)

pub corkplover_judge_reverse_keeps : (κs word width height sourcestride claimedstride y cb cr r g b wrong x t : _)
    → judge-reverse.Post κs (word, (width, (height, (sourcestride, (claimedstride, (y, (cb, (cr, (r, (g, (b, (wrong, tt)))))))))))) x t
    → let n = t.1.1.1.1.1.1.1.1.1.1.1.0.now in
    let m = meaning_in_judgement x n in
    JudgesPlanes Reverse (setting_in word) (sizes width height sourcestride claimedstride) y.now cb.now cr.now r.now g.now b.now m × (n ≡ m.wrong)
corkplover_judge_reverse_keeps κs word width height sourcestride claimedstride y cb cr r g b wrong x t h =
    judgement_by Reverse (setting_in word) (sizes width height sourcestride claimedstride) y.now cb.now cr.now r.now g.now b.now x _
    (corkplover_judge_reverse_answers κs word width height sourcestride claimedstride y cb cr r g b wrong x t h)
