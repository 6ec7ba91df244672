-- The same of the exported functions, whose setting and answer are one number each.
use mathlib.Core.Path.{◌≡◌}
use Rattle.codes.specs.declared.label.CodeKind.TheVariants.{Primaries, Transfer, Matrix}
use Rattle.setting.specs.declared.Way.TheVariants.{Forward, Reverse}
use Rattle.meter.specs.declared.SampleKind.TheVariants.{Y, Cb, Cr}
use Rattle.planes.specs.Picture.{picture}
use Rattle.image_check.specs.Image.{image_answer}
use Rattle.corkplover.specs.After.{ReadingAfter, LevelsAfter, FrameExportAfter, JudgementAfter}
use Rattle.corkplover.specs.Answers.{label_answer, pixel_answer}
use Rattle.corkplover.specs.Packing.{setting_in, pixel_from, sizes, packed_label, packed_pixel, packed_image}
use Rattle.corkplover.proofs.exports.corkplover_primaries_label.Reads as primaries-label
use Rattle.corkplover.proofs.exports.corkplover_transfer_label.Reads as transfer-label
use Rattle.corkplover.proofs.exports.corkplover_matrix_label.Reads as matrix-label
use Rattle.corkplover.proofs.exports.corkplover_forward_pixel.Reads as forward-pixel
use Rattle.corkplover.proofs.exports.corkplover_reverse_pixel.Reads as reverse-pixel
use Rattle.corkplover.proofs.exports.corkplover_meter_y.Reads as meter-y
use Rattle.corkplover.proofs.exports.corkplover_meter_cb.Reads as meter-cb
use Rattle.corkplover.proofs.exports.corkplover_meter_cr.Reads as meter-cr
use Rattle.corkplover.proofs.exports.corkplover_meter_pixel.Reads as meter-pixel
use Rattle.corkplover.proofs.frame_exports.corkplover_forward_frame.Reads as forward-frame
use Rattle.corkplover.proofs.frame_exports.corkplover_reverse_frame.Reads as reverse-frame
use Rattle.corkplover.proofs.frame_exports.corkplover_image_check.Reads as image-check
use Rattle.corkplover.proofs.judge_exports.corkplover_judge_forward.Reads as judge-forward
use Rattle.corkplover.proofs.judge_exports.corkplover_judge_reverse.Reads as judge-reverse

pub corkplover_primaries_label_answers : (κs edition code x t : _) → primaries-label.Post κs (edition, (code, tt)) x t
    → x ≡ packed_label (label_answer Primaries edition code)
corkplover_primaries_label_answers κs edition code x t h = h

pub corkplover_transfer_label_answers : (κs edition code x t : _) → transfer-label.Post κs (edition, (code, tt)) x t
    → x ≡ packed_label (label_answer Transfer edition code)
corkplover_transfer_label_answers κs edition code x t h = h

pub corkplover_matrix_label_answers : (κs edition code x t : _) → matrix-label.Post κs (edition, (code, tt)) x t
    → x ≡ packed_label (label_answer Matrix edition code)
corkplover_matrix_label_answers κs edition code x t h = h

pub corkplover_forward_pixel_answers : (κs word r g b x t : _) → forward-pixel.Post κs (word, (r, (g, (b, tt)))) x t
    → x ≡ packed_pixel (pixel_answer Forward (setting_in word) (pixel_from r g b))
corkplover_forward_pixel_answers κs word r g b x t h = h

pub corkplover_reverse_pixel_answers : (κs word y cb cr x t : _) → reverse-pixel.Post κs (word, (y, (cb, (cr, tt)))) x t
    → x ≡ packed_pixel (pixel_answer Reverse (setting_in word) (pixel_from y cb cr))
corkplover_reverse_pixel_answers κs word y cb cr x t h = h

pub corkplover_meter_y_answers : (κs word v level x t : _) → meter-y.Post κs (word, (v, (level, tt))) x t → ReadingAfter Y (setting_in word) v x t.1.1.0.now
corkplover_meter_y_answers κs word v level x t h = h

pub corkplover_meter_cb_answers : (κs word v level x t : _) → meter-cb.Post κs (word, (v, (level, tt))) x t → ReadingAfter Cb (setting_in word) v x t.1.1.0.now
corkplover_meter_cb_answers κs word v level x t h = h

pub corkplover_meter_cr_answers : (κs word v level x t : _) → meter-cr.Post κs (word, (v, (level, tt))) x t → ReadingAfter Cr (setting_in word) v x t.1.1.0.now
corkplover_meter_cr_answers κs word v level x t h = h

pub corkplover_meter_pixel_answers : (κs word y cb cr ylevel cblevel crlevel x t : _)
    → meter-pixel.Post κs (word, (y, (cb, (cr, (ylevel, (cblevel, (crlevel, tt))))))) x t
    → let left = t.1.1.1.1 in
    LevelsAfter (setting_in word) (pixel_from y cb cr) x left.0.now left.1.0.now left.1.1.0.now
corkplover_meter_pixel_answers κs word y cb cr ylevel cblevel crlevel x t h = h

pub corkplover_forward_frame_answers : (κs word width height sourcestride outputstride r g b y cb cr x t : _)
    → forward-frame.Post κs (word, (width, (height, (sourcestride, (outputstride, (r, (g, (b, (y, (cb, (cr, tt))))))))))) x t
    → let left = t.1.1.1.1.1.1.1.1 in
    FrameExportAfter Forward (setting_in word) (sizes width height sourcestride outputstride) r.now g.now b.now y.now cb.now cr.now x left.0.now left.1.0.now left.1.1.0.now
corkplover_forward_frame_answers κs word width height sourcestride outputstride r g b y cb cr x t h = h

pub corkplover_reverse_frame_answers : (κs word width height sourcestride outputstride y cb cr r g b x t : _)
    → reverse-frame.Post κs (word, (width, (height, (sourcestride, (outputstride, (y, (cb, (cr, (r, (g, (b, tt))))))))))) x t
    → let left = t.1.1.1.1.1.1.1.1 in
    FrameExportAfter Reverse (setting_in word) (sizes width height sourcestride outputstride) y.now cb.now cr.now r.now g.now b.now x left.0.now left.1.0.now left.1.1.0.now
corkplover_reverse_frame_answers κs word width height sourcestride outputstride y cb cr r g b x t h = h

pub corkplover_image_check_answers : (κs word width height stride y cb cr x t : _) → image-check.Post κs (word, (width, (height, (stride, (y, (cb, (cr, tt))))))) x t
    → x ≡ packed_image (image_answer (setting_in word) (picture width height stride y.now cb.now cr.now))
corkplover_image_check_answers κs word width height stride y cb cr x t h = h

pub corkplover_judge_forward_answers : (κs word width height sourcestride claimedstride r g b y cb cr wrong x t : _)
    → judge-forward.Post κs (word, (width, (height, (sourcestride, (claimedstride, (r, (g, (b, (y, (cb, (cr, (wrong, tt)))))))))))) x t
    → JudgementAfter Forward (setting_in word) (sizes width height sourcestride claimedstride) r.now g.now b.now y.now cb.now cr.now x t.1.1.1.1.1.1.1.1.1.1.1.0.now
corkplover_judge_forward_answers κs word width height sourcestride claimedstride r g b y cb cr wrong x t h = h

pub corkplover_judge_reverse_answers : (κs word width height sourcestride claimedstride y cb cr r g b wrong x t : _)
    → judge-reverse.Post κs (word, (width, (height, (sourcestride, (claimedstride, (y, (cb, (cr, (r, (g, (b, (wrong, tt)))))))))))) x t
    → JudgementAfter Reverse (setting_in word) (sizes width height sourcestride claimedstride) y.now cb.now cr.now r.now g.now b.now x t.1.1.1.1.1.1.1.1.1.1.1.0.now
corkplover_judge_reverse_answers κs word width height sourcestride claimedstride y cb cr r g b wrong x t h = h
