-- Every entry point keeps its promise. The theorems speak of the contracts as the prover reads them in the source: `Post` of a call's
-- arguments in their order, its result and what stands behind its parameters at exit.
use mathlib.Core.Path.{ap}
use Rattle.setting.specs.declared.Way.TheVariants.{Forward, Reverse}
use Rattle.planes.specs.Picture.{picture}
use Rattle.corkplover.specs.Meaning.{meaning_of_pixel, meaning_of_source, meaning_of_reading, meaning_of_levels, meaning_of_frame, meaning_of_image, meaning_of_judgement}
use Rattle.corkplover.specs.Packing.{packed_label}
use Rattle.corkplover.proofs.Calls.{label_answers, forward_pixel_answers, reverse_pixel_answers, source_pixel_answers, meter_sample_answers, meter_pixel_answers, image_check_answers, forward_frame_answers, reverse_frame_answers, judge_forward_answers, judge_reverse_answers}
use Rattle.corkplover.proofs.labels.label.Reads as label
use Rattle.corkplover.proofs.pixels.forward_pixel.Reads as forward-pixel
use Rattle.corkplover.proofs.pixels.reverse_pixel.Reads as reverse-pixel
use Rattle.corkplover.proofs.pixels.source_pixel.Reads as source-pixel
use Rattle.corkplover.proofs.meters.meter_sample.Reads as meter-sample
use Rattle.corkplover.proofs.meters.meter_pixel.Reads as meter-pixel
use Rattle.corkplover.proofs.frames.image_check.Reads as image-check
use Rattle.corkplover.proofs.frames.forward_frame.Reads as forward-frame
use Rattle.corkplover.proofs.frames.reverse_frame.Reads as reverse-frame
use Rattle.corkplover.proofs.judging.judge_forward.Reads as judge-forward
use Rattle.corkplover.proofs.judging.judge_reverse.Reads as judge-reverse
use Rattle.promises.specs.Labels.{AnswersLabel}
use Rattle.promises.specs.Pixels.{ConvertsPixel, ChecksPixel, ReadsSample, ReadsPixel}
use Rattle.promises.specs.Frames.{ConvertsPlanes}
use Rattle.promises.specs.Images.{ChecksImage}
use Rattle.promises.specs.Judging.{JudgesPlanes}
use Rattle.promises.proofs.Labels.{label_kept}
use Rattle.promises.proofs.Pixels.{pixel_converts, pixel_checks, sample_reads, pixel_reads}
use Rattle.promises.proofs.Frames.{converts_by}
use Rattle.promises.proofs.Images.{image_checks}
use Rattle.promises.proofs.Judging.{frame_judges}

pub label_keeps : (κs kind edition code r t : _) → label.Post κs (kind, (edition, (code, tt))) r t → AnswersLabel kind edition code (packed_label r)
label_keeps κs kind edition code r t h = rw (label_answers κs kind edition code r t h) (label_kept kind edition code)

pub forward_pixel_keeps : (κs s p r t : _) → forward-pixel.Post κs (s, (p, tt)) r t → ConvertsPixel Forward s p (meaning_of_pixel r)
forward_pixel_keeps κs s p r t h = rw (forward_pixel_answers κs s p r t h) (pixel_converts Forward s p)

pub reverse_pixel_keeps : (κs s p r t : _) → reverse-pixel.Post κs (s, (p, tt)) r t → ConvertsPixel Reverse s p (meaning_of_pixel r)
reverse_pixel_keeps κs s p r t h = rw (reverse_pixel_answers κs s p r t h) (pixel_converts Reverse s p)

pub source_pixel_keeps : (κs s p r t : _) → source-pixel.Post κs (s, (p, tt)) r t → ChecksPixel s p (meaning_of_source r)
source_pixel_keeps κs s p r t h = rw (source_pixel_answers κs s p r t h) (pixel_checks s p)

pub meter_sample_keeps : (κs k s v r t : _) → meter-sample.Post κs (k, (s, (v, tt))) r t → ReadsSample k s v (meaning_of_reading r)
meter_sample_keeps κs k s v r t h = rw (meter_sample_answers κs k s v r t h) (sample_reads k s v)

pub meter_pixel_keeps : (κs s p r t : _) → meter-pixel.Post κs (s, (p, tt)) r t → ReadsPixel s p (meaning_of_levels r)
meter_pixel_keeps κs s p r t h = rw (meter_pixel_answers κs s p r t h) (pixel_reads s p)

pub image_check_keeps : (κs s width height stride y cb cr r t : _) → image-check.Post κs (s, (width, (height, (stride, (y, (cb, (cr, tt))))))) r t
    → ChecksImage s (picture width height stride y.now cb.now cr.now) (meaning_of_image r)
image_check_keeps κs s width height stride y cb cr r t h =
    rw (image_check_answers κs s width height stride y cb cr r t h) (image_checks s (picture width height stride y.now cb.now cr.now))

pub forward_frame_keeps : (κs s size r g b y cb cr x t : _) → forward-frame.Post κs (s, (size, (r, (g, (b, (y, (cb, (cr, tt)))))))) x t
    → let left = t.1.1.1.1.1 in
    ConvertsPlanes Forward s size r.now g.now b.now y.now cb.now cr.now (meaning_of_frame x) left.0.now left.1.0.now left.1.1.0.now
forward_frame_keeps κs s size r g b y cb cr x t h =
    let after = forward_frame_answers κs s size r g b y cb cr x t h in converts_by Forward s _ _ (ap meaning_of_frame after.0) after.1

pub reverse_frame_keeps : (κs s size y cb cr r g b x t : _) → reverse-frame.Post κs (s, (size, (y, (cb, (cr, (r, (g, (b, tt)))))))) x t
    → let left = t.1.1.1.1.1 in
    ConvertsPlanes Reverse s size y.now cb.now cr.now r.now g.now b.now (meaning_of_frame x) left.0.now left.1.0.now left.1.1.0.now
reverse_frame_keeps κs s size y cb cr r g b x t h =
    let after = reverse_frame_answers κs s size y cb cr r g b x t h in converts_by Reverse s _ _ (ap meaning_of_frame after.0) after.1

pub judge_forward_keeps : (κs s size r g b y cb cr x t : _) → judge-forward.Post κs (s, (size, (r, (g, (b, (y, (cb, (cr, tt)))))))) x t
    → JudgesPlanes Forward s size r.now g.now b.now y.now cb.now cr.now (meaning_of_judgement x)
judge_forward_keeps κs s size r g b y cb cr x t h = rw (judge_forward_answers κs s size r g b y cb cr x t h) (frame_judges Forward s _ _)

pub judge_reverse_keeps : (κs s size y cb cr r g b x t : _) → judge-reverse.Post κs (s, (size, (y, (cb, (cr, (r, (g, (b, tt)))))))) x t
    → JudgesPlanes Reverse s size y.now cb.now cr.now r.now g.now b.now (meaning_of_judgement x)
judge_reverse_keeps κs s size y cb cr r g b x t h = rw (judge_reverse_answers κs s size y cb cr r g b x t h) (frame_judges Reverse s _ _)
