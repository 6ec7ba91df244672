-- What each entry point answers, said of its own contract: `Post` is what the clauses in the source come to, of the arguments in their
-- order, the result r and what stands behind the parameters at exit, t. Each is proved by its hypothesis, so a contract that says
-- anything else is refused here.
use mathlib.Core.Path.{◌≡◌}
use lib.ListN.{length}
use Rattle.setting.specs.declared.Way.TheVariants.{Forward, Reverse}
use Rattle.planes.specs.Picture.{picture}
use Rattle.rows.specs.Paint.{input_picture, output_picture, output_layout}
use Rattle.frame.specs.Frame.{FrameAfter}
use Rattle.image_check.specs.Image.{image_answer}
use Rattle.judge.specs.Judge.{judgement}
use Rattle.corkplover.specs.Answers.{label_answer, pixel_answer, source_answer, reading, levels_answer}
use Rattle.corkplover.proofs.labels.label.Reads as label
use Rattle.corkplover.proofs.pixels.forward_pixel.Reads as forward-pixel
use Rattle.corkplover.proofs.pixels.reverse_pixel.Reads as reverse-pixel
use Rattle.corkplover.proofs.pixels.source_pixel.Reads as source-pixel
use Rattle.corkplover.proofs.meters.meter_sample.Reads as meter-sample
use Rattle.corkplover.proofs.meters.meter_pixel.Reads as meter-pixel
use Rattle.corkplover.proofs.frames.forward_frame.Reads as forward-frame
use Rattle.corkplover.proofs.frames.reverse_frame.Reads as reverse-frame
use Rattle.corkplover.proofs.frames.image_check.Reads as image-check
use Rattle.corkplover.proofs.judging.judge_forward.Reads as judge-forward
use Rattle.corkplover.proofs.judging.judge_reverse.Reads as judge-reverse

pub label_answers : (κs kind edition code r t : _) → label.Post κs (kind, (edition, (code, tt))) r t → r ≡ label_answer kind edition code
label_answers κs kind edition code r t h = h

pub forward_pixel_answers : (κs s p r t : _) → forward-pixel.Post κs (s, (p, tt)) r t → r ≡ pixel_answer Forward s p
forward_pixel_answers κs s p r t h = h

pub reverse_pixel_answers : (κs s p r t : _) → reverse-pixel.Post κs (s, (p, tt)) r t → r ≡ pixel_answer Reverse s p
reverse_pixel_answers κs s p r t h = h

pub source_pixel_answers : (κs s p r t : _) → source-pixel.Post κs (s, (p, tt)) r t → r ≡ source_answer s p
source_pixel_answers κs s p r t h = h

pub meter_sample_answers : (κs k s v r t : _) → meter-sample.Post κs (k, (s, (v, tt))) r t → r ≡ reading k s v
meter_sample_answers κs k s v r t h = h

pub meter_pixel_answers : (κs s p r t : _) → meter-pixel.Post κs (s, (p, tt)) r t → r ≡ levels_answer s p
meter_pixel_answers κs s p r t h = h

pub image_check_answers : (κs s width height stride y cb cr r t : _) → image-check.Post κs (s, (width, (height, (stride, (y, (cb, (cr, tt))))))) r t
    → r ≡ image_answer s (picture width height stride y.now cb.now cr.now)
image_check_answers κs s width height stride y cb cr r t h = h

pub judge_forward_answers : (κs s size r g b y cb cr x t : _) → judge-forward.Post κs (s, (size, (r, (g, (b, (y, (cb, (cr, tt)))))))) x t
    → x ≡ judgement Forward s (input_picture size r.now g.now b.now) (output_picture size y.now cb.now cr.now)
judge_forward_answers κs s size r g b y cb cr x t h = h

pub judge_reverse_answers : (κs s size y cb cr r g b x t : _) → judge-reverse.Post κs (s, (size, (y, (cb, (cr, (r, (g, (b, tt)))))))) x t
    → x ≡ judgement Reverse s (input_picture size y.now cb.now cr.now) (output_picture size r.now g.now b.now)
judge_reverse_answers κs s size y cb cr r g b x t h = h

-- a frame call says what it leaves in its three output planes too
pub forward_frame_answers : (κs s size r g b y cb cr x t : _) → forward-frame.Post κs (s, (size, (r, (g, (b, (y, (cb, (cr, tt)))))))) x t
    → let left = t.1.1.1.1.1 in
    FrameAfter Forward s (input_picture size r.now g.now b.now) (output_layout size (length y.now) (length cb.now) (length cr.now)) x left.0.now left.1.0.now left.1.1.0.now
forward_frame_answers κs s size r g b y cb cr x t h = h

pub reverse_frame_answers : (κs s size y cb cr r g b x t : _) → reverse-frame.Post κs (s, (size, (y, (cb, (cr, (r, (g, (b, tt)))))))) x t
    → let left = t.1.1.1.1.1 in
    FrameAfter Reverse s (input_picture size y.now cb.now cr.now) (output_layout size (length r.now) (length g.now) (length b.now)) x left.0.now left.1.0.now left.1.1.0.now
reverse_frame_answers κs s size y cb cr r g b x t h = h
