-- Every entry point in two editions: the same arguments but for the edition's number, answered the same or refused.
use Rattle.std.specs.Prelude.{Result}
use mathlib.Core.List.{List}
use Prim.Native.Nat.{ℕ}
use lib.ListN.{length}
use Rattle.setting.specs.Edition.{in_edition}
use Rattle.setting.specs.declared.Setting.{Setting}
use Rattle.setting.specs.declared.Way.{Way}
use Rattle.setting.specs.declared.Way.TheVariants.{Forward, Reverse}
use Rattle.planes.specs.Picture.{Picture, picture}
use Rattle.planes.specs.declared.size.Layout.{Layout}
use Rattle.rows.specs.Paint.{input_picture, output_layout}
use Rattle.frame.specs.Frame.{FrameAfter}
use Rattle.corkplover.specs.Meaning.{meaning_of_pixel, meaning_of_source, meaning_of_reading, meaning_of_levels, meaning_of_frame, meaning_of_image, meaning_of_judgement}
use Rattle.corkplover.proofs.Calls.{forward_pixel_answers, reverse_pixel_answers, source_pixel_answers, meter_sample_answers, meter_pixel_answers, image_check_answers, forward_frame_answers, reverse_frame_answers, judge_forward_answers, judge_reverse_answers}
use Rattle.corkplover.proofs.pixels.forward_pixel.Reads as forward-pixel
use Rattle.corkplover.proofs.pixels.reverse_pixel.Reads as reverse-pixel
use Rattle.corkplover.proofs.pixels.source_pixel.Reads as source-pixel
use Rattle.corkplover.proofs.meters.meter_sample.Reads as meter-sample
use Rattle.corkplover.proofs.meters.meter_pixel.Reads as meter-pixel
use Rattle.corkplover.proofs.frames.image_check.Reads as image-check
use Rattle.corkplover.proofs.frames.forward_frame.Reads as forward-frame
use Rattle.corkplover.proofs.frames.reverse_frame.Reads as reverse-frame
use Rattle.corkplover.proofs.judging.judge_forward.Reads as judge-forward
use Rattle.corkplover.proofs.judging.judge_reverse.Reads as judge-reverse
use Rattle.promises.specs.Editions.{SameOrRefused, SamePlanesOrRefused}
use Rattle.promises.proofs.Editions.{pixel_in_editions, source_in_editions, reading_in_editions, levels_in_editions, image_in_editions, frame_in_editions, judgement_in_editions}
use Rattle.refusal.specs.declared.Refusal.{Refusal}

pub forward_pixel_in_editions : (κs κs' s n p r r' t t' : _) → forward-pixel.Post κs (s, (p, tt)) r t → forward-pixel.Post κs' (in_edition n s, (p, tt)) r' t'
    → SameOrRefused (meaning_of_pixel r) (meaning_of_pixel r')
forward_pixel_in_editions κs κs' s n p r r' t t' h h' =
    rw (forward_pixel_answers κs s p r t h, forward_pixel_answers κs' (in_edition n s) p r' t' h') (pixel_in_editions Forward s n p)

pub reverse_pixel_in_editions : (κs κs' s n p r r' t t' : _) → reverse-pixel.Post κs (s, (p, tt)) r t → reverse-pixel.Post κs' (in_edition n s, (p, tt)) r' t'
    → SameOrRefused (meaning_of_pixel r) (meaning_of_pixel r')
reverse_pixel_in_editions κs κs' s n p r r' t t' h h' =
    rw (reverse_pixel_answers κs s p r t h, reverse_pixel_answers κs' (in_edition n s) p r' t' h') (pixel_in_editions Reverse s n p)

pub source_pixel_in_editions : (κs κs' s n p r r' t t' : _) → source-pixel.Post κs (s, (p, tt)) r t → source-pixel.Post κs' (in_edition n s, (p, tt)) r' t'
    → SameOrRefused (meaning_of_source r) (meaning_of_source r')
source_pixel_in_editions κs κs' s n p r r' t t' h h' =
    rw (source_pixel_answers κs s p r t h, source_pixel_answers κs' (in_edition n s) p r' t' h') (source_in_editions s n p)

pub meter_sample_in_editions : (κs κs' k s n v r r' t t' : _) → meter-sample.Post κs (k, (s, (v, tt))) r t → meter-sample.Post κs' (k, (in_edition n s, (v, tt))) r' t'
    → SameOrRefused (meaning_of_reading r) (meaning_of_reading r')
meter_sample_in_editions κs κs' k s n v r r' t t' h h' =
    rw (meter_sample_answers κs k s v r t h, meter_sample_answers κs' k (in_edition n s) v r' t' h') (reading_in_editions k s n v)

pub meter_pixel_in_editions : (κs κs' s n p r r' t t' : _) → meter-pixel.Post κs (s, (p, tt)) r t → meter-pixel.Post κs' (in_edition n s, (p, tt)) r' t'
    → SameOrRefused (meaning_of_levels r) (meaning_of_levels r')
meter_pixel_in_editions κs κs' s n p r r' t t' h h' =
    rw (meter_pixel_answers κs s p r t h, meter_pixel_answers κs' (in_edition n s) p r' t' h') (levels_in_editions s n p)

pub image_check_in_editions : (κs κs' s n width height stride y cb cr r r' t t' : _) → image-check.Post κs (s, (width, (height, (stride, (y, (cb, (cr, tt))))))) r t
    → image-check.Post κs' (in_edition n s, (width, (height, (stride, (y, (cb, (cr, tt))))))) r' t' → SameOrRefused (meaning_of_image r) (meaning_of_image r')
image_check_in_editions κs κs' s n width height stride y cb cr r r' t t' h h' =
    rw (image_check_answers κs s width height stride y cb cr r t h, image_check_answers κs' (in_edition n s) width height stride y cb cr r' t' h')
    (image_in_editions s n (picture width height stride y.now cb.now cr.now))

-- a frame either way, with what the two calls leave in planes of one length
frames_in : (w : Way) (s : Setting) (n : ℕ) (a : Picture) (b : Layout) {x x' : Result Unit Refusal} {p0 p1 p2 q0 q1 q2 : List ℕ} → FrameAfter w s a b x p0 p1 p2
    → FrameAfter w (in_edition n s) a b x' q0 q1 q2 → SamePlanesOrRefused (meaning_of_frame x) p0 p1 p2 (meaning_of_frame x') q0 q1 q2
frames_in w s n a b h k =
    rw (h.0, h.1.0, h.1.1.0, h.1.1.1, k.0, k.1.0, k.1.1.0, k.1.1.1) (frame_in_editions w s n a b)

pub forward_frame_in_editions : (κs κs' s n size r g b y cb cr x x' t t' : _) → forward-frame.Post κs (s, (size, (r, (g, (b, (y, (cb, (cr, tt)))))))) x t
    → forward-frame.Post κs' (in_edition n s, (size, (r, (g, (b, (y, (cb, (cr, tt)))))))) x' t'
    → let left = t.1.1.1.1.1 in
    let left' = t'.1.1.1.1.1 in
    SamePlanesOrRefused (meaning_of_frame x) left.0.now left.1.0.now left.1.1.0.now
    (meaning_of_frame x') left'.0.now left'.1.0.now left'.1.1.0.now
forward_frame_in_editions κs κs' s n size r g b y cb cr x x' t t' h h' =
    frames_in Forward s n (input_picture size r.now g.now b.now) (output_layout size (length y.now) (length cb.now) (length cr.now))
    (forward_frame_answers κs s size r g b y cb cr x t h) (forward_frame_answers κs' (in_edition n s) size r g b y cb cr x' t' h')

pub reverse_frame_in_editions : (κs κs' s n size y cb cr r g b x x' t t' : _) → reverse-frame.Post κs (s, (size, (y, (cb, (cr, (r, (g, (b, tt)))))))) x t
    → reverse-frame.Post κs' (in_edition n s, (size, (y, (cb, (cr, (r, (g, (b, tt)))))))) x' t'
    → let left = t.1.1.1.1.1 in
    let left' = t'.1.1.1.1.1 in
    SamePlanesOrRefused (meaning_of_frame x) left.0.now left.1.0.now left.1.1.0.now
    (meaning_of_frame x') left'.0.now left'.1.0.now left'.1.1.0.now
reverse_frame_in_editions κs κs' s n size y cb cr r g b x x' t t' h h' =
    frames_in Reverse s n (input_picture size y.now cb.now cr.now) (output_layout size (length r.now) (length g.now) (length b.now))
    (reverse_frame_answers κs s size y cb cr r g b x t h) (reverse_frame_answers κs' (in_edition n s) size y cb cr r g b x' t' h')

pub judge_forward_in_editions : (κs κs' s n size r g b y cb cr x x' t t' : _) → judge-forward.Post κs (s, (size, (r, (g, (b, (y, (cb, (cr, tt)))))))) x t
    → judge-forward.Post κs' (in_edition n s, (size, (r, (g, (b, (y, (cb, (cr, tt)))))))) x' t' → SameOrRefused (meaning_of_judgement x) (meaning_of_judgement x')
judge_forward_in_editions κs κs' s n size r g b y cb cr x x' t t' h h' =
    rw (judge_forward_answers κs s size r g b y cb cr x t h, judge_forward_answers κs' (in_edition n s) size r g b y cb cr x' t' h') (judgement_in_editions Forward s n _ _)

pub judge_reverse_in_editions : (κs κs' s n size y cb cr r g b x x' t t' : _) → judge-reverse.Post κs (s, (size, (y, (cb, (cr, (r, (g, (b, tt)))))))) x t
    → judge-reverse.Post κs' (in_edition n s, (size, (y, (cb, (cr, (r, (g, (b, tt)))))))) x' t' → SameOrRefused (meaning_of_judgement x) (meaning_of_judgement x')
judge_reverse_in_editions κs κs' s n size y cb cr r g b x x' t t' h h' =
    rw (judge_reverse_answers κs s size y cb cr r g b x t h, judge_reverse_answers κs' (in_edition n s) size y cb cr r g b x' t' h') (judgement_in_editions Reverse s n _ _)
