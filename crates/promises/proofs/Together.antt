-- What two calls of the box come to, one beside the other: nothing of an earlier client remains, and on the settings of the list a
-- conversion comes back and is one-to-one. Said of the entry points' own contracts.
use mathlib.Core.Path.{◌≡◌, refl, ◌∙◌, sym}
use lib.ListN.{length}
use Rattle.planes.specs.Sizes.{Fits}
use Rattle.setting.specs.declared.Way.TheVariants.{Forward, Reverse}
use Rattle.rows.specs.Paint.{input_picture, output_picture, output_layout}
use Rattle.corkplover.specs.Meaning.{meaning_of_pixel, meaning_of_frame}
use Rattle.corkplover.proofs.Calls.{image_check_answers, forward_frame_answers, reverse_frame_answers}
use Rattle.corkplover.proofs.pixels.forward_pixel.Reads as forward-pixel
use Rattle.corkplover.proofs.pixels.reverse_pixel.Reads as reverse-pixel
use Rattle.corkplover.proofs.frames.image_check.Reads as image-check
use Rattle.corkplover.proofs.frames.forward_frame.Reads as forward-frame
use Rattle.corkplover.proofs.frames.reverse_frame.Reads as reverse-frame
use Rattle.promises.specs.Lossless.{Listed}
use Rattle.promises.specs.Pixels.{samples_of}
use Rattle.promises.specs.Frames.{Alike, HandedOn, SamePixels}
use Rattle.promises.proofs.PixelPairs as pixels
use Rattle.promises.proofs.FramePairs as frames
use Rattle.promises.proofs.Remains.{same_image, nothing_remains}
use Rattle.promises.proofs.Kept.{forward_pixel_keeps, reverse_pixel_keeps, forward_frame_keeps, reverse_frame_keeps}

-- ---- demand 1: whatever the output planes held, and whatever stands in padding

pub forward_frame_nothing_remains : (κs κs' s size r g b y cb cr r' g' b' y' cb' cr' x x' t t' : _)
    → forward-frame.Post κs (s, (size, (r, (g, (b, (y, (cb, (cr, tt)))))))) x t
    → forward-frame.Post κs' (s, (size, (r', (g', (b', (y', (cb', (cr', tt)))))))) x' t'
    → Alike size.width size.height size.input_stride r.now g.now b.now r'.now g'.now b'.now
    → length y.now ≡ length y'.now → length cb.now ≡ length cb'.now → length cr.now ≡ length cr'.now
    → let left = t.1.1.1.1.1 in
    let left' = t'.1.1.1.1.1 in
    (x ≡ x') × ((left.0.now ≡ left'.0.now) × ((left.1.0.now ≡ left'.1.0.now) × (left.1.1.0.now ≡ left'.1.1.0.now)))
forward_frame_nothing_remains κs κs' s size r g b y cb cr r' g' b' y' cb' cr' x x' t t' h h' alike l0 l1 l2 =
    nothing_remains (λ a. a) Forward {s = s} size y.now cb.now cr.now y'.now cb'.now cr'.now refl alike l0 l1 l2
    (forward_frame_answers κs s size r g b y cb cr x t h) (forward_frame_answers κs' s size r' g' b' y' cb' cr' x' t' h')

pub reverse_frame_nothing_remains : (κs κs' s size y cb cr r g b y' cb' cr' r' g' b' x x' t t' : _)
    → reverse-frame.Post κs (s, (size, (y, (cb, (cr, (r, (g, (b, tt)))))))) x t
    → reverse-frame.Post κs' (s, (size, (y', (cb', (cr', (r', (g', (b', tt)))))))) x' t'
    → Alike size.width size.height size.input_stride y.now cb.now cr.now y'.now cb'.now cr'.now
    → length r.now ≡ length r'.now → length g.now ≡ length g'.now → length b.now ≡ length b'.now
    → let left = t.1.1.1.1.1 in
    let left' = t'.1.1.1.1.1 in
    (x ≡ x') × ((left.0.now ≡ left'.0.now) × ((left.1.0.now ≡ left'.1.0.now) × (left.1.1.0.now ≡ left'.1.1.0.now)))
reverse_frame_nothing_remains κs κs' s size y cb cr r g b y' cb' cr' r' g' b' x x' t t' h h' alike l0 l1 l2 =
    nothing_remains (λ a. a) Reverse {s = s} size r.now g.now b.now r'.now g'.now b'.now refl alike l0 l1 l2
    (reverse_frame_answers κs s size y cb cr r g b x t h) (reverse_frame_answers κs' s size y' cb' cr' r' g' b' x' t' h')

pub image_check_no_padding : (κs κs' s width height stride y cb cr y' cb' cr' r r' t t' : _)
    → image-check.Post κs (s, (width, (height, (stride, (y, (cb, (cr, tt))))))) r t
    → image-check.Post κs' (s, (width, (height, (stride, (y', (cb', (cr', tt))))))) r' t'
    → Alike width height stride y.now cb.now cr.now y'.now cb'.now cr'.now → r ≡ r'
image_check_no_padding κs κs' s width height stride y cb cr y' cb' cr' r r' t t' h h' alike =
    image_check_answers κs s width height stride y cb cr r t h
    ∙ same_image width height stride _ _ _ _ _ _ alike s
    ∙ sym (image_check_answers κs' s width height stride y' cb' cr' r' t' h')

-- ---- demand 3

-- the pixel that forward_pixel answered, handed to reverse_pixel, comes back
pub pixel_comes_back : (κs κs' s p q r r' t t' : _) → Listed s → forward-pixel.Post κs (s, (p, tt)) r t → (meaning_of_pixel r).number ≡ 0
    → (meaning_of_pixel r).samples ≡ samples_of q → reverse-pixel.Post κs' (s, (q, tt)) r' t'
    → ((meaning_of_pixel r').number ≡ 0) × ((meaning_of_pixel r').samples ≡ samples_of p)
pixel_comes_back κs κs' s p q r r' t t' l h e f h' =
    pixels.pixel_comes_back s l (forward_pixel_keeps κs s p r t h) e f (reverse_pixel_keeps κs' s q r' t' h')

-- two pixels that forward_pixel answers with the same samples are one
pub pixel_one_to_one : (κs κs' s p q r r' t t' : _) → Listed s → forward-pixel.Post κs (s, (p, tt)) r t → forward-pixel.Post κs' (s, (q, tt)) r' t'
    → (meaning_of_pixel r).number ≡ 0 → (meaning_of_pixel r').number ≡ 0 → (meaning_of_pixel r).samples ≡ (meaning_of_pixel r').samples → p ≡ q
pixel_one_to_one κs κs' s p q r r' t t' l h h' e e' f = pixels.pixel_one_to_one s l (forward_pixel_keeps κs s p r t h) (forward_pixel_keeps κs' s q r' t' h') e e' f

-- the planes that forward_frame left, handed to reverse_frame, are accepted and come back, pixel for pixel
pub frame_comes_back : (κs κs' s size size' r g b y cb cr y' cb' cr' r' g' b' x x' t t' : _) → Listed s
    → forward-frame.Post κs (s, (size, (r, (g, (b, (y, (cb, (cr, tt)))))))) x t
    → reverse-frame.Post κs' (s, (size', (y', (cb', (cr', (r', (g', (b', tt)))))))) x' t' → (meaning_of_frame x).number ≡ 0
    → let left = t.1.1.1.1.1 in
    let back = t'.1.1.1.1.1 in
    HandedOn size size' left.0.now left.1.0.now left.1.1.0.now y'.now cb'.now cr'.now
    → Fits size.width size.height (output_layout size' (length r'.now) (length g'.now) (length b'.now))
    → ((meaning_of_frame x').number ≡ 0) × SamePixels (input_picture size r.now g.now b.now) (output_picture size' back.0.now back.1.0.now back.1.1.0.now)
frame_comes_back κs κs' s size size' r g b y cb cr y' cb' cr' r' g' b' x x' t t' l h h' e handed fit =
    frames.frame_comes_back s l size size' r.now g.now b.now y.now cb.now cr.now r'.now g'.now b'.now
    (forward_frame_keeps κs s size r g b y cb cr x t h) e handed fit (reverse_frame_keeps κs' s size' y' cb' cr' r' g' b' x' t' h')

-- two pictures of one size whose conversions have the same pixels have the same pixels
pub frame_one_to_one : (κs κs' s size size' r g b y cb cr r' g' b' y' cb' cr' x x' t t' : _) → Listed s
    → forward-frame.Post κs (s, (size, (r, (g, (b, (y, (cb, (cr, tt)))))))) x t
    → forward-frame.Post κs' (s, (size', (r', (g', (b', (y', (cb', (cr', tt)))))))) x' t'
    → (meaning_of_frame x).number ≡ 0 → (meaning_of_frame x').number ≡ 0 → size.width ≡ size'.width → size.height ≡ size'.height
    → let left = t.1.1.1.1.1 in
    let left' = t'.1.1.1.1.1 in
    SamePixels (output_picture size left.0.now left.1.0.now left.1.1.0.now) (output_picture size' left'.0.now left'.1.0.now left'.1.1.0.now)
    → SamePixels (input_picture size r.now g.now b.now) (input_picture size' r'.now g'.now b'.now)
frame_one_to_one κs κs' s size size' r g b y cb cr r' g' b' y' cb' cr' x x' t t' l h h' e e' wide high same =
    frames.frames_one_to_one s l (forward_frame_keeps κs s size r g b y cb cr x t h) (forward_frame_keeps κs' s size' r' g' b' y' cb' cr' x' t' h') e e' wide high same
