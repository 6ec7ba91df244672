-- The same of two calls from another language. Two words that hold one setting count as one, whatever stands above it.
use mathlib.Core.Path.{◌≡◌, refl, ap, ◌∙◌, sym}
use mathlib.Core.List.{[], ◌∷◌}
use lib.ListN.{length}
use Rattle.planes.specs.Picture.{picture}
use Rattle.planes.specs.Sizes.{Fits}
use Rattle.setting.specs.declared.Way.TheVariants.{Forward, Reverse}
use Rattle.rows.specs.Paint.{input_picture, output_picture, output_layout}
use Rattle.image_check.specs.Image.{image_answer}
use Rattle.corkplover.specs.Meaning.{meaning_in_pixel, meaning_in_frame}
use Rattle.corkplover.specs.Packing.{setting_in, pixel_from, sizes, packed_frame, packed_image}
use Rattle.corkplover.proofs.ExportedCalls.{corkplover_image_check_answers, corkplover_forward_frame_answers, corkplover_reverse_frame_answers}
use Rattle.corkplover.proofs.exports.corkplover_forward_pixel.Reads as forward-pixel
use Rattle.corkplover.proofs.exports.corkplover_reverse_pixel.Reads as reverse-pixel
use Rattle.corkplover.proofs.frame_exports.corkplover_image_check.Reads as image-check
use Rattle.corkplover.proofs.frame_exports.corkplover_forward_frame.Reads as forward-frame
use Rattle.corkplover.proofs.frame_exports.corkplover_reverse_frame.Reads as reverse-frame
use Rattle.promises.specs.Lossless.{Listed}
use Rattle.promises.specs.Frames.{Alike, HandedOn, SamePixels}
use Rattle.promises.proofs.PixelPairs as pixels
use Rattle.promises.proofs.FramePairs as frames
use Rattle.promises.proofs.Remains.{same_image, nothing_remains}
use Rattle.promises.proofs.KeptExports.{corkplover_forward_pixel_keeps, corkplover_reverse_pixel_keeps, corkplover_forward_frame_keeps, corkplover_reverse_frame_keeps}

-- ---- demand 1

pub corkplover_forward_frame_nothing_remains : (κs κs' word word' w h from to r g b y cb cr r' g' b' y' cb' cr' x x' t t' : _)
    → forward-frame.Post κs (word, (w, (h, (from, (to, (r, (g, (b, (y, (cb, (cr, tt))))))))))) x t
    → forward-frame.Post κs' (word', (w, (h, (from, (to, (r', (g', (b', (y', (cb', (cr', tt))))))))))) x' t' → setting_in word ≡ setting_in word'
    → Alike w h from r.now g.now b.now r'.now g'.now b'.now
    → length y.now ≡ length y'.now → length cb.now ≡ length cb'.now → length cr.now ≡ length cr'.now
    → let left = t.1.1.1.1.1.1.1.1 in
    let left' = t'.1.1.1.1.1.1.1.1 in
    (x ≡ x') × ((left.0.now ≡ left'.0.now) × ((left.1.0.now ≡ left'.1.0.now) × (left.1.1.0.now ≡ left'.1.1.0.now)))
corkplover_forward_frame_nothing_remains κs κs' word word' w h from to r g b y cb cr r' g' b' y' cb' cr' x x' t t' k k' same alike l0 l1 l2 =
    nothing_remains packed_frame Forward (sizes w h from to) y.now cb.now cr.now y'.now cb'.now cr'.now same alike l0 l1 l2
    (corkplover_forward_frame_answers κs word w h from to r g b y cb cr x t k) (corkplover_forward_frame_answers κs' word' w h from to r' g' b' y' cb' cr' x' t' k')

pub corkplover_reverse_frame_nothing_remains : (κs κs' word word' w h from to y cb cr r g b y' cb' cr' r' g' b' x x' t t' : _)
    → reverse-frame.Post κs (word, (w, (h, (from, (to, (y, (cb, (cr, (r, (g, (b, tt))))))))))) x t
    → reverse-frame.Post κs' (word', (w, (h, (from, (to, (y', (cb', (cr', (r', (g', (b', tt))))))))))) x' t' → setting_in word ≡ setting_in word'
    → Alike w h from y.now cb.now cr.now y'.now cb'.now cr'.now
    → length r.now ≡ length r'.now → length g.now ≡ length g'.now → length b.now ≡ length b'.now
    → let left = t.1.1.1.1.1.1.1.1 in
    let left' = t'.1.1.1.1.1.1.1.1 in
    (x ≡ x') × ((left.0.now ≡ left'.0.now) × ((left.1.0.now ≡ left'.1.0.now) × (left.1.1.0.now ≡ left'.1.1.0.now)))
corkplover_reverse_frame_nothing_remains κs κs' word word' w h from to y cb cr r g b y' cb' cr' r' g' b' x x' t t' k k' same alike l0 l1 l2 =
    nothing_remains packed_frame Reverse (sizes w h from to) r.now g.now b.now r'.now g'.now b'.now same alike l0 l1 l2
    (corkplover_reverse_frame_answers κs word w h from to y cb cr r g b x t k) (corkplover_reverse_frame_answers κs' word' w h from to y' cb' cr' r' g' b' x' t' k')

pub corkplover_image_check_no_padding : (κs κs' word word' w h stride y cb cr y' cb' cr' x x' t t' : _)
    → image-check.Post κs (word, (w, (h, (stride, (y, (cb, (cr, tt))))))) x t
    → image-check.Post κs' (word', (w, (h, (stride, (y', (cb', (cr', tt))))))) x' t' → setting_in word ≡ setting_in word'
    → Alike w h stride y.now cb.now cr.now y'.now cb'.now cr'.now → x ≡ x'
corkplover_image_check_no_padding κs κs' word word' w h stride y cb cr y' cb' cr' x x' t t' k k' same alike =
    corkplover_image_check_answers κs word w h stride y cb cr x t k
    ∙ ap (λ s. packed_image (image_answer s (picture w h stride y.now cb.now cr.now))) same
    ∙ ap packed_image (same_image w h stride _ _ _ _ _ _ alike (setting_in word'))
    ∙ sym (corkplover_image_check_answers κs' word' w h stride y' cb' cr' x' t' k')

-- ---- demand 3

pub corkplover_pixel_comes_back : (κs κs' word r g b y cb cr x x' t t' : _) → Listed (setting_in word) → forward-pixel.Post κs (word, (r, (g, (b, tt)))) x t
    → (meaning_in_pixel x).number ≡ 0 → (meaning_in_pixel x).samples ≡ y ∷ cb ∷ cr ∷ [] → reverse-pixel.Post κs' (word, (y, (cb, (cr, tt)))) x' t'
    → ((meaning_in_pixel x').number ≡ 0) × ((meaning_in_pixel x').samples ≡ r ∷ g ∷ b ∷ [])
corkplover_pixel_comes_back κs κs' word r g b y cb cr x x' t t' l k e f k' =
    pixels.pixel_comes_back (setting_in word) l (corkplover_forward_pixel_keeps κs word r g b x t k) e f (corkplover_reverse_pixel_keeps κs' word y cb cr x' t' k')

pub corkplover_pixel_one_to_one : (κs κs' word r g b r' g' b' x x' t t' : _) → Listed (setting_in word) → forward-pixel.Post κs (word, (r, (g, (b, tt)))) x t
    → forward-pixel.Post κs' (word, (r', (g', (b', tt)))) x' t' → (meaning_in_pixel x).number ≡ 0 → (meaning_in_pixel x').number ≡ 0
    → (meaning_in_pixel x).samples ≡ (meaning_in_pixel x').samples
    → pixel_from r g b ≡ pixel_from r' g' b'
corkplover_pixel_one_to_one κs κs' word r g b r' g' b' x x' t t' l k k' e e' f =
    pixels.pixel_one_to_one (setting_in word) l (corkplover_forward_pixel_keeps κs word r g b x t k) (corkplover_forward_pixel_keeps κs' word r' g' b' x' t' k') e e' f

pub corkplover_frame_comes_back : (κs κs' word w h from to w' h' from' to' r g b y cb cr y' cb' cr' r' g' b' x x' t t' : _) → Listed (setting_in word)
    → forward-frame.Post κs (word, (w, (h, (from, (to, (r, (g, (b, (y, (cb, (cr, tt))))))))))) x t
    → reverse-frame.Post κs' (word, (w', (h', (from', (to', (y', (cb', (cr', (r', (g', (b', tt))))))))))) x' t' → (meaning_in_frame x).number ≡ 0
    → let left = t.1.1.1.1.1.1.1.1 in
    let back = t'.1.1.1.1.1.1.1.1 in
    HandedOn (sizes w h from to) (sizes w' h' from' to') left.0.now left.1.0.now left.1.1.0.now y'.now cb'.now cr'.now
    → Fits w h (output_layout (sizes w' h' from' to') (length r'.now) (length g'.now) (length b'.now))
    → ((meaning_in_frame x').number ≡ 0)
    × SamePixels (input_picture (sizes w h from to) r.now g.now b.now) (output_picture (sizes w' h' from' to') back.0.now back.1.0.now back.1.1.0.now)
corkplover_frame_comes_back κs κs' word w h from to w' h' from' to' r g b y cb cr y' cb' cr' r' g' b' x x' t t' l k k' e handed fit =
    frames.frame_comes_back (setting_in word) l (sizes w h from to) (sizes w' h' from' to') r.now g.now b.now y.now cb.now cr.now r'.now g'.now b'.now
    (corkplover_forward_frame_keeps κs word w h from to r g b y cb cr x t k) e handed fit (corkplover_reverse_frame_keeps κs' word w' h' from' to' y' cb' cr' r' g' b' x' t' k')

pub corkplover_frame_one_to_one : (κs κs' word w h from to from' to' r g b y cb cr r' g' b' y' cb' cr' x x' t t' : _) → Listed (setting_in word)
    → forward-frame.Post κs (word, (w, (h, (from, (to, (r, (g, (b, (y, (cb, (cr, tt))))))))))) x t
    → forward-frame.Post κs' (word, (w, (h, (from', (to', (r', (g', (b', (y', (cb', (cr', tt))))))))))) x' t'
    → (meaning_in_frame x).number ≡ 0 → (meaning_in_frame x').number ≡ 0
    → let left = t.1.1.1.1.1.1.1.1 in
    let left' = t'.1.1.1.1.1.1.1.1 in
    SamePixels (output_picture (sizes w h from to) left.0.now left.1.0.now left.1.1.0.now) (output_picture (sizes w h from' to') left'.0.now left'.1.0.now left'.1.1.0.now)
    → SamePixels (input_picture (sizes w h from to) r.now g.now b.now) (input_picture (sizes w h from' to') r'.now g'.now b'.now)
corkplover_frame_one_to_one κs κs' word w h from to from' to' r g b y cb cr r' g' b' y' cb' cr' x x' t t' l k k' e e' same =
    frames.frames_one_to_one (setting_in word) l (corkplover_forward_frame_keeps κs word w h from to r g b y cb cr x t k)
    (corkplover_forward_frame_keeps κs' word w h from' to' r' g' b' y' cb' cr' x' t' k') e e' refl refl same
