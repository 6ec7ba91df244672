-- Every entry point's own contract, as it stands in the source: it asks nothing of its arguments, and any two results that it allows are
-- equal, with what stands behind each `&mut`. `Pre` and `Post` are what the contract's clauses come to; `a` are the arguments, `r` is the
-- result, and `s` has, parameter by parameter, what is there when the call returns.
use mathlib.Core.Path.{◌≡◌}
use Rattle.corkplover.proofs.labels.label.Reads as label
use Rattle.corkplover.proofs.pixels.forward_pixel.Reads as forward-pixel
use Rattle.corkplover.proofs.pixels.reverse_pixel.Reads as reverse-pixel
use Rattle.corkplover.proofs.pixels.source_pixel.Reads as source-pixel
use Rattle.corkplover.proofs.meters.meter_sample.Reads as meter-sample
use Rattle.corkplover.proofs.meters.meter_pixel.Reads as meter-pixel
use Rattle.corkplover.proofs.frames.image_check.Reads as image-check
use Rattle.corkplover.proofs.frames.forward_frame.Reads as forward-frame
use Rattle.corkplover.proofs.frames.reverse_frame.Reads as reverse-frame
use Rattle.corkplover.proofs.judging.judge_forward.Reads as judge-forward
use Rattle.corkplover.proofs.judging.judge_reverse.Reads as judge-reverse
use Rattle.promises.proofs.Once.{once, once_all}

pub label_asks_nothing : (κs : _) (a : _) → label.Pre κs a
label_asks_nothing κs a = tt

pub label_once : (κs : _) (a : _) (r r' : _) (s s' : _) → label.Post κs a r s → label.Post κs a r' s' → r ≡ r'
label_once κs a r r' s s' = once

pub forward_pixel_asks_nothing : (κs : _) (a : _) → forward-pixel.Pre κs a
forward_pixel_asks_nothing κs a = tt

pub forward_pixel_once : (κs : _) (a : _) (r r' : _) (s s' : _) → forward-pixel.Post κs a r s → forward-pixel.Post κs a r' s' → r ≡ r'
forward_pixel_once κs a r r' s s' = once

pub reverse_pixel_asks_nothing : (κs : _) (a : _) → reverse-pixel.Pre κs a
reverse_pixel_asks_nothing κs a = tt

pub reverse_pixel_once : (κs : _) (a : _) (r r' : _) (s s' : _) → reverse-pixel.Post κs a r s → reverse-pixel.Post κs a r' s' → r ≡ r'
reverse_pixel_once κs a r r' s s' = once

pub source_pixel_asks_nothing : (κs : _) (a : _) → source-pixel.Pre κs a
source_pixel_asks_nothing κs a = tt

pub source_pixel_once : (κs : _) (a : _) (r r' : _) (s s' : _) → source-pixel.Post κs a r s → source-pixel.Post κs a r' s' → r ≡ r'
source_pixel_once κs a r r' s s' = once

pub meter_sample_asks_nothing : (κs : _) (a : _) → meter-sample.Pre κs a
meter_sample_asks_nothing κs a = tt

pub meter_sample_once : (κs : _) (a : _) (r r' : _) (s s' : _) → meter-sample.Post κs a r s → meter-sample.Post κs a r' s' → r ≡ r'
meter_sample_once κs a r r' s s' = once

pub meter_pixel_asks_nothing : (κs : _) (a : _) → meter-pixel.Pre κs a
meter_pixel_asks_nothing κs a = tt

pub meter_pixel_once : (κs : _) (a : _) (r r' : _) (s s' : _) → meter-pixel.Post κs a r s → meter-pixel.Post κs a r' s' → r ≡ r'
meter_pixel_once κs a r r' s s' = once

pub image_check_asks_nothing : (κs : _) (a : _) → image-check.Pre κs a
image_check_asks_nothing κs a = tt

pub image_check_once : (κs : _) (a : _) (r r' : _) (s s' : _) → image-check.Post κs a r s → image-check.Post κs a r' s' → r ≡ r'
image_check_once κs a r r' s s' = once

pub forward_frame_asks_nothing : (κs : _) (a : _) → forward-frame.Pre κs a
forward_frame_asks_nothing κs a = tt

pub forward_frame_once : (κs : _) (a : _) (r r' : _) (s s' : _) → forward-frame.Post κs a r s → forward-frame.Post κs a r' s'
    → let t = s.1.1.1.1.1 in
    let t' = s'.1.1.1.1.1 in
    (r ≡ r') × ((t.0.now ≡ t'.0.now) × ((t.1.0.now ≡ t'.1.0.now) × (t.1.1.0.now ≡ t'.1.1.0.now)))
forward_frame_once κs a r r' s s' = once_all

pub reverse_frame_asks_nothing : (κs : _) (a : _) → reverse-frame.Pre κs a
reverse_frame_asks_nothing κs a = tt

pub reverse_frame_once : (κs : _) (a : _) (r r' : _) (s s' : _) → reverse-frame.Post κs a r s → reverse-frame.Post κs a r' s'
    → let t = s.1.1.1.1.1 in
    let t' = s'.1.1.1.1.1 in
    (r ≡ r') × ((t.0.now ≡ t'.0.now) × ((t.1.0.now ≡ t'.1.0.now) × (t.1.1.0.now ≡ t'.1.1.0.now)))
reverse_frame_once κs a r r' s s' = once_all

pub judge_forward_asks_nothing : (κs : _) (a : _) → judge-forward.Pre κs a
judge_forward_asks_nothing κs a = tt

pub judge_forward_once : (κs : _) (a : _) (r r' : _) (s s' : _) → judge-forward.Post κs a r s → judge-forward.Post κs a r' s' → r ≡ r'
judge_forward_once κs a r r' s s' = once

pub judge_reverse_asks_nothing : (κs : _) (a : _) → judge-reverse.Pre κs a
judge_reverse_asks_nothing κs a = tt

pub judge_reverse_once : (κs : _) (a : _) (r r' : _) (s s' : _) → judge-reverse.Post κs a r s → judge-reverse.Post κs a r' s' → r ≡ r'
judge_reverse_once κs a r r' s s' = once
