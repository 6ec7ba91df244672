-- The same of the contract of every exported function.
use mathlib.Core.Path.{◌≡◌}
use Rattle.corkplover.proofs.exports.corkplover_primaries_label.Reads as corkplover-primaries-label
use Rattle.corkplover.proofs.exports.corkplover_transfer_label.Reads as corkplover-transfer-label
use Rattle.corkplover.proofs.exports.corkplover_matrix_label.Reads as corkplover-matrix-label
use Rattle.corkplover.proofs.exports.corkplover_forward_pixel.Reads as corkplover-forward-pixel
use Rattle.corkplover.proofs.exports.corkplover_reverse_pixel.Reads as corkplover-reverse-pixel
use Rattle.corkplover.proofs.frame_exports.corkplover_image_check.Reads as corkplover-image-check
use Rattle.corkplover.proofs.exports.corkplover_meter_y.Reads as corkplover-meter-y
use Rattle.corkplover.proofs.exports.corkplover_meter_cb.Reads as corkplover-meter-cb
use Rattle.corkplover.proofs.exports.corkplover_meter_cr.Reads as corkplover-meter-cr
use Rattle.corkplover.proofs.exports.corkplover_meter_pixel.Reads as corkplover-meter-pixel
use Rattle.corkplover.proofs.frame_exports.corkplover_forward_frame.Reads as corkplover-forward-frame
use Rattle.corkplover.proofs.frame_exports.corkplover_reverse_frame.Reads as corkplover-reverse-frame
use Rattle.corkplover.proofs.judge_exports.corkplover_judge_forward.Reads as corkplover-judge-forward
use Rattle.corkplover.proofs.judge_exports.corkplover_judge_reverse.Reads as corkplover-judge-reverse
use Rattle.promises.proofs.Once.{once, once_both, once_all}

pub corkplover_primaries_label_asks_nothing : (κs : _) (a : _) → corkplover-primaries-label.Pre κs a
corkplover_primaries_label_asks_nothing κs a = tt

pub corkplover_primaries_label_once : (κs : _) (a : _) (r r' : _) (s s' : _) → corkplover-primaries-label.Post κs a r s → corkplover-primaries-label.Post κs a r' s' → r ≡ r'
corkplover_primaries_label_once κs a r r' s s' = once

pub corkplover_transfer_label_asks_nothing : (κs : _) (a : _) → corkplover-transfer-label.Pre κs a
corkplover_transfer_label_asks_nothing κs a = tt

pub corkplover_transfer_label_once : (κs : _) (a : _) (r r' : _) (s s' : _) → corkplover-transfer-label.Post κs a r s → corkplover-transfer-label.Post κs a r' s' → r ≡ r'
corkplover_transfer_label_once κs a r r' s s' = once

pub corkplover_matrix_label_asks_nothing : (κs : _) (a : _) → corkplover-matrix-label.Pre κs a
corkplover_matrix_label_asks_nothing κs a = tt

pub corkplover_matrix_label_once : (κs : _) (a : _) (r r' : _) (s s' : _) → corkplover-matrix-label.Post κs a r s → corkplover-matrix-label.Post κs a r' s' → r ≡ r'
corkplover_matrix_label_once κs a r r' s s' = once

pub corkplover_forward_pixel_asks_nothing : (κs : _) (a : _) → corkplover-forward-pixel.Pre κs a
corkplover_forward_pixel_asks_nothing κs a = tt

pub corkplover_forward_pixel_once : (κs : _) (a : _) (r r' : _) (s s' : _) → corkplover-forward-pixel.Post κs a r s → corkplover-forward-pixel.Post κs a r' s' → r ≡ r'
corkplover_forward_pixel_once κs a r r' s s' = once

pub corkplover_reverse_pixel_asks_nothing : (κs : _) (a : _) → corkplover-reverse-pixel.Pre κs a
corkplover_reverse_pixel_asks_nothing κs a = tt

pub corkplover_reverse_pixel_once : (κs : _) (a : _) (r r' : _) (s s' : _) → corkplover-reverse-pixel.Post κs a r s → corkplover-reverse-pixel.Post κs a r' s' → r ≡ r'
corkplover_reverse_pixel_once κs a r r' s s' = once

pub corkplover_image_check_asks_nothing : (κs : _) (a : _) → corkplover-image-check.Pre κs a
corkplover_image_check_asks_nothing κs a = tt

pub corkplover_image_check_once : (κs : _) (a : _) (r r' : _) (s s' : _) → corkplover-image-check.Post κs a r s → corkplover-image-check.Post κs a r' s' → r ≡ r'
corkplover_image_check_once κs a r r' s s' = once

pub corkplover_meter_y_asks_nothing : (κs : _) (a : _) → corkplover-meter-y.Pre κs a
corkplover_meter_y_asks_nothing κs a = tt

pub corkplover_meter_y_once : (κs : _) (a : _) (r r' : _) (s s' : _) → corkplover-meter-y.Post κs a r s → corkplover-meter-y.Post κs a r' s'
    → let t = s.1.1 in
    let t' = s'.1.1 in
    (r ≡ r') × (t.0.now ≡ t'.0.now)
corkplover_meter_y_once κs a r r' s s' = once_both

pub corkplover_meter_cb_asks_nothing : (κs : _) (a : _) → corkplover-meter-cb.Pre κs a
corkplover_meter_cb_asks_nothing κs a = tt

pub corkplover_meter_cb_once : (κs : _) (a : _) (r r' : _) (s s' : _) → corkplover-meter-cb.Post κs a r s → corkplover-meter-cb.Post κs a r' s'
    → let t = s.1.1 in
    let t' = s'.1.1 in
    (r ≡ r') × (t.0.now ≡ t'.0.now)
corkplover_meter_cb_once κs a r r' s s' = once_both

pub corkplover_meter_cr_asks_nothing : (κs : _) (a : _) → corkplover-meter-cr.Pre κs a
corkplover_meter_cr_asks_nothing κs a = tt

pub corkplover_meter_cr_once : (κs : _) (a : _) (r r' : _) (s s' : _) → corkplover-meter-cr.Post κs a r s → corkplover-meter-cr.Post κs a r' s'
    → let t = s.1.1 in
    let t' = s'.1.1 in
    (r ≡ r') × (t.0.now ≡ t'.0.now)
corkplover_meter_cr_once κs a r r' s s' = once_both

pub corkplover_meter_pixel_asks_nothing : (κs : _) (a : _) → corkplover-meter-pixel.Pre κs a
corkplover_meter_pixel_asks_nothing κs a = tt

pub corkplover_meter_pixel_once : (κs : _) (a : _) (r r' : _) (s s' : _) → corkplover-meter-pixel.Post κs a r s → corkplover-meter-pixel.Post κs a r' s'
    → let t = s.1.1.1.1 in
    let t' = s'.1.1.1.1 in
    (r ≡ r') × ((t.0.now ≡ t'.0.now) × ((t.1.0.now ≡ t'.1.0.now) × (t.1.1.0.now ≡ t'.1.1.0.now)))
corkplover_meter_pixel_once κs a r r' s s' = once_all

pub corkplover_forward_frame_asks_nothing : (κs : _) (a : _) → corkplover-forward-frame.Pre κs a
corkplover_forward_frame_asks_nothing κs a = tt

pub corkplover_forward_frame_once : (κs : _) (a : _) (r r' : _) (s s' : _) → corkplover-forward-frame.Post κs a r s → corkplover-forward-frame.Post κs a r' s'
    → let t = s.1.1.1.1.1.1.1.1 in
    let t' = s'.1.1.1.1.1.1.1.1 in
    (r ≡ r') × ((t.0.now ≡ t'.0.now) × ((t.1.0.now ≡ t'.1.0.now) × (t.1.1.0.now ≡ t'.1.1.0.now)))
corkplover_forward_frame_once κs a r r' s s' = once_all

pub corkplover_reverse_frame_asks_nothing : (κs : _) (a : _) → corkplover-reverse-frame.Pre κs a
corkplover_reverse_frame_asks_nothing κs a = tt

pub corkplover_reverse_frame_once : (κs : _) (a : _) (r r' : _) (s s' : _) → corkplover-reverse-frame.Post κs a r s → corkplover-reverse-frame.Post κs a r' s'
    → let t = s.1.1.1.1.1.1.1.1 in
    let t' = s'.1.1.1.1.1.1.1.1 in
    (r ≡ r') × ((t.0.now ≡ t'.0.now) × ((t.1.0.now ≡ t'.1.0.now) × (t.1.1.0.now ≡ t'.1.1.0.now)))
corkplover_reverse_frame_once κs a r r' s s' = once_all

pub corkplover_judge_forward_asks_nothing : (κs : _) (a : _) → corkplover-judge-forward.Pre κs a
corkplover_judge_forward_asks_nothing κs a = tt

pub corkplover_judge_forward_once : (κs : _) (a : _) (r r' : _) (s s' : _) → corkplover-judge-forward.Post κs a r s → corkplover-judge-forward.Post κs a r' s'
    → let t = s.1.1.1.1.1.1.1.1.1.1.1 in
    let t' = s'.1.1.1.1.1.1.1.1.1.1.1 in
    (r ≡ r') × (t.0.now ≡ t'.0.now)
corkplover_judge_forward_once κs a r r' s s' = once_both

pub corkplover_judge_reverse_asks_nothing : (κs : _) (a : _) → corkplover-judge-reverse.Pre κs a
corkplover_judge_reverse_asks_nothing κs a = tt

pub corkplover_judge_reverse_once : (κs : _) (a : _) (r r' : _) (s s' : _) → corkplover-judge-reverse.Post κs a r s → corkplover-judge-reverse.Post κs a r' s'
    → let t = s.1.1.1.1.1.1.1.1.1.1.1 in
    let t' = s'.1.1.1.1.1.1.1.1.1.1.1 in
    (r ≡ r') × (t.0.now ≡ t'.0.now)
corkplover_judge_reverse_once κs a r r' s s' = once_both
