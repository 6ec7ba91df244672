-- The same of two calls from another language. Two words that hold one setting count as one.
use mathlib.Core.Path.{◌≡◌, ap, ◌∙◌}
use mathlib.Core.List.{List}
use Prim.Native.Nat.{ℕ}
use Rattle.setting.specs.declared.Setting.{Setting}
use Rattle.setting.specs.declared.Way.{Way}
use Rattle.setting.specs.declared.Way.TheVariants.{Forward, Reverse}
use Rattle.rows.specs.Paint.{input_picture, output_picture}
use Rattle.rows.specs.declared.paint.Size.{Size}
use Rattle.judge.specs.Judge.{judgement}
use Rattle.corkplover.specs.After.{JudgementAfter}
use Rattle.corkplover.specs.Meaning.{meaning_in_frame, meaning_in_judgement}
use Rattle.corkplover.specs.Packing.{setting_in, sizes, packed_judgement, wrong_in}
use Rattle.corkplover.proofs.ExportedCalls.{corkplover_judge_forward_answers, corkplover_judge_reverse_answers}
use Rattle.corkplover.proofs.frame_exports.corkplover_forward_frame.Reads as forward-frame
use Rattle.corkplover.proofs.frame_exports.corkplover_reverse_frame.Reads as reverse-frame
use Rattle.corkplover.proofs.judge_exports.corkplover_judge_forward.Reads as judge-forward
use Rattle.corkplover.proofs.judge_exports.corkplover_judge_reverse.Reads as judge-reverse
use Rattle.promises.specs.Frames.{Alike}
use Rattle.promises.specs.Judging.{OwnAgrees}
use Rattle.promises.proofs.Judging.{own_planes_agree}
use Rattle.promises.proofs.KeptExports.{corkplover_forward_frame_keeps, corkplover_reverse_frame_keeps, corkplover_judge_forward_keeps, corkplover_judge_reverse_keeps}
use Rattle.promises.proofs.Once.{once_both}
use Rattle.promises.proofs.Remains.{same_judgement}

-- either way
no_padding : (w : Way) (s t : Setting) (z : Size) (a0 a1 a2 b0 b1 b2 q0 q1 q2 p0 p1 p2 : List ℕ) {x x' n n' : ℕ} → JudgementAfter w s z a0 a1 a2 b0 b1 b2 x n
    → JudgementAfter w t z q0 q1 q2 p0 p1 p2 x' n' → s ≡ t → Alike z.width z.height z.input_stride a0 a1 a2 q0 q1 q2
    → Alike z.width z.height z.output_stride b0 b1 b2 p0 p1 p2 → (x ≡ x') × (n ≡ n')
no_padding w s t z a0 a1 a2 b0 b1 b2 q0 q1 q2 p0 p1 p2 h h' e alike alike' =
    let same =
    ap (λ u. judgement w u (input_picture z a0 a1 a2) (output_picture z b0 b1 b2)) e
    ∙ same_judgement z.width z.height z.input_stride z.output_stride a0 a1 a2 q0 q1 q2 b0 b1 b2 p0 p1 p2 alike alike' w t in
    once_both (h.0 ∙ ap packed_judgement same, h.1 ∙ ap wrong_in same) h'

pub corkplover_judge_forward_no_padding : (κs κs' word word' w h from to r g b y cb cr wrong r' g' b' y' cb' cr' wrong' x x' t t' : _)
    → judge-forward.Post κs (word, (w, (h, (from, (to, (r, (g, (b, (y, (cb, (cr, (wrong, tt)))))))))))) x t
    → judge-forward.Post κs' (word', (w, (h, (from, (to, (r', (g', (b', (y', (cb', (cr', (wrong', tt)))))))))))) x' t' → setting_in word ≡ setting_in word'
    → Alike w h from r.now g.now b.now r'.now g'.now b'.now → Alike w h to y.now cb.now cr.now y'.now cb'.now cr'.now
    → (x ≡ x') × (t.1.1.1.1.1.1.1.1.1.1.1.0.now ≡ t'.1.1.1.1.1.1.1.1.1.1.1.0.now)
corkplover_judge_forward_no_padding κs κs' word word' w h from to r g b y cb cr wrong r' g' b' y' cb' cr' wrong' x x' t t' k k' same alike alike' =
    no_padding Forward (setting_in word) (setting_in word') (sizes w h from to) r.now g.now b.now y.now cb.now cr.now r'.now g'.now b'.now y'.now cb'.now cr'.now
    (corkplover_judge_forward_answers κs word w h from to r g b y cb cr wrong x t k) (corkplover_judge_forward_answers κs' word' w h from to r' g' b' y' cb' cr' wrong' x' t' k') same alike alike'

pub corkplover_own_forward_agrees : (κs κs' word w h from to r g b y cb cr y' cb' cr' wrong x x' t t' : _)
    → forward-frame.Post κs (word, (w, (h, (from, (to, (r, (g, (b, (y, (cb, (cr, tt))))))))))) x t
    → judge-forward.Post κs' (word, (w, (h, (from, (to, (r, (g, (b, (y', (cb', (cr', (wrong, tt)))))))))))) x' t'
    → let left = t.1.1.1.1.1.1.1.1 in
    y'.now ≡ left.0.now → cb'.now ≡ left.1.0.now → cr'.now ≡ left.1.1.0.now
    → OwnAgrees (meaning_in_frame x) (meaning_in_judgement x' t'.1.1.1.1.1.1.1.1.1.1.1.0.now)
corkplover_own_forward_agrees κs κs' word w h from to r g b y cb cr y' cb' cr' wrong x x' t t' k k' e0 e1 e2 =
    own_planes_agree Forward (setting_in word) (sizes w h from to) r.now g.now b.now y.now cb.now cr.now (corkplover_forward_frame_keeps κs word w h from to r g b y cb cr x t k) e0 e1 e2
    (corkplover_judge_forward_keeps κs' word w h from to r g b y' cb' cr' wrong x' t' k').0

pub corkplover_judge_reverse_no_padding : (κs κs' word word' w h from to y cb cr r g b wrong y' cb' cr' r' g' b' wrong' x x' t t' : _)
    → judge-reverse.Post κs (word, (w, (h, (from, (to, (y, (cb, (cr, (r, (g, (b, (wrong, tt)))))))))))) x t
    → judge-reverse.Post κs' (word', (w, (h, (from, (to, (y', (cb', (cr', (r', (g', (b', (wrong', tt)))))))))))) x' t' → setting_in word ≡ setting_in word'
    → Alike w h from y.now cb.now cr.now y'.now cb'.now cr'.now → Alike w h to r.now g.now b.now r'.now g'.now b'.now
    → (x ≡ x') × (t.1.1.1.1.1.1.1.1.1.1.1.0.now ≡ t'.1.1.1.1.1.1.1.1.1.1.1.0.now)
corkplover_judge_reverse_no_padding κs κs' word word' w h from to y cb cr r g b wrong y' cb' cr' r' g' b' wrong' x x' t t' k k' same alike alike' =
    no_padding Reverse (setting_in word) (setting_in word') (sizes w h from to) y.now cb.now cr.now r.now g.now b.now y'.now cb'.now cr'.now r'.now g'.now b'.now
    (corkplover_judge_reverse_answers κs word w h from to y cb cr r g b wrong x t k) (corkplover_judge_reverse_answers κs' word' w h from to y' cb' cr' r' g' b' wrong' x' t' k') same alike alike'

pub corkplover_own_reverse_agrees : (κs κs' word w h from to y cb cr r g b r' g' b' wrong x x' t t' : _)
    → reverse-frame.Post κs (word, (w, (h, (from, (to, (y, (cb, (cr, (r, (g, (b, tt))))))))))) x t
    → judge-reverse.Post κs' (word, (w, (h, (from, (to, (y, (cb, (cr, (r', (g', (b', (wrong, tt)))))))))))) x' t'
    → let left = t.1.1.1.1.1.1.1.1 in
    r'.now ≡ left.0.now → g'.now ≡ left.1.0.now → b'.now ≡ left.1.1.0.now
    → OwnAgrees (meaning_in_frame x) (meaning_in_judgement x' t'.1.1.1.1.1.1.1.1.1.1.1.0.now)
corkplover_own_reverse_agrees κs κs' word w h from to y cb cr r g b r' g' b' wrong x x' t t' k k' e0 e1 e2 =
    own_planes_agree Reverse (setting_in word) (sizes w h from to) y.now cb.now cr.now r.now g.now b.now (corkplover_reverse_frame_keeps κs word w h from to y cb cr r g b x t k) e0 e1 e2
    (corkplover_judge_reverse_keeps κs' word w h from to y cb cr r' g' b' wrong x' t' k').0
