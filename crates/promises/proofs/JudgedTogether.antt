-- What two calls of the box come to where one of them is a judgement: padding never matters on either side, and what the box's own call wrote
-- agrees. Said of the entry points' own contracts.
use mathlib.Core.Path.{◌≡◌, sym, ◌∙◌}
use Rattle.setting.specs.declared.Way.TheVariants.{Forward, Reverse}
use Rattle.corkplover.specs.Meaning.{meaning_of_frame, meaning_of_judgement}
use Rattle.corkplover.proofs.Calls.{judge_forward_answers, judge_reverse_answers}
use Rattle.corkplover.proofs.frames.forward_frame.Reads as forward-frame
use Rattle.corkplover.proofs.frames.reverse_frame.Reads as reverse-frame
use Rattle.corkplover.proofs.judging.judge_forward.Reads as judge-forward
use Rattle.corkplover.proofs.judging.judge_reverse.Reads as judge-reverse
use Rattle.promises.specs.Frames.{Alike}
use Rattle.promises.specs.Judging.{OwnAgrees}
use Rattle.promises.proofs.Judging.{own_planes_agree}
use Rattle.promises.proofs.Kept.{forward_frame_keeps, reverse_frame_keeps, judge_forward_keeps, judge_reverse_keeps}
use Rattle.promises.proofs.Remains.{same_judgement}

pub judge_forward_no_padding : (κs κs' s size r g b y cb cr r' g' b' y' cb' cr' x x' t t' : _)
    → judge-forward.Post κs (s, (size, (r, (g, (b, (y, (cb, (cr, tt)))))))) x t
    → judge-forward.Post κs' (s, (size, (r', (g', (b', (y', (cb', (cr', tt)))))))) x' t'
    → Alike size.width size.height size.input_stride r.now g.now b.now r'.now g'.now b'.now
    → Alike size.width size.height size.output_stride y.now cb.now cr.now y'.now cb'.now cr'.now → x ≡ x'
judge_forward_no_padding κs κs' s size r g b y cb cr r' g' b' y' cb' cr' x x' t t' h h' alike alike' =
    judge_forward_answers κs s size r g b y cb cr x t h
    ∙ same_judgement size.width size.height size.input_stride size.output_stride _ _ _ _ _ _ _ _ _ _ _ _ alike alike' Forward s
    ∙ sym (judge_forward_answers κs' s size r' g' b' y' cb' cr' x' t' h')

-- the planes that forward_frame left, handed to judge_forward with their source
pub own_forward_agrees : (κs κs' s size r g b y cb cr y' cb' cr' x x' t t' : _)
    → forward-frame.Post κs (s, (size, (r, (g, (b, (y, (cb, (cr, tt)))))))) x t
    → judge-forward.Post κs' (s, (size, (r, (g, (b, (y', (cb', (cr', tt)))))))) x' t'
    → let left = t.1.1.1.1.1 in
    y'.now ≡ left.0.now → cb'.now ≡ left.1.0.now → cr'.now ≡ left.1.1.0.now → OwnAgrees (meaning_of_frame x) (meaning_of_judgement x')
own_forward_agrees κs κs' s size r g b y cb cr y' cb' cr' x x' t t' h h' e0 e1 e2 =
    own_planes_agree Forward s size r.now g.now b.now y.now cb.now cr.now (forward_frame_keeps κs s size r g b y cb cr x t h) e0 e1 e2
    (judge_forward_keeps κs' s size r g b y' cb' cr' x' t' h')

pub judge_reverse_no_padding : (κs κs' s size y cb cr r g b y' cb' cr' r' g' b' x x' t t' : _)
    → judge-reverse.Post κs (s, (size, (y, (cb, (cr, (r, (g, (b, tt)))))))) x t
    → judge-reverse.Post κs' (s, (size, (y', (cb', (cr', (r', (g', (b', tt)))))))) x' t'
    → Alike size.width size.height size.input_stride y.now cb.now cr.now y'.now cb'.now cr'.now
    → Alike size.width size.height size.output_stride r.now g.now b.now r'.now g'.now b'.now → x ≡ x'
judge_reverse_no_padding κs κs' s size y cb cr r g b y' cb' cr' r' g' b' x x' t t' h h' alike alike' =
    judge_reverse_answers κs s size y cb cr r g b x t h
    ∙ same_judgement size.width size.height size.input_stride size.output_stride _ _ _ _ _ _ _ _ _ _ _ _ alike alike' Reverse s
    ∙ sym (judge_reverse_answers κs' s size y' cb' cr' r' g' b' x' t' h')

-- the planes that reverse_frame left, handed to judge_reverse with their source
pub own_reverse_agrees : (κs κs' s size y cb cr r g b r' g' b' x x' t t' : _)
    → reverse-frame.Post κs (s, (size, (y, (cb, (cr, (r, (g, (b, tt)))))))) x t
    → judge-reverse.Post κs' (s, (size, (y, (cb, (cr, (r', (g', (b', tt)))))))) x' t'
    → let left = t.1.1.1.1.1 in
    r'.now ≡ left.0.now → g'.now ≡ left.1.0.now → b'.now ≡ left.1.1.0.now → OwnAgrees (meaning_of_frame x) (meaning_of_judgement x')
own_reverse_agrees κs κs' s size y cb cr r g b r' g' b' x x' t t' h h' e0 e1 e2 =
    own_planes_agree Reverse s size y.now cb.now cr.now r.now g.now b.now (reverse_frame_keeps κs s size y cb cr r g b x t h) e0 e1 e2
    (judge_reverse_keeps κs' s size y cb cr r' g' b' x' t' h')
