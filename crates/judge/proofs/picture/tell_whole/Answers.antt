-- `judge::picture::tell_whole` meets its contract: the picture is one run on either side.
use mathlib.Core.Path.{◌≡◌, ap, ◌∙◌}
use Prim.Native.Nat.{◌*◌}
use Rattle.planes.specs.Shown.{shown}
use Rattle.planes.specs.Sizes.{needed}
use Rattle.planes.proofs.SizeLaws.{needed_whole}
use Rattle.row_plan.specs.RowPlan.{row_planned}
use Rattle.judge.proofs.PictureLaws.{whole_beyond, whole_told}
use Rattle.judge.proofs.picture.tell_whole.Goals as goal
use Rattle.judge.proofs.picture.tell_whole.Goals.{After-needed-n}

-- as many pixels as width by height
whole : (c : After-needed-n) → let a = c.args.a in c.needed-n.result ≡ a.height * a.width
whole c =
    let a = c.args.a in
    c.needed-n.ensures ∙ ap (needed a.width a.height) c.requires.a_close ∙ needed_whole a.width a.height c.requires.fits.sized.height_within.from_least

pub returns-in_err-all : goal.returns-in_err-all
returns-in_err-all c =
    let x = c.args in
    let p = c.requires in
    rw c.from_residual.ensures
    (whole_beyond x.tops (row_planned x.plan) (shown x.a) (shown x.b) p.fits.sized.width_within.from_least p.a_close p.b_close
    (whole ((goal.at.returns-in_err-all c).After-needed-n)) c.in_err-all.ensures)

pub returns : goal.returns
returns c =
    let x = c.args in
    let p = c.requires in
    rw c.found_in.ensures
    (whole_told x.tops (row_planned x.plan) (shown x.a) (shown x.b) p.fits.sized.width_within.from_least p.a_close p.b_close
    (whole ((goal.at.returns c).After-needed-n)) c.in_ok-all.ensures)
