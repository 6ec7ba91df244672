-- `row_plan::light_lines` meets its contract: whichever numbers were made stand for the lines, up to the same largest sample.
use mathlib.Core.Path.{◌≡◌, sym, subst, ◌∙◌}
use Prim.Native.Nat.{ℕ}
use Rattle.sample.specs.Depth.{UpTo}
use Rattle.sample.specs.declared.Pixel.{Pixel}
use Rattle.light.proofs.Lights.{light_is}
use Rattle.row_plan.proofs.light_lines.Goals as goal

-- a pixel for one largest sample is one for its equal
up_to : {m n : ℕ} → m ≡ n → (p : Pixel) → UpTo n p → UpTo m p
up_to e p h = subst (λ k. UpTo k p) (sym e) h

pub returns-in-Some : goal.returns-in-Some
returns-in-Some c =
    let made = c.in-Some.ensures in
    let same = made.1 ∙ c.requires.runs_found.1 in
    record { roomy = made.0.fits; takes = λ p h w. up_to same p w; is = λ p w. made.0.is p (up_to same p w) }

pub returns-in-Some-prepare : goal.returns-in-Some-prepare
returns-in-Some-prepare c =
    let made = c.in-Some-prepare.ensures in
    let same = made.1 ∙ c.requires.runs_found.1 in
    record { roomy = made.0.fits; takes = λ p h w. up_to same p w; is = λ p w. light_is made.0 p (up_to same p w) }
