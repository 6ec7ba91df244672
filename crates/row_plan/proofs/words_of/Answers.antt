-- `row_plan::words_of` meets its contract: words that were made stand for their line, and take what is at most the largest sample.
use mathlib.Core.Path.{sym, subst}
use Prim.Native.Nat.{ℕ}
use Rattle.sample.specs.Depth.{UpTo}
use Rattle.sample.specs.declared.Pixel.{Pixel}
use Rattle.levels.specs.declared.lines.Line.{Line}
use Rattle.fixed.specs.Steps.{Good}
use Rattle.fixed.specs.declared.words.Words.{Words}
use Rattle.fixed.proofs.Carrying.{words_are}
use Rattle.row_plan.proofs.words_of.Goals as goal

-- a pixel that the words are for
up_to : {l : Line} {most : ℕ} {w : Words} → Good l most w → (p : Pixel) → UpTo most p → UpTo w.most p
up_to g p h = subst (λ n. UpTo n p) (sym g.most_is) h

pub returns : goal.returns
returns c =
    let first = c.in_ok-first.ensures in
    let second = c.in_ok-second.ensures in
    let third = c.in_ok-third.ensures in
    record {
      roomy = record { first = first.fits; second = second.fits; third = third.fits };
      takes = λ p h w. record { first = up_to first p w; second = up_to second p w; third = up_to third p w };
      is = λ p w i. record {
        p0 = words_are _ first.stands p (up_to first p w) i;
        p1 = words_are _ second.stands p (up_to second p w) i;
        p2 = words_are _ third.stands p (up_to third p w) i;
      };
    }
