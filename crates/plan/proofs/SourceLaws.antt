-- The source test by the two plans of a setting: it may be run on every pixel within depth, and it is the test by the conversions.
use mathlib.Core.Path.{◌≡◌, sym, ap, ◌∙◌, subst}
use Rattle.sample.specs.Depth.{InsideRGB, InsideYCC}
use Rattle.sample.specs.declared.Pixel.{Pixel}
use Rattle.sample.specs.declared.Side.TheVariants.{Rgb, Ycc}
use Rattle.setting.specs.Ready.{Ready}
use Rattle.setting.specs.declared.Way.TheVariants.{Forward, Reverse}
use Rattle.setting.specs.declared.admission.Served.{Served}
use Rattle.plan.specs.Conversion.{convert}
use Rattle.plan.specs.Plan.{planned, Plans, Takes}
use Rattle.plan.specs.Source.{same_pixel, comes_back, has_source}
use Rattle.plan.specs.declared.Plan.{Plan}
use Rattle.plan.proofs.ConversionTheorems.{reverse_inside}

module _ (x : Served) {back forth : Plan} (k : Plans (convert Reverse x) Ycc x.depths back) (l : Plans (convert Forward x) Rgb x.depths forth) (p : Pixel) where
  pub takes_back : InsideYCC x.depths p → Takes back p
  takes_back h = k.takes p h

  pub takes_forth : Ready x → InsideYCC x.depths p → Takes forth (planned back p)
  takes_forth r h = l.takes _ (subst (InsideRGB x.depths) (sym (k.is p)) (reverse_inside x p r h))

  pub comes_back_as : comes_back (planned back) (planned forth) p ≡ has_source x p
  unfolding has_source
  comes_back_as = ap (λ y. same_pixel y p) (l.is _ ∙ ap (convert Forward x) (k.is p))
