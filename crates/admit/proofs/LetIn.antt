-- A conversion is let in by its setting and its sizes first, and then by its samples.
use Rattle.std.specs.Prelude.{Ok}
use mathlib.Core.Path.{◌≡◌, sym, ap, ◌∙◌, subst}
use mathlib.Core.List.{[], ◌∷◌}
use Rattle.sample.specs.Depth.{InsideOf}
use Rattle.setting.specs.Call.{input_of}
use Rattle.setting.specs.Ready.{Ready}
use Rattle.setting.specs.declared.Call.TheVariants.{Convert}
use Rattle.setting.specs.declared.Setting.{Setting}
use Rattle.setting.specs.declared.Way.{Way}
use Rattle.setting.specs.declared.admission.Served.{Served}
use Rattle.planes.specs.Picture.{Picture, layout_of, EveryPixel}
use Rattle.planes.specs.Sizes.{Fits}
use Rattle.planes.specs.declared.size.Layout.{Layout}
use Rattle.planes.proofs.SizeTheorems.{fits}
use Rattle.admit.specs.Rules.{call_admission, by_sizes, frame_admission}
use Rattle.admit.proofs.Accepted.{accepted_of, pixels_inside, sized, is_served, sized_ready, inside_exactly}

-- its setting and its sizes let it in, with x served
pub record FrameSized (way : Way) (s : Setting) (a : Picture) (b : Layout) (x : Served) : Type 0 where
  pub is_sized : by_sizes (Convert way) s a b ≡ Ok x

module _ {way : Way} {s : Setting} {a : Picture} {b : Layout} {x : Served} (l : FrameSized way s a b x) where
  pub paintable : Ready x × (Fits a.width a.height (layout_of a) × Fits a.width a.height b)
  paintable =
      let f = fits _ _ _ (sized (Convert way) s _ x l.is_sized).1 in
      (sized_ready (Convert way) s _ x l.is_sized, (f.0, f.1.0))

  abbrev pub Inside : Type 0
  Inside = EveryPixel (InsideOf (input_of way) x.depths) a

  -- with all samples within depth it is let in, and with one that is not it is not
  pub let_in : Inside → frame_admission way s a b ≡ Ok x
  let_in inside =
      let same = is_served (Convert way) s _ x l.is_sized in
      let own = subst (λ (y : Served). EveryPixel (InsideOf (input_of way) y.depths) a) (sym same) inside in
      ap (call_admission (Convert way) s _) ((inside_exactly (input_of way) _ a).1 own) ∙ l.is_sized

  pub not_let_in : (Inside → ⊥) → (y : Served) → frame_admission way s a b ≡ Ok y → ⊥
  not_let_in none y e =
      let k = accepted_of (Convert way) s _ _ y e in
      let same = is_served (Convert way) s _ x l.is_sized in
      none (subst (λ (y : Served). EveryPixel (InsideOf (input_of way) y.depths) a) same (pixels_inside (Convert way) s a (b ∷ []) k.0))
