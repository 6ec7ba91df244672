-- Which luma and chroma pixels come from an RGB pixel: the claim, and a test that code can run.
use Rattle.std.specs.Prelude.{◌≡◌, Bool, ◌&&◌, eqb}
use Rattle.sample.specs.Depth.{InsideRGB}
use Rattle.sample.specs.declared.Pixel.{Pixel}
use Rattle.setting.specs.declared.Way.TheVariants.{Forward, Reverse}
use Rattle.setting.specs.declared.admission.Served.{Served}
use Rattle.plan.specs.Conversion.{convert}

-- some RGB pixel within depth converts to p by the forward formulas
pub record HasSource (s : Served) (p : Pixel) : Type 0 where
  pub source : Pixel
  pub inside : InsideRGB s.depths source
  pub converts : convert Forward s source ≡ p

abbrev pub same_pixel : Pixel → Pixel → Bool
same_pixel p q = eqb p.p0 q.p0 && (eqb p.p1 q.p1 && eqb p.p2 q.p2)

-- a pixel that comes back the same, by a conversion back and one forth
abbrev pub comes_back : (Pixel → Pixel) → (Pixel → Pixel) → Pixel → Bool
comes_back back forth p = same_pixel (forth (back p)) p

-- the test: converted back and forward again, the pixel is the same
unfoldable pub has_source : Served → Pixel → Bool
has_source s p = comes_back (convert Reverse s) (convert Forward s) p
