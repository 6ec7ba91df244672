-- Three levels of narrow range at 8 bits, by computation.
use mathlib.Core.Path.{◌≡◌, refl}
use mathlib.Core.Bool.{false}
use mathlib.Core.List.{List, [], ◌∷◌}
use lib.IntN.{pos, negsuc}
use lib.Ieee.{Float, fin, round, of_int, div}
use Rattle.sample.specs.Depth.{luma_depth, chroma_depth}
use Rattle.meter.specs.Level.{level_of}
use Rattle.meter.specs.declared.SampleKind.TheVariants.{Y, Cb}

abbrev readings : List Float
readings =
    level_of Y false (luma_depth 8) (chroma_depth 8) 235
    ∷ level_of Y false (luma_depth 8) (chroma_depth 8) 16
    ∷ level_of Cb false (luma_depth 8) (chroma_depth 8) 240
    ∷ []

-- 1.0, 0.0 and 0.5
abbrev floats : List Float
floats = fin false 1 (pos 0) ∷ fin false 0 (pos 0) ∷ fin false 1 (negsuc 0) ∷ []

pub edges : readings ≡ floats
unfolding level_of div of_int round
edges = refl
