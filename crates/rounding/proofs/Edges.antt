-- The three operations where slips were seen, under one claim: -1 and -3 halved (toward zero they would be 0 and -1); halves of
-- both signs rounded away from zero (upward, -1/2 would be 0 and -3/2 would be -1); 256 brought into 8 bits (masked it would be 0).
use mathlib.Core.Path.{◌≡◌, refl}
use mathlib.Core.List.{List, [], ◌∷◌}
use lib.IntN.{ℤ, pos, negsuc}
use Rattle.rounding.specs.Rounding.{half, round, Clip, clip}

abbrev computed : List ℤ
computed =
    half (negsuc 0)
    ∷ half (negsuc 2)
    ∷ round (pos 1) 2
    ∷ round (negsuc 0) 2
    ∷ round (negsuc 2) 2
    ∷ pos (Clip 8 (pos 256))
    ∷ []

abbrev expected : List ℤ
expected = negsuc 0 ∷ negsuc 1 ∷ pos 1 ∷ negsuc 0 ∷ negsuc 1 ∷ pos 255 ∷ []

pub edges : computed ≡ expected
unfolding half round clip
edges = refl
