-- The editions of H.273 by their numbers: 1 the text of 2021, 2 the draft of the third edition, 3 the third edition as it was published.
use Rattle.std.specs.Prelude.{List, [], ◌∷◌, ℕ, get_or, Option, Some, None}
use Rattle.codes.specs.declared.edition.Edition.{Edition}
use Rattle.codes.specs.declared.edition.Edition.TheVariants.{Of2021, Draft, Published}

-- from number 0 on, in their order
abbrev pub editions : List (Option Edition)
editions =
    None  -- 0
    ∷ Some Of2021  -- 1
    ∷ Some Draft  -- 2
    ∷ Some Published  -- 3
    ∷ []

-- every number after them is none
abbrev pub edition_of : ℕ → Option Edition
edition_of n = get_or editions n None
