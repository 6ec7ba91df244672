-- No level is a NaN, so their bits may be taken.
use Rattle.std.proofs.Common.{arith, sym, ◌∙◌}
use Rattle.corkplover.proofs.LevelLaws.{levels_are_numbers}
use Rattle.ask.proofs.ask_levels.Goals as goal

pub float_to_bits-result : goal.float_to_bits-result
float_to_bits-result c =
    (levels_are_numbers _ _ _ (omega arith) (omega arith) (omega arith) (sym c.meter_pixel.ensures ∙ c.in_ok-levels.was)).0

pub float_to_bits-result-2 : goal.float_to_bits-result-2
float_to_bits-result-2 c =
    (levels_are_numbers _ _ _ (omega arith) (omega arith) (omega arith) (sym c.meter_pixel.ensures ∙ c.in_ok-levels.was)).1.0

pub float_to_bits-result-3 : goal.float_to_bits-result-3
float_to_bits-result-3 c =
    (levels_are_numbers _ _ _ (omega arith) (omega arith) (omega arith) (sym c.meter_pixel.ensures ∙ c.in_ok-levels.was)).1.1
