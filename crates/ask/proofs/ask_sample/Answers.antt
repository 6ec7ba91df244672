-- A level is no NaN, so its bits may be taken.
use Rattle.std.proofs.Common.{arith, sym, ◌∙◌}
use Rattle.corkplover.proofs.LevelLaws.{reading_is_number}
use Rattle.ask.proofs.ask_sample.Goals as goal

pub float_to_bits-result : goal.float_to_bits-result
float_to_bits-result c =
    reading_is_number _ _ _ _ (omega arith) (sym c.meter_sample.ensures ∙ c.in_ok-level.was)
