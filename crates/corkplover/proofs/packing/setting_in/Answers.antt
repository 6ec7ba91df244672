-- `corkplover::packing::setting_in` meets its contract, field by field.
use Rattle.corkplover.specs.Packing.{setting_in}
use borrow.Author.Rules.{rules}
use Rattle.corkplover.proofs.packing.setting_in.Goals as goal

pub returns : goal.returns
unfolding setting_in
returns c = search rules
