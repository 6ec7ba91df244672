-- `convert::back::difference` meets its contract: two samples with no bit between them are the same.
use Rattle.convert.proofs.BackLaws.{same_by_bits}
use Rattle.convert.proofs.back.difference.Goals as goal

pub returns : goal.returns
returns c e = let a = c.args in same_by_bits a.p a.q e
