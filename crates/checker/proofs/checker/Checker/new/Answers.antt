use Rattle.std.proofs.Common.{refl}
use Rattle.protocol.proofs.Keeping.{met_new}
use Rattle.checker.proofs.checker.Checker.new.Goals as goal

pub returns-clause-met : goal.returns-clause-met
returns-clause-met g c = let o = c.new.ensures in rw (o.list, o.below, o.empty) (met_new _ refl)
