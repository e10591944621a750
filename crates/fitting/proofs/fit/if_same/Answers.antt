use Rattle.std.proofs.Common.{rules}
use Rattle.fitting.proofs.Slots.{only_if_same}
use Rattle.fitting.proofs.fit.if_same.Goals as goal

pub returns : goal.returns
returns c = only_if_same c.args.binding c.args.held c.args.term c.same.result c.then_some.result c.same.ensures (search rules)
