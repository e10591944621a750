use Rattle.std.proofs.Common.{rules}
use Rattle.fitting.specs.Bindings.{bound}
use Rattle.fitting.proofs.Slots.{terms_missing}
use Rattle.fitting.proofs.fit.+fit_slots.Goals as goal

pub returns-in-len1-up-empty : goal.returns-in-len1-up-empty
returns-in-len1-up-empty t c = terms_missing (bound c.args.binding) c.args.slots.now c.args.terms.now (search rules) (search rules)
