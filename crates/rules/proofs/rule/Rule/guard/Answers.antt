use Rattle.semantics.proofs.Guarding.{guards}
use Rattle.declarations.specs.Bodies.{patterns_meant}
use Rattle.rules.proofs.rule.Rule.guard.Goals as goal

pub returns-clause-guards : goal.returns-clause-guards
returns-clause-guards c =
    let r = c.args.self.now in
    rw c.index.ensures (guards (patterns_meant r.body) r.guard r.guarded)
