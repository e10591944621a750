use Rattle.book.specs.Theory.{predicates_of}
use Rattle.checker.proofs.Written.{fact_read}
use Rattle.checker.proofs.checker.Checker.read_fact.Goals as goal

pub returns : goal.returns
returns g c =
    let a = c.in_ok-fact.fact in
    let t = c.in_ok-fact.ensures in
    ((a, t), fact_read (predicates_of c.args.self.now.book) c.args.fact.now a c.ground.result t c.ground.ensures.predicate c.ground.ensures.terms)
