use Rattle.std.proofs.lemmas.Bool.{false≢true}
use Rattle.semantics.specs.Subject.{On, Obeys}
use Rattle.book.specs.Tables.{entries}
use Rattle.book.specs.Theory.{constraints_of}
use Rattle.declarations.specs.Bodies.{patterns_meant}
use Rattle.matching.specs.Searches.{pile}
use Rattle.steps.proofs.Standing.{every_more}
use Rattle.refutes.proofs.Counting.{meant_there}
use Rattle.refutes.proofs.refute.check_constraints.Goals as goal

pub loop-index-preserved : goal.loop-index-preserved
loop-index-preserved g c =
    let i = c.loop-index.index in
    every_more (Obeys (On (pile (g.S.Stock.list c.args.stock.now)))) (constraints_of c.args.book.now) i (patterns_meant c.constraint-item.result)
    (meant_there patterns_meant (entries c.args.book.now.constraints) c.all_constraints-constraint-items.result.now i c.constraint-item.result c.all_constraints-constraint-items.ensures c.loop-index-test.true c.constraint-item.is) c.loop-index.invariant (λ h. false≢true (c.if-has_match.ensures.1 h))
