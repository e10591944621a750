use Rattle.std.proofs.Common.{take}
use Rattle.std.specs.List.{AllByRecursion}
use Rattle.semantics.specs.Subject.{On, Obeys}
use Rattle.book.specs.Theory.{constraints_of}
use Rattle.matching.specs.Searches.{pile}
use Rattle.refutes.proofs.refute.check_constraints.Given as goal

abbrev pub invariant-loop-index : goal.invariant-loop-index
invariant-loop-index g l = AllByRecursion (Obeys (On (pile (g.S.Stock.list l.stock)))) (take l.index (constraints_of l.book))
