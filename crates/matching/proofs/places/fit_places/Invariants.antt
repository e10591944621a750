use Rattle.semantics.proofs.Placing.{Sofar}
use Rattle.fitting.specs.Bindings.{bound}
use Rattle.matching.specs.Searches.{pile, patterns_meant}
use Rattle.matching.proofs.places.fit_places.Given as goal

abbrev pub invariant-loop-index : goal.invariant-loop-index
invariant-loop-index g l = Sofar (pile (g.S.Stock.list l.stock)) (patterns_meant l.patterns) l.places (bound l.binding) l.index
