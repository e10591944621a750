use Rattle.std.proofs.Common.{take}
use Rattle.std.specs.List.{AllByRecursion}
use Rattle.semantics.specs.Subject.{On, Holds}
use Rattle.fitting.specs.Bindings.{bound}
use Rattle.matching.specs.Searches.{pile, patterns_meant}
use Rattle.steps.proofs.side.first_missing.Given as goal

abbrev pub invariant-loop-index : goal.invariant-loop-index
invariant-loop-index g l = AllByRecursion (Holds (On (pile (g.S.Stock.list l.stock))) (bound l.binding)) (take l.index (patterns_meant l.patterns))
