use Rattle.std.proofs.Common.{take}
use Rattle.std.specs.List.{AllByRecursion}
use Rattle.chase.specs.Satisfying.{Satisfied}
use Rattle.book.specs.Theory.{rules_of}
use Rattle.matching.specs.Searches.{pile}
use Rattle.refutes.proofs.refute.check_rules.Given as goal

abbrev pub invariant-loop-index : goal.invariant-loop-index
invariant-loop-index g l = AllByRecursion (Satisfied (pile (g.S.Stock.list l.stock))) (take l.index (rules_of l.book))
