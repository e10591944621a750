use Rattle.std.proofs.Common.{◌≡◌, length, drop}
use Rattle.semantics.specs.Computed.{first_match}
use Rattle.atoms.specs.Meaning.{pattern_meant}
use Rattle.fitting.specs.Bindings.{bound}
use Rattle.matching.specs.Searches.{pile, patterns_meant}
use Rattle.matching.proofs.Rounds.{tried}
use Rattle.matching.proofs.find.+find_from.Given as goal

abbrev pub decreases-find_from : goal.decreases-find_from
decreases-find_from g l = length l.patterns.now

-- what the atoms that are left give is what all of them give
abbrev pub invariant-loop-place : goal.invariant-loop-place
invariant-loop-place g l = tried (pile (g.S.Stock.list l.stock)) (bound l.binding) (pattern_meant l.first) (patterns_meant l.later) (drop l.place (pile (g.S.Stock.list l.stock))) ≡ first_match (pile (g.S.Stock.list l.stock)) (bound l.binding) (patterns_meant l.patterns)
