use Rattle.std.proofs.Common.{ℕ, ◌<◌}
use Rattle.book.specs.Theory.{predicates_of}
use Rattle.matching.specs.Searches.{pile}
use Rattle.openings.specs.Filters.{Marked}
use Rattle.chase.specs.Unfit.{UnfitAt}
use Rattle.openings.proofs.unfit.first_with.Given as goal

abbrev pub invariant-loop-place : goal.invariant-loop-place
invariant-loop-place g l =
    ((k : ℕ) → k < l.place → UnfitAt (predicates_of l.book) (pile (g.S.Stock.list l.stock)) k → ⊥) × Marked l.seen (pile (g.S.Stock.list l.stock)) l.place
