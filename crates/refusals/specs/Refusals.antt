-- The number and the two figures of each refusal, 0 where it has none.
use Rattle.std.specs.Prelude.{ℕ, ◌≡◌, List, ◌++◌, codes, decimal}
use Rattle.refusals.specs.declared.refusal.Refusal.{Refusal}
use Rattle.refusals.specs.declared.refusal.Refusal.TheVariants.{ArityOutOfRange, NoPredicateLeft, UndeclaredPredicate, WrongNumberOfTerms, TermNotAllowed, NoGuard, WrongNumberOfPatterns, TableFull, CheckOpen, ShelfFull, NoSuchNumber, PlacePastPile, AtomDoesNotFit, SideAtomMissing, OverlayFull, WrongNumberOfPlaces, RuleNotSatisfied, ConstraintMatches, QueryMatches, PileTooLarge, AlreadyOpen, ForeignSlip, UnfitShelf, BrokenFrame, BrokenLine}

abbrev pub number_of : Refusal → ℕ
number_of (ArityOutOfRange arity) = 1
number_of NoPredicateLeft = 2
number_of (UndeclaredPredicate atom predicate) = 3
number_of (WrongNumberOfTerms atom terms) = 4
number_of (TermNotAllowed atom term) = 5
number_of NoGuard = 6
number_of (WrongNumberOfPatterns patterns) = 7
number_of TableFull = 8
number_of CheckOpen = 9
number_of ShelfFull = 10
number_of (NoSuchNumber number) = 11
number_of (PlacePastPile pattern place) = 12
number_of (AtomDoesNotFit pattern place) = 13
number_of (SideAtomMissing pattern) = 14
number_of OverlayFull = 15
number_of (WrongNumberOfPlaces places) = 16
number_of (RuleNotSatisfied rule place) = 17
number_of (ConstraintMatches constraint) = 18
number_of (QueryMatches query) = 19
number_of (PileTooLarge size) = 20
number_of AlreadyOpen = 21
number_of ForeignSlip = 22
number_of (UnfitShelf place) = 23
number_of BrokenFrame = 24
number_of BrokenLine = 25

abbrev pub first_figure : Refusal → ℕ
first_figure (ArityOutOfRange arity) = arity
first_figure NoPredicateLeft = 0
first_figure (UndeclaredPredicate atom predicate) = atom
first_figure (WrongNumberOfTerms atom terms) = atom
first_figure (TermNotAllowed atom term) = atom
first_figure NoGuard = 0
first_figure (WrongNumberOfPatterns patterns) = patterns
first_figure TableFull = 0
first_figure CheckOpen = 0
first_figure ShelfFull = 0
first_figure (NoSuchNumber number) = number
first_figure (PlacePastPile pattern place) = pattern
first_figure (AtomDoesNotFit pattern place) = pattern
first_figure (SideAtomMissing pattern) = pattern
first_figure OverlayFull = 0
first_figure (WrongNumberOfPlaces places) = places
first_figure (RuleNotSatisfied rule place) = rule
first_figure (ConstraintMatches constraint) = constraint
first_figure (QueryMatches query) = query
first_figure (PileTooLarge size) = size
first_figure AlreadyOpen = 0
first_figure ForeignSlip = 0
first_figure (UnfitShelf place) = place
first_figure BrokenFrame = 0
first_figure BrokenLine = 0

abbrev pub second_figure : Refusal → ℕ
second_figure (ArityOutOfRange arity) = 0
second_figure NoPredicateLeft = 0
second_figure (UndeclaredPredicate atom predicate) = predicate
second_figure (WrongNumberOfTerms atom terms) = terms
second_figure (TermNotAllowed atom term) = term
second_figure NoGuard = 0
second_figure (WrongNumberOfPatterns patterns) = 0
second_figure TableFull = 0
second_figure CheckOpen = 0
second_figure ShelfFull = 0
second_figure (NoSuchNumber number) = 0
second_figure (PlacePastPile pattern place) = place
second_figure (AtomDoesNotFit pattern place) = place
second_figure (SideAtomMissing pattern) = 0
second_figure OverlayFull = 0
second_figure (WrongNumberOfPlaces places) = 0
second_figure (RuleNotSatisfied rule place) = place
second_figure (ConstraintMatches constraint) = 0
second_figure (QueryMatches query) = 0
second_figure (PileTooLarge size) = 0
second_figure AlreadyOpen = 0
second_figure ForeignSlip = 0
second_figure (UnfitShelf place) = 0
second_figure BrokenFrame = 0
second_figure BrokenLine = 0

-- it is refusal n, with the figures x and y
abbrev pub Is : Refusal → ℕ → ℕ → ℕ → Type 0
Is e n x y = (number_of e ≡ n) × (first_figure e ≡ x) × (second_figure e ≡ y)

-- how it is shown
abbrev pub refusal_shown : Refusal → List ℕ
refusal_shown r = codes "refused " ++ (decimal (number_of r) ++ (codes " " ++ (decimal (first_figure r) ++ (codes " " ++ decimal (second_figure r)))))
