-- A checker as the plain things that its calls speak of, and what calls answer and leave besides.
use Rattle.std.specs.Prelude.{◌≡◌, ℕ, List, length, Ok, Err, Result, ◌≢◌, None}
use Rattle.atoms.specs.declared.atom.Atom.{Atom}
use Rattle.terms.specs.declared.term.Term.{Term}
use Rattle.book.specs.declared.book.Book.{Book}
use Rattle.matching.specs.Searches.{pile}
use Rattle.overlays.specs.Stacked.{stacked}
use Rattle.semantics.specs.Subject as subject
use Rattle.semantics.specs.Subject.{Candidate}
use Rattle.calls.specs.declared.answer.Verdict.{Verdict}
use Rattle.calls.specs.declared.event.Event.{Event}
use Rattle.protocol.specs.Law.{Truth}
use Rattle.protocol.specs.Runs.{Met, held}
use Rattle.protocol.specs.States.{State}
use Rattle.refusals.specs.declared.refusal.Refusal.{Refusal}
use Rattle.checker.specs.declared.checker.Checker.{Checker}
use Rattle.checker.specs.declared.slip.Returned.{Returned}

-- what a call leaves besides: the shelf below as it was, and the whole checker where it is refused
abbrev pub Left : {S T E : Type 0} → Checker S → Result T E → Checker S → Type 0
Left c (Ok x) d = d.pile.below ≡ c.pile.below
Left c (Err e) d = d ≡ c

-- what a lodging leaves besides: all but the shelf as it was, and the whole checker where it is refused
abbrev pub LodgeLeft : {S T E : Type 0} → Checker S → Result T E → Checker S → Type 0
LodgeLeft c (Ok x) d = d.pile.own ≡ c.pile.own
LodgeLeft c (Err e) d = d ≡ c

-- the book and the shelf of a checker with no check open; else the checker as it was
abbrev pub Ended : {S : Type 0} → Checker S → Result (Book × S) (Checker S) → Type 0
Ended c (Ok x) = (c.check ≡ None) × (x.0 ≡ c.book) × (x.1 ≡ c.pile.below)
Ended c (Err d) = (c.check ≢ None) × (d ≡ c)

-- an answer without the slip that it hands back
abbrev pub plain : {T L : Type 0} → Result T (Returned L) → Result T Refusal
plain (Ok v) = Ok v
plain (Err e) = Err e.refusal

-- a refused call hands back the slip that it was given
abbrev pub Handed : {T L : Type 0} → L → Result T (Returned L) → Type 0
Handed slip (Ok v) = Unit {0}
Handed slip (Err e) = e.slip ≡ slip

-- where the checker has met these calls, the verdict that it gives is true of the facts then held
abbrev pub TrueAfter : Candidate → State → Result Verdict Refusal → Type 0
TrueAfter m s (Ok v) = (book : Book) (number : ℕ) (start : List subject.Atom) (es : List Event) → Met book number start es s → Truth m book (held start es) v
TrueAfter m s (Err e) = Unit {0}

-- the verdict is true of the facts on the shelf, whatever went before
abbrev pub TrueNow : Candidate → State → Result Verdict Refusal → Type 0
TrueNow m s (Ok v) = Truth m s.book s.facts v
TrueNow m s (Err e) = Unit {0}

-- the answer of an opening without its slip
abbrev pub bare : {T E : Type 0} → Result T E → Result (Unit {0}) E
bare (Ok slip) = Ok tt
bare (Err e) = Err e

module _ {S : Type 0} (list : S → List (Atom Term)) (free : S → ℕ) where
  abbrev pub view : Checker S → State
  view c = record { book = c.book; number = c.number; facts = pile (list c.pile.below); free = free c.pile.below; pile = pile (stacked list c.pile); added = length c.pile.own.items; nulls = c.nulls; check = c.check }
