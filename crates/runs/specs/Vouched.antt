-- What is vouched for.
use Rattle.std.specs.Prelude.{ℕ, List, [], ◌∷◌, ◌++◌}
use Rattle.semantics.specs.Subject.{Atom, Candidate}
use Rattle.book.specs.declared.book.Book.{Book}
use Rattle.calls.specs.declared.event.Event.{Event}
use Rattle.protocol.specs.Law.{Law, TrueOfDecidable}
use Rattle.protocol.specs.Runs.{Did, Met}
use Rattle.protocol.specs.States.{State, Fresh}

-- the law holds of every history that a checker in state s has met; a checker just made has met nothing, and a call that did
-- what its relation says extends what was met
pub record Vouched (m : Candidate) (s : State) : Type 0 where
  pub law : (book : Book) (number : ℕ) (facts : List Atom) (es : List Event) → Met book number facts es s → Law m book number facts es
  pub decidable : (book : Book) (number : ℕ) (facts : List Atom) (es : List Event) → Met book number facts es s → TrueOfDecidable book facts es
  pub made : Fresh s → Met s.book s.number s.facts [] s
  pub extended : (book : Book) (number : ℕ) (facts : List Atom) (es : List Event) (e : Event) (t : State) → Met book number facts es s → Did s e t → Met book number facts (es ++ e ∷ []) t
