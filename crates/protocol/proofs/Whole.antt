-- The law over runs holds of whatever a checker has met.
use Rattle.std.proofs.Common.{◌≡◌, ℕ, true, List}
use Rattle.semantics.specs.Subject.{Atom, Candidate}
use Rattle.book.specs.declared.book.Book.{Book}
use Rattle.calls.specs.declared.event.Event.{Event}
use Rattle.protocol.specs.States.{State}
use Rattle.protocol.specs.Runs.{Met}
use Rattle.protocol.specs.Law.{Law, TrueOfDecidable}
use Rattle.protocol.proofs.Verdicts.{verdicts}
use Rattle.protocol.proofs.Orders.{never_after, lodged_between}
use Rattle.protocol.proofs.Chased.{chased, steps, claims}

pub law : (m : Candidate) (book : Book) (number : ℕ) (start : List Atom) (es : List Event) (s : State) → Met book number start es s → Law m book number start es
law m book number start es s met = record {
  verdicts = verdicts m book number start es s met;
  never_after = never_after m book number start es s met;
  lodged_between = lodged_between m book number start es s met;
  chased = chased book number start es s met;
  steps = steps book number start es s met;
  claims = claims book number start es s met;
}

-- each verdict is true of all candidates that a test decides
pub decidable : (book : Book) (number : ℕ) (start : List Atom) (es : List Event) (s : State) → Met book number start es s → TrueOfDecidable book start es
decidable book number start es s met = λ m. verdicts (λ a. m a ≡ true) book number start es s met
