-- What a checker has met.
use Rattle.std.specs.Prelude.{◌≡◌, ℕ, List, [], ◌∷◌, ◌++◌, Ok, Err}
use Rattle.semantics.specs.Subject.{Atom}
use Rattle.book.specs.declared.book.Book.{Book}
use Rattle.shelves.specs.declared.taken.Taken.TheVariants.{Already, At}
use Rattle.calls.specs.declared.answer.Check.TheVariants.{Derivation, Model}
use Rattle.calls.specs.declared.event.Event.{Event}
use Rattle.calls.specs.declared.event.Event.TheVariants.{Lodge, OpenDerivation, OpenModel, Step, Add, Claim, Clash, Refute, StrikeDerivation, StrikeModel, NoSlip}
use Rattle.protocol.specs.States.{State, Fresh, raw_meant}
use Rattle.protocol.specs.Calls.{Lodged, Opened, Stepped, Added, Claimed, Clashed, Refuted, StruckDerivation, StruckModel}

-- one call with this answer takes the checker from s to t
abbrev pub Did : State → Event → State → Type 0
Did s (Lodge w r) t = Lodged s w r t
Did s (OpenDerivation q r) t = Opened Derivation s q r t
Did s (OpenModel q r) t = Opened Model s q r t
Did s (Step n k p r) t = Stepped s n k p r t
Did s (Add n w r) t = Added s n w r t
Did s (Claim n p r) t = Claimed s n p r t
Did s (Clash n c p r) t = Clashed s n c p r t
Did s (Refute n r) t = Refuted s n r t
Did s (StrikeDerivation n r) t = StruckDerivation s n r t
Did s (StrikeModel n r) t = StruckModel s n r t
Did s NoSlip t = t ≡ s

-- these calls, in this order and with these answers, take it from s to t
abbrev pub Ran : State → List Event → State → Type 0
Ran s [] t = t ≡ s
Ran s (e ∷ es) t = (m : State) × Did s e m × Ran m es t

-- these calls are all that a checker has met since it was made of the book and the number on a shelf with that list
pub record Met (book : Book) (number : ℕ) (start : List Atom) (es : List Event) (s : State) : Type 0 where
  pub first : State
  pub fresh : Fresh first
  pub its_book : first.book ≡ book
  pub its_number : first.number ≡ number
  pub its_facts : first.facts ≡ start
  pub ran : Ran first es s

-- the facts that a call brings: a fact whose lodging answered its place; "already" brings nothing
abbrev pub with_brought : List Atom → Event → List Atom
with_brought facts (Lodge w (Ok (At place))) = facts ++ raw_meant w ∷ []
with_brought facts (Lodge w (Ok Already)) = facts
with_brought facts (Lodge w (Err e)) = facts
with_brought facts (OpenDerivation q r) = facts
with_brought facts (OpenModel q r) = facts
with_brought facts (Step n k p r) = facts
with_brought facts (Add n w r) = facts
with_brought facts (Claim n p r) = facts
with_brought facts (Clash n c p r) = facts
with_brought facts (Refute n r) = facts
with_brought facts (StrikeDerivation n r) = facts
with_brought facts (StrikeModel n r) = facts
with_brought facts NoSlip = facts

-- the facts held after these calls
abbrev pub held : List Atom → List Event → List Atom
held facts [] = facts
held facts (e ∷ es) = held (with_brought facts e) es
