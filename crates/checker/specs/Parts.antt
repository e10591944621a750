-- What the parts of calls answer and leave.
use Rattle.std.specs.Prelude.{◌≡◌, ℕ, ◌+◌, ◌<◌, ◌≤◌, List, length, Some, None, Ok, Err, Result}
use Rattle.semantics.specs.Subject as subject
use Rattle.semantics.specs.Subject.{Pattern, On, numbered}
use Rattle.terms.specs.declared.term.Term.{Term}
use Rattle.atoms.specs.Meaning.{atom_meant}
use Rattle.atoms.specs.declared.atom.Atom.{Atom}
use Rattle.reading.specs.Written.{constant_written, term_written}
use Rattle.reading.specs.declared.raw.RawAtom.{RawAtom}
use Rattle.refusals.specs.Refusals.{Is}
use Rattle.refusals.specs.declared.refusal.Refusal.{Refusal}
use Rattle.declarations.specs.Checked.{AtomRefused}
use Rattle.shelves.specs.declared.taken.Full as room
use Rattle.shelves.specs.declared.taken.Taken.{Taken}
use Rattle.shelves.specs.declared.taken.Taken.TheVariants.{Already, At}
use Rattle.book.specs.Theory.{predicates_of, rules_of, constraints_of}
use Rattle.calls.specs.declared.answer.Check.{Check}
use Rattle.calls.specs.declared.answer.Verdict.{Verdict}
use Rattle.calls.specs.declared.answer.Verdict.TheVariants.{Entailed, Inconsistent, NotEntailed}
use Rattle.calls.specs.Named.{Places}
use Rattle.chase.specs.Refuting.{Refutes}
use Rattle.chase.specs.Unfit.{FirstUnfit}
use Rattle.steps.specs.declared.step.Head.{Head}
use Rattle.protocol.specs.States.{State, closed, with_fact, with_atom, Full, Own, Foreign, OwnDerivation, OwnModel, raw_meant}
use Rattle.checker.specs.Shapes.{Known}
use Rattle.checker.specs.declared.slip.Returned.{Returned}
use Rattle.protocol.specs.Calls.{Idle, Asks, WrittenFact, WrittenAtom, NotLodged, NotOpened, Yields, NotStepped, NotAdded, Shown, Unshown, NotClaimed, NotClashed, NotAccepted}

-- the fact that is written, as a ground atom; or 3, 4, 5
abbrev pub ReadsFact : State → RawAtom → Result (Atom Term) Refusal → Type 0
ReadsFact s w (Ok a) = WrittenFact s w × (atom_meant a ≡ raw_meant w)
ReadsFact s w (Err e) = AtomRefused constant_written (predicates_of s.book) 0 w e

-- the ground atom that is written; or 3, 4, 5
abbrev pub ReadsAtom : State → RawAtom → Result (Atom Term) Refusal → Type 0
ReadsAtom s w (Ok a) = WrittenAtom s w × (atom_meant a ≡ raw_meant w)
ReadsAtom s w (Err e) = AtomRefused term_written (predicates_of s.book) 0 w e

-- the fact that is written, where it may be lodged; or 9, 3, 4, 5
abbrev pub LodgeJudged : State → RawAtom → Result (Atom Term) Refusal → Type 0
LodgeJudged s w (Ok a) = Idle s × WrittenFact s w × (atom_meant a ≡ raw_meant w)
LodgeJudged s w (Err e) = NotLodged s w e

-- the atom is put on the shelf
abbrev pub FactPut : State → subject.Atom → Result Taken room.Full → State → Type 0
FactPut s a (Ok Already) t = On s.facts a × (t ≡ s)
FactPut s a (Ok (At p)) t = (On s.facts a → ⊥) × (0 < s.free) × (p ≡ length s.facts) × (t ≡ with_fact s a)
FactPut s a (Err full) t = (On s.facts a → ⊥) × (s.free ≡ 0) × (t ≡ s)

-- the atom is put into the overlay, and n nulls are issued then if it is new
abbrev pub AtomPut : State → subject.Atom → ℕ → Result Taken room.Full → State → Type 0
AtomPut s a n (Ok Already) t = On s.pile a × (t ≡ s)
AtomPut s a n (Ok (At p)) t = (On s.pile a → ⊥) × (Full s → ⊥) × (p ≡ length s.pile) × (t ≡ with_atom s a n)
AtomPut s a n (Err full) t = (On s.pile a → ⊥) × Full s × (t ≡ s)

-- the query of the open check of this kind, if the slip's number n is the checker's; or 22
abbrev pub Owns : (ℕ → Check) → State → ℕ → Result ℕ Refusal → Type 0
Owns kind s n (Ok q) = Own kind s n q × Known s.book q
Owns kind s n (Err e) = Foreign kind s n × Is e 22 0 0

-- the head of the step, where it may be made; or 22, 11, 12, 13, 14
abbrev pub StepJudged : State → ℕ → ℕ → ℕ → Result Head Refusal → Type 0
StepJudged s n k p (Ok h) = ((q : ℕ) × OwnDerivation s n q) × Yields s k p (atom_meant h.atom) h.nulls × (h.nulls ≤ s.nulls + 4)
StepJudged s n k p (Err e) = NotStepped s n k p e

-- the ground atom that is written, where it may be added; or 22, 3, 4, 5
abbrev pub AddJudged : State → ℕ → RawAtom → Result (Atom Term) Refusal → Type 0
AddJudged s n w (Ok a) = ((q : ℕ) × OwnModel s n q) × WrittenAtom s w × (atom_meant a ≡ raw_meant w)
AddJudged s n w (Err e) = NotAdded s n w e

-- the places show the patterns; or 16, 12, 13
abbrev pub ShowJudged : List subject.Atom → List Pattern → Places → Result (Unit {0}) Refusal → Type 0
ShowJudged pile ps p (Ok u) = Shown pile ps p
ShowJudged pile ps p (Err e) = Unshown pile ps p e

-- the verdict of the claim; or 22, 16, 12, 13
abbrev pub ClaimJudged : State → ℕ → Places → Result Verdict Refusal → Type 0
ClaimJudged s n p (Ok v) = (q : ℕ) × (ps : List Pattern) × OwnDerivation s n q × Asks s q ps × Shown s.pile ps p × (v ≡ Entailed q s.added s.nulls)
ClaimJudged s n p (Err e) = NotClaimed s n p e

-- the verdict of the clash; or 22, 11, 16, 12, 13
abbrev pub ClashJudged : State → ℕ → ℕ → Places → Result Verdict Refusal → Type 0
ClashJudged s n c p (Ok v) = (q : ℕ) × (ps : List Pattern) × OwnDerivation s n q × (numbered (constraints_of s.book) c ≡ Some ps) × Shown s.pile ps p × (v ≡ Inconsistent c s.added s.nulls)
ClashJudged s n c p (Err e) = NotClashed s n c p e

-- the verdict of the refutal; or 22, 20, 17, 18, 19
abbrev pub RefuteJudged : State → ℕ → Result Verdict Refusal → Type 0
RefuteJudged s n (Ok v) = (q : ℕ) × (ps : List Pattern) × OwnModel s n q × Asks s q ps × (length s.pile ≤ 128) × Refutes s.pile (rules_of s.book) (constraints_of s.book) q ps × (v ≡ NotEntailed q (length s.pile))
RefuteJudged s n (Err e) = NotAccepted s n e

-- a check of the query may be opened; or 21, 11, 23
abbrev pub OpenJudged : State → ℕ → Result (Unit {0}) Refusal → Type 0
OpenJudged s q (Ok u) = Idle s × ((ps : List Pattern) × Asks s q ps) × FirstUnfit (predicates_of s.book) s.facts None × Known s.book q
OpenJudged s q (Err e) = NotOpened s q e

-- a checker in state s ends the check with the verdict that was judged, and the slip is spent; a refusal hands it back
abbrev pub Closed : State → ℕ → Result Verdict Refusal → Result Verdict (Returned ℕ) → State → Type 0
Closed s slip (Ok v) r t = (r ≡ Ok v) × (t ≡ closed s)
Closed s slip (Err e) r t = (r ≡ Err (record { refusal = e; slip = slip })) × (t ≡ s)
