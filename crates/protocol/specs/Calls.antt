-- What each call answers and leaves: a line for each case, with its number and figures.
use Rattle.std.specs.Prelude.{◌≡◌, ℕ, ◌<◌, ◌≤◌, List, length, Some, None, Ok, Err, Result, ◌≢◌}
use Rattle.semantics.specs.Subject.{Atom, Binding, Rule, Pattern, On, AtPlaces, numbered}
use Rattle.terms.specs.declared.constant.Constant.{Constant}
use Rattle.terms.specs.declared.term.Term.{Term}
use Rattle.atoms.specs.declared.atom.Atom as code
use Rattle.reading.specs.Written.{constant_written, term_written}
use Rattle.reading.specs.declared.raw.RawAtom.{RawAtom}
use Rattle.refusals.specs.Refusals.{Is}
use Rattle.refusals.specs.declared.refusal.Refusal.{Refusal}
use Rattle.declarations.specs.Checked.{Taken as TakenAs, AtomRefused}
use Rattle.matching.specs.Places.{NotPlaced}
use Rattle.book.specs.Theory.{predicates_of, rules_of, constraints_of, queries_of}
use Rattle.chase.specs.Firing.{Fires}
use Rattle.steps.specs.Judged.{Bears}
use Rattle.steps.specs.Stopping.{Stopped}
use Rattle.chase.specs.Unfit.{FirstUnfit}
use Rattle.chase.specs.Refuting.{Refutes, NotRefuted}
use Rattle.calls.specs.Named.{Places, named}
use Rattle.shelves.specs.declared.taken.Taken.{Taken}
use Rattle.shelves.specs.declared.taken.Taken.TheVariants.{Already, At}
use Rattle.calls.specs.declared.answer.Verdict.{Verdict}
use Rattle.calls.specs.declared.answer.Verdict.TheVariants.{Entailed, Inconsistent, NotEntailed}
use Rattle.calls.specs.declared.answer.Check.{Check}
use Rattle.calls.specs.declared.answer.Check.TheVariants.{Derivation, Model}
use Rattle.protocol.specs.States.{State, opened, closed, with_fact, with_atom, Full, Own, Foreign, OwnDerivation, OwnModel, ForeignDerivation, ForeignModel, raw_meant}

-- no check is open
abbrev pub Idle : State → Type 0
Idle s = s.check ≡ None

-- query q of the book
abbrev pub Asks : State → ℕ → List Pattern → Type 0
Asks s q ps = numbered (queries_of s.book) q ≡ Some ps

-- what is written is a fact of the book
abbrev pub WrittenFact : State → RawAtom → Type 0
WrittenFact s w = (a : code.Atom Constant) × TakenAs constant_written (predicates_of s.book) w a

-- what is written is a ground atom over the book's predicates
abbrev pub WrittenAtom : State → RawAtom → Type 0
WrittenAtom s w = (a : code.Atom Term) × TakenAs term_written (predicates_of s.book) w a

-- Lodge: 9, 3, 4, 5, 10.
pub data NotLodged (s : State) (w : RawAtom) (e : Refusal) : Type 0 where
  -- 9: a check is open
  busy : Is e 9 0 0 → (Idle s → ⊥) → NotLodged s w e
  -- 3, 4, 5: what is written is no fact of the book
  unfit : Idle s → AtomRefused constant_written (predicates_of s.book) 0 w e → NotLodged s w e
  -- 10: the fact is new, and the shelf takes no more
  full : Is e 10 0 0 → Idle s → WrittenFact s w → (On s.facts (raw_meant w) → ⊥) → s.free ≡ 0 → NotLodged s w e

abbrev pub Lodged : State → RawAtom → Result Taken Refusal → State → Type 0
Lodged s w (Ok Already) t = Idle s × WrittenFact s w × On s.facts (raw_meant w) × (t ≡ s)
Lodged s w (Ok (At place)) t = Idle s × WrittenFact s w × (On s.facts (raw_meant w) → ⊥) × (0 < s.free) × (place ≡ length s.facts) × (t ≡ with_fact s (raw_meant w))
Lodged s w (Err e) t = NotLodged s w e × (t ≡ s)

-- Open: 21, 11, 23.
pub data NotOpened (s : State) (q : ℕ) (e : Refusal) : Type 0 where
  -- 21: a check is open
  busy_open : Is e 21 0 0 → (Idle s → ⊥) → NotOpened s q e
  -- 11 (number): there is no such query
  no_query : Is e 11 q 0 → Idle s → numbered (queries_of s.book) q ≡ None → NotOpened s q e
  -- 23 (place): the lowest place whose atom is no fact of the book or equals an earlier one
  unfit_shelf : (place : ℕ) (ps : List Pattern) → Is e 23 place 0 → Idle s → Asks s q ps → FirstUnfit (predicates_of s.book) s.facts (Some place) → NotOpened s q e

abbrev pub Opened : (ℕ → Check) → State → ℕ → Result (Unit {0}) Refusal → State → Type 0
Opened kind s q (Ok u) t = Idle s × ((ps : List Pattern) × Asks s q ps) × FirstUnfit (predicates_of s.book) s.facts None × (t ≡ opened s (kind q))
Opened kind s q (Err e) t = NotOpened s q e × (t ≡ s)

-- rule k may be used at the place, and gives the atom a; n nulls are issued then
pub record Yields (s : State) (k place : ℕ) (a : Atom) (n : ℕ) : Type 0 where
  pub rule : Rule
  pub named_rule : numbered (rules_of s.book) k ≡ Some rule
  pub by : Binding
  pub fires : Fires s.pile rule place by
  pub bears : Bears by s.nulls rule.head a n

-- Step: 22, 11, 12, 13, 14, 15.
pub data NotStepped (s : State) (n k place : ℕ) (e : Refusal) : Type 0 where
  -- 22: the slip is foreign
  foreign_step : Is e 22 0 0 → ForeignDerivation s n → NotStepped s n k place e
  -- 11 (number): there is no such rule
  no_rule : (q : ℕ) → Is e 11 k 0 → OwnDerivation s n q → numbered (rules_of s.book) k ≡ None → NotStepped s n k place e
  -- 12, 13, 14: the rule may not be used at the place
  not_fired : (q : ℕ) (rule : Rule) → OwnDerivation s n q → numbered (rules_of s.book) k ≡ Some rule → Stopped s.pile rule place e → NotStepped s n k place e
  -- 15: the head is new, and the overlay is full
  overfull : (q : ℕ) (a : Atom) (m : ℕ) → Is e 15 0 0 → OwnDerivation s n q → Yields s k place a m → (On s.pile a → ⊥) → Full s → NotStepped s n k place e

abbrev pub Stepped : State → ℕ → ℕ → ℕ → Result Taken Refusal → State → Type 0
Stepped s n k place (Ok Already) t = (q : ℕ) × (a : Atom) × (m : ℕ) × OwnDerivation s n q × Yields s k place a m × On s.pile a × (t ≡ s)
Stepped s n k place (Ok (At p)) t = (q : ℕ) × (a : Atom) × (m : ℕ) × OwnDerivation s n q × Yields s k place a m × (On s.pile a → ⊥) × (Full s → ⊥) × (p ≡ length s.pile) × (t ≡ with_atom s a m)
Stepped s n k place (Err e) t = NotStepped s n k place e × (t ≡ s)

-- Add: 22, 3, 4, 5, 15.
pub data NotAdded (s : State) (n : ℕ) (w : RawAtom) (e : Refusal) : Type 0 where
  -- 22: the slip is foreign
  foreign_add : Is e 22 0 0 → ForeignModel s n → NotAdded s n w e
  -- 3, 4, 5: what is written is no ground atom over the book's predicates
  unfit_atom : (q : ℕ) → OwnModel s n q → AtomRefused term_written (predicates_of s.book) 0 w e → NotAdded s n w e
  -- 15: the atom is new, and the overlay is full
  no_room : (q : ℕ) → Is e 15 0 0 → OwnModel s n q → WrittenAtom s w → (On s.pile (raw_meant w) → ⊥) → Full s → NotAdded s n w e

abbrev pub Added : State → ℕ → RawAtom → Result Taken Refusal → State → Type 0
Added s n w (Ok Already) t = (q : ℕ) × OwnModel s n q × WrittenAtom s w × On s.pile (raw_meant w) × (t ≡ s)
Added s n w (Ok (At p)) t = (q : ℕ) × OwnModel s n q × WrittenAtom s w × (On s.pile (raw_meant w) → ⊥) × (Full s → ⊥) × (p ≡ length s.pile) × (t ≡ with_atom s (raw_meant w) s.nulls)
Added s n w (Err e) t = NotAdded s n w e × (t ≡ s)

-- there is one place for each pattern, and one binding makes each fit the atom at its place
abbrev pub Shown : List Atom → List Pattern → Places → Type 0
Shown pile ps p = (p.count ≡ length ps) × ((b : Binding) × AtPlaces pile b ps (named p))

-- why not
pub data Unshown (pile : List Atom) (ps : List Pattern) (p : Places) (e : Refusal) : Type 0 where
  -- 16 (how many): there is not one place for each pattern
  uneven_places : Is e 16 p.count 0 → (p.count ≢ length ps) → Unshown pile ps p e
  -- 12, 13 (pattern index, place): the least pattern that fails
  unplaced : p.count ≡ length ps → NotPlaced pile ps (named p) e → Unshown pile ps p e

-- Claim: 22, 16, then 12 and 13 place by place.
pub data NotClaimed (s : State) (n : ℕ) (p : Places) (e : Refusal) : Type 0 where
  -- 22: the slip is foreign
  foreign_claim : Is e 22 0 0 → ForeignDerivation s n → NotClaimed s n p e
  -- 16, 12, 13
  unshown_query : (q : ℕ) (ps : List Pattern) → OwnDerivation s n q → Asks s q ps → Unshown s.pile ps p e → NotClaimed s n p e

abbrev pub Claimed : State → ℕ → Places → Result Verdict Refusal → State → Type 0
Claimed s n p (Ok v) t = (q : ℕ) × (ps : List Pattern) × OwnDerivation s n q × Asks s q ps × Shown s.pile ps p × (v ≡ Entailed q s.added s.nulls) × (t ≡ closed s)
Claimed s n p (Err e) t = NotClaimed s n p e × (t ≡ s)

-- Clash: 22, 11, 16, then 12 and 13 place by place.
pub data NotClashed (s : State) (n c : ℕ) (p : Places) (e : Refusal) : Type 0 where
  -- 22: the slip is foreign
  foreign_clash : Is e 22 0 0 → ForeignDerivation s n → NotClashed s n c p e
  -- 11 (number): there is no such constraint
  no_constraint : (q : ℕ) → Is e 11 c 0 → OwnDerivation s n q → numbered (constraints_of s.book) c ≡ None → NotClashed s n c p e
  -- 16, 12, 13
  unshown_constraint : (q : ℕ) (ps : List Pattern) → OwnDerivation s n q → numbered (constraints_of s.book) c ≡ Some ps → Unshown s.pile ps p e → NotClashed s n c p e

abbrev pub Clashed : State → ℕ → ℕ → Places → Result Verdict Refusal → State → Type 0
Clashed s n c p (Ok v) t = (q : ℕ) × (ps : List Pattern) × OwnDerivation s n q × (numbered (constraints_of s.book) c ≡ Some ps) × Shown s.pile ps p × (v ≡ Inconsistent c s.added s.nulls) × (t ≡ closed s)
Clashed s n c p (Err e) t = NotClashed s n c p e × (t ≡ s)

-- Refute: 22, 20, 17, 18, 19.
pub data NotAccepted (s : State) (n : ℕ) (e : Refusal) : Type 0 where
  -- 22: the slip is foreign
  foreign_refute : Is e 22 0 0 → ForeignModel s n → NotAccepted s n e
  -- 20, 17, 18, 19
  not_refuted : (q : ℕ) (ps : List Pattern) → OwnModel s n q → Asks s q ps → NotRefuted s.pile (rules_of s.book) (constraints_of s.book) q ps e → NotAccepted s n e

abbrev pub Refuted : State → ℕ → Result Verdict Refusal → State → Type 0
Refuted s n (Ok v) t = (q : ℕ) × (ps : List Pattern) × OwnModel s n q × Asks s q ps × (length s.pile ≤ 128) × Refutes s.pile (rules_of s.book) (constraints_of s.book) q ps × (v ≡ NotEntailed q (length s.pile)) × (t ≡ closed s)
Refuted s n (Err e) t = NotAccepted s n e × (t ≡ s)

-- Strike: 22.
abbrev pub Struck : (ℕ → Check) → State → ℕ → Result (Unit {0}) Refusal → State → Type 0
Struck kind s n (Ok u) t = ((q : ℕ) × Own kind s n q) × (t ≡ closed s)
Struck kind s n (Err e) t = Foreign kind s n × Is e 22 0 0 × (t ≡ s)

abbrev pub StruckDerivation : State → ℕ → Result (Unit {0}) Refusal → State → Type 0
StruckDerivation = Struck Derivation

abbrev pub StruckModel : State → ℕ → Result (Unit {0}) Refusal → State → Type 0
StruckModel = Struck Model
