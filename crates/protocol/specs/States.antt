-- A checker as the plain things that its calls speak of.
use Rattle.std.specs.Prelude.{◌≡◌, ℕ, ◌+◌, ◌-◌, ◌≤◌, ◌⊎◌, List, [], ◌∷◌, ◌++◌, map, length, Some, None, Option}
use Rattle.semantics.specs.Subject.{Atom}
use Rattle.reading.specs.declared.raw.RawAtom.{RawAtom}
use Rattle.reading.specs.declared.raw.RawTerm.{RawTerm}
use Rattle.reading.specs.declared.raw.RawTerm.TheVariants as raw
use Rattle.book.specs.declared.book.Book.{Book}
use Rattle.calls.specs.declared.answer.Check.{Check}
use Rattle.calls.specs.declared.answer.Check.TheVariants.{Derivation, Model}

pub record State : Type 0 where
  pub book : Book
  -- what its owner chose; its slips bear it
  pub number : ℕ
  -- what the shelf holds, and how many more it takes
  pub facts : List Atom
  pub free : ℕ
  -- the overlay's list: the facts, then the atoms that the open check added
  pub pile : List Atom
  pub added : ℕ
  -- how many nulls the open check has issued
  pub nulls : ℕ
  -- the check that is open, if one is
  pub check : Option Check

-- the same with an empty overlay, no null issued, and this check open, or none
abbrev pub anew : State → Option Check → State
anew s o = record { book = s.book; number = s.number; facts = s.facts; free = s.free; pile = s.facts; added = 0; nulls = 0; check = o }

abbrev pub opened : State → Check → State
opened s k = anew s (Some k)

abbrev pub closed : State → State
closed s = anew s None

-- a checker just made
abbrev pub Fresh : State → Type 0
Fresh s = s ≡ closed s

-- one more fact on the shelf
abbrev pub with_fact : State → Atom → State
with_fact s a = record { book = s.book; number = s.number; facts = s.facts ++ a ∷ []; free = s.free - 1; pile = s.facts ++ a ∷ []; added = s.added; nulls = s.nulls; check = s.check }

-- one more atom in the overlay, and n nulls issued
abbrev pub with_atom : State → Atom → ℕ → State
with_atom s a n = record { book = s.book; number = s.number; facts = s.facts; free = s.free; pile = s.pile ++ a ∷ []; added = s.added + 1; nulls = n; check = s.check }

-- the overlay takes no new atom: 256 were added, or 1,000,000 are there
abbrev pub Full : State → Type 0
Full s = (256 ≤ s.added) ⊎ (1000000 ≤ length s.pile)

-- a check of this kind of query q is open, and the slip's number n is the checker's
abbrev pub Own : (ℕ → Check) → State → ℕ → ℕ → Type 0
Own kind s n q = (s.check ≡ Some (kind q)) × (n ≡ s.number)

abbrev pub OwnDerivation : State → ℕ → ℕ → Type 0
OwnDerivation = Own Derivation

abbrev pub OwnModel : State → ℕ → ℕ → Type 0
OwnModel = Own Model

-- a slip of this kind is foreign: it bears another number, or no check of its kind is open
abbrev pub Foreign : (ℕ → Check) → State → ℕ → Type 0
Foreign kind s n = (q : ℕ) → Own kind s n q → ⊥

abbrev pub ForeignDerivation : State → ℕ → Type 0
ForeignDerivation = Foreign Derivation

abbrev pub ForeignModel : State → ℕ → Type 0
ForeignModel = Foreign Model

-- what a term means as it is written: a constant its number, null k 1,000,000 + k; a variable means nothing
abbrev pub raw_number : RawTerm → ℕ
raw_number (raw.Constant n) = n
raw_number (raw.Null k) = 1000000 + k
raw_number (raw.Variable v) = 0

-- the atom that is written
abbrev pub raw_meant : RawAtom → Atom
raw_meant w = record { pred = w.predicate; terms = map raw_number (w.terms.first) }
