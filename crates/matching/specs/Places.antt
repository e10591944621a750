-- What fitting patterns at named places answers.
use Rattle.std.specs.Prelude.{◌≡◌, ℕ, suc, List, length, take, Some, None, Ok, Err, Result, ◌≢◌}
use Rattle.std.specs.List.{slice_get}
use Rattle.semantics.specs.Computed.{fit}
use Rattle.semantics.specs.Subject.{Pattern, Atom, Binding, AtPlaces, Exactly}
use Rattle.atoms.specs.declared.atom.Atom as code
use Rattle.refusals.specs.Refusals.{Is}
use Rattle.refusals.specs.declared.refusal.Refusal.{Refusal}
use Rattle.terms.specs.declared.term.Term.{Term}

module _ (pile : List Atom) (ps : List Pattern) (ks : List ℕ) where
  -- one binding makes each of the first i patterns fit the atom at its place
  abbrev pub FirstFit : ℕ → Type 0
  FirstFit i = (b : Binding) × AtPlaces pile b (take i ps) (take i ks)

  -- why there is no such binding for all of them
  pub data NotPlaced (e : Refusal) : Type 0 where
    -- 16 (how many places): there is not one for each pattern
    uneven : Is e 16 (length ks) 0 → (length ps ≢ length ks) → NotPlaced e
    -- 12 (pattern index, place): no atom is at that place, and the patterns before fit
    past : (i k : ℕ) → Is e 12 i k → length ps ≡ length ks → slice_get ks i ≡ Some k → slice_get pile k ≡ None → FirstFit i → NotPlaced e
    -- 13 (pattern index, place): with this pattern no binding makes them fit, and the patterns before fit
    unfit : (i k : ℕ) (a : Atom) → Is e 13 i k → length ps ≡ length ks → slice_get ks i ≡ Some k → slice_get pile k ≡ Some a → FirstFit i → (FirstFit (suc i) → ⊥) → NotPlaced e

  -- the binding, of the variables of the patterns and of no others, under which each fits the atom at its place
  abbrev pub Placed : Result Binding Refusal → Type 0
  Placed (Ok b) = AtPlaces pile b ps ks × Exactly b ps
  Placed (Err e) = NotPlaced e

-- the same of one pattern, where the binding so far is b
module _ (pile : List Atom) (b : Binding) (i : ℕ) (p : Pattern) (k : ℕ) where
  pub data NotFitted (e : Refusal) : Type 0 where
    place_past : Is e 12 i k → slice_get pile k ≡ None → NotFitted e
    place_unfit : (a : Atom) → Is e 13 i k → slice_get pile k ≡ Some a → fit b p a ≡ None → NotFitted e

  abbrev pub FittedAt : Result Binding Refusal → Type 0
  FittedAt (Ok c) = (a : Atom) × (slice_get pile k ≡ Some a) × (fit b p a ≡ Some c)
  FittedAt (Err e) = NotFitted e

-- the code's atom at place k, which is named for pattern i; or 12
abbrev pub AtomAt : List (code.Atom Term) → ℕ → ℕ → Result (code.Atom Term) Refusal → Type 0
AtomAt xs i k (Ok a) = slice_get xs k ≡ Some a
AtomAt xs i k (Err e) = (slice_get xs k ≡ None) × Is e 12 i k
