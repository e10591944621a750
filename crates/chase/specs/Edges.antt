-- The edges of the definitions, in one statement.
use Rattle.std.specs.Prelude.{◌≡◌, ℕ, List, [], ◌∷◌, Some, None}
use Rattle.std.specs.List.{AllByRecursion}
use Rattle.semantics.specs.Subject.{Slot, con, var, Pattern, Atom, Binding, Fits, Rule}
use Rattle.semantics.specs.Computed.{guard}
use Rattle.chase.specs.Chase.{State, start, run, step, moved, adds, claim, accepted, refused}
use Rattle.chase.specs.Refute.{refute}
use Rattle.chase.specs.Refute as answer

abbrev pub pat : ℕ → List Slot → Pattern
pat p ss = record { pred = p; slots = ss }

abbrev pub atom : ℕ → List ℕ → Atom
atom p ts = record { pred = p; terms = ts }

abbrev pub one_rule : List Rule
one_rule = record { body = pat 1 (var 1 ∷ []) ∷ []; head = pat 2 (var 1 ∷ var 2 ∷ []) } ∷ []

abbrev pub SomePatterns : List Pattern → Type 0
SomePatterns [] = ⊥
SomePatterns (p ∷ ps) = Unit {0}

pub record Edges : Type 0 where
  pub e1 : guard (pat 1 (var 1 ∷ []) ∷ pat 2 (var 1 ∷ var 2 ∷ []) ∷ pat 3 (var 2 ∷ []) ∷ []) ≡ Some 1
  pub e2 : guard (pat 2 (var 1 ∷ var 2 ∷ []) ∷ pat 2 (var 2 ∷ var 3 ∷ []) ∷ []) ≡ None
  pub e3 : guard (pat 1 (con 17 ∷ []) ∷ []) ≡ Some 0
  pub e4 : step one_rule (start (atom 1 (17 ∷ []) ∷ [])) 1 0 ≡ adds (atom 2 (17 ∷ 1000000 ∷ [])) 1
  pub e5 : step one_rule (moved (start (atom 1 (17 ∷ []) ∷ [])) (step one_rule (start (atom 1 (17 ∷ []) ∷ [])) 1 0)) 1 0 ≡ adds (atom 2 (17 ∷ 1000001 ∷ [])) 2
  pub e6 : (b : Binding) × Fits b (pat 2 (var 1 ∷ var 1 ∷ [])) (atom 2 (17 ∷ 17 ∷ []))
  pub e6_not : (b : Binding) → Fits b (pat 2 (var 1 ∷ var 1 ∷ [])) (atom 2 (17 ∷ 18 ∷ [])) → ⊥
  pub e7 : (rules : List Rule) (constraints : List (List Pattern)) (q : ℕ) (query : List Pattern) → AllByRecursion SomePatterns constraints → SomePatterns query → refute [] rules constraints q query ≡ answer.refuted 0
  pub e8 : claim (atom 2 (17 ∷ 1000000 ∷ []) ∷ []) (pat 2 (var 1 ∷ var 1 ∷ []) ∷ []) (0 ∷ []) ≡ refused 13 0 0

-- the worked bundle
abbrev pub book : List Rule
book = record { body = pat 1 (var 1 ∷ []) ∷ []; head = pat 2 (var 1 ∷ var 2 ∷ []) } ∷ record { body = pat 2 (var 1 ∷ var 2 ∷ []) ∷ pat 1 (var 1 ∷ []) ∷ []; head = pat 3 (var 2 ∷ []) } ∷ []

abbrev pub facts : List Atom
facts = atom 1 (17 ∷ []) ∷ []

abbrev pub after : State
after = run book (start facts) ((1, 0) ∷ (2, 1) ∷ [])

abbrev pub clash : List (List Pattern)
clash = (pat 1 (var 1 ∷ []) ∷ pat 4 (var 1 ∷ []) ∷ []) ∷ []

pub record Bundle : Type 0 where
  pub pile : after.pile ≡ atom 1 (17 ∷ []) ∷ atom 2 (17 ∷ 1000000 ∷ []) ∷ atom 3 (1000000 ∷ []) ∷ []
  pub figures : (after.added ≡ 2) × (after.nulls ≡ 1)
  pub entailed : (b : Binding) × (claim after.pile (pat 2 (con 17 ∷ var 1 ∷ []) ∷ pat 3 (var 1 ∷ []) ∷ []) (1 ∷ 2 ∷ []) ≡ accepted b)
  pub unsatisfied : refute (atom 1 (17 ∷ []) ∷ atom 2 (17 ∷ 17 ∷ []) ∷ []) book clash 2 (pat 4 (var 1 ∷ []) ∷ []) ≡ answer.refused 17 2 1
  pub satisfied : refute (atom 1 (17 ∷ []) ∷ atom 2 (17 ∷ 17 ∷ []) ∷ atom 3 (17 ∷ []) ∷ []) book clash 2 (pat 4 (var 1 ∷ []) ∷ []) ≡ answer.refuted 3
