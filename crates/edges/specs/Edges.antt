-- The edge cases, about the definitions that the contracts of the calls cite.
use Rattle.std.specs.Prelude.{◌≡◌, ℕ, List, [], ◌∷◌, Ok}
use Rattle.std.specs.List.{AllByRecursion}
use Rattle.semantics.specs.Subject.{Slot, con, var, Pattern, Atom, Binding, Fits, Rule, Guards}
use Rattle.chase.specs.Chase.{State, start}
use Rattle.chase.specs.Refuting.{Refuted}
use Rattle.declarations.specs.Bodies.{patterns_meant}
use Rattle.atoms.specs.declared.atom.Atom as code
use Rattle.terms.specs.declared.pattern_term.PatternTerm.{PatternTerm}
use Rattle.rules.specs.Rules.{Unguarded}
use Rattle.refusals.specs.Refusals.{Is}
use Rattle.refusals.specs.declared.refusal.Refusal.{Refusal}
use Rattle.matching.specs.Places.{NotPlaced}
use Rattle.protocol.specs.Law.{Gives}

abbrev pub pat : ℕ → List Slot → Pattern
pat p ss = record { pred = p; slots = ss }

abbrev pub atom : ℕ → List ℕ → Atom
atom p ts = record { pred = p; terms = ts }

-- the one rule `1 v1;2 v1 v2`
abbrev pub builder : List Rule
builder = record { body = pat 1 (var 1 ∷ []) ∷ []; head = pat 2 (var 1 ∷ var 2 ∷ []) } ∷ []

-- the fact `1 17`
abbrev pub house : List Atom
house = atom 1 (17 ∷ []) ∷ []

-- the chase of `1 17` by that rule, once used
abbrev pub built : State
built = record { pile = atom 1 (17 ∷ []) ∷ atom 2 (17 ∷ 1000000 ∷ []) ∷ []; added = 1; nulls = 1 }

abbrev pub SomePatterns : List Pattern → Type 0
SomePatterns [] = ⊥
SomePatterns (p ∷ ps) = Unit {0}

pub record Edges : Type 0 where
  -- `1 v1,2 v1 v2,3 v2;2 v2 v3` has its guard at index 1
  pub guard_in_the_middle : Guards (pat 1 (var 1 ∷ []) ∷ pat 2 (var 1 ∷ var 2 ∷ []) ∷ pat 3 (var 2 ∷ []) ∷ []) 1
  -- `2 v1 v2,2 v2 v3;2 v1 v3` has none, for which the draft refuses it by 6
  pub unguarded : (body : List (code.Atom PatternTerm)) → patterns_meant body ≡ pat 2 (var 1 ∷ var 2 ∷ []) ∷ pat 2 (var 2 ∷ var 3 ∷ []) ∷ [] → Unguarded body
  -- `1 17;1 18` has its guard at index 0
  pub guard_without_variables : Guards (pat 1 (con 17 ∷ []) ∷ []) 0
  -- `1 v1;2 v1 v2` on the fact `1 17` gives `2 17 n0`
  pub first_use : Gives builder (start house) 1 0 (atom 2 (17 ∷ 1000000 ∷ [])) 1
  -- used there again it gives `2 17 n1`
  pub second_use : Gives builder built 1 0 (atom 2 (17 ∷ 1000001 ∷ [])) 2
  -- `2 v1 v1` fits `2 17 17`, and not `2 17 18`
  pub fits_twice : (b : Binding) × Fits b (pat 2 (var 1 ∷ var 1 ∷ [])) (atom 2 (17 ∷ 17 ∷ []))
  pub fits_once_not : (b : Binding) → Fits b (pat 2 (var 1 ∷ var 1 ∷ [])) (atom 2 (17 ∷ 18 ∷ [])) → ⊥
  -- an empty pile refutes every query, with size 0
  pub empty_pile : (rules : List Rule) (constraints : List (List Pattern)) (number : ℕ) (query : List Pattern) → AllByRecursion SomePatterns constraints → SomePatterns query → Refuted [] rules constraints number query (Ok 0)
  -- the query `2 v1 v1` claimed at `2 17 n0` is refused 13
  pub claim_at_null : (e : Refusal) → Is e 13 0 0 → NotPlaced (atom 2 (17 ∷ 1000000 ∷ []) ∷ []) (pat 2 (var 1 ∷ var 1 ∷ []) ∷ []) (0 ∷ []) e
