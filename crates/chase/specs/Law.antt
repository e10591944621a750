-- Step and claim, as computed, follow the relations.
use Rattle.std.specs.Prelude.{◌≡◌, ℕ, Bool, true, false, List, Some}
use Rattle.semantics.specs.Subject.{Pattern, Atom, Binding, Rule, AtPlaces}
use Rattle.chase.specs.Chase.{State, Move, broken, already, overfull, adds, numbered, fresh, with_head, step, claim, accepted}
use Rattle.chase.specs.Firing.{Fires}

-- rule k may be used at the place
pub record Used (rules : List Rule) (s : State) (k place : ℕ) : Type 0 where
  pub rule : Rule
  pub named : numbered rules k ≡ Some rule
  pub by : Binding
  pub fires : Fires s.pile rule place by

abbrev pub is_broken : Move → Bool
is_broken (broken n x y) = true
is_broken already = false
is_broken overfull = false
is_broken (adds a n) = false

-- where the rule may be used the step gives the head under that binding, with fresh nulls, and elsewhere it is broken
abbrev pub StepExact : Type 0
StepExact =
    (rules : List Rule) (s : State) (k place : ℕ) →
    ((f : Used rules s k place) → step rules s k place ≡ with_head s f.rule.head (fresh f.by s.nulls f.rule.head.slots)) ×
    (is_broken (step rules s k place) ≡ false → Used rules s k place)

-- a claim is accepted exactly when one binding makes each pattern fit the atom at its place
abbrev pub ClaimExact : Type 0
ClaimExact =
    (pile : List Atom) (ps : List Pattern) (ks : List ℕ) →
    ((b : Binding) → claim pile ps ks ≡ accepted b → AtPlaces pile b ps ks) ×
    ((b : Binding) → AtPlaces pile b ps ks → (c : Binding) × (claim pile ps ks ≡ accepted c))
