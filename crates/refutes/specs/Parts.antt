-- What each part of refuting answers.
use Rattle.std.specs.Prelude.{◌≡◌, ℕ, suc, ◌<◌, ◌≤◌, List, take, Some, None, Ok, Err, Option, Result}
use Rattle.std.specs.List.{slice_get, AllByRecursion}
use Rattle.semantics.specs.Subject.{Pattern, Atom, Rule, On, HasMatch, Obeys}
use Rattle.chase.specs.Satisfying.{SatisfiedAt, Satisfied}
use Rattle.refusals.specs.Refusals.{Is}
use Rattle.refusals.specs.declared.refusal.Refusal.{Refusal}

-- the size, of at most 128; or that it is over
abbrev pub SizeJudged : ℕ → Result ℕ Refusal → Type 0
SizeJudged n (Ok size) = (size ≡ n) × (n ≤ 128)
SizeJudged n (Err e) = Is e 20 n 0 × (128 < n)

module _ (pile : List Atom) where
  -- the lowest place at which the rule is not satisfied, or none where it is satisfied at every place
  abbrev pub FirstUnsatisfied : Rule → Option ℕ → Type 0
  FirstUnsatisfied rule (Some place) = ((k : ℕ) → k < place → SatisfiedAt pile rule k) × (SatisfiedAt pile rule place → ⊥)
  FirstUnsatisfied rule None = Satisfied pile rule

  -- the lowest rule that is not satisfied, at the lowest such place
  pub record LowestRule (rules : List Rule) (e : Refusal) : Type 0 where
    pub index : ℕ
    pub place : ℕ
    pub rule : Rule
    pub is : Is e 17 (suc index) place
    pub there : slice_get rules index ≡ Some rule
    pub before : AllByRecursion (Satisfied pile) (take index rules)
    pub first : FirstUnsatisfied rule (Some place)

  -- every rule is satisfied; or the lowest that is not
  abbrev pub RulesJudged : List Rule → Result (Unit {0}) Refusal → Type 0
  RulesJudged rules (Ok u) = AllByRecursion (Satisfied pile) rules
  RulesJudged rules (Err e) = LowestRule rules e

  -- the lowest constraint that has a match
  pub record LowestConstraint (constraints : List (List Pattern)) (e : Refusal) : Type 0 where
    pub index : ℕ
    pub constraint : List Pattern
    pub is : Is e 18 (suc index) 0
    pub there : slice_get constraints index ≡ Some constraint
    pub before : AllByRecursion (Obeys (On pile)) (take index constraints)
    pub matches : HasMatch (On pile) constraint

  -- no constraint has a match; or the lowest that has one
  abbrev pub ConstraintsJudged : List (List Pattern) → Result (Unit {0}) Refusal → Type 0
  ConstraintsJudged constraints (Ok u) = AllByRecursion (Obeys (On pile)) constraints
  ConstraintsJudged constraints (Err e) = LowestConstraint constraints e

  -- the query of that number has no match; or it has one
  abbrev pub QueryJudged : ℕ → List Pattern → Result (Unit {0}) Refusal → Type 0
  QueryJudged number query (Ok u) = Obeys (On pile) query
  QueryJudged number query (Err e) = Is e 19 number 0 × HasMatch (On pile) query
