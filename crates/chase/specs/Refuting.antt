-- What refuting a query answers.
use Rattle.std.specs.Prelude.{◌≡◌, ℕ, suc, ◌<◌, ◌≤◌, List, length, take, Some, Ok, Err, Result}
use Rattle.std.specs.List.{slice_get, AllByRecursion}
use Rattle.semantics.specs.Subject.{Pattern, Atom, Rule, On, HasMatch, Obeys}
use Rattle.chase.specs.Satisfying.{SatisfiedAt, Satisfied}
use Rattle.refusals.specs.Refusals.{Is}
use Rattle.refusals.specs.declared.refusal.Refusal.{Refusal}

module _ (pile : List Atom) (rules : List Rule) (constraints : List (List Pattern)) (number : ℕ) (query : List Pattern) where
  -- the pile satisfies every rule, and neither a constraint nor the query has a match in it
  pub record Refutes : Type 0 where
    pub satisfied : AllByRecursion (Satisfied pile) rules
    pub obeyed : AllByRecursion (Obeys (On pile)) constraints
    pub unmatched : Obeys (On pile) query

  -- why the pile does not refute the query of that number
  pub data NotRefuted (e : Refusal) : Type 0 where
    -- 20 (size): the pile has over 128 atoms
    large : Is e 20 (length pile) 0 → 128 < length pile → NotRefuted e
    -- 17 (rule, guard's place): the lowest rule that is not satisfied, at the lowest such place
    unsatisfied : (i place : ℕ) (rule : Rule) → Is e 17 (suc i) place → length pile ≤ 128 → slice_get rules i ≡ Some rule → AllByRecursion (Satisfied pile) (take i rules) → ((k : ℕ) → k < place → SatisfiedAt pile rule k) → (SatisfiedAt pile rule place → ⊥) → NotRefuted e
    -- 18 (constraint): the lowest constraint that has a match
    matched : (i : ℕ) (constraint : List Pattern) → Is e 18 (suc i) 0 → length pile ≤ 128 → AllByRecursion (Satisfied pile) rules → slice_get constraints i ≡ Some constraint → AllByRecursion (Obeys (On pile)) (take i constraints) → HasMatch (On pile) constraint → NotRefuted e
    -- 19 (query): the query has a match
    answered : Is e 19 number 0 → length pile ≤ 128 → AllByRecursion (Satisfied pile) rules → AllByRecursion (Obeys (On pile)) constraints → HasMatch (On pile) query → NotRefuted e

  -- the size of the pile, which refutes the query; or why it does not
  abbrev pub Refuted : Result ℕ Refusal → Type 0
  Refuted (Ok size) = (size ≡ length pile) × (length pile ≤ 128) × Refutes
  Refuted (Err e) = NotRefuted e
