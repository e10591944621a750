-- What is proved of the chase and of refutation.
use Rattle.std.specs.Prelude.{◌≡◌, ℕ, ◌<◌, true, List, ◌++◌, map, is_some, Some}
use Rattle.std.specs.List.{AllByRecursion}
use Rattle.semantics.specs.Subject.{Pattern, Atom, Binding, Rule, Candidate, Obeys, HasMatch, Match, Model}
use Rattle.semantics.specs.Computed.{guard}
use Rattle.chase.specs.Chase.{PlainRule, PlainAll, IsFact}
use Rattle.chase.specs.Chase.{start, run, claim, accepted, Refuted, found, numbered}
use Rattle.semantics.specs.Subject.{On}
use Rattle.semantics.specs.Computed.{nothing}

-- each term of the atom moved by f
abbrev pub sent : (ℕ → ℕ) → Atom → Atom
sent f a = record { pred = a.pred; terms = map f a.terms }

-- nulls can be given numbers, constants keeping theirs, so that m has every atom of the pile
pub record Image (m : Candidate) (pile : List Atom) : Type 0 where
  pub to : ℕ → ℕ
  pub fixed : (c : ℕ) → c < 1000000 → to c ≡ c
  pub within : AllByRecursion (λ a. m (sent to a)) pile

abbrev pub ChaseUniversal : Candidate → Type 0
ChaseUniversal m =
    (facts : List Atom) (rules : List Rule) (steps : List (ℕ × ℕ)) →
    AllByRecursion IsFact facts → AllByRecursion PlainRule rules → Model m facts rules →
    ∥ Image m (run rules (start facts) steps).pile ∥₁

abbrev pub EntailedSound : Candidate → Type 0
EntailedSound m =
    (facts : List Atom) (rules : List Rule) (steps : List (ℕ × ℕ)) (query : List Pattern) (places : List ℕ) (b : Binding) →
    AllByRecursion IsFact facts → AllByRecursion PlainRule rules → PlainAll query →
    claim (run rules (start facts) steps).pile query places ≡ accepted b →
    Model m facts rules → HasMatch m query

abbrev pub InconsistentSound : Candidate → Type 0
InconsistentSound m =
    (facts : List Atom) (rules : List Rule) (steps : List (ℕ × ℕ)) (constraint : List Pattern) (places : List ℕ) (b : Binding) →
    AllByRecursion IsFact facts → AllByRecursion PlainRule rules → PlainAll constraint →
    claim (run rules (start facts) steps).pile constraint places ≡ accepted b →
    Model m facts rules → Obeys m constraint → ⊥

abbrev pub Guarded : Rule → Type 0
Guarded r = is_some (guard r.body) ≡ true

abbrev pub RefutedSound : Type 0
RefutedSound =
    (facts added : List Atom) (rules : List Rule) (constraints : List (List Pattern)) (query : List Pattern) →
    AllByRecursion Guarded rules → Refuted (facts ++ added) rules constraints query →
    Model (On (facts ++ added)) facts rules × AllByRecursion (Obeys (On (facts ++ added))) constraints × Obeys (On (facts ++ added)) query

abbrev pub VerdictsAgree : Type 0
VerdictsAgree =
    (facts more added : List Atom) (rules : List Rule) (constraints : List (List Pattern)) (query : List Pattern) (steps : List (ℕ × ℕ)) (places : List ℕ) (b : Binding) →
    AllByRecursion IsFact facts → AllByRecursion PlainRule rules → PlainAll query → AllByRecursion Guarded rules → AllByRecursion (On more) facts →
    claim (run rules (start facts) steps).pile query places ≡ accepted b →
    Refuted (more ++ added) rules constraints query → ⊥

-- looking through the pile decides whether there is a match
abbrev pub SearchExact : Type 0
SearchExact =
    (pile : List Atom) (ps : List Pattern) →
    (found pile nothing ps ≡ true → (b : Binding) × Match (On pile) b ps) × (HasMatch (On pile) ps → found pile nothing ps ≡ true)

-- refute's test passes for every pile that is a counter-model
abbrev pub RefutedComplete : Type 0
RefutedComplete =
    (pile facts : List Atom) (rules : List Rule) (constraints : List (List Pattern)) (query : List Pattern) →
    Model (On pile) facts rules → AllByRecursion (Obeys (On pile)) constraints → Obeys (On pile) query →
    Refuted pile rules constraints query

-- nor is what was inconsistent refuted later
abbrev pub ClashesAgree : Type 0
ClashesAgree =
    (facts more added : List Atom) (rules : List Rule) (constraints : List (List Pattern)) (query constraint : List Pattern) (n : ℕ) (steps : List (ℕ × ℕ)) (places : List ℕ) (b : Binding) →
    AllByRecursion IsFact facts → AllByRecursion PlainRule rules → AllByRecursion PlainAll constraints → AllByRecursion Guarded rules → AllByRecursion (On more) facts →
    numbered constraints n ≡ Some constraint →
    claim (run rules (start facts) steps).pile constraint places ≡ accepted b →
    Refuted (more ++ added) rules constraints query → ⊥
