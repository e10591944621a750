-- The subject: patterns, atoms, bindings, matches, rules, models and guards. Read from top to bottom; it rests on nothing else.
use Rattle.std.specs.Prelude.{◌≡◌, ℕ, ◌-◌, ◌<◌, Bool, true, false, cond, ◌||◌, List, [], ◌∷◌, is_some, Some, None, Option, ◌==◌}
use Rattle.std.specs.List.{AllByRecursion, slice_get}

-- what stands at one place of a pattern: a constant by its number, or variable v1, v2, .. by its number
pub data Slot : Type 0 where
  con : ℕ → Slot
  var : ℕ → Slot

pub record Pattern : Type 0 where
  pub pred : ℕ
  pub slots : List Slot

-- the terms of an atom are whole numbers: a constant is its own number, and null k is 1,000,000 + k
pub record Atom : Type 0 where
  pub pred : ℕ
  pub terms : List ℕ

-- a binding gives each variable a term or nothing
abbrev pub Binding : Type 0
Binding = ℕ → Option ℕ

-- c gives what b gives
abbrev pub Extends : Binding → Binding → Type 0
Extends b c = (i t : ℕ) → b i ≡ Some t → c i ≡ Some t

-- under b the slot is the term
abbrev pub Gives : Binding → Slot → ℕ → Type 0
Gives b (con c) t = c ≡ t
Gives b (var i) t = b i ≡ Some t

abbrev pub GivesAll : Binding → List Slot → List ℕ → Type 0
GivesAll b [] [] = Unit {0}
GivesAll b [] (t ∷ ts) = ⊥
GivesAll b (s ∷ ss) [] = ⊥
GivesAll b (s ∷ ss) (t ∷ ts) = Gives b s t × GivesAll b ss ts

-- under b the pattern fits the atom: predicate, number of terms and constants agree, and each variable is bound to the
-- term at every place where it stands
abbrev pub Fits : Binding → Pattern → Atom → Type 0
Fits b p a = (p.pred ≡ a.pred) × GivesAll b p.slots a.terms

-- c is the least binding that extends b and makes the pattern fit the atom
pub record LeastFit (b : Binding) (p : Pattern) (a : Atom) (c : Binding) : Type 0 where
  pub extends : Extends b c
  pub fits : Fits c p a
  pub least : (d : Binding) → Extends b d → Fits d p a → Extends c d

-- no binding that extends b makes the pattern fit the atom
abbrev pub NoFit : Binding → Pattern → Atom → Type 0
NoFit b p a = (d : Binding) → Extends b d → Fits d p a → ⊥

-- what fitting gives: the least binding, or nothing where none is
abbrev pub Fitted : Binding → Pattern → Atom → Option Binding → Type 0
Fitted b p a (Some c) = LeastFit b p a c
Fitted b p a None = NoFit b p a

-- some binding that extends b makes the pattern fit the atom
abbrev pub Fittable : Binding → Pattern → Atom → Type 0
Fittable b p a = (c : Binding) × Extends b c × Fits c p a

-- the pattern under b: the atom that it fits, or nothing where it fits none since a variable is not bound
abbrev pub Instance : Binding → Pattern → Option Atom → Type 0
Instance b p (Some a) = Fits b p a
Instance b p None = (a : Atom) → Fits b p a → ⊥

-- a candidate is any property of atoms
abbrev pub Candidate : Type 1
Candidate = Atom → Type 0

-- the candidate that a list stands for: an atom of it stands at some place of the list
abbrev pub On : List Atom → Candidate
On pile a = (k : ℕ) × (slice_get pile k ≡ Some a)

-- what stands under that number, the first being number 1
abbrev pub numbered : {A : Type 0} → List A → ℕ → Option A
numbered xs n = cond (n == 0) None (slice_get xs (n - 1))

-- whether variable i stands there
abbrev pub is_var : ℕ → Slot → Bool
is_var i (con c) = false
is_var i (var j) = i == j

abbrev pub in_slots : ℕ → List Slot → Bool
in_slots i [] = false
in_slots i (s ∷ ss) = is_var i s || in_slots i ss

abbrev pub in_patterns : ℕ → List Pattern → Bool
in_patterns i [] = false
in_patterns i (p ∷ ps) = in_slots i p.slots || in_patterns i ps

-- b binds the variables that stand in the patterns and no others
abbrev pub Exactly : Binding → List Pattern → Type 0
Exactly b ps = (i : ℕ) → is_some (b i) ≡ in_patterns i ps

-- under b the pattern fits an atom of m
abbrev pub Holds : Candidate → Binding → Pattern → Type 0
Holds m b p = (a : Atom) × Fits b p a × m a

-- a match of the patterns in m: one binding, of their variables and of no others, under which each fits an atom of m
abbrev pub Match : Candidate → Binding → List Pattern → Type 0
Match m b ps = Exactly b ps × AllByRecursion (Holds m b) ps

abbrev pub HasMatch : Candidate → List Pattern → Type 0
HasMatch m ps = ∥ ((b : Binding) × Match m b ps) ∥₁

-- what looking for a match gives: a match, or nothing where there is none
abbrev pub Searched : Candidate → List Pattern → Option Binding → Type 0
Searched m ps (Some b) = Match m b ps
Searched m ps None = HasMatch m ps → ⊥

-- m obeys the constraint: it has no match in m
abbrev pub Obeys : Candidate → List Pattern → Type 0
Obeys m ps = HasMatch m ps → ⊥

pub record Rule : Type 0 where
  pub body : List Pattern
  pub head : Pattern

-- every match of the body extends to a match of body and head together
abbrev pub Follows : Candidate → Rule → Type 0
Follows m r = (b : Binding) → Match m b r.body → ∥ ((c : Binding) × Extends b c × Match m c (r.head ∷ r.body)) ∥₁

-- a model of facts and rules
pub record Model (m : Candidate) (facts : List Atom) (rules : List Rule) : Type 0 where
  pub has : AllByRecursion m facts
  pub follows : AllByRecursion (Follows m) rules

-- under b each pattern fits the atom at its place in the list
abbrev pub AtPlaces : List Atom → Binding → List Pattern → List ℕ → Type 0
AtPlaces pile b [] [] = Unit {0}
AtPlaces pile b [] (k ∷ ks) = ⊥
AtPlaces pile b (p ∷ ps) [] = ⊥
AtPlaces pile b (p ∷ ps) (k ∷ ks) = ((a : Atom) × (slice_get pile k ≡ Some a) × Fits b p a) × AtPlaces pile b ps ks

-- every variable of the body stands in the pattern
abbrev pub HasAll : List Pattern → Pattern → Type 0
HasAll body p = (i : ℕ) → in_patterns i body ≡ true → in_slots i p.slots ≡ true

-- the guard of the body is the pattern at index k: the leftmost with every variable of the body
pub record Guards (body : List Pattern) (k : ℕ) : Type 0 where
  pub pattern : Pattern
  pub there : slice_get body k ≡ Some pattern
  pub has_all : HasAll body pattern
  pub leftmost : (j : ℕ) (p : Pattern) → j < k → slice_get body j ≡ Some p → HasAll body p → ⊥
