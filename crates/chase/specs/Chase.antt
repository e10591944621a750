-- The plain chase: a list as pile, a null count, atoms added.
use Rattle.std.specs.Prelude.{◌≡◌, ℕ, zero, suc, ◌+◌, ◌<◌, Bool, true, false, cond, ◌&&◌, ◌||◌, List, [], ◌∷◌, ◌++◌, length, is_some, Some, None, Option, ◌==◌, nat_eq, nat_le}
use Rattle.std.specs.Option.{option_map}
use Rattle.std.specs.List.{slice_get, AllByRecursion}
use Rattle.std.specs.Str.{bytes_eq as same_text}
use Rattle.std.specs.Map.{update}
use Rattle.semantics.specs.Subject.{On, Slot, con, var, Pattern, Atom, Binding, Rule, Obeys}
use Rattle.semantics.specs.Computed.{guard, and_then, nothing, fit, atom_of, first_match}

-- constants are below 1,000,000
abbrev pub Plain : Slot → Type 0
Plain (con c) = c < 1000000
Plain (var i) = Unit {0}

abbrev pub PlainAll : List Pattern → Type 0
PlainAll ps = AllByRecursion (λ p. AllByRecursion Plain p.slots) ps

abbrev pub PlainRule : Rule → Type 0
PlainRule r = PlainAll (r.head ∷ r.body)

abbrev pub IsFact : Atom → Type 0
IsFact a = AllByRecursion (λ t. t < 1000000) a.terms

abbrev pub same_atom : Atom → Atom → Bool
same_atom a b = a.pred == b.pred && same_text a.terms b.terms

abbrev pub stands : List Atom → Atom → Bool
stands [] a = false
stands (x ∷ xs) a = same_atom x a || stands xs a

-- the index of the first pattern that, so bound, does not stand on the pile
abbrev pub missing : List Atom → Binding → List Pattern → Option ℕ
missing pile b [] = None
missing pile b (p ∷ ps) = cond (stands pile (atom_of b p)) (option_map suc (missing pile b ps)) (Some 0)

-- each variable without a term gets the next null, in order
abbrev pub fresh_var : Binding → ℕ → ℕ → Option ℕ → Binding × ℕ
fresh_var b n i None = (update nat_eq b i (Some (1000000 + n)), suc n)
fresh_var b n i (Some t) = (b, n)

abbrev pub fresh_slot : Binding → ℕ → Slot → Binding × ℕ
fresh_slot b n (con c) = (b, n)
fresh_slot b n (var i) = fresh_var b n i (b i)

abbrev pub fresh : Binding → ℕ → List Slot → Binding × ℕ
fresh b n [] = (b, n)
fresh b n (s ∷ ss) = fresh (fresh_slot b n s).0 (fresh_slot b n s).1 ss

pub record State : Type 0 where
  pub pile : List Atom
  pub added : ℕ
  pub nulls : ℕ

pub data Move : Type 0 where
  broken : ℕ → ℕ → ℕ → Move
  already : Move
  overfull : Move
  adds : Atom → ℕ → Move

-- the head a, with n nulls issued after it
abbrev pub put_head : State → Atom → ℕ → Bool → Bool → Move
put_head s a n true full = already
put_head s a n false true = overfull
put_head s a n false false = adds a n

abbrev pub is_full : State → Bool
is_full s = nat_le 256 s.added || nat_le 1000000 (length s.pile)

abbrev pub with_head : State → Pattern → Binding × ℕ → Move
with_head s h f = put_head s (atom_of f.0 h) f.1 (stands s.pile (atom_of f.0 h)) (is_full s)

abbrev pub after_side : State → Rule → Binding → Option ℕ → Move
after_side s r b (Some i) = broken 14 i 0
after_side s r b None = with_head s r.head (fresh b s.nulls r.head.slots)

abbrev pub after_fit : State → Rule → ℕ → Option Binding → Move
after_fit s r place None = broken 13 0 place
after_fit s r place (Some b) = after_side s r b (missing s.pile b r.body)

abbrev pub after_place : State → Rule → ℕ → Pattern → Option Atom → Move
after_place s r place g None = broken 12 0 place
after_place s r place g (Some a) = after_fit s r place (fit nothing g a)

abbrev pub after_guard : State → Rule → ℕ → Option Pattern → Move
after_guard s r place None = broken 6 0 0
after_guard s r place (Some g) = after_place s r place g (slice_get s.pile place)

-- the guard itself
abbrev pub guard_of : Rule → Option Pattern
guard_of r = and_then (guard r.body) (slice_get r.body)

-- rules are numbered from 1
abbrev pub after_rule : State → ℕ → ℕ → Option Rule → Move
after_rule s k place None = broken 11 k 0
after_rule s k place (Some r) = after_guard s r place (guard_of r)

abbrev pub numbered : {A : Type 0} → List A → ℕ → Option A
numbered xs zero = None
numbered xs (suc k) = slice_get xs k

abbrev pub step : List Rule → State → ℕ → ℕ → Move
step rules s k place = after_rule s k place (numbered rules k)

abbrev pub moved : State → Move → State
moved s (broken n x y) = s
moved s already = s
moved s overfull = s
moved s (adds a n) = record { pile = s.pile ++ (a ∷ []); added = suc s.added; nulls = n }

abbrev pub start : List Atom → State
start facts = record { pile = facts; added = 0; nulls = 0 }

abbrev pub run : List Rule → State → List (ℕ × ℕ) → State
run rules s [] = s
run rules s (x ∷ xs) = run rules (moved s (step rules s x.0 x.1)) xs

-- one binding makes each pattern fit the atom at its place
pub data Claim : Type 0 where
  refused : ℕ → ℕ → ℕ → Claim
  accepted : Binding → Claim

-- pattern i, which is p, at place k
abbrev pub claim_fit : ℕ → ℕ → Option Binding → Claim
claim_fit i k None = refused 13 i k
claim_fit i k (Some b) = accepted b

abbrev pub claim_place : Binding → ℕ → Pattern → ℕ → Option Atom → Claim
claim_place b i p k None = refused 12 i k
claim_place b i p k (Some a) = claim_fit i k (fit b p a)

abbrev pub goes_on : Claim → (Binding → Claim) → Claim
goes_on (refused n x y) f = refused n x y
goes_on (accepted b) f = f b

abbrev pub claim_from : List Atom → Binding → ℕ → List Pattern → List ℕ → Claim
claim_from pile b i [] [] = accepted b
claim_from pile b i [] (k ∷ ks) = refused 16 0 0
claim_from pile b i (p ∷ ps) [] = refused 16 0 0
claim_from pile b i (p ∷ ps) (k ∷ ks) = goes_on (claim_place b i p k (slice_get pile k)) (λ c. claim_from pile c (suc i) ps ks)

abbrev pub claim : List Atom → List Pattern → List ℕ → Claim
claim pile ps ks = cond (length ps == length ks) (claim_from pile nothing 0 ps ks) (refused 16 (length ks) 0)

-- b extends to a binding under which each pattern fits an atom of the pile
abbrev pub found : List Atom → Binding → List Pattern → Bool
found pile b ps = is_some (first_match pile b ps)

-- where the guard fits and the other body atoms stand there, some atom fits the head under that binding
abbrev pub Kept : List Atom → Rule → Type 0
Kept pile r = (g : Pattern) (k : ℕ) (a : Atom) (b : Binding) → guard_of r ≡ Some g → slice_get pile k ≡ Some a → fit nothing g a ≡ Some b → missing pile b r.body ≡ None → found pile b (r.head ∷ []) ≡ true

pub record Refuted (pile : List Atom) (rules : List Rule) (constraints : List (List Pattern)) (query : List Pattern) : Type 0 where
  pub rules_kept : AllByRecursion (Kept pile) rules
  pub quiet : AllByRecursion (Obeys (On pile)) constraints
  pub unmatched : Obeys (On pile) query
