-- Refute as a function: what it refuses, and where.
use Rattle.std.specs.Prelude.{◌≡◌, ℕ, suc, ◌≤◌, Bool, true, false, cond, List, [], ◌∷◌, length, Some, None, Option, nat_le}
use Rattle.std.specs.Option.{option_map, option_or}
use Rattle.semantics.specs.Subject.{Pattern, Atom, Binding, Rule}
use Rattle.semantics.specs.Computed.{fit, nothing}
use Rattle.chase.specs.Chase.{missing, found, guard_of, Refuted}

-- the index of the first that passes
abbrev pub first : {A : Type 0} → (A → Bool) → List A → Option ℕ
first f [] = None
first f (x ∷ xs) = cond (f x) (Some 0) (option_map suc (first f xs))

abbrev pub bad_side : List Atom → Rule → Binding → Option ℕ → Bool
bad_side pile r b (Some i) = false
bad_side pile r b None = cond (found pile b (r.head ∷ [])) false true

abbrev pub bad_fit : List Atom → Rule → Option Binding → Bool
bad_fit pile r None = false
bad_fit pile r (Some b) = bad_side pile r b (missing pile b r.body)

-- the lowest place at which the rule is not satisfied
abbrev pub bad_place : List Atom → Rule → Option Pattern → Option ℕ
bad_place pile r None = None
bad_place pile r (Some g) = first (λ a. bad_fit pile r (fit nothing g a)) pile

abbrev pub bad_rule : List Atom → ℕ → List Rule → Option (ℕ × ℕ)
bad_rule pile n [] = None
bad_rule pile n (r ∷ rs) = option_or (option_map (λ k. (n, k)) (bad_place pile r (guard_of r))) (bad_rule pile (suc n) rs)

pub data Refutal : Type 0 where
  refused : ℕ → ℕ → ℕ → Refutal
  refuted : ℕ → Refutal

abbrev pub on_query : ℕ → ℕ → Bool → Refutal
on_query size q true = refused 19 q 0
on_query size q false = refuted size

abbrev pub on_constraint : ℕ → Option ℕ → Refutal → Refutal
on_constraint size (Some n) r = refused 18 (suc n) 0
on_constraint size None r = r

abbrev pub on_rule : Option (ℕ × ℕ) → Refutal → Refutal
on_rule (Some x) r = refused 17 x.0 x.1
on_rule None r = r

-- q is the query's number
abbrev pub refute : List Atom → List Rule → List (List Pattern) → ℕ → List Pattern → Refutal
refute pile rules constraints q query =
    cond (nat_le (length pile) 128)
    (on_rule (bad_rule pile 1 rules) (on_constraint (length pile) (first (found pile nothing) constraints) (on_query (length pile) q (found pile nothing query))))
    (refused 20 (length pile) 0)

abbrev pub RefuteExact : Type 0
RefuteExact =
    (pile : List Atom) (rules : List Rule) (constraints : List (List Pattern)) (q : ℕ) (query : List Pattern) →
    ((n : ℕ) → refute pile rules constraints q query ≡ refuted n → Refuted pile rules constraints query × (n ≡ length pile)) ×
    (length pile ≤ 128 → Refuted pile rules constraints query → refute pile rules constraints q query ≡ refuted (length pile))
