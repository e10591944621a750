-- Declared predicates as the list of their arities.
use Rattle.std.specs.Prelude.{◌≡◌, ℕ, suc, ◌≤◌, List, [], ◌∷◌, ◌++◌, map, length, Ok, Err, Result, ◌≢◌}
use Rattle.refusals.specs.Refusals.{Is}
use Rattle.refusals.specs.declared.refusal.Refusal.{Refusal}
use Rattle.terms.specs.declared.predicate.UpTo.{UpTo}
use Rattle.declarations.specs.declared.declarations.Declarations.{Declarations}

abbrev pub arity_value : UpTo 4 → ℕ
arity_value a = a.number

-- the arities of predicates 1, 2, ..
abbrev pub arities_of : Declarations → List ℕ
arities_of d = map arity_value d.items.items

-- x comes last and has number n
abbrev pub Added : {A : Type 0} → List A → A → ℕ → List A → Type 0
Added before x n after = (n ≡ suc (length before)) × (after ≡ before ++ x ∷ [])

-- why a declaration is refused, when ds are declared: 2, else 1
pub data NotDeclared (ds : List ℕ) (arity : ℕ) (e : Refusal) : Type 0 where
  none_left : length ds ≡ 64 → Is e 2 0 0 → NotDeclared ds arity e
  bad_arity : (length ds ≢ 64) → ((1 ≤ arity) × (arity ≤ 4) → ⊥) → Is e 1 arity 0 → NotDeclared ds arity e

-- a predicate of the arity comes last and its number is answered; or it is refused, and nothing changes
abbrev pub Declares : Declarations → ℕ → Result ℕ Refusal → Declarations → Type 0
Declares before arity (Ok n) after = Added (arities_of before) arity n (arities_of after)
Declares before arity (Err e) after = NotDeclared (arities_of before) arity e × (after ≡ before)
