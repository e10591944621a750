-- The same by computation: fitting, the bound atom, the first match, fitting at places, the guard. What the code is proved equal to
-- on the way to the relations of the subject.
use Rattle.std.specs.Prelude.{ℕ, suc, Bool, true, false, cond, not, ◌&&◌, ◌||◌, List, [], ◌∷◌, is_some, Some, None, Option, ◌==◌, nat_eq}
use Rattle.std.specs.Option.{option_map, unwrap_or, option_or}
use Rattle.std.specs.Map.{update}
use Rattle.semantics.specs.Subject.{Slot, con, var, Pattern, Atom, Binding, in_slots, in_patterns}

abbrev pub nothing : Binding
nothing i = None

abbrev pub and_then : {A B : Type 0} → Option A → (A → Option B) → Option B
and_then None f = None
and_then (Some x) f = f x

-- variable i, which holds what is given, is to be the term
abbrev pub bind : Binding → ℕ → Option ℕ → ℕ → Option Binding
bind b i None t = Some (update nat_eq b i (Some t))
bind b i (Some u) t = cond (u == t) (Some b) None

abbrev pub fit_slot : Binding → Slot → ℕ → Option Binding
fit_slot b (con c) t = cond (c == t) (Some b) None
fit_slot b (var i) t = bind b i (b i) t

abbrev pub fit_slots : Binding → List Slot → List ℕ → Option Binding
fit_slots b [] [] = Some b
fit_slots b [] (t ∷ ts) = None
fit_slots b (s ∷ ss) [] = None
fit_slots b (s ∷ ss) (t ∷ ts) = and_then (fit_slot b s t) (λ c. fit_slots c ss ts)

abbrev pub fit : Binding → Pattern → Atom → Option Binding
fit b p a = cond (p.pred == a.pred) (fit_slots b p.slots a.terms) None

-- the pattern under the binding, 0 for a variable that is not bound
abbrev pub term_of : Binding → Slot → ℕ
term_of b (con c) = c
term_of b (var i) = unwrap_or (b i) 0

abbrev pub terms_of : Binding → List Slot → List ℕ
terms_of b [] = []
terms_of b (s ∷ ss) = term_of b s ∷ terms_of b ss

abbrev pub atom_of : Binding → Pattern → Atom
atom_of b p = record { pred = p.pred; terms = terms_of b p.slots }

-- what the first atom gives for which f gives something
abbrev pub first_given : {A B : Type 0} → (A → Option B) → List A → Option B
first_given f [] = None
first_given f (x ∷ xs) = option_or (f x) (first_given f xs)

-- the first match in the order of the patterns and, for each, of the list, among those that extend b
abbrev pub first_match : List Atom → Binding → List Pattern → Option Binding
first_match pile b [] = Some b
first_match pile b (p ∷ ps) = first_given (λ a. and_then (fit b p a) (λ c. first_match pile c ps)) pile

-- whether a variable of the slots that b does not bind stands in the patterns
abbrev pub reaches : Binding → List Slot → List Pattern → Bool
reaches b [] ps = false
reaches b (con c ∷ ss) ps = reaches b ss ps
reaches b (var i ∷ ss) ps = (not (is_some (b i)) && in_patterns i ps) || reaches b ss ps

-- every variable of the first stands in the second
abbrev pub covers : List Slot → List Slot → Bool
covers [] q = true
covers (con c ∷ ss) q = covers ss q
covers (var i ∷ ss) q = in_slots i q && covers ss q

abbrev pub covers_all : List Pattern → List Slot → Bool
covers_all [] q = true
covers_all (p ∷ ps) q = covers p.slots q && covers_all ps q

-- the index of the leftmost of ps that has every variable of the body
abbrev pub guard_from : List Pattern → List Pattern → Option ℕ
guard_from body [] = None
guard_from body (p ∷ ps) = cond (covers_all body p.slots) (Some 0) (option_map suc (guard_from body ps))

abbrev pub guard : List Pattern → Option ℕ
guard body = guard_from body body
