-- A variable stands in a pattern where one of its terms is the variable.
use Rattle.std.proofs.Common.{◌≡◌, ℕ, List, [], ◌∷◌, map, ◌||◌, refl}
use Rattle.short_rows.proofs.Eaches.{each_is_map}
use Rattle.short_rows.specs.Tries.{Each}
use Rattle.terms.specs.declared.constant.Constant.{Constant}
use Rattle.terms.specs.declared.term.Term.{Term}
use Rattle.terms.specs.declared.term.Term.TheVariants.{Constant as fixed}
use Rattle.std.specs.List.{list_any}
use Rattle.semantics.specs.Subject.{is_var, in_slots}
use Rattle.terms.specs.Meaning.{slot_meant}
use Rattle.terms.specs.declared.pattern_term.PatternTerm.{PatternTerm}

pub any_is : (i : ℕ) (terms : List PatternTerm) → list_any (λ t. is_var i (slot_meant t)) terms ≡ in_slots i (map slot_meant terms)
any_is i [] = refl
any_is i (t ∷ ts) = λ j. is_var i (slot_meant t) || any_is i ts j

pub fixed_each : (R : Constant → Term → Type 0) → ((x : Constant) (y : Term) → R x y → y ≡ fixed x) → (xs : List Constant) (ys : List Term) → Each R xs ys → ys ≡ map fixed xs
fixed_each R = each_is_map R fixed
