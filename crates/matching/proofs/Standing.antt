-- What stands in one of a list, as the subject has it.
use Rattle.std.proofs.Common.{◌≡◌, ℕ, suc, not, ◌&&◌, is_some, Bool, true, false, ◌||◌, List, [], ◌∷◌, map, refl, ap, ◌∙◌}
use Rattle.std.specs.List.{list_any}
use Rattle.semantics.specs.Subject.{Binding, Pattern, in_slots, in_patterns}
use Rattle.semantics.specs.Computed.{reaches}
use Rattle.atoms.specs.Meaning.{pattern_meant}
use Rattle.atoms.specs.declared.atom.Atom.{Atom}
use Rattle.terms.specs.Meaning.{slot_meant}
use Rattle.terms.specs.declared.pattern_term.PatternTerm.{PatternTerm}
use Rattle.terms.specs.declared.pattern_term.PatternTerm.TheVariants.{Constant, Variable}
use Rattle.matching.specs.Searches.{patterns_meant}

pub any_has : (i : ℕ) (ps : List (Atom PatternTerm)) → list_any (λ p. in_slots i (pattern_meant p).slots) ps ≡ in_patterns i (patterns_meant ps)
any_has i [] = refl
any_has i (p ∷ ps) = λ k. in_slots i (pattern_meant p).slots || any_has i ps k

-- a disjunct alone
alone : (a b : Bool) → ((a || false) || b) ≡ (a || b)
alone true b = refl
alone false b = refl

pub any_reaches : (b : Binding) (ps : List Pattern) (ss : List PatternTerm) → list_any (λ s. reaches b (slot_meant s ∷ []) ps) ss ≡ reaches b (map slot_meant ss) ps
any_reaches b ps [] = refl
any_reaches b ps (Constant c ∷ ss) = any_reaches b ps ss
any_reaches b ps (Variable v ∷ ss) =
    let here = not (is_some (b (suc v.index))) && in_patterns (suc v.index) ps in
    alone here (list_any (λ s. reaches b (slot_meant s ∷ []) ps) ss) ∙ ap (λ w. here || w) (any_reaches b ps ss)
