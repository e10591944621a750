-- Whether two terms are the same, by what they mean.
use Rattle.std.proofs.Common.{◌≡◌, ◌==◌, Bool, true, false, Decides, cond, List, Some, None, Option, sym, ap, ◌∙◌, refl, [], ◌∷◌, ◌≤◌, ◌<◌, length, map, arith}
use Rattle.std.specs.Option.{option_map}
use Rattle.std.proofs.lemmas.Bool.{eq-eqb, ne_eqb, false≢true}
use Rattle.semantics.specs.Subject.{Binding}
use Rattle.semantics.specs.Computed.{fit_slots}
use Rattle.terms.specs.Meaning.{term_meant, slot_meant}
use Rattle.terms.specs.declared.pattern_term.PatternTerm.{PatternTerm}
use Rattle.terms.specs.declared.term.Term.{Term}
use Rattle.terms.proofs.Meant.{same_meant}
use Rattle.fitting.specs.Bindings.{bound}

pub only_if_same : (b : List (Option Term)) (held t : Term) (r : Bool) (o : Option (List (Option Term))) → Decides r (held ≡ t) → o ≡ cond r (Some b) None → option_map bound o ≡ cond (term_meant held == term_meant t) (Some (bound b)) None
only_if_same b held t true o d e = ap (option_map bound) e ∙ sym (ap (λ w. cond w (Some (bound b)) None) (eq-eqb (term_meant held) (term_meant t) (ap term_meant (d.0 refl))))
only_if_same b held t false o d e = ap (option_map bound) e ∙ sym (ap (λ w. cond w (Some (bound b)) None) (ne_eqb (term_meant held) (term_meant t) (λ m. false≢true (d.1 (same_meant held t m)))))

pub terms_missing : (b : Binding) (ss : List PatternTerm) (ts : List Term) → 1 ≤ length ss → length ts < 1 → None ≡ fit_slots b (map slot_meant ss) (map term_meant ts)
terms_missing b [] ts p q = absurd (omega (arith, p))
terms_missing b (s ∷ ss) [] p q = refl
terms_missing b (s ∷ ss) (t ∷ ts) p q = absurd (omega (arith, q))
