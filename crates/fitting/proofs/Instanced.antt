-- Slots that are tried one by one under a binding.
use Rattle.std.proofs.Common.{ℕ, suc, List, [], ◌∷◌, map, Ok, Err, Result, inl, inr}
use Rattle.semantics.specs.Subject.{Binding, GivesAll}
use Rattle.terms.specs.Meaning.{term_meant, slot_meant}
use Rattle.terms.specs.declared.term.Term.{Term}
use Rattle.terms.specs.declared.pattern_term.PatternTerm.{PatternTerm}
use Rattle.short_rows.specs.Tries.{TriesFrom}
use Rattle.fitting.specs.Instances.{GivenOr, AllGivenOr}

module _ {E : Type 0} (b : Binding) (R : ℕ → PatternTerm → Result Term E → Type 0) (h : (i : ℕ) (s : PatternTerm) (r : Result Term E) → R i s r → GivenOr b (slot_meant s) r) where
  all_given : (i : ℕ) (ss : List PatternTerm) (ts : List Term) → TriesFrom R i ss (Ok ts) → GivesAll b (map slot_meant ss) (map term_meant ts)
  all_given i [] [] e = tt
  all_given i [] (t ∷ ts) e = absurd e
  all_given i (s ∷ ss) [] e = absurd e
  all_given i (s ∷ ss) (t ∷ ts) e = (h i s (Ok t) e.0, all_given (suc i) ss ts e.1)

  none_given : (i : ℕ) (ss : List PatternTerm) (d : E) → TriesFrom R i ss (Err d) → (ts : List ℕ) → GivesAll b (map slot_meant ss) ts → ⊥
  none_given i [] d e ts g = e
  none_given i (s ∷ ss) d e [] g = g
  none_given i (s ∷ ss) d (inl e) (t ∷ ts) g = h i s (Err d) e t g.0
  none_given i (s ∷ ss) d (inr e) (t ∷ ts) g = none_given (suc i) ss d e.2 ts g.1

  pub tries_given : (ss : List PatternTerm) (r : Result (List Term) E) → TriesFrom R 0 ss r → AllGivenOr b (map slot_meant ss) r
  tries_given ss (Ok ts) e = all_given 0 ss ts e
  tries_given ss (Err d) e = none_given 0 ss d e
