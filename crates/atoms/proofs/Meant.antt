-- Atoms that mean the same are the same.
use Rattle.std.proofs.Common.{◌≡◌, ℕ, List, [], ◌∷◌, map, length, ap, arith}
use Rattle.semantics.specs.Subject as subject
use Rattle.terms.specs.Meaning.{term_meant}
use Rattle.terms.specs.declared.term.Term.{Term}
use Rattle.terms.proofs.Meant.{same_meant}
use Rattle.terms.specs.Same.{same_up_to}
use Rattle.atoms.specs.Meaning.{atom_meant}
use Rattle.atoms.specs.declared.atom.Atom.{Atom}

same_terms : (xs ys : List Term) → map term_meant xs ≡ map term_meant ys → xs ≡ ys
same_terms [] [] e = λ i. []
same_terms [] (y ∷ ys) e = absurd (omega (arith, ap length e))
same_terms (x ∷ xs) [] e = absurd (omega (arith, ap length e))
same_terms (x ∷ xs) (y ∷ ys) e = λ i. same_meant x y (ap (head (term_meant x)) e) i ∷ same_terms xs ys (ap tail e) i
  where
    head : ℕ → List ℕ → ℕ
    head d [] = d
    head d (z ∷ zs) = z

    tail : List ℕ → List ℕ
    tail [] = []
    tail (z ∷ zs) = zs

pub same_atom : (a b : Atom Term) → atom_meant a ≡ atom_meant b → a ≡ b
same_atom a b e = λ i. record {
  predicate = same_up_to a.predicate b.predicate (ap (λ (x : subject.Atom). x.pred) e) i;
  terms = same_terms a.terms b.terms (ap (λ (x : subject.Atom). x.terms) e) i;
}
