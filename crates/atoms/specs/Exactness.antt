-- Two atoms are the same where predicates and terms are.
use Rattle.std.proofs.Common.{◌≡◌, ◌==◌, ◌&&◌, Bool, true, Decides, ap}
use Rattle.std.specs.Cmp.{first_so, second_so}
use Rattle.std.specs.Cmp.Derive.{both_true}
use lib.Pointwise.{pointwise, pointwise_decides}
use Rattle.terms.specs.Same.{up_to_exact}
use Rattle.atoms.specs.declared.atom.Atom.{Atom}

pub atom_exact : {T : Type 0} {E : T → T → Bool} → ((x y : T) → Decides (E x y) (x ≡ y)) → (a b : Atom T) → Decides (a.predicate.number == b.predicate.number && pointwise E a.terms b.terms) (a ≡ b)
atom_exact {T = T} {E = E} d a b = (λ t. same (first_so (a.predicate.number == b.predicate.number) (pointwise E a.terms b.terms) t) (second_so (a.predicate.number == b.predicate.number) (pointwise E a.terms b.terms) t), λ e. both_true ((up_to_exact a.predicate b.predicate).1 (ap (λ (x : Atom T). x.predicate) e)) ((pointwise_decides d a.terms b.terms).1 (ap (λ (x : Atom T). x.terms) e)))
  where
    same : (a.predicate.number == b.predicate.number) ≡ true → pointwise E a.terms b.terms ≡ true → a ≡ b
    same p q = λ i. record { predicate = (up_to_exact a.predicate b.predicate).0 p i; terms = (pointwise_decides d a.terms b.terms).0 q i }
