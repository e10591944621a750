-- What a test that decides whether two values are the same is, and gives.
use Rattle.std.proofs.Common.{◌≡◌, Bool, Decides, sym, ◌∙◌, subst}
use Rattle.std.specs.Cmp.{IsPartialEquivalence, both_ways}

pub decides_per : {K : Type 0} (E : K → K → Bool) → ((x y : K) → Decides (E x y) (x ≡ y)) → IsPartialEquivalence E
decides_per E d = record {
  symm = λ x y. both_ways (E x y) (E y x) (λ p. (d y x).1 (sym ((d x y).0 p))) (λ p. (d x y).1 (sym ((d y x).0 p)));
  trans = λ x y z p q. (d x z).1 ((d x y).0 p ∙ (d y z).0 q);
}

-- an answer that is what such a test gives decides it
pub answer_decides : {K : Type 0} (E : K → K → Bool) → ((x y : K) → Decides (E x y) (x ≡ y)) → (x y : K) (r : Bool) → r ≡ E x y → Decides r (x ≡ y)
answer_decides E d x y r e = subst (λ b. Decides b (x ≡ y)) (sym e) (d x y)
