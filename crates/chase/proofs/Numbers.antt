-- What stands under a number is the same by cases and by subtraction.
use Rattle.std.proofs.Common.{◌≡◌, ℕ, ◌-◌, suc, zero, cond, List, None, Some, refl, ap, sym, ◌∙◌, arith}
use Rattle.std.proofs.Math.Dec.{eqb-suc-zero}
use Rattle.std.specs.List.{slice_get, AllByRecursion}
use Rattle.semantics.specs.Subject as subject
use Rattle.chase.specs.Chase.{numbered}
use Rattle.chase.proofs.Image.{numbered_every}

pub numbered_same : {A : Type 0} (xs : List A) (n : ℕ) → numbered xs n ≡ subject.numbered xs n
numbered_same xs zero = refl
numbered_same xs (suc k) =
    let one_less : suc k - 1 ≡ k = omega arith in
    sym (ap (λ z. cond z None (slice_get xs (suc k - 1))) (eqb-suc-zero k) ∙ ap (slice_get xs) one_less)

-- so what holds of each holds of what stands under a number
pub subject_every : {A : Type 0} (P : A → Type 0) (xs : List A) (n : ℕ) (x : A) → AllByRecursion P xs → subject.numbered xs n ≡ Some x → P x
subject_every P xs n x all e = numbered_every P xs n x all (numbered_same xs n ∙ e)
