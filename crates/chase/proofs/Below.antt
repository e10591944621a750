-- The numbers below one, tried in order.
use Rattle.std.proofs.Common.{◌≡◌, ℕ, ◌+◌, ◌<◌, ◌≤◌, Bool, true, false, Decides, MatchOption, Some, None, Option, length, slice_index_or, sym, refl, ◌∙◌, subst, arith}
use Rattle.std.specs.Bool.{MatchBool}
use Rattle.std.specs.List.{range_with_len, AllWithin, HoldsAt}
use Rattle.std.proofs.lemmas.Bool.{false≢true}
use Rattle.std.proofs.lemmas.List.FromFn.{length-range_with_len, get_or-range_with_len}

at_index : (n k : ℕ) → k < n → slice_index_or (range_with_len 0 n) k 0 ≡ k
at_index n k l = let e : 0 + k ≡ k = omega arith in get_or-range_with_len 0 n k 0 l ∙ e

module _ (n : ℕ) (Yes No : ℕ → Type 0) where
  all_below : (m : ℕ) → m ≤ n → AllWithin No (range_with_len 0 n) 0 m → (k : ℕ) → k < m → No k
  all_below m le all k l = subst No (at_index n k (omega (arith, le, l))) (all k 0 (omega arith) l)

  -- the first that passes a test
  pub first_below : (r : Option ℕ) → MatchOption r (AllWithin No (range_with_len 0 n) 0 (length (range_with_len 0 n))) (λ x. Yes x × (i : ℕ) × (i < length (range_with_len 0 n)) × HoldsAt (λ y. y ≡ x) (range_with_len 0 n) i × AllWithin No (range_with_len 0 n) 0 i) → MatchOption r ((k : ℕ) → k < n → No k) (λ x. Yes x × (x < n) × ((k : ℕ) → k < x → No k))
  first_below None m = λ k l. all_below (length (range_with_len 0 n)) (omega (arith, length-range_with_len 0 n)) m k (omega (arith, l, length-range_with_len 0 n))
  first_below (Some x) m =
      let i = m.1 in
      let l : i < n = omega (arith, m.2, length-range_with_len 0 n) in
      let same : i ≡ x = sym (at_index n i l) ∙ m.3 0 in
      (m.0, subst (λ j. j < n) same l, subst (λ j. (k : ℕ) → k < j → No k) same (all_below i (omega (arith, l)) m.4))

-- whether one has P
pub any_below : (n : ℕ) (P : ℕ → Type 0) (r : Bool) → MatchBool r ((k : ℕ) × (k < length (range_with_len 0 n)) × HoldsAt P (range_with_len 0 n) k) (AllWithin (λ k. P k → ⊥) (range_with_len 0 n) 0 (length (range_with_len 0 n))) → Decides r ((k : ℕ) × (k < n) × P k)
any_below n P true m =
    let l : m.0 < n = omega (arith, m.1, length-range_with_len 0 n) in
    (λ _. (m.0, l, subst P (at_index n m.0 l) (m.2 0)), λ _. refl)
any_below n P false m =
    (λ t. absurd (false≢true t), λ e. absurd (all_below n P (λ k. P k → ⊥) (length (range_with_len 0 n)) (omega (arith, length-range_with_len 0 n)) m e.0 (omega (arith, e.1, length-range_with_len 0 n)) e.2))
