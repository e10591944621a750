-- The deepest way out of four tries.
use Rattle.std.proofs.Common.{rules, ◌≡◌, ◌≤◌, ◌<◌, ℕ, List, [], ◌∷◌, Ok, Err, Result, inl, inr, sym, subst, slice_index_or, length}
use Rattle.short_rows.specs.Tries.{TriesFrom}

-- a list of four, from what stands at each index
pub four_of : {A : Type 0} (xs : List A) (a b c d : A) → 4 ≤ length xs → length xs < 5 → a ≡ slice_index_or xs 0 a → b ≡ slice_index_or xs 1 b → c ≡ slice_index_or xs 2 c → d ≡ slice_index_or xs 3 d → a ∷ b ∷ c ∷ d ∷ [] ≡ xs
four_of [] a b c d l m p q r s = search rules
four_of (x ∷ []) a b c d l m p q r s = search rules
four_of (x ∷ y ∷ []) a b c d l m p q r s = search rules
four_of (x ∷ y ∷ z ∷ []) a b c d l m p q r s = search rules
four_of (x ∷ y ∷ z ∷ w ∷ []) a b c d l m p q r s = search rules
four_of (x ∷ y ∷ z ∷ w ∷ v ∷ more) a b c d l m p q r s = search rules

pub fourth_fails : {A B E : Type 0} (R : ℕ → A → Result B E → Type 0) (xs : List A) (r : Result (List B) E) (a b c d : A) (u v w : B) (e : E) → a ∷ b ∷ c ∷ d ∷ [] ≡ xs → r ≡ Err e → R 0 a (Ok u) → R 1 b (Ok v) → R 2 c (Ok w) → R 3 d (Err e) → TriesFrom R 0 xs r
fourth_fails R xs r a b c d u v w e p q h0 h1 h2 h3 =
    subst (λ ys. TriesFrom R 0 ys r) p (subst (λ s. TriesFrom R 0 (a ∷ b ∷ c ∷ d ∷ []) s) (sym q) (inr (u, h0, inr (v, h1, inr (w, h2, inl h3)))))
