-- A function called at each of a list.
use Rattle.std.specs.Prelude.{ℕ, suc, ◌⊎◌, List, [], ◌∷◌, Ok, Err, Result}

-- y stands where x does, for each pair that R relates
abbrev pub Each : {A B : Type 0} → (A → B → Type 0) → List A → List B → Type 0
Each R [] [] = Unit {0}
Each R [] (y ∷ ys) = ⊥
Each R (x ∷ xs) [] = ⊥
Each R (x ∷ xs) (y ∷ ys) = R x y × Each R xs ys

-- R relates each index, from i on, and what stands there to what is given of it: all of these, or the first error
abbrev pub TriesFrom : {A B E : Type 0} → (ℕ → A → Result B E → Type 0) → ℕ → List A → Result (List B) E → Type 0
TriesFrom R i [] (Ok []) = Unit {0}
TriesFrom R i [] (Ok (y ∷ ys)) = ⊥
TriesFrom R i [] (Err e) = ⊥
TriesFrom R i (x ∷ xs) (Ok []) = ⊥
TriesFrom R i (x ∷ xs) (Ok (y ∷ ys)) = R i x (Ok y) × TriesFrom R (suc i) xs (Ok ys)
TriesFrom {A = A} {B = B} {E = E} R i (x ∷ xs) (Err e) = R i x (Err e) ⊎ ((y : B) × R i x (Ok y) × TriesFrom {A = A} {B = B} {E = E} R (suc i) xs (Err e))
