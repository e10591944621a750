-- Where what is given of each is a function's value, the whole is the mapped list.
use Rattle.std.proofs.Common.{◌≡◌, List, [], ◌∷◌, map}
use Rattle.short_rows.specs.Tries.{Each}

pub each_is_map : {A B : Type 0} (R : A → B → Type 0) (g : A → B) → ((x : A) (y : B) → R x y → y ≡ g x) → (xs : List A) (ys : List B) → Each R xs ys → ys ≡ map g xs
each_is_map R g h [] [] e = λ i. []
each_is_map R g h (x ∷ xs) (y ∷ ys) e = λ i. h x y e.0 i ∷ each_is_map R g h xs ys e.1 i
each_is_map R g h [] (y ∷ ys) e = absurd e
each_is_map R g h (x ∷ xs) [] e = absurd e
