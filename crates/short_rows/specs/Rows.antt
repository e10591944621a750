-- Rows as lists.
use Rattle.std.proofs.Common.{◌≡◌, ℕ, List, [], ◌∷◌, length, refl, ap}
use Rattle.short_rows.specs.declared.row.Kept.{Kept}
use Rattle.short_rows.specs.declared.row.Kept.TheVariants.{One, Two, Three, Four}
use Rattle.short_rows.specs.declared.row.Row.TheInside.{Inside}

abbrev pub items : {T : Type 0} → Kept T → List T
items (One a) = a
items (Two a) = a
items (Three a) = a
items (Four a) = a

abbrev pub size : {T : Type 0} → Kept T → ℕ
size (One a) = 1
size (Two a) = 2
size (Three a) = 3
size (Four a) = 4

abbrev pub listed : {T : Type 0} → Inside T → List T
listed r = items r.kept

-- each has as many as its name says
abbrev pub Whole : {T : Type 0} → Inside T → Type 0
Whole r = length (items r.kept) ≡ size r.kept

abbrev pub kept_of : {T : Type 0} → List T → Kept T
kept_of [] = One []
kept_of (a ∷ []) = One (a ∷ [])
kept_of (a ∷ b ∷ []) = Two (a ∷ b ∷ [])
kept_of (a ∷ b ∷ c ∷ []) = Three (a ∷ b ∷ c ∷ [])
kept_of (a ∷ b ∷ c ∷ d ∷ more) = Four (a ∷ b ∷ c ∷ d ∷ more)

abbrev pub unlisted : {T : Type 0} → List T → Inside T
unlisted xs = record { kept = kept_of xs }

kept_back : {T : Type 0} (k : Kept T) → length (items k) ≡ size k → kept_of (items k) ≡ k
kept_back (One []) p = refl
kept_back (One (a ∷ [])) p = refl
kept_back (One (a ∷ b ∷ more)) p = cc
kept_back (Two []) p = cc
kept_back (Two (a ∷ [])) p = cc
kept_back (Two (a ∷ b ∷ [])) p = refl
kept_back (Two (a ∷ b ∷ c ∷ more)) p = cc
kept_back (Three []) p = cc
kept_back (Three (a ∷ [])) p = cc
kept_back (Three (a ∷ b ∷ [])) p = cc
kept_back (Three (a ∷ b ∷ c ∷ [])) p = refl
kept_back (Three (a ∷ b ∷ c ∷ d ∷ more)) p = cc
kept_back (Four []) p = cc
kept_back (Four (a ∷ [])) p = cc
kept_back (Four (a ∷ b ∷ [])) p = cc
kept_back (Four (a ∷ b ∷ c ∷ [])) p = cc
kept_back (Four (a ∷ b ∷ c ∷ d ∷ more)) p = refl

pub unlisted_listed : {T : Type 0} (r : Inside T) → Whole r → unlisted (listed r) ≡ r
unlisted_listed r p = ap (λ k. record { kept = k }) (kept_back r.kept p)
