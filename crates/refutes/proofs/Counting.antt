-- Entries taken one by one.
use Rattle.std.proofs.Common.{◌≡◌, ℕ, ◌<◌, List, map, length, get_or, Some, refl, ap, ◌∙◌, subst}
use Rattle.std.specs.List.{slice_get}
use Rattle.std.specs.Option.{option_map}
use Rattle.std.proofs.lemmas.Option.{slice_get_read}
use Rattle.matching.proofs.Rounds.{nth_map}

-- the entry after i others, and what it means
pub meant_there : {A B : Type 0} (f : A → B) (xs items : List A) (i : ℕ) (x : A) → items ≡ xs → i < length items → x ≡ get_or items i x → slice_get (map f xs) i ≡ Some (f x)
meant_there f xs items i x same l e = nth_map f xs i ∙ ap (option_map f) (subst (λ ys. slice_get ys i ≡ Some x) same (slice_get_read items _ i x refl l e))
