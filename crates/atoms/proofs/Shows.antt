-- The text of terms, one term more.
use Rattle.std.proofs.Common.{◌≡◌, ℕ, ◌+◌, ◌<◌, List, [], ◌∷◌, ◌++◌, length, get_or, take, Some, None, Option, sym, refl, ap, ◌∙◌, append-nil}
use Rattle.std.proofs.Output.{then_text_assoc}
use Rattle.std.proofs.lemmas.List.{take_more}
use Rattle.std.specs.Fmt.{◌++?◌}
use Rattle.atoms.specs.Shown.{terms_shown}

module _ {T : Type 0} (shown : T → Option (List ℕ)) where
  last : (o : Option (List ℕ)) → Some (32 ∷ []) ++? o ++? Some [] ≡ Some [] ++? Some (32 ∷ []) ++? o
  last None = refl
  last (Some a) = ap (λ l. Some (32 ∷ l)) (append-nil a)

  pushed : (ts : List T) (t : T) → terms_shown shown (ts ++ t ∷ []) ≡ terms_shown shown ts ++? Some (32 ∷ []) ++? shown t
  pushed [] t = last (shown t)
  pushed (u ∷ ts) t =
      ap (λ o. Some (32 ∷ []) ++? shown u ++? o) (pushed ts t)
      ∙ sym (then_text_assoc (Some (32 ∷ [])) (shown u ++? terms_shown shown ts) (Some (32 ∷ []) ++? shown t) ∙ ap (λ o. Some (32 ∷ []) ++? o) (then_text_assoc (shown u) (terms_shown shown ts) (Some (32 ∷ []) ++? shown t)))

  pub shown_more : (p : List ℕ) (ts : List T) (i : ℕ) (t : T) → i < length ts → t ≡ get_or ts i t → (Some p ++? terms_shown shown (take i ts)) ++? (Some (32 ∷ []) ++? shown t) ≡ Some p ++? terms_shown shown (take (i + 1) ts)
  shown_more p ts i t h e =
      then_text_assoc (Some p) (terms_shown shown (take i ts)) (Some (32 ∷ []) ++? shown t)
      ∙ ap (λ o. Some p ++? o) (sym (pushed (take i ts) t))
      ∙ ap (λ x. Some p ++? terms_shown shown (take i ts ++ x ∷ [])) e
      ∙ ap (λ l. Some p ++? terms_shown shown l) (sym (take_more ts i t h))
