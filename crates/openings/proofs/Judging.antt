-- An atom of a stock is unfit exactly where what it means is unfit in the pile.
use Rattle.std.proofs.Common.{◌≡◌, ℕ, ◌≤◌, List, length, Some, None, Option, sym, ap, ◌∙◌, subst}
use Rattle.std.specs.List.{slice_get}
use Rattle.std.specs.Option.{option_map}
use Rattle.std.proofs.lemmas.Option.{slice_get_past}
use Rattle.semantics.proofs.Fitting.{some_is, none_some}
use Rattle.atoms.specs.Meaning.{atom_meant}
use Rattle.atoms.specs.declared.atom.Atom.{Atom}
use Rattle.atoms.proofs.Meant.{same_atom}
use Rattle.terms.specs.declared.term.Term.{Term}
use Rattle.matching.specs.Searches.{pile}
use Rattle.matching.proofs.Rounds.{nth_map}
use Rattle.openings.specs.Earlier.{Before}
use Rattle.chase.specs.Unfit.{FactOf, UnfitAt, no_fact, repeated}

pub meant_at : (xs : List (Atom Term)) (k : ℕ) (o : Option (Atom Term)) → slice_get xs k ≡ o → slice_get (pile xs) k ≡ option_map atom_meant o
meant_at xs k o e = nth_map atom_meant xs k ∙ ap (option_map atom_meant) e

at_meant : (xs : List (Atom Term)) (k : ℕ) (a : Atom Term) → slice_get (pile xs) k ≡ Some (atom_meant a) → slice_get xs k ≡ Some a
at_meant xs k a e = go (slice_get xs k) (sym (nth_map atom_meant xs k) ∙ e)
  where
    go : (o : Option (Atom Term)) → option_map atom_meant o ≡ Some (atom_meant a) → o ≡ Some a
    go None q = absurd (none_some q)
    go (Some x) q = ap Some (same_atom x a (some_is q))

module _ (arities : List ℕ) (xs : List (Atom Term)) (place : ℕ) where
  pub none_unfit : None ≡ slice_get xs place → UnfitAt arities (pile xs) place → ⊥
  none_unfit e (no_fact b there n) = none_some (sym (meant_at xs place None (sym e)) ∙ there)
  none_unfit e (repeated b k h at there) = none_some (sym (meant_at xs place None (sym e)) ∙ there)

  pub past_unfit : length xs ≤ place → UnfitAt arities (pile xs) place → ⊥
  past_unfit h = none_unfit (sym (slice_get_past xs place h))

  module _ (a : Atom Term) (is : slice_get xs place ≡ Some a) where
    pub strange : (FactOf arities (atom_meant a) → ⊥) → UnfitAt arities (pile xs) place
    strange n = no_fact (atom_meant a) (meant_at xs place (Some a) is) n

    pub again : Before xs place a → UnfitAt arities (pile xs) place
    again (k, h, e) = repeated (atom_meant a) k h (meant_at xs k (Some a) e) (meant_at xs place (Some a) is)

    pub was_before : FactOf arities (atom_meant a) → UnfitAt arities (pile xs) place → Before xs place a
    was_before f (no_fact b there n) = absurd (n (subst (FactOf arities) (some_is (sym (meant_at xs place (Some a) is) ∙ there)) f))
    was_before f (repeated b k h at there) = (k, h, at_meant xs k a (at ∙ sym there ∙ meant_at xs place (Some a) is))
