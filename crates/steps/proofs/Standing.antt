-- An atom stands in the stock exactly where what it means stands in the pile.
use Rattle.std.proofs.Common.{◌≡◌, ℕ, zero, suc, ◌+◌, ◌<◌, ◌≤◌, List, [], ◌∷◌, map, length, get_or, take, Some, None, Option, sym, refl, ap, ◌∙◌, subst, add-one, arith}
use Rattle.std.specs.List.{slice_get, AllByRecursion, Contains as Has}
use Rattle.std.specs.Option.{option_map}
use Rattle.std.proofs.lemmas.Option.{slice_get-get_or}
use Rattle.semantics.specs.Subject as subject
use Rattle.semantics.specs.Subject.{On, Holds, Fits, Binding, Pattern}
use Rattle.semantics.specs.Computed.{atom_of}
use Rattle.semantics.proofs.Fitting.{some_is, none_some, gives_terms}
use Rattle.atoms.specs.Meaning.{atom_meant}
use Rattle.atoms.specs.declared.atom.Atom.{Atom}
use Rattle.atoms.proofs.Meant.{same_atom}
use Rattle.terms.specs.declared.term.Term.{Term}
use Rattle.matching.specs.Searches.{pile}
use Rattle.matching.proofs.Rounds.{nth_map}

-- the one atom that a pattern fits under a binding
same_fit : (b : Binding) (p : Pattern) (x y : subject.Atom) → Fits b p x → Fits b p y → x ≡ y
same_fit b p x y f g = λ i. record { pred = (sym f.0 ∙ g.0) i; terms = (gives_terms b p.slots x.terms f.1 ∙ sym (gives_terms b p.slots y.terms g.1)) i }

pub has_on : (xs : List (Atom Term)) (a : Atom Term) → Has xs a → On (pile xs) (atom_meant a)
has_on xs a (k, h, e) = (k, nth_map atom_meant xs k ∙ ap (option_map atom_meant) (slice_get-get_or xs k a h ∙ ap Some e))

mapped_is : (o : Option (Atom Term)) (a : Atom Term) → option_map atom_meant o ≡ Some (atom_meant a) → o ≡ Some a
mapped_is None a e = absurd (none_some e)
mapped_is (Some x) a e = ap Some (same_atom x a (some_is e))

nth_has : (xs : List (Atom Term)) (k : ℕ) (a : Atom Term) → slice_get xs k ≡ Some a → Has xs a
nth_has [] k a e = absurd (none_some e)
nth_has (x ∷ xs) zero a e = (zero, omega arith, some_is e)
nth_has (x ∷ xs) (suc k) a e = let h = nth_has xs k a e in (suc h.0, omega (arith, h.1), h.2)

pub on_has : (xs : List (Atom Term)) (a : Atom Term) → On (pile xs) (atom_meant a) → Has xs a
on_has xs a (k, e) = nth_has xs k a (mapped_is (slice_get xs k) a (sym (nth_map atom_meant xs k) ∙ e))

pub holds_there : (xs : List (Atom Term)) (b : Binding) (p : Pattern) (a : Atom Term) → Fits b p (atom_meant a) → Holds (On (pile xs)) b p → Has xs a
holds_there xs b p a f h = on_has xs a (subst (On (pile xs)) (same_fit b p h.0 (atom_meant a) h.1 f) h.2)

every_longer : {A : Type 0} (P : A → Type 0) (xs : List A) (i : ℕ) (x : A) → slice_get xs i ≡ Some x → AllByRecursion P (take i xs) → P x → AllByRecursion P (take (suc i) xs)
every_longer P [] i x e h p = absurd (none_some e)
every_longer P (y ∷ ys) zero x e h p = (subst P (sym (some_is e)) p, tt)
every_longer P (y ∷ ys) (suc i) x e h p = (h.0, every_longer P ys i x e h.1 p)

pub every_more : {A : Type 0} (P : A → Type 0) (xs : List A) (i : ℕ) (x : A) → slice_get xs i ≡ Some x → AllByRecursion P (take i xs) → P x → AllByRecursion P (take (i + 1) xs)
every_more P xs i x e h p = rw add-one (every_longer P xs i x e h p)
