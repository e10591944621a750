-- One turn of fitting patterns at named places.
use Rattle.std.proofs.Common.{◌≡◌, ℕ, ◌+◌, ◌<◌, List, length, get_or, IsErrAnd, Some, None, Ok, Err, Option, Result, sym, ap, ◌∙◌, subst, add-one}
use Rattle.std.specs.List.{slice_get}
use Rattle.std.specs.Option.{option_map, ok_or}
use Rattle.std.proofs.lemmas.Option.{slice_get-get_or}
use Rattle.std.proofs.lemmas.Result.{err_from_is_err_and}
use Rattle.semantics.specs.Subject as subject
use Rattle.semantics.proofs.Placing.{Sofar, one_more, stops}
use Rattle.atoms.specs.Meaning.{atom_meant, pattern_meant}
use Rattle.atoms.specs.declared.atom.Atom.{Atom}
use Rattle.atoms.specs.declared.atom.Atom as code
use Rattle.refusals.specs.Refusals.{Is}
use Rattle.semantics.specs.Computed.{fit}
use Rattle.refusals.specs.declared.refusal.Refusal.{Refusal}
use Rattle.terms.specs.declared.pattern_term.PatternTerm.{PatternTerm}
use Rattle.terms.specs.declared.term.Term.{Term}
use Rattle.fitting.specs.Bindings.{bound, bound_or}
use Rattle.matching.specs.Places.{NotPlaced, past, unfit, NotFitted, place_past, place_unfit, FittedAt, Placed}
use Rattle.matching.specs.Searches.{pile, patterns_meant}
use Rattle.matching.proofs.Rounds.{nth_map}

module _ (pile : List subject.Atom) (ps : List (Atom PatternTerm)) (ks : List ℕ) (i : ℕ) (p : Atom PatternTerm) (hp : i < length ps) (ep : p ≡ get_or ps i p) (hk : i < length ks) (b : subject.Binding) (so : Sofar pile (patterns_meant ps) ks b i) where
  pattern_there : slice_get (patterns_meant ps) i ≡ Some (pattern_meant p)
  pattern_there = nth_map pattern_meant ps i ∙ ap (option_map pattern_meant) (slice_get-get_or ps i p hp ∙ ap Some (sym ep))

  place_there : slice_get ks i ≡ Some (get_or ks i 0)
  place_there = slice_get-get_or ks i 0 hk

  pub placed_more : (c : subject.Binding) → FittedAt pile b i (pattern_meant p) (get_or ks i 0) (Ok c) → Sofar pile (patterns_meant ps) ks c (i + 1)
  placed_more c f = rw add-one (one_more pile (patterns_meant ps) ks b i so (pattern_meant p) (get_or ks i 0) f.0 pattern_there place_there f.1 c f.2)

  pub not_placed : length (patterns_meant ps) ≡ length ks → (e : Refusal) → NotFitted pile b i (pattern_meant p) (get_or ks i 0) e → NotPlaced pile (patterns_meant ps) ks e
  not_placed long e (place_past is none) = past i (get_or ks i 0) is long place_there none (b, so.fits)
  not_placed long e (place_unfit a is there none) =
      unfit i (get_or ks i 0) a is long place_there there (b, so.fits) (λ f. stops pile (patterns_meant ps) ks b i so (pattern_meant p) (get_or ks i 0) a pattern_there place_there there none f.0 f.1)

-- the exit with that refusal
pub exits : (pile : List subject.Atom) (ps : List subject.Pattern) (ks : List ℕ) (e : Refusal) (r : Result (List (Option Term)) Refusal) → IsErrAnd r (λ x. x ≡ e) → NotPlaced pile ps ks e → Placed pile ps ks (bound_or r)
exits pile ps ks e r out not =
    let p = err_from_is_err_and r out in
    subst (λ x. Placed pile ps ks (bound_or x)) (sym (p.1 ∙ ap Err p.2)) not

-- the atom at the place, fitted or not
pub fitted : (xs : List (code.Atom Term)) (b : subject.Binding) (i : ℕ) (p : subject.Pattern) (k : ℕ) (a : code.Atom Term) → slice_get xs k ≡ Some a → (o : Option (List (Option Term))) → option_map bound o ≡ fit b p (atom_meant a) → (e : Refusal) → Is e 13 i k → (r : Result (List (Option Term)) Refusal) → r ≡ ok_or o e → FittedAt (pile xs) b i p k (bound_or r)
fitted xs b i p k a there (Some c) f e is r q = subst (λ x. FittedAt (pile xs) b i p k (bound_or x)) (sym q) (atom_meant a, nth_map atom_meant xs k ∙ ap (option_map atom_meant) there, sym f)
fitted xs b i p k a there None f e is r q = subst (λ x. FittedAt (pile xs) b i p k (bound_or x)) (sym q) (place_unfit (atom_meant a) is (nth_map atom_meant xs k ∙ ap (option_map atom_meant) there) (sym f))
