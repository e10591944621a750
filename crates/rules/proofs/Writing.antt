-- Rules as they are checked.
use Rattle.std.proofs.Common.{◌≡◌, ℕ, zero, suc, List, [], ◌∷◌, ◌++◌, length, take, IsErrAnd, Some, None, Err, Option, Result, sym, refl, ap, ◌∙◌, subst}
use Rattle.std.specs.List.{slice_get, AllByRecursion}
use Rattle.std.specs.Option.{ok_or}
use Rattle.std.proofs.lemmas.Result.{err_from_is_err_and}
use Rattle.semantics.proofs.Fitting.{none_some}
use Rattle.reading.specs.Written.{slot_written}
use Rattle.atoms.specs.declared.atom.Atom.{Atom}
use Rattle.reading.specs.declared.raw.RawAtom.{RawAtom}
use Rattle.refusals.specs.declared.refusal.Refusal.{Refusal}
use Rattle.refusals.specs.declared.refusal.Refusal.TheVariants.{NoGuard}
use Rattle.terms.specs.declared.pattern_term.PatternTerm.{PatternTerm}
use Rattle.declarations.specs.Bodies as bodies
use Rattle.declarations.specs.Bodies.{OneToFour, Fine, FirstRefused, PatternsRefused, Pairwise, TakenAs}
use Rattle.declarations.specs.Checked.{AtomRefused}
use Rattle.rules.specs.Rules.{MakesRule, Written, RuleRefused, RuleChecked, wrong_number, refused_atom, unguarded}
use Rattle.rules.specs.declared.rule.Rule.{Rule}
use Rattle.declarations.proofs.Pairing.{all_fine}

nth_left : {A : Type 0} (xs ys : List A) (i : ℕ) (x : A) → slice_get xs i ≡ Some x → slice_get (xs ++ ys) i ≡ Some x
nth_left [] ys i x e = absurd (none_some e)
nth_left (z ∷ xs) ys zero x e = e
nth_left (z ∷ xs) ys (suc i) x e = nth_left xs ys i x e

take_left : {A : Type 0} (xs ys : List A) (i : ℕ) (x : A) → slice_get xs i ≡ Some x → take i xs ≡ take i (xs ++ ys)
take_left [] ys i x e = absurd (none_some e)
take_left (z ∷ xs) ys zero x e = refl
take_left {A = A} (z ∷ xs) ys (suc i) x e = ap (λ (us : List A). z ∷ us) (take_left xs ys i x e)

nth_end : {A : Type 0} (xs : List A) (x : A) → slice_get (xs ++ x ∷ []) (length xs) ≡ Some x
nth_end [] x = refl
nth_end (z ∷ xs) x = nth_end xs x

take_end : {A : Type 0} (xs ys : List A) → xs ≡ take (length xs) (xs ++ ys)
take_end [] ys = refl
take_end {A = A} (z ∷ xs) ys = ap (λ (us : List A). z ∷ us) (take_end xs ys)

module _ (arities : List ℕ) (body : List RawAtom) (head : RawAtom) where
  pub rule_stops : (e : Refusal) (r : Result Rule Refusal) → IsErrAnd r (λ k. k ≡ e) → RuleRefused arities body head e → RuleChecked arities body head r
  rule_stops e r out h =
      let p = err_from_is_err_and r out in
      subst (RuleChecked arities body head) (sym (p.1 ∙ ap Err p.2)) h

  -- what refuses the body refuses the rule
  pub body_refused : (e : Refusal) → PatternsRefused arities body e → RuleRefused arities body head e
  body_refused e (bodies.wrong_number out is) = wrong_number out is
  body_refused e (bodies.refused_atom few f) =
      refused_atom few (record {
        index = f.index;
        atom = f.atom;
        there = nth_left body (head ∷ []) f.index f.atom f.there;
        before = subst (AllByRecursion (Fine arities)) (take_left body (head ∷ []) f.index f.atom f.there) f.before;
        refused = f.refused;
      })

  pub head_refused : (e : Refusal) (ps : List (Atom PatternTerm)) → OneToFour (length body) → Pairwise (TakenAs arities) body ps → AtomRefused slot_written arities (length body) head e → RuleRefused arities body head e
  head_refused e ps few h refused =
      refused_atom few (record {
        index = length body;
        atom = head;
        there = nth_end body head;
        before = subst (AllByRecursion (Fine arities)) (take_end body (head ∷ [])) (all_fine arities body ps h);
        refused = refused;
      })

  pub rule_made : (b : List (Atom PatternTerm)) (h : Atom PatternTerm) (o : Option Rule) → OneToFour (length body) → Written arities body head b h → MakesRule b h o → RuleChecked arities body head (ok_or o NoGuard)
  rule_made b h None few w u = unguarded few b h w u (refl, refl, refl)
  rule_made b h (Some r) few w u =
      (few, (subst (λ (x : List (Atom PatternTerm)). Pairwise (TakenAs arities) body x) (sym u.0) w.0, subst (TakenAs arities head) (sym u.1) w.1))
