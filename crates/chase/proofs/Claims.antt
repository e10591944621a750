-- An accepted claim is a match in the pile, and so in every model.
use Rattle.std.proofs.Common.{◌≡◌, ℕ, suc, Bool, true, false, cond, ◌||◌, eqb, List, [], ◌∷◌, length, is_some, Some, None, Option, sym, refl, ap, ◌∙◌, subst}
use mathlib.Core.Bool.{or-false, or_assoc}
use mathlib.Core.Logic.{∥∥₁_map}
use Rattle.std.specs.List.{slice_get, AllByRecursion}
use Rattle.semantics.specs.Subject.{Pattern, Atom, Binding, Candidate, Holds, Match, Extends, in_slots, in_patterns}
use Rattle.semantics.specs.Computed.{fit, nothing}
use Rattle.semantics.specs.Subject.{On}
use Rattle.chase.specs.Chase.{run, start, Claim, accepted, refused, claim_fit, claim_place, goes_on, claim_from, claim}
use Rattle.chase.specs.Theorems.{EntailedSound, InconsistentSound}
use Rattle.semantics.proofs.Fitting.{none_some, Grown, fit_sound, all_more}
use Rattle.chase.proofs.Image.{sent_match, universal, through}

abbrev is_accepted : Claim → Bool
is_accepted (refused n x y) = false
is_accepted (accepted b) = true

abbrev binding_of : Claim → Binding → Binding
binding_of (refused n x y) d = d
binding_of (accepted b) d = b

pub refused_not : {n x y : ℕ} {b : Binding} → refused n x y ≡ accepted b → ⊥
refused_not {n} {x} {y} {b} e = none_some {A = ℕ} {x = 0} (ap (λ c. cond (is_accepted c) (Some 0) None) e)

pub accepted_is : {b c : Binding} → accepted b ≡ accepted c → b ≡ c
accepted_is {b} {c} e = ap (λ x. binding_of x b) e

pub holds_more : (m : Candidate) (b c : Binding) (p : Pattern) → Extends b c → Holds m b p → Holds m c p
holds_more m b c p x h = (h.0, (h.1.0, all_more b c p.slots h.0.terms x h.1.1), h.2)

module _ (pile : List Atom) where
  one_claim : (b : Binding) (i : ℕ) (p : Pattern) (k : ℕ) (c : Binding) → claim_place b i p k (slice_get pile k) ≡ accepted c → Grown b c (Holds (On pile) c p) (λ i. in_slots i p.slots)
  one_claim b i p k c = at (slice_get pile k) refl
    where
      fits : (a : Atom) → slice_get pile k ≡ Some a → (o : Option Binding) → fit b p a ≡ o → claim_fit i k o ≡ accepted c → Grown b c (Holds (On pile) c p) (λ i. in_slots i p.slots)
      fits a q None f e = absurd (refused_not e)
      fits a q (Some d) f e =
          let g = fit_sound b p a c (f ∙ ap Some (accepted_is e)) in
          record { gives = (a, g.gives, (k, q)); more = g.more; exact = g.exact }

      at : (o : Option Atom) → slice_get pile k ≡ o → claim_place b i p k o ≡ accepted c → Grown b c (Holds (On pile) c p) (λ i. in_slots i p.slots)
      at None q e = absurd (refused_not e)
      at (Some a) q e = fits a q (fit b p a) refl e

  pub on_accepted : (o : Claim) (f : Binding → Claim) (c : Binding) → goes_on o f ≡ accepted c → (d : Binding) × (o ≡ accepted d) × (f d ≡ accepted c)
  on_accepted (refused n x y) f c e = absurd (refused_not e)
  on_accepted (accepted d) f c e = (d, refl, e)

  claims : (b : Binding) (i : ℕ) (ps : List Pattern) (ks : List ℕ) (c : Binding) → claim_from pile b i ps ks ≡ accepted c → Grown b c (AllByRecursion (Holds (On pile) c) ps) (λ i. in_patterns i ps)
  claims b i [] [] c e = subst (λ d. Grown b d (Unit {0}) (λ i. false)) (accepted_is e) (record { gives = tt; more = λ i u g. g; exact = λ i. sym (or-false (is_some (b i))) })
  claims b i [] (k ∷ ks) c e = absurd (refused_not e)
  claims b i (p ∷ ps) [] c e = absurd (refused_not e)
  claims b i (p ∷ ps) (k ∷ ks) c e =
      let h = on_accepted (claim_place b i p k (slice_get pile k)) (λ d. claim_from pile d (suc i) ps ks) c e in
      let first = one_claim b i p k h.0 h.1 in
      let rest = claims h.0 (suc i) ps ks c h.2 in
      record {
        gives = (holds_more (On pile) h.0 c p rest.more first.gives, rest.gives);
        more = λ i u g. rest.more i u (first.more i u g);
        exact = λ i. rest.exact i ∙ ap (λ w. w || in_patterns i ps) (first.exact i) ∙ or_assoc (is_some (b i)) (in_slots i p.slots) (in_patterns i ps);
      }

  pub claimed : (ps : List Pattern) (ks : List ℕ) (c : Binding) → claim pile ps ks ≡ accepted c → Match (On pile) c ps
  claimed ps ks c = go (eqb (length ps) (length ks))
    where
      go : (w : Bool) → cond w (claim_from pile nothing 0 ps ks) (refused 16 (length ks) 0) ≡ accepted c → Match (On pile) c ps
      go true e = let g = claims nothing 0 ps ks c e in (g.exact, g.gives)
      go false e = absurd (refused_not e)

pub entailed : (m : Candidate) → EntailedSound m
entailed m facts rules steps query places b f p q e model =
    ∥∥₁_map (universal m facts rules steps f p model) (λ img. (through img.to b, sent_match m (run rules (start facts) steps).pile img b query q (claimed (run rules (start facts) steps).pile query places b e)))

pub inconsistent : (m : Candidate) → InconsistentSound m
inconsistent m facts rules steps constraint places b f p q e model obeys = obeys (entailed m facts rules steps constraint places b f p q e model)
