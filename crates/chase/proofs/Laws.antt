-- The step follows the relation.
use Rattle.std.proofs.Common.{◌≡◌, ℕ, suc, Bool, true, false, cond, eqb, List, [], ◌∷◌, length, Some, None, Option, sym, refl, ap, ◌∙◌, subst}
use mathlib.Core.Path.{fun_ext}
use Rattle.std.specs.List.{slice_get}
use Rattle.std.proofs.lemmas.Bool.{both_ways, eq-eqb}
use Rattle.semantics.specs.Subject.{Pattern, Atom, Binding, Rule, Fits, Holds, Match, Extends, Exactly, Guards}
use Rattle.semantics.specs.Subject.{On}
use Rattle.chase.specs.Chase.{numbered, State, guard_of, fresh, with_head, step, missing, after_side, after_fit, after_place, after_guard, after_rule, accepted, refused, claim_from, claim_place, claim_fit, goes_on}
use Rattle.semantics.specs.Computed.{nothing, fit, atom_of, guard, and_then}
use Rattle.chase.specs.Firing.{Fires}
use Rattle.chase.specs.Law.{Used, is_broken, StepExact, ClaimExact}
use Rattle.semantics.specs.Subject.{AtPlaces}
use Rattle.chase.proofs.Claims.{refused_not, accepted_is, on_accepted}
use Rattle.semantics.proofs.Guarding.{guards, guard_only}
use Rattle.semantics.proofs.Fitting.{then_some, some_is, none_some, fit_sound, fit_complete, gives_terms, all_more}
use Rattle.chase.proofs.Piles.{guard_exact, none_missing, every_map}
use Rattle.chase.proofs.Image.{on_match}
use Rattle.chase.proofs.Refutes.{same_part}

same_binding : (b c : Binding) → Extends b c → Extends c b → b ≡ c
same_binding b c x y = fun_ext (λ i. go i (b i) (c i) refl refl)
  where
    go : (i : ℕ) (o p : Option ℕ) → b i ≡ o → c i ≡ p → b i ≡ c i
    go i None None e f = e ∙ sym f
    go i None (Some u) e f = absurd (none_some (sym e ∙ y i u f))
    go i (Some t) p e f = e ∙ sym (x i t e)

-- the binding of a match of the body is the one that the guard gives
pub only_binding : (pile : List Atom) (r : Rule) (g : Pattern) (a : Atom) (b : Binding) → guard_of r ≡ Some g → Fits b g a → Exactly b r.body → fit nothing g a ≡ Some b
only_binding pile r g a b ge f x =
    let h = fit_complete nothing b g a (λ i t e. absurd (none_some e)) f in
    h.1 ∙ ap Some (same_binding h.0 b h.2 (same_part h.0 b h.2 (λ i. guard_exact r g a h.0 ge h.1 i ∙ sym (x i))))

holds_on : (pile : List Atom) (b : Binding) (p : Pattern) → Holds (On pile) b p → On pile (atom_of b p)
holds_on pile b p h = subst (On pile) (λ i. record { pred = sym h.1.0 i; terms = gives_terms b p.slots h.0.terms h.1.1 i }) h.2

-- the guard of the relation is the one that is computed
pub guard_known : (r : Rule) (k : ℕ) (g : Guards r.body k) → guard_of r ≡ Some g.pattern
guard_known r k g = ap (λ o. and_then o (slice_get r.body)) (guard_only r.body k g) ∙ g.there

module _ (rules : List Rule) (s : State) (k place : ℕ) where
  fires : (f : Used rules s k place) → step rules s k place ≡ with_head s f.rule.head (fresh f.by s.nulls f.rule.head.slots)
  fires f =
      let r = f.rule in
      let g = f.fires.guards in
      let ge = guard_known r f.fires.index g in
      ap (after_rule s k place) f.named
      ∙ ap (after_guard s r place) ge
      ∙ ap (after_place s r place g.pattern) f.fires.there
      ∙ ap (after_fit s r place) (only_binding s.pile r g.pattern f.fires.at f.by ge f.fires.fits f.fires.matches.0)
      ∙ ap (after_side s r f.by) (none_missing s.pile f.by r.body (every_map (Holds (On s.pile) f.by) (λ p. On s.pile (atom_of f.by p)) r.body (holds_on s.pile f.by) f.fires.matches.1))

  -- what is computed fires
  used : (r : Rule) (g : Pattern) (a : Atom) (b : Binding) → guard_of r ≡ Some g → slice_get s.pile place ≡ Some a → fit nothing g a ≡ Some b → Match (On s.pile) b r.body → Fires s.pile r place b
  used r g a b e there f m =
      let h = then_some (guard r.body) (slice_get r.body) g e in
      let q = guards r.body h.0 h.1 in
      record { index = h.0; guards = q; at = a; there = there; fits = subst (λ p. Fits b p a) (some_is (sym h.2 ∙ q.there)) (fit_sound nothing g a b f).gives; matches = m }

  unbroken : is_broken (step rules s k place) ≡ false → Used rules s k place
  unbroken = rule_case (numbered rules k) refl
    where
      no : true ≡ false → ⊥
      no e = both_ways true e refl

      side_case : (r : Rule) (g : Pattern) (a : Atom) (b : Binding) → numbered rules k ≡ Some r → guard_of r ≡ Some g → slice_get s.pile place ≡ Some a → fit nothing g a ≡ Some b → (o : Option ℕ) → missing s.pile b r.body ≡ o → is_broken (after_side s r b o) ≡ false → Used rules s k place
      side_case r g a b e1 e2 e3 e4 (Some i) e5 h = absurd (no h)
      side_case r g a b e1 e2 e3 e4 None e5 h = record { rule = r; named = e1; by = b; fires = used r g a b e2 e3 e4 (on_match s.pile b r.body (guard_exact r g a b e2 e4) e5) }

      fit_case : (r : Rule) (g : Pattern) (a : Atom) → numbered rules k ≡ Some r → guard_of r ≡ Some g → slice_get s.pile place ≡ Some a → (o : Option Binding) → fit nothing g a ≡ o → is_broken (after_fit s r place o) ≡ false → Used rules s k place
      fit_case r g a e1 e2 e3 None e4 h = absurd (no h)
      fit_case r g a e1 e2 e3 (Some b) e4 h = side_case r g a b e1 e2 e3 e4 (missing s.pile b r.body) refl h

      place_case : (r : Rule) (g : Pattern) → numbered rules k ≡ Some r → guard_of r ≡ Some g → (o : Option Atom) → slice_get s.pile place ≡ o → is_broken (after_place s r place g o) ≡ false → Used rules s k place
      place_case r g e1 e2 None e3 h = absurd (no h)
      place_case r g e1 e2 (Some a) e3 h = fit_case r g a e1 e2 e3 (fit nothing g a) refl h

      guard_case : (r : Rule) → numbered rules k ≡ Some r → (o : Option Pattern) → guard_of r ≡ o → is_broken (after_guard s r place o) ≡ false → Used rules s k place
      guard_case r e1 None e2 h = absurd (no h)
      guard_case r e1 (Some g) e2 h = place_case r g e1 e2 (slice_get s.pile place) refl h

      rule_case : (o : Option Rule) → numbered rules k ≡ o → is_broken (after_rule s k place o) ≡ false → Used rules s k place
      rule_case None e1 h = absurd (no h)
      rule_case (Some r) e1 h = guard_case r e1 (guard_of r) refl h

pub steps_exact : StepExact
steps_exact rules s k place = (fires rules s k place, unbroken rules s k place)

module _ (pile : List Atom) where
  record Placed (b c : Binding) (p : Pattern) (k : ℕ) : Type 0 where
    at : Atom
    there : slice_get pile k ≡ Some at
    fits : Fits c p at
    more : Extends b c

  one_placed : (b : Binding) (i : ℕ) (p : Pattern) (k : ℕ) (c : Binding) → claim_place b i p k (slice_get pile k) ≡ accepted c → Placed b c p k
  one_placed b i p k c = at (slice_get pile k) refl
    where
      in_fit : (a : Atom) → slice_get pile k ≡ Some a → (o : Option Binding) → fit b p a ≡ o → claim_fit i k o ≡ accepted c → Placed b c p k
      in_fit a q None f e = absurd (refused_not e)
      in_fit a q (Some d) f e =
          let g = fit_sound b p a c (f ∙ ap Some (accepted_is e)) in
          record { at = a; there = q; fits = g.gives; more = g.more }

      at : (o : Option Atom) → slice_get pile k ≡ o → claim_place b i p k o ≡ accepted c → Placed b c p k
      at None q e = absurd (refused_not e)
      at (Some a) q e = in_fit a q (fit b p a) refl e

  placed : (b : Binding) (i : ℕ) (ps : List Pattern) (ks : List ℕ) (c : Binding) → claim_from pile b i ps ks ≡ accepted c → AtPlaces pile c ps ks × Extends b c
  placed b i [] [] c e = (tt, subst (Extends b) (accepted_is e) (λ i t h. h))
  placed b i [] (k ∷ ks) c e = absurd (refused_not e)
  placed b i (p ∷ ps) [] c e = absurd (refused_not e)
  placed b i (p ∷ ps) (k ∷ ks) c e =
      let h = on_accepted pile (claim_place b i p k (slice_get pile k)) (λ d. claim_from pile d (suc i) ps ks) c e in
      let first = one_placed b i p k h.0 h.1 in
      let rest = placed h.0 (suc i) ps ks c h.2 in (
        ((first.at, first.there, (first.fits.0, all_more h.0 c p.slots first.at.terms rest.1 first.fits.1)), rest.0),
        λ j t q. rest.1 j t (first.more j t q),
      )

  takes : (b c : Binding) (i : ℕ) (ps : List Pattern) (ks : List ℕ) → Extends b c → AtPlaces pile c ps ks → (d : Binding) × (claim_from pile b i ps ks ≡ accepted d)
  takes b c i [] [] x h = (b, refl)
  takes b c i [] (k ∷ ks) x h = absurd h
  takes b c i (p ∷ ps) [] x h = absurd h
  takes b c i (p ∷ ps) (k ∷ ks) x h =
      let f = fit_complete b c p h.0.0 x h.0.2 in
      let rest = takes f.0 c (suc i) ps ks f.2 h.1 in
      (rest.0, ap (λ o. goes_on (claim_place b i p k o) (λ d. claim_from pile d (suc i) ps ks)) h.0.1 ∙ ap (λ o. goes_on (claim_fit i k o) (λ d. claim_from pile d (suc i) ps ks)) f.1 ∙ rest.1)

  as_many : (b : Binding) (ps : List Pattern) (ks : List ℕ) → AtPlaces pile b ps ks → length ps ≡ length ks
  as_many b [] [] h = refl
  as_many b [] (k ∷ ks) h = absurd h
  as_many b (p ∷ ps) [] h = absurd h
  as_many b (p ∷ ps) (k ∷ ks) h = ap suc (as_many b ps ks h.1)

pub claims_exact : ClaimExact
claims_exact pile ps ks = (λ b. go b (eqb (length ps) (length ks)), λ b h. let t = takes pile nothing b 0 ps ks (λ i t e. absurd (none_some e)) h in (t.0, ap (λ w. cond w (claim_from pile nothing 0 ps ks) (refused 16 (length ks) 0)) (eq-eqb (length ps) (length ks) (as_many pile b ps ks h)) ∙ t.1))
  where
    go : (b : Binding) (w : Bool) → cond w (claim_from pile nothing 0 ps ks) (refused 16 (length ks) 0) ≡ accepted b → AtPlaces pile b ps ks
    go b true e = (placed pile nothing 0 ps ks b e).0
    go b false e = absurd (refused_not e)
