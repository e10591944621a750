-- A refusal means what it says: where one is due, no rule may be used and no patterns are shown.
use Rattle.std.proofs.Common.{◌≡◌, ℕ, zero, suc, List, [], ◌∷◌, length, take, Some, None, sym, refl, ap, ◌∙◌, subst}
use Rattle.std.specs.List.{slice_get}
use Rattle.semantics.specs.Subject.{Atom, Binding, Pattern, Rule, Fits, LeastFit, Fitted, Extends, Holds, On, Guards, AtPlaces}
use Rattle.semantics.specs.Computed.{and_then, nothing}
use Rattle.semantics.proofs.Fitting.{some_is, none_some, fit_complete, fit_fitted}
use Rattle.semantics.proofs.Guarding.{guard_only}
use Rattle.chase.specs.Firing.{Fires}
use Rattle.chase.proofs.Claims.{holds_more}
use Rattle.chase.proofs.Piles.{every_nth, guard_exact}
use Rattle.chase.proofs.Refutes.{same_part}
use Rattle.refusals.specs.declared.refusal.Refusal.{Refusal}
use Rattle.matching.specs.Places.{NotPlaced}
use Rattle.matching.specs.Places as places
use Rattle.steps.specs.Stopping as stopping
use Rattle.steps.specs.Stopping.{Stopped}
use Rattle.calls.specs.Named.{Places, named}
use Rattle.protocol.specs.Calls.{Shown, Unshown, uneven_places, unplaced}

free : (d : Binding) → Extends nothing d
free d i t e = absurd (none_some e)

module _ (pile : List Atom) (rule : Rule) (place : ℕ) (b : Binding) (f : Fires pile rule place b) where
  -- a rule that may be used at the place has its guard fit the atom there
  guard_fits : (k : ℕ) (g : Guards rule.body k) (a : Atom) → slice_get pile place ≡ Some a → Fits b g.pattern a
  guard_fits k g a there =
      let same : f.index ≡ k = some_is (sym (guard_only rule.body f.index f.guards) ∙ guard_only rule.body k g) in
      let pattern : f.guards.pattern ≡ g.pattern = some_is (sym f.guards.there ∙ ap (slice_get rule.body) same ∙ g.there) in
      let atom : f.at ≡ a = some_is (sym f.there ∙ there) in
      subst (λ (x : Atom). Fits b g.pattern x) atom (subst (λ (p : Pattern). Fits b p f.at) pattern f.fits)

  -- and the least binding under which the guard fits binds all that b does
  guard_binds : (k : ℕ) (g : Guards rule.body k) (a : Atom) (c : Binding) → slice_get pile place ≡ Some a → LeastFit nothing g.pattern a c → Extends b c
  guard_binds k g a c there least =
      let h = fit_complete nothing b g.pattern a (free b) (guard_fits k g a there) in
      let d = h.0 in
      let known = ap (λ o. and_then o (slice_get rule.body)) (guard_only rule.body k g) ∙ g.there in
      let back = same_part d b h.2 (λ i. guard_exact rule g.pattern a d known h.1 i ∙ sym (f.matches.0 i)) in
      let own = subst (Fitted nothing g.pattern a) h.1 (fit_fitted nothing g.pattern a) in
      λ i t e. own.least c (free c) least.fits i t (back i t e)

-- where a use is refused the rule may not be used
pub not_fired_breaks : (pile : List Atom) (rule : Rule) (place : ℕ) (e : Refusal) → Stopped pile rule place e → (b : Binding) → Fires pile rule place b → ⊥
not_fired_breaks pile rule place e (stopping.past is none) b f = none_some (sym none ∙ f.there)
not_fired_breaks pile rule place e (stopping.unfit k g a is there never) b f = never b (free b) (guard_fits pile rule place b f k g a there)
not_fired_breaks pile rule place e (stopping.missing k g a c i is there least first) b f =
    let p = first.0.0 in
    first.0.2 (holds_more (On pile) b c p (guard_binds pile rule place b f k g a c there least) (every_nth (Holds (On pile) b) rule.body i p f.matches.1 first.0.1))

module _ (pile : List Atom) (b : Binding) where
  as_many : (ps : List Pattern) (ks : List ℕ) → AtPlaces pile b ps ks → length ps ≡ length ks
  as_many [] [] h = refl
  as_many [] (k ∷ ks) h = absurd h
  as_many (p ∷ ps) [] h = absurd h
  as_many (p ∷ ps) (k ∷ ks) h = ap suc (as_many ps ks h.1)

  -- an atom is at each place
  at_place : (ps : List Pattern) (ks : List ℕ) (i k : ℕ) → AtPlaces pile b ps ks → slice_get ks i ≡ Some k → slice_get pile k ≡ None → ⊥
  at_place [] [] i k h e none = none_some e
  at_place [] (x ∷ ks) i k h e none = h
  at_place (p ∷ ps) [] i k h e none = h
  at_place (p ∷ ps) (x ∷ ks) zero k h e none = none_some (sym none ∙ ap (slice_get pile) (sym (some_is e)) ∙ h.0.1)
  at_place (p ∷ ps) (x ∷ ks) (suc i) k h e none = at_place ps ks i k h.1 e none

  first_places : (n : ℕ) (ps : List Pattern) (ks : List ℕ) → AtPlaces pile b ps ks → AtPlaces pile b (take n ps) (take n ks)
  first_places zero ps ks h = tt
  first_places (suc n) [] [] h = tt
  first_places (suc n) [] (k ∷ ks) h = absurd h
  first_places (suc n) (p ∷ ps) [] h = absurd h
  first_places (suc n) (p ∷ ps) (k ∷ ks) h = (h.0, first_places n ps ks h.1)

  not_placed : (ps : List Pattern) (ks : List ℕ) (e : Refusal) → NotPlaced pile ps ks e → AtPlaces pile b ps ks → ⊥
  not_placed ps ks e (places.uneven is never) h = never (as_many ps ks h)
  not_placed ps ks e (places.past i k is long there none before) h = at_place ps ks i k h there none
  not_placed ps ks e (places.unfit i k a is long there at before never) h = never (b, first_places (suc i) ps ks h)

-- where showing is refused the patterns are not shown
pub unshown : (pile : List Atom) (ps : List Pattern) (p : Places) (e : Refusal) → Unshown pile ps p e → Shown pile ps p → ⊥
unshown pile ps p e (uneven_places is never) h = never h.0
unshown pile ps p e (unplaced even not) h = not_placed pile h.1.0 ps (named p) e not h.1.1
