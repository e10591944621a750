-- A step judged: from what the code finds to the chase rule.
use Rattle.std.proofs.Common.{◌≡◌, ℕ, ◌<◌, Bool, true, List, map, is_some, Some, None, Option, sym, refl, ap, ◌∙◌, subst}
use Rattle.std.specs.List.{slice_get, AllByRecursion}
use Rattle.std.specs.Option.{option_map}
use Rattle.semantics.specs.Subject as subject
use Rattle.semantics.specs.Subject.{Pattern, Atom, Binding, Fits, LeastFit, NoFit, Fitted, On, Holds, Match, Guards, in_slots}
use Rattle.semantics.specs.Computed.{nothing, atom_of, fit}
use Rattle.semantics.proofs.Fitting.{some_is, same_bool, fit_sound, fit_fitted, gives_terms, terms_given}
use Rattle.chase.specs.Chase.{fresh}
use Rattle.chase.specs.Firing.{Fires}
use Rattle.chase.proofs.Piles.{in_one}
use Rattle.refusals.specs.Refusals.{Is}
use Rattle.refusals.specs.declared.refusal.Refusal.{Refusal}
use Rattle.matching.specs.Places.{NotFitted, place_past, place_unfit, FittedAt}
use Rattle.steps.specs.Judged.{Bears, NotFired, past, unfit, missing}
use Rattle.steps.specs.Sides.{FirstMissing}
use Rattle.steps.proofs.Freshening.{binds}

fits_is : (b : Binding) (p : Pattern) (a : Atom) → Fits b p a → a ≡ atom_of b p
fits_is b p a f = λ i. record { pred = sym f.0 i; terms = gives_terms b p.slots a.terms f.1 i }

module _ (b c : Binding) (n : ℕ) (h : Pattern) (is : c ≡ (fresh b n h.slots).0) where
  pub bears : (m : ℕ) (a : Atom) → m ≡ (fresh b n h.slots).1 → Fits c h a → Bears b n h a m
  bears m a e f = (fits_is c h a f ∙ ap (λ d. atom_of d h) is, e)

  -- with the nulls every variable of the head has a term
  pub never : ((a : Atom) → Fits c h a → ⊥) → ⊥
  never none = none (atom_of c h) (refl, terms_given c h.slots (λ i s. subst (λ d. is_some (d i) ≡ true) (sym is) (binds b n h.slots i s)))

-- the guard p of the rule, at index k
module _ (pile : List Atom) (rule : subject.Rule) (place : ℕ) (k : ℕ) (g : Guards rule.body k) (p : Pattern) (same : p ≡ g.pattern) where
  pub not_fired : (nulls : ℕ) (e : Refusal) → NotFitted pile nothing 0 p place e → NotFired pile rule place nulls e
  not_fired nulls e (place_past is none) = past is none
  not_fired nulls e (place_unfit a is there none) = unfit k g a is there (subst (λ q. NoFit nothing q a) same (subst (Fitted nothing p a) none (fit_fitted nothing p a)))

  module _ (a : Atom) (b : Binding) (there : slice_get pile place ≡ Some a) (fits : fit nothing p a ≡ Some b) where
    least : LeastFit nothing g.pattern a b
    least = subst (λ q. LeastFit nothing q a b) same (subst (Fitted nothing p a) fits (fit_fitted nothing p a))

    pub side_missing : (nulls : ℕ) (e : Refusal) (i : ℕ) → Is e 14 i 0 → FirstMissing pile b rule.body (Some i) → NotFired pile rule place nulls e
    side_missing nulls e i is f = missing k g a b i is there least f

    pub fires : AllByRecursion (Holds (On pile) b) rule.body → Fires pile rule place b
    fires every = record {
      index = k;
      guards = g;
      at = a;
      there = there;
      fits = least.fits;
      matches = (λ i. (fit_sound nothing p a b fits).exact i ∙ ap (λ q. in_slots i q.slots) same ∙ same_bool _ _ (in_one rule.body k g.pattern i g.there) (g.has_all i), every);
    }
