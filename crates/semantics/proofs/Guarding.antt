-- The computed guard is the guard of the subject: the leftmost pattern with every variable of the body.
use Rattle.std.proofs.Common.{◌≡◌, ℕ, zero, suc, ◌<◌, Bool, true, false, cond, ◌||◌, eqb, List, [], ◌∷◌, Some, None, Option, sym, refl, ap, ◌∙◌, subst, inl, inr, arith}
use mathlib.Core.Bool.{or-true}
use Rattle.std.specs.Option.{option_map}
use Rattle.std.specs.List.{slice_get}
use Rattle.std.proofs.lemmas.Bool.{eqb-true, eq-eqb, both_ways, or_cases, and_parts, and_from, cases_lt}
use Rattle.semantics.specs.Subject.{Slot, con, var, Pattern, in_slots, in_patterns, HasAll, Guards}
use Rattle.semantics.specs.Computed.{covers, covers_all, guard, guard_from}
use Rattle.semantics.proofs.Fitting.{some_is, none_some}

covers_in : (ss q : List Slot) (i : ℕ) → covers ss q ≡ true → in_slots i ss ≡ true → in_slots i q ≡ true
covers_in [] q i e h = absurd (both_ways false refl h)
covers_in (con c ∷ ss) q i e h = covers_in ss q i e h
covers_in (var j ∷ ss) q i e h =
    let c = and_parts (in_slots j q) (covers ss q) e in
    elim (or_cases (eqb i j) (in_slots i ss) h) [ inl s ↦ ap (λ k. in_slots k q) (eqb-true i j s) ∙ c.0 | inr s ↦ covers_in ss q i c.1 s ]

covers_all_in : (ps : List Pattern) (q : List Slot) (i : ℕ) → covers_all ps q ≡ true → in_patterns i ps ≡ true → in_slots i q ≡ true
covers_all_in [] q i e h = absurd (both_ways false refl h)
covers_all_in (p ∷ ps) q i e h =
    let c = and_parts (covers p.slots q) (covers_all ps q) e in
    elim (or_cases (in_slots i p.slots) (in_patterns i ps) h) [ inl s ↦ covers_in p.slots q i c.0 s | inr s ↦ covers_all_in ps q i c.1 s ]

in_covers : (ss q : List Slot) → ((i : ℕ) → in_slots i ss ≡ true → in_slots i q ≡ true) → covers ss q ≡ true
in_covers [] q f = refl
in_covers (con c ∷ ss) q f = in_covers ss q f
in_covers (var j ∷ ss) q f =
    and_from _ _ (f j (ap (λ w. w || in_slots j ss) (eq-eqb j j refl))) (in_covers ss q (λ i h. f i (ap (λ w. eqb i j || w) h ∙ or-true (eqb i j))))

in_covers_all : (ps : List Pattern) (q : List Slot) → ((i : ℕ) → in_patterns i ps ≡ true → in_slots i q ≡ true) → covers_all ps q ≡ true
in_covers_all [] q f = refl
in_covers_all (p ∷ ps) q f =
    and_from _ _ (in_covers p.slots q (λ i h. f i (ap (λ w. w || in_patterns i ps) h)))
    (in_covers_all ps q (λ i h. f i (ap (λ w. in_slots i p.slots || w) h ∙ or-true (in_slots i p.slots))))

pub has_all_from : (body : List Pattern) (p : Pattern) → covers_all body p.slots ≡ true → HasAll body p
has_all_from body p e i = covers_all_in body p.slots i e

pub covers_from : (body : List Pattern) (p : Pattern) → HasAll body p → covers_all body p.slots ≡ true
covers_from body p h = in_covers_all body p.slots h

-- the same as `Guards`, by computation, in the part ps of the body
record Found (body ps : List Pattern) (k : ℕ) : Type 0 where
  pattern : Pattern
  there : slice_get ps k ≡ Some pattern
  covering : covers_all body pattern.slots ≡ true
  leftmost : (j : ℕ) (p : Pattern) → j < k → slice_get ps j ≡ Some p → covers_all body p.slots ≡ true → ⊥

found : (body ps : List Pattern) (k : ℕ) → guard_from body ps ≡ Some k → Found body ps k
found body [] k e = absurd (none_some e)
found body (p ∷ ps) k e = go (found body ps) (covers_all body p.slots) refl e
  where
    Later : Type 0
    Later = (j : ℕ) → guard_from body ps ≡ Some j → Found body ps j

    before : covers_all body p.slots ≡ false → (n : ℕ) → Found body ps n → (j : ℕ) (x : Pattern) → j < suc n → slice_get (p ∷ ps) j ≡ Some x → covers_all body x.slots ≡ true → ⊥
    before lacks n f zero x h q c = both_ways (covers_all body p.slots) lacks (ap (λ (y : Pattern). covers_all body y.slots) (some_is q) ∙ c)
    before lacks n f (suc j) x h q c = f.leftmost j x (omega arith) q c

    later : Later → covers_all body p.slots ≡ false → (o : Option ℕ) → guard_from body ps ≡ o → option_map suc o ≡ Some k → Found body (p ∷ ps) k
    later rest lacks None q n = absurd (none_some n)
    later rest lacks (Some j) q n =
        let f = rest j q in
        subst (Found body (p ∷ ps)) (some_is n) (record { pattern = f.pattern; there = f.there; covering = f.covering; leftmost = before lacks j f })

    go : Later → (w : Bool) → covers_all body p.slots ≡ w → cond w (Some 0) (option_map suc (guard_from body ps)) ≡ Some k → Found body (p ∷ ps) k
    go rest true q n = subst (Found body (p ∷ ps)) (some_is n) (record { pattern = p; there = refl; covering = q; leftmost = λ j x h. absurd (omega arith) })
    go rest false q n = later rest q (guard_from body ps) refl n

unfound : (body ps : List Pattern) (k : ℕ) (p : Pattern) → guard_from body ps ≡ None → slice_get ps k ≡ Some p → covers_all body p.slots ≡ true → ⊥
unfound body [] k p e h c = none_some h
unfound body (q ∷ ps) k p e h c = go (λ j n t. unfound body ps j p n t c) k (covers_all body q.slots) refl e h
  where
    rest : (o : Option ℕ) → option_map suc o ≡ None → o ≡ None
    rest None n = refl
    rest (Some x) n = absurd (none_some (sym n))

    go : ((j : ℕ) → guard_from body ps ≡ None → slice_get ps j ≡ Some p → ⊥) → (k : ℕ) (w : Bool) → covers_all body q.slots ≡ w → cond w (Some 0) (option_map suc (guard_from body ps)) ≡ None → slice_get (q ∷ ps) k ≡ Some p → ⊥
    go later k true s n t = none_some (sym n)
    go later zero false s n t = both_ways (covers_all body q.slots) s (ap (λ (y : Pattern). covers_all body y.slots) (some_is t) ∙ c)
    go later (suc k) false s n t = later k (rest (guard_from body ps) n) t

-- what is computed is the guard
pub guards : (body : List Pattern) (k : ℕ) → guard body ≡ Some k → Guards body k
guards body k e =
    let f = found body body k e in
    record {
      pattern = f.pattern;
      there = f.there;
      has_all = has_all_from body f.pattern f.covering;
      leftmost = λ j p h t a. f.leftmost j p h t (covers_from body p a);
    }

-- where nothing is computed there is no guard
pub no_guard : (body : List Pattern) → guard body ≡ None → (k : ℕ) → Guards body k → ⊥
no_guard body e k g = unfound body body k g.pattern e g.there (covers_from body g.pattern g.has_all)

-- there is one guard at most, and it is what is computed
pub guard_only : (body : List Pattern) (k : ℕ) → Guards body k → guard body ≡ Some k
guard_only body k g = go (guard body) refl
  where
    go : (o : Option ℕ) → guard body ≡ o → guard body ≡ Some k
    go None e = absurd (no_guard body e k g)
    go (Some j) e =
        let f = guards body j e in
        elim (cases_lt j k) [
          | inl h ↦ absurd (g.leftmost j f.pattern h f.there f.has_all)
          | inr h ↦
              elim (cases_lt k j) [
                | inl l ↦ absurd (f.leftmost k g.pattern l g.there g.has_all)
                | inr l ↦ let same : j ≡ k = omega arith in e ∙ ap Some same
              ]
        ]
