-- The computed fit finds the least binding under which a pattern fits.
use Rattle.std.proofs.Common.{◌≡◌, ℕ, Bool, true, false, cond, ◌||◌, eqb, ◌⊎◌, List, [], ◌∷◌, is_some, Some, None, Option, unwrap_or, sym, refl, ap, ◌∙◌, subst, inl, inr}
use mathlib.Core.Bool.{or-true, or-false, or_assoc}
use Rattle.std.specs.Map.{update}
use Rattle.std.proofs.lemmas.Bool.{eqb-true, eq-eqb, both_ways}
use Rattle.semantics.specs.Subject.{Slot, con, var, Pattern, Atom, Binding, Gives, GivesAll, Fits, Extends, Fitted, is_var, in_slots}
use Rattle.semantics.specs.Computed.{and_then, bind, fit_slot, fit_slots, fit, term_of, terms_of}

pub some_is : {A : Type 0} {x y : A} → Some x ≡ Some y → x ≡ y
some_is {A} {x} {y} e = ap (λ o. unwrap_or o x) e

pub none_some : {A : Type 0} {x : A} → None ≡ Some x → ⊥
none_some {A} {x} e = both_ways true (ap is_some (sym e)) refl

pub then_some : {A B : Type 0} (o : Option A) (f : A → Option B) (y : B) → and_then o f ≡ Some y → (x : A) × (o ≡ Some x) × (f x ≡ Some y)
then_some None f y e = absurd (none_some e)
then_some (Some x) f y e = (x, refl, e)

pub same_bool : (a b : Bool) → (a ≡ true → b ≡ true) → (b ≡ true → a ≡ true) → a ≡ b
same_bool true b f g = sym (f refl)
same_bool false true f g = g refl
same_bool false false f g = refl

eqb_turned : (i j : ℕ) → eqb j i ≡ eqb i j
eqb_turned i j = same_bool (eqb j i) (eqb i j) (λ e. eq-eqb i j (sym (eqb-true j i e))) (λ e. eq-eqb j i (sym (eqb-true i j e)))

-- what `fit_slot` and `fit_slots` give
pub record Grown (b c : Binding) (Got : Type 0) (new : ℕ → Bool) : Type 0 where
  pub gives : Got
  pub more : Extends b c
  pub exact : (i : ℕ) → is_some (c i) ≡ (is_some (b i) || new i)

-- a variable more
module _ (b : Binding) (j t : ℕ) where
  abbrev pub put : Binding
  put = update eqb b j (Some t)

  pub put_here : put j ≡ Some t
  put_here = rw (eq-eqb j j refl)

  put_turned : (i : ℕ) → put i ≡ cond (eqb i j) (Some t) (b i)
  put_turned i = ap (λ w. cond w (Some t) (b i)) (eqb_turned i j)

  pub put_keeps : b j ≡ None → Extends b put
  put_keeps free i u h = put_turned i ∙ go (eqb i j) refl
    where
      go : (w : Bool) → eqb i j ≡ w → cond w (Some t) (b i) ≡ Some u
      go true q = absurd (none_some (sym free ∙ ap b (sym (eqb-true i j q)) ∙ h))
      go false q = h

  pub put_exact : (i : ℕ) → is_some (put i) ≡ (is_some (b i) || eqb i j)
  put_exact i = ap is_some (put_turned i) ∙ go (eqb i j)
    where
      go : (w : Bool) → is_some (cond w (Some t) (b i)) ≡ (is_some (b i) || w)
      go true = sym (or-true (is_some (b i)))
      go false = sym (or-false (is_some (b i)))

  -- what put binds is the new term, or was bound
  pub put_cases : (i u : ℕ) → put i ≡ Some u → ((i ≡ j) × (t ≡ u)) ⊎ (b i ≡ Some u)
  put_cases i u e = go (eqb i j) refl (sym (put_turned i) ∙ e)
    where
      go : (w : Bool) → eqb i j ≡ w → cond w (Some t) (b i) ≡ Some u → ((i ≡ j) × (t ≡ u)) ⊎ (b i ≡ Some u)
      go true q h = inl (eqb-true i j q, some_is h)
      go false q h = inr h

  pub held_exact : b j ≡ Some t → (i : ℕ) → is_some (b i) ≡ (is_some (b i) || eqb i j)
  held_exact held i = go (eqb i j) refl
    where
      go : (w : Bool) → eqb i j ≡ w → is_some (b i) ≡ (is_some (b i) || w)
      go true q = ap (λ k. is_some (b k)) (eqb-true i j q) ∙ ap is_some held ∙ sym (or-true (is_some (b i)))
      go false q = sym (or-false (is_some (b i)))

cond_some : {A : Type 0} (w : Bool) (x y : A) → cond w (Some x) None ≡ Some y → (w ≡ true) × (x ≡ y)
cond_some true x y e = (refl, some_is e)
cond_some false x y e = absurd (none_some e)

pub fit_slot_sound : (b : Binding) (s : Slot) (t : ℕ) (c : Binding) → fit_slot b s t ≡ Some c → Grown b c (Gives c s t) (λ i. is_var i s)
fit_slot_sound b (con k) t c e =
    let h = cond_some (eqb k t) b c e in
    subst (λ d. Grown b d (k ≡ t) (λ i. false)) h.1 (record { gives = eqb-true k t h.0; more = λ i u g. g; exact = λ i. sym (or-false (is_some (b i))) })
fit_slot_sound b (var j) t c e = go (b j) refl e
  where
    go : (o : Option ℕ) → b j ≡ o → bind b j o t ≡ Some c → Grown b c (c j ≡ Some t) (λ i. eqb i j)
    go None q h = subst (λ d. Grown b d (d j ≡ Some t) (λ i. eqb i j)) (some_is h) (record { gives = put_here b j t; more = put_keeps b j t q; exact = put_exact b j t })
    go (Some u) q h =
        let k = cond_some (eqb u t) b c h in
        let held : b j ≡ Some t = q ∙ ap Some (eqb-true u t k.0) in
        subst (λ d. Grown b d (d j ≡ Some t) (λ i. eqb i j)) k.1 (record { gives = held; more = λ i v g. g; exact = held_exact b j t held })

pub gives_more : (b c : Binding) (s : Slot) (t : ℕ) → Extends b c → Gives b s t → Gives c s t
gives_more b c (con k) t m g = g
gives_more b c (var i) t m g = m i t g

pub all_more : (b c : Binding) (ss : List Slot) (ts : List ℕ) → Extends b c → GivesAll b ss ts → GivesAll c ss ts
all_more b c [] [] m g = tt
all_more b c [] (t ∷ ts) m g = g
all_more b c (s ∷ ss) [] m g = g
all_more b c (s ∷ ss) (t ∷ ts) m g = (gives_more b c s t m g.0, all_more b c ss ts m g.1)

pub fit_slots_sound : (b : Binding) (ss : List Slot) (ts : List ℕ) (c : Binding) → fit_slots b ss ts ≡ Some c → Grown b c (GivesAll c ss ts) (λ i. in_slots i ss)
fit_slots_sound b [] [] c e = subst (λ d. Grown b d (Unit {0}) (λ i. false)) (some_is e) (record { gives = tt; more = λ i u g. g; exact = λ i. sym (or-false (is_some (b i))) })
fit_slots_sound b [] (t ∷ ts) c e = absurd (none_some e)
fit_slots_sound b (s ∷ ss) [] c e = absurd (none_some e)
fit_slots_sound b (s ∷ ss) (t ∷ ts) c e =
    let h = then_some (fit_slot b s t) (λ d. fit_slots d ss ts) c e in
    let first = fit_slot_sound b s t h.0 h.1 in
    let rest = fit_slots_sound h.0 ss ts c h.2 in
    record {
      gives = (gives_more h.0 c s t rest.more first.gives, rest.gives);
      more = λ i u g. rest.more i u (first.more i u g);
      exact = λ i. rest.exact i ∙ ap (λ w. w || in_slots i ss) (first.exact i) ∙ or_assoc (is_some (b i)) (is_var i s) (in_slots i ss);
    }

pub fit_sound : (b : Binding) (p : Pattern) (a : Atom) (c : Binding) → fit b p a ≡ Some c → Grown b c (Fits c p a) (λ i. in_slots i p.slots)
fit_sound b p a c = go (eqb p.pred a.pred) refl
  where
    go : (w : Bool) → eqb p.pred a.pred ≡ w → cond w (fit_slots b p.slots a.terms) None ≡ Some c → Grown b c (Fits c p a) (λ i. in_slots i p.slots)
    go true q h =
        let g = fit_slots_sound b p.slots a.terms c h in
        record { gives = (eqb-true p.pred a.pred q, g.gives); more = g.more; exact = g.exact }
    go false q h = absurd (none_some h)

pub fit_slot_complete : (b c : Binding) (s : Slot) (t : ℕ) → Extends b c → Gives c s t → (d : Binding) × (fit_slot b s t ≡ Some d) × Extends d c
fit_slot_complete b c (con k) t m g = (b, rw (eq-eqb k t g), m)
fit_slot_complete b c (var j) t m g = go (b j) refl
  where
    go : (o : Option ℕ) → b j ≡ o → (d : Binding) × (bind b j o t ≡ Some d) × Extends d c
    go None q = (put b j t, refl, λ i u h. elim (put_cases b j t i u h) [ inl e ↦ ap c e.0 ∙ g ∙ ap Some e.1 | inr e ↦ m i u e ])
    go (Some u) q =
        let same : u ≡ t = some_is (sym (m j u q) ∙ g) in
        (b, rw (eq-eqb u t same), m)

pub fit_slots_complete : (b c : Binding) (ss : List Slot) (ts : List ℕ) → Extends b c → GivesAll c ss ts → (d : Binding) × (fit_slots b ss ts ≡ Some d) × Extends d c
fit_slots_complete b c [] [] m g = (b, refl, m)
fit_slots_complete b c [] (t ∷ ts) m g = absurd g
fit_slots_complete b c (s ∷ ss) [] m g = absurd g
fit_slots_complete b c (s ∷ ss) (t ∷ ts) m g =
    let h = fit_slot_complete b c s t m g.0 in
    let k = fit_slots_complete h.0 c ss ts h.2 g.1 in
    (k.0, ap (λ o. and_then o (λ d. fit_slots d ss ts)) h.1 ∙ k.1, k.2)

pub fit_complete : (b c : Binding) (p : Pattern) (a : Atom) → Extends b c → Fits c p a → (d : Binding) × (fit b p a ≡ Some d) × Extends d c
fit_complete b c p a m f =
    let h = fit_slots_complete b c p.slots a.terms m f.1 in
    (h.0, ap (λ w. cond w (fit_slots b p.slots a.terms) None) (eq-eqb p.pred a.pred f.0) ∙ h.1, h.2)

-- the terms that a binding gives are `terms-of`
pub gives_terms : (b : Binding) (ss : List Slot) (ts : List ℕ) → GivesAll b ss ts → ts ≡ terms_of b ss
gives_terms b [] [] g = refl
gives_terms b [] (t ∷ ts) g = absurd g
gives_terms b (s ∷ ss) [] g = absurd g
gives_terms b (s ∷ ss) (t ∷ ts) g = λ i. one s g.0 i ∷ gives_terms b ss ts g.1 i
  where
    one : (s : Slot) → Gives b s t → t ≡ term_of b s
    one (con k) e = sym e
    one (var j) e = sym (ap (λ o. unwrap_or o 0) e)

pub bound_some : (o : Option ℕ) → is_some o ≡ true → o ≡ Some (unwrap_or o 0)
bound_some None e = absurd (both_ways false refl e)
bound_some (Some x) e = refl

-- where every variable is bound, they do fit
pub terms_given : (b : Binding) (ss : List Slot) → ((i : ℕ) → in_slots i ss ≡ true → is_some (b i) ≡ true) → GivesAll b ss (terms_of b ss)
terms_given b [] all = tt
terms_given b (con k ∷ ss) all = (refl, terms_given b ss all)
terms_given b (var j ∷ ss) all = (bound_some (b j) (all j (ap (λ w. w || in_slots j ss) (eq-eqb j j refl))), terms_given b ss (λ i h. all i (ap (λ w. eqb i j || w) h ∙ or-true (eqb i j))))

-- what `fit` gives is what the relation asks for
pub fit_fitted : (b : Binding) (p : Pattern) (a : Atom) → Fitted b p a (fit b p a)
fit_fitted b p a = go (fit b p a) refl
  where
    go : (o : Option Binding) → fit b p a ≡ o → Fitted b p a o
    go None e = λ d x f. let h = fit_complete b d p a x f in none_some (sym e ∙ h.1)
    go (Some c) e =
        let g = fit_sound b p a c e in
        record {
          extends = g.more;
          fits = g.gives;
          least = λ d x f. let h = fit_complete b d p a x f in subst (λ y. Extends y d) (some_is (sym h.1 ∙ e)) h.2;
        }
