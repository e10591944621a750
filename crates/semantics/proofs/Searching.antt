-- The computed search finds a match wherever there is one, and need not go back over a pattern whose further variables
-- stand in no later one.
use Rattle.std.proofs.Common.{◌≡◌, ℕ, zero, suc, Bool, true, false, cond, not, ◌&&◌, ◌||◌, eqb, List, [], ◌∷◌, is_some, Some, None, Option, sym, refl, ap, ◌∙◌, subst}
use mathlib.Core.Bool.{or-true, or-false, or_assoc}
use mathlib.Core.Logic.{∥∥₁_elim}
use Rattle.std.specs.Option.{option_or}
use Rattle.std.specs.List.{slice_get, AllByRecursion}
use Rattle.std.proofs.lemmas.Bool.{both_ways, eqb-true, eq-eqb}
use Rattle.semantics.specs.Subject.{Slot, con, var, Pattern, Atom, Binding, GivesAll, Fits, Candidate, On, Holds, Searched, Extends, in_slots, in_patterns}
use Rattle.semantics.specs.Computed.{fit, nothing, and_then, first_given, first_match, reaches}
use Rattle.semantics.proofs.Fitting.{some_is, none_some, then_some, Grown, all_more, fit_sound, fit_complete}

pub holds_more : (m : Candidate) (b c : Binding) (p : Pattern) → Extends b c → Holds m b p → Holds m c p
holds_more m b c p x h = (h.0, (h.1.0, all_more b c p.slots h.0.terms x h.1.1), h.2)

first_found : {A B : Type 0} (f : A → Option B) (xs : List A) (y : B) → first_given f xs ≡ Some y → (k : ℕ) × (x : A) × (slice_get xs k ≡ Some x) × (f x ≡ Some y)
first_found f [] y e = absurd (none_some e)
first_found {A} {B} f (x ∷ xs) y e = go (first_found f xs y) (f x) refl e
  where
    Later : Type 0
    Later = first_given f xs ≡ Some y → (k : ℕ) × (z : A) × (slice_get xs k ≡ Some z) × (f z ≡ Some y)

    go : Later → (o : Option B) → f x ≡ o → option_or o (first_given f xs) ≡ Some y → (k : ℕ) × (z : A) × (slice_get (x ∷ xs) k ≡ Some z) × (f z ≡ Some y)
    go later None q h = let r = later h in (suc r.0, r.1, r.2, r.3)
    go later (Some z) q h = (zero, x, refl, q ∙ h)

first_none : {A B : Type 0} (f : A → Option B) (xs : List A) → first_given f xs ≡ None → (k : ℕ) (x : A) → slice_get xs k ≡ Some x → f x ≡ None
first_none f [] e k x h = absurd (none_some h)
first_none {A} {B} f (y ∷ ys) e k x h = go (λ j r g. first_none f ys r j x g) (f y) refl e
  where
    Later : Type 0
    Later = (j : ℕ) → first_given f ys ≡ None → slice_get ys j ≡ Some x → f x ≡ None

    at : Later → (j : ℕ) → f y ≡ None → first_given f ys ≡ None → slice_get (y ∷ ys) j ≡ Some x → f x ≡ None
    at later zero q r g = ap f (sym (some_is g)) ∙ q
    at later (suc j) q r g = later j r g

    go : Later → (o : Option B) → f y ≡ o → option_or o (first_given f ys) ≡ None → f x ≡ None
    go later None q r = at later k q r h
    go later (Some z) q r = absurd (none_some (sym r))

pub none_first : {A B : Type 0} (f : A → Option B) (xs : List A) → ((x : A) → f x ≡ None) → first_given f xs ≡ None
none_first f [] h = refl
none_first f (x ∷ xs) h = ap (λ o. option_or o (first_given f xs)) (h x) ∙ none_first f xs h

-- what a search that began at b gives
abbrev pub Found : List Atom → Binding → List Pattern → Binding → Type 0
Found pile b ps c = Grown b c (AllByRecursion (Holds (On pile) c) ps) (λ i. in_patterns i ps)

pub search_sound : (pile : List Atom) (b : Binding) (ps : List Pattern) (c : Binding) → first_match pile b ps ≡ Some c → Found pile b ps c
search_sound pile b [] c e = subst (λ d. Grown b d (Unit {0}) (λ i. false)) (some_is e) (record { gives = tt; more = λ i u g. g; exact = λ i. sym (or-false (is_some (b i))) })
search_sound pile b (p ∷ ps) c e =
    let s = first_found (λ a. and_then (fit b p a) (λ d. first_match pile d ps)) pile c e in
    let t = then_some (fit b p s.1) (λ d. first_match pile d ps) c s.3 in
    let first = fit_sound b p s.1 t.0 t.1 in
    let rest = search_sound pile t.0 ps c t.2 in
    record {
      gives = (holds_more (On pile) t.0 c p rest.more (s.1, first.gives, (s.0, s.2)), rest.gives);
      more = λ i u g. rest.more i u (first.more i u g);
      exact = λ i. rest.exact i ∙ ap (λ w. w || in_patterns i ps) (first.exact i) ∙ or_assoc (is_some (b i)) (in_slots i p.slots) (in_patterns i ps);
    }

pub search_complete : (pile : List Atom) (b c : Binding) (ps : List Pattern) → Extends b c → AllByRecursion (Holds (On pile) c) ps → first_match pile b ps ≡ None → ⊥
search_complete pile b c [] x h e = none_some (sym e)
search_complete pile b c (p ∷ ps) x h e =
    let w = h.0 in
    let f = fit_complete b c p w.0 x w.1 in
    let none = first_none (λ a. and_then (fit b p a) (λ d. first_match pile d ps)) pile e w.2.0 w.0 w.2.1 in
    search_complete pile f.0 c ps f.2 h.1 (sym (ap (λ o. and_then o (λ d. first_match pile d ps)) f.1) ∙ none)

⊥-is : (x y : ⊥) → x ≡ y
⊥-is x y = absurd x

-- the search decides whether there is a match, and gives one
pub search_searched : (pile : List Atom) (ps : List Pattern) → Searched (On pile) ps (first_match pile nothing ps)
search_searched pile ps = go (first_match pile nothing ps) refl
  where
    go : (o : Option Binding) → first_match pile nothing ps ≡ o → Searched (On pile) ps o
    go None e = λ h. ∥∥₁_elim h ⊥-is (λ w. search_complete pile nothing w.0 ps (λ i t q. absurd (none_some q)) w.1.1 e)
    go (Some b) e = let f = search_sound pile nothing ps b e in (f.exact, f.gives)

-- two bindings that agree on the variables of the patterns serve alike
gives_agree : (b c : Binding) (ss : List Slot) (ts : List ℕ) → ((i : ℕ) → in_slots i ss ≡ true → b i ≡ c i) → GivesAll b ss ts → GivesAll c ss ts
gives_agree b c [] [] same g = tt
gives_agree b c [] (t ∷ ts) same g = g
gives_agree b c (s ∷ ss) [] same g = g
gives_agree b c (con k ∷ ss) (t ∷ ts) same g = (g.0, gives_agree b c ss ts same g.1)
gives_agree b c (var j ∷ ss) (t ∷ ts) same g = (
  sym (same j (ap (λ w. w || in_slots j ss) (eq-eqb j j refl))) ∙ g.0,
  gives_agree b c ss ts (λ i h. same i (ap (λ w. eqb i j || w) h ∙ or-true (eqb i j))) g.1,
)

holds_agree : (m : Candidate) (b c : Binding) (ps : List Pattern) → ((i : ℕ) → in_patterns i ps ≡ true → b i ≡ c i) → AllByRecursion (Holds m b) ps → AllByRecursion (Holds m c) ps
holds_agree m b c [] same h = tt
holds_agree m b c (p ∷ ps) same h = (
  (h.0.0, (h.0.1.0, gives_agree b c p.slots h.0.0.terms (λ i s. same i (ap (λ w. w || in_patterns i ps) s)) h.0.1.1), h.0.2),
  holds_agree m b c ps (λ i s. same i (ap (λ w. in_slots i p.slots || w) s ∙ or-true (in_slots i p.slots))) h.1,
)

-- what d gives to the variables of the patterns, and c to the others
abbrev mixed : List Pattern → Binding → Binding → Binding
mixed ps d c i = cond (in_patterns i ps) (d i) (c i)

agree_none : (pile : List Atom) (b c : Binding) (ps : List Pattern) → ((i : ℕ) → in_patterns i ps ≡ true → b i ≡ c i) → first_match pile b ps ≡ None → first_match pile c ps ≡ None
agree_none pile b c ps same none = go (first_match pile c ps) refl
  where
    extends : (d : Binding) → Extends c d → Extends b (mixed ps d b)
    extends d x i t h = at (in_patterns i ps) refl
      where
        at : (w : Bool) → in_patterns i ps ≡ w → cond w (d i) (b i) ≡ Some t
        at true e = x i t (sym (same i e) ∙ h)
        at false e = h

    go : (o : Option Binding) → first_match pile c ps ≡ o → o ≡ None
    go None e = refl
    go (Some d) e =
        let f = search_sound pile c ps d e in
        let holds = holds_agree (On pile) d (mixed ps d b) ps (λ i s. sym (ap (λ w. cond w (d i) (b i)) s)) f.gives in
        absurd (search_complete pile b (mixed ps d b) ps (extends d f.more) holds none)

not_reached : (b : Binding) (ss : List Slot) (ps : List Pattern) (i : ℕ) → reaches b ss ps ≡ false → in_slots i ss ≡ true → is_some (b i) ≡ false → in_patterns i ps ≡ true → ⊥
not_reached b [] ps i r s u h = both_ways false refl s
not_reached b (con k ∷ ss) ps i r s u h = not_reached b ss ps i r s u h
not_reached b (var j ∷ ss) ps i r s u h = at (λ q t. not_reached b ss ps i q t u h) (eqb i j) refl s
  where
    rest : (w v : Bool) → (w || v) ≡ false → v ≡ false
    rest true v e = absurd (both_ways true e refl)
    rest false v e = e

    first : (w v : Bool) → (w || v) ≡ false → w ≡ false
    first true v e = absurd (both_ways true e refl)
    first false v e = refl

    at : (reaches b ss ps ≡ false → in_slots i ss ≡ true → ⊥) → (w : Bool) → eqb i j ≡ w → (w || in_slots i ss) ≡ true → ⊥
    at later false e t = later (rest (not (is_some (b j)) && in_patterns j ps) (reaches b ss ps) r) t
    at later true e t =
        let same = eqb-true i j e in
        let here : (not (is_some (b j)) && in_patterns j ps) ≡ true = (λ k. not (is_some (b (sym same k))) && in_patterns (sym same k) ps) ∙ (λ k. not (u k) && h k) in
        both_ways _ (first (not (is_some (b j)) && in_patterns j ps) (reaches b ss ps) r) here

-- where no further variable of the pattern stands in a later one, one fitting atom is as good as another
module _ (pile : List Atom) (b : Binding) (p : Pattern) (ps : List Pattern) (once : reaches b p.slots ps ≡ false) where
  fits_agree : (a a' : Atom) (c c' : Binding) → fit b p a ≡ Some c → fit b p a' ≡ Some c' → (i : ℕ) → in_patterns i ps ≡ true → c i ≡ c' i
  fits_agree a a' c c' e e' i h = go (b i) refl
    where
      g : Grown b c (Fits c p a) (λ j. in_slots j p.slots)
      g = fit_sound b p a c e

      g' : Grown b c' (Fits c' p a') (λ j. in_slots j p.slots)
      g' = fit_sound b p a' c' e'

      empty : (o : Option ℕ) → is_some o ≡ false → o ≡ None
      empty None q = refl
      empty (Some t) q = absurd (both_ways true q refl)

      free : b i ≡ None → (is_some (b i) || in_slots i p.slots) ≡ false
      free q = at (in_slots i p.slots) refl
        where
          at : (w : Bool) → in_slots i p.slots ≡ w → (is_some (b i) || in_slots i p.slots) ≡ false
          at true s = absurd (not_reached b p.slots ps i once s (ap is_some q) h)
          at false s = (λ k. is_some (q k) || s k)

      go : (o : Option ℕ) → b i ≡ o → c i ≡ c' i
      go None q = empty (c i) (g.exact i ∙ free q) ∙ sym (empty (c' i) (g'.exact i ∙ free q))
      go (Some t) q = g.more i t q ∙ sym (g'.more i t q)

  pub once_enough : (a : Atom) (c : Binding) → fit b p a ≡ Some c → first_match pile c ps ≡ None → (a' : Atom) → and_then (fit b p a') (λ d. first_match pile d ps) ≡ None
  once_enough a c e none a' = go (fit b p a') refl
    where
      go : (o : Option Binding) → fit b p a' ≡ o → and_then o (λ d. first_match pile d ps) ≡ None
      go None q = refl
      go (Some d) q = agree_none pile c d ps (fits_agree a a' c d e q) none
