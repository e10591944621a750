-- The chase maps into every model.
use Rattle.std.proofs.Common.{◌≡◌, ℕ, zero, suc, ◌+◌, ◌<◌, ◌≤◌, Bool, true, false, cond, ◌||◌, eqb, List, [], ◌∷◌, ◌++◌, map, is_some, Some, None, Option, unwrap_or, sym, refl, ap, ◌∙◌, subst, inl, inr, arith}
use mathlib.Core.Bool.{or-true, or-false, or_assoc}
use mathlib.Core.Logic.{∥∥₁_elim, ∥∥₁_map, ∥∥₁_prop}
use Rattle.std.specs.Option.{option_map}
use Rattle.std.specs.List.{slice_get, AllByRecursion}
use Rattle.std.proofs.slice.Lists.{all_by_recursion_push}
use Rattle.std.proofs.lemmas.Bool.{eqb-true, eq-eqb, ne_eqb, both_ways, or_cases, or_left}
use Rattle.semantics.specs.Subject.{Slot, con, var, Pattern, Atom, Binding, Rule, Candidate, Gives, GivesAll, Holds, Match, Follows, Model, Exactly, is_var, in_slots, in_patterns}
use Rattle.chase.specs.Chase.{numbered, Plain, PlainAll, PlainRule, IsFact}
use Rattle.semantics.specs.Computed.{fit, terms_of, atom_of, nothing}
use Rattle.chase.specs.Chase.{stands, missing, guard_of, fresh, fresh_slot, fresh_var, State, adds, put_head, is_full, after_side, after_fit, after_place, after_guard, after_rule, step, moved, run, start}
use Rattle.semantics.specs.Subject.{On}
use Rattle.chase.specs.Theorems.{sent, Image}
use Rattle.semantics.proofs.Fitting.{some_is, none_some, fit_sound, gives_terms, terms_given, put, put_exact, put_cases, held_exact}
use Rattle.chase.proofs.Piles.{every_nth, every_map, every_both, missing_none, guard_exact}

abbrev pub Fixed : (ℕ → ℕ) → Type 0
Fixed f = (c : ℕ) → c < 1000000 → f c ≡ c

-- c is b sent by f, as far as b goes
abbrev pub Carries : (ℕ → ℕ) → Binding → Binding → Type 0
Carries f b c = (i t : ℕ) → b i ≡ Some t → c i ≡ Some (f t)

pub carried : (f : ℕ → ℕ) (b c : Binding) (ss : List Slot) (ts : List ℕ) → Fixed f → Carries f b c → AllByRecursion Plain ss → GivesAll b ss ts → GivesAll c ss (map f ts)
carried f b c [] [] x m p g = tt
carried f b c [] (t ∷ ts) x m p g = g
carried f b c (s ∷ ss) [] x m p g = g
carried f b c (con k ∷ ss) (t ∷ ts) x m p g = (sym (x k p.0) ∙ ap f g.0, carried f b c ss ts x m p.1 g.1)
carried f b c (var j ∷ ss) (t ∷ ts) x m p g = (m j t g.0, carried f b c ss ts x m p.1 g.1)

abbrev pub Lower : Binding → ℕ → Type 0
Lower b n = (i t : ℕ) → b i ≡ Some t → t < 1000000 + n

-- f and b, when the variables `new` got the next nulls: c is still what they give
pub record Spread (f : ℕ → ℕ) (b : Binding) (n : ℕ) (c b' : Binding) (n' : ℕ) (new : ℕ → Bool) : Type 0 where
  pub to : ℕ → ℕ
  pub agree : (t : ℕ) → t < 1000000 + n → to t ≡ f t
  pub carries : Carries to b' c
  pub lower : Lower b' n'
  pub grows : n ≤ n'
  pub exact : (i : ℕ) → is_some (b' i) ≡ (is_some (b i) || new i)

-- f, but u at k
abbrev sends : (ℕ → ℕ) → ℕ → ℕ → ℕ → ℕ
sends f k u t = cond (eqb t k) u (f t)

sends_here : (f : ℕ → ℕ) (k u : ℕ) → sends f k u k ≡ u
sends_here f k u = rw (eq-eqb k k refl)

sends_else : (f : ℕ → ℕ) (k u t : ℕ) → t < k → sends f k u t ≡ f t
sends_else f k u t h = rw (ne_eqb t k (λ e. omega arith))

still : (f : ℕ → ℕ) (b : Binding) (n : ℕ) (c : Binding) (new : ℕ → Bool) → Carries f b c → Lower b n → ((i : ℕ) → is_some (b i) ≡ (is_some (b i) || new i)) → Spread f b n c b n new
still f b n c new m l x = record { to = f; agree = λ t h. refl; carries = m; lower = l; grows = omega arith; exact = x }

spread_slot : (f : ℕ → ℕ) (b : Binding) (n : ℕ) (c : Binding) (s : Slot) (t : ℕ) → Carries f b c → Lower b n → Gives c s t → Spread f b n c (fresh_slot b n s).0 (fresh_slot b n s).1 (λ i. is_var i s)
spread_slot f b n c (con k) t m l g = still f b n c (λ i. false) m l (λ i. sym (or-false (is_some (b i))))
spread_slot f b n c (var j) u m l g = go (b j) refl
  where
    z : ℕ
    z = 1000000 + n

    new_carries : Carries (sends f z u) (put b j z) c
    new_carries i t h = elim (put_cases b j z i t h) [ inl e ↦ ap c e.0 ∙ g ∙ ap Some (sym (ap (sends f z u) (sym e.1) ∙ sends_here f z u)) | inr e ↦ m i t e ∙ ap Some (sym (sends_else f z u t (l i t e))) ]

    new_lower : Lower (put b j z) (suc n)
    new_lower i t h = elim (put_cases b j z i t h) [ inl e ↦ omega (arith, e.1) | inr e ↦ omega (arith, l i t e) ]

    go : (o : Option ℕ) → b j ≡ o → Spread f b n c (fresh_var b n j o).0 (fresh_var b n j o).1 (λ i. eqb i j)
    go None q = record { to = sends f z u; agree = sends_else f z u; carries = new_carries; lower = new_lower; grows = omega arith; exact = put_exact b j z }
    go (Some t) q = still f b n c (λ i. eqb i j) m l (held_exact b j t q)

spread : (f : ℕ → ℕ) (b : Binding) (n : ℕ) (c : Binding) (ss : List Slot) (ts : List ℕ) → Carries f b c → Lower b n → GivesAll c ss ts → Spread f b n c (fresh b n ss).0 (fresh b n ss).1 (λ i. in_slots i ss)
spread f b n c [] [] m l g = still f b n c (λ i. false) m l (λ i. sym (or-false (is_some (b i))))
spread f b n c [] (t ∷ ts) m l g = absurd g
spread f b n c (s ∷ ss) [] m l g = absurd g
spread f b n c (s ∷ ss) (t ∷ ts) m l g =
    let one = spread_slot f b n c s t m l g.0 in
    let rest = spread one.to (fresh_slot b n s).0 (fresh_slot b n s).1 c ss ts one.carries one.lower g.1 in
    record {
      to = rest.to;
      agree = λ t h. rest.agree t (omega (arith, one.grows)) ∙ one.agree t h;
      carries = rest.carries;
      lower = rest.lower;
      grows = omega (arith, one.grows, rest.grows);
      exact = λ i. rest.exact i ∙ ap (λ w. w || in_slots i ss) (one.exact i) ∙ or_assoc (is_some (b i)) (is_var i s) (in_slots i ss);
    }

-- terms below n stay where they were
map_agree : (f g : ℕ → ℕ) (n : ℕ) (ts : List ℕ) → ((t : ℕ) → t < n → f t ≡ g t) → AllByRecursion (λ t. t < n) ts → map f ts ≡ map g ts
map_agree f g n [] a h = refl
map_agree f g n (t ∷ ts) a h = λ i. a t h.0 i ∷ map_agree f g n ts a h.1 i

-- the binding b, sent by f
abbrev pub through : (ℕ → ℕ) → Binding → Binding
through f b i = option_map f (b i)

through_some : (f : ℕ → ℕ) (o : Option ℕ) → is_some (option_map f o) ≡ is_some o
through_some f None = refl
through_some f (Some x) = refl

pub through_carries : (f : ℕ → ℕ) (b : Binding) → Carries f b (through f b)
through_carries f b i t h = ap (option_map f) h

abbrev LowAtoms : ℕ → List Atom → Type 0
LowAtoms n pile = AllByRecursion (λ (a : Atom). AllByRecursion (λ t. t < 1000000 + n) a.terms) pile

low_terms : (b : Binding) (n : ℕ) (ss : List Slot) → AllByRecursion Plain ss → Lower b n → GivesAll b ss (terms_of b ss) → AllByRecursion (λ t. t < 1000000 + n) (terms_of b ss)
low_terms b n [] p l g = tt
low_terms b n (con k ∷ ss) p l g = (omega (arith, p.0), low_terms b n ss p.1 l g.1)
low_terms b n (var j ∷ ss) p l g = (l j (unwrap_or (b j) 0) g.0, low_terms b n ss p.1 l g.1)

-- a term that a binding has comes from the atoms that it fits
gives_low : (b : Binding) (n : ℕ) (ss : List Slot) (ts : List ℕ) (i t : ℕ) → GivesAll b ss ts → AllByRecursion (λ t. t < n) ts → in_slots i ss ≡ true → b i ≡ Some t → t < n
gives_low b n [] [] i t g l e h = absurd (both_ways false refl e)
gives_low b n [] (u ∷ ts) i t g l e h = absurd g
gives_low b n (s ∷ ss) [] i t g l e h = absurd g
gives_low b n (con k ∷ ss) (u ∷ ts) i t g l e h = gives_low b n ss ts i t g.1 l.1 e h
gives_low b n (var j ∷ ss) (u ∷ ts) i t g l e h =
    elim (or_cases (eqb i j) (in_slots i ss) e) [ inl q ↦ subst (λ x. x < n) (some_is (sym g.0 ∙ ap b (sym (eqb-true i j q)) ∙ h)) l.0 | inr q ↦ gives_low b n ss ts i t g.1 l.1 q h ]

pub low_fit : (n : ℕ) (g : Pattern) (a : Atom) (b : Binding) → fit nothing g a ≡ Some b → AllByRecursion (λ t. t < 1000000 + n) a.terms → Lower b n
low_fit n g a b e l i t h =
    let f = fit_sound nothing g a b e in
    gives_low b (1000000 + n) g.slots a.terms i t f.gives.1 l (sym (f.exact i) ∙ ap is_some h) h

-- atoms that stand on the pile, so bound, are a match there
on_holds : (pile : List Atom) (b : Binding) (ps : List Pattern) → ((i : ℕ) → in_patterns i ps ≡ true → is_some (b i) ≡ true) → AllByRecursion (λ p. On pile (atom_of b p)) ps → AllByRecursion (Holds (On pile) b) ps
on_holds pile b [] bound on = tt
on_holds pile b (p ∷ ps) bound on = (
  (atom_of b p, (refl, terms_given b p.slots (λ i h. bound i (or_left _ _ h))), on.0),
  on_holds pile b ps (λ i h. bound i (ap (λ w. in_slots i p.slots || w) h ∙ or-true (in_slots i p.slots))) on.1,
)

pub on_match : (pile : List Atom) (b : Binding) (ps : List Pattern) → Exactly b ps → missing pile b ps ≡ None → Match (On pile) b ps
on_match pile b ps x e = (x, on_holds pile b ps (λ i h. x i ∙ h) (missing_none pile b ps e))

pub numbered_every : {A : Type 0} (P : A → Type 0) (xs : List A) (k : ℕ) (x : A) → AllByRecursion P xs → numbered xs k ≡ Some x → P x
numbered_every P xs zero x h e = absurd (none_some e)
numbered_every P xs (suc k) x h e = every_nth P xs k x h e

module _ (m : Candidate) where
  -- a match in the pile is sent to one in m
  sent_holds : (pile : List Atom) (img : Image m pile) (b : Binding) (ps : List Pattern) → PlainAll ps → AllByRecursion (Holds (On pile) b) ps → AllByRecursion (Holds m (through img.to b)) ps
  sent_holds pile img b [] p h = tt
  sent_holds pile img b (q ∷ ps) p h =
      let w = h.0 in
      let f = img.to in (
        (sent f w.0, (w.1.0, carried f b (through f b) q.slots w.0.terms img.fixed (through_carries f b) p.0 w.1.1), every_nth (λ a. m (sent f a)) pile w.2.0 w.0 img.within w.2.1),
        sent_holds pile img b ps p.1 h.1,
      )

  pub sent_match : (pile : List Atom) (img : Image m pile) (b : Binding) (ps : List Pattern) → PlainAll ps → Match (On pile) b ps → Match m (through img.to b) ps
  sent_match pile img b ps p h = (λ i. through_some img.to (b i) ∙ h.0 i, sent_holds pile img b ps p h.1)

  abbrev Good : ℕ → List Atom → Type 0
  Good n pile = Image m pile × LowAtoms n pile

  fired : (pile : List Atom) (n : ℕ) (r : Rule) (b : Binding) → Good n pile → PlainRule r → Follows m r → Lower b n → Match (On pile) b r.body → ∥ Good (fresh b n r.head.slots).1 (pile ++ (atom_of (fresh b n r.head.slots).0 r.head ∷ [])) ∥₁
  fired pile n r b good p follows low mt =
      let img = good.0 in
      let f = img.to in
      ∥∥₁_map (follows (through f b) (sent_match pile img b r.body p.1 mt)) (λ w. made f img.fixed img.within good.1 w.0 (λ i t h. w.1 i (f t) (through_carries f b i t h)) w.2.1.0)
    where
      ss : List Slot
      ss = r.head.slots

      b' : Binding
      b' = (fresh b n ss).0

      n' : ℕ
      n' = (fresh b n ss).1

      made : (f : ℕ → ℕ) → Fixed f → AllByRecursion (λ a. m (sent f a)) pile → LowAtoms n pile → (c : Binding) → Carries f b c → Holds m c r.head → Good n' (pile ++ (atom_of b' r.head ∷ []))
      made f fixed within lows c carries h =
          let sp = spread f b n c ss h.0.terms carries low h.1.1 in
          let fixed' : Fixed sp.to = λ k q. sp.agree k (omega arith) ∙ fixed k q in
          let given : GivesAll b' ss (terms_of b' ss) = terms_given b' ss (λ i q. sp.exact i ∙ ap (λ w. is_some (b i) || w) q ∙ or-true (is_some (b i))) in
          let there : GivesAll c ss (map sp.to (terms_of b' ss)) = carried sp.to b' c ss (terms_of b' ss) fixed' sp.carries p.0 given in
          let same : h.0.terms ≡ map sp.to (terms_of b' ss) = gives_terms c ss h.0.terms h.1.1 ∙ sym (gives_terms c ss (map sp.to (terms_of b' ss)) there) in
          let new : m (sent sp.to (atom_of b' r.head)) = subst m (λ i. record { pred = sym h.1.0 i; terms = same i }) h.2 in (
            record {
              to = sp.to;
              fixed = fixed';
              within = all_by_recursion_push (λ a. m (sent sp.to a)) pile (atom_of b' r.head) (every_both (λ (a : Atom). AllByRecursion (λ t. t < 1000000 + n) a.terms) (λ a. m (sent f a)) (λ a. m (sent sp.to a)) pile (λ a l q. subst m (λ i. record { pred = a.pred; terms = sym (map_agree sp.to f (1000000 + n) a.terms sp.agree l) i }) q) lows within) new;
            },
            all_by_recursion_push (λ (a : Atom). AllByRecursion (λ t. t < 1000000 + n') a.terms) pile (atom_of b' r.head) (every_map (λ (a : Atom). AllByRecursion (λ t. t < 1000000 + n) a.terms) (λ (a : Atom). AllByRecursion (λ t. t < 1000000 + n') a.terms) pile (λ a l. every_map (λ t. t < 1000000 + n) (λ t. t < 1000000 + n') a.terms (λ t q. omega (arith, sp.grows)) l) lows) (low_terms b' n' ss p.0 sp.lower given),
          )

  abbrev Inv : State → Type 0
  Inv s = ∥ Good s.nulls s.pile ∥₁

  put_inv : (s : State) (a : Atom) (n : ℕ) (seen full : Bool) → Inv s → Inv (moved s (adds a n)) → Inv (moved s (put_head s a n seen full))
  put_inv s a n true full i j = i
  put_inv s a n false true i j = i
  put_inv s a n false false i j = j

  module _ (s : State) (r : Rule) (plain : PlainRule r) (follows : Follows m r) (inv : Inv s) where
    side_inv : (b : Binding) → Exactly b r.body → (a : Atom) (g : Pattern) → fit nothing g a ≡ Some b → On s.pile a → (o : Option ℕ) → missing s.pile b r.body ≡ o → Inv (moved s (after_side s r b o))
    side_inv b x a g e on (Some i) q = inv
    side_inv b x a g e on None q = put_inv s _ _ (stands s.pile (atom_of (fresh b s.nulls r.head.slots).0 r.head)) (is_full s) inv (∥∥₁_elim inv ∥∥₁_prop (λ good. fired s.pile s.nulls r b good plain follows (low_fit s.nulls g a b e (every_nth _ s.pile on.0 a good.1 on.1)) (on_match s.pile b r.body x q)))

    fit_inv : (place : ℕ) (g : Pattern) → guard_of r ≡ Some g → (a : Atom) → On s.pile a → (o : Option Binding) → fit nothing g a ≡ o → Inv (moved s (after_fit s r place o))
    fit_inv place g ge a on None e = inv
    fit_inv place g ge a on (Some b) e = side_inv b (guard_exact r g a b ge e) a g e on (missing s.pile b r.body) refl

    place_inv : (place : ℕ) (g : Pattern) → guard_of r ≡ Some g → (o : Option Atom) → slice_get s.pile place ≡ o → Inv (moved s (after_place s r place g o))
    place_inv place g ge None e = inv
    place_inv place g ge (Some a) e = fit_inv place g ge a (place, e) (fit nothing g a) refl

    guard_inv : (place : ℕ) (o : Option Pattern) → guard_of r ≡ o → Inv (moved s (after_guard s r place o))
    guard_inv place None e = inv
    guard_inv place (Some g) e = place_inv place g e (slice_get s.pile place) refl

  module _ (rules : List Rule) (plain : AllByRecursion PlainRule rules) (follows : AllByRecursion (Follows m) rules) where
    rule_inv : (s : State) → Inv s → (k place : ℕ) (o : Option Rule) → numbered rules k ≡ o → Inv (moved s (after_rule s k place o))
    rule_inv s inv k place None e = inv
    rule_inv s inv k place (Some r) e = guard_inv s r (numbered_every PlainRule rules k r plain e) (numbered_every (Follows m) rules k r follows e) inv place (guard_of r) refl

    run_inv : (s : State) (xs : List (ℕ × ℕ)) → Inv s → Inv (run rules s xs)
    run_inv s [] inv = inv
    run_inv s (x ∷ xs) inv = run_inv (moved s (step rules s x.0 x.1)) xs (rule_inv s inv x.0 x.1 (numbered rules x.0) refl)

  map_id : (ts : List ℕ) → ts ≡ map (λ t. t) ts
  map_id [] = refl
  map_id (t ∷ ts) = ap (λ l. t ∷ l) (map_id ts)

  begins : (facts : List Atom) → AllByRecursion IsFact facts → AllByRecursion m facts → Good 0 facts
  begins facts f h = (
    record { to = λ t. t; fixed = λ c q. refl; within = every_map m (λ a. m (sent (λ t. t) a)) facts (λ a q. subst m (λ i. record { pred = a.pred; terms = map_id a.terms i }) q) h },
    f,
  )

  pub universal : (facts : List Atom) (rules : List Rule) (steps : List (ℕ × ℕ)) → AllByRecursion IsFact facts → AllByRecursion PlainRule rules → Model m facts rules → ∥ Image m (run rules (start facts) steps).pile ∥₁
  universal facts rules steps f p model = ∥∥₁_map (run_inv rules p model.follows (start facts) steps ∣ begins facts f model.has ∣₁) (λ g. g.0)
