-- What stands on a pile, what is missing there, and the guard.
use Rattle.std.proofs.Common.{◌≡◌, ℕ, zero, suc, Bool, true, false, cond, ◌||◌, eqb, List, [], ◌∷◌, Some, None, Option, sym, refl, ap, ◌∙◌, subst, inl, inr}
use mathlib.Core.Bool.{or-true}
use Rattle.std.specs.Cmp.Lexicographic.{bytes_decides}
use Rattle.std.specs.Option.{option_map}
use Rattle.std.specs.List.{slice_get, AllByRecursion}
use Rattle.std.specs.Str.{bytes_eq as same_text}
use Rattle.std.proofs.lemmas.Bool.{eqb-true, eq-eqb, both_ways, or_cases, and_parts, and_from}
use Rattle.semantics.specs.Subject.{Slot, con, var, Pattern, Atom, Binding, Rule, Exactly, in_slots, in_patterns}
use Rattle.semantics.specs.Computed.{covers, covers_all, guard, guard_from}
use Rattle.semantics.specs.Computed.{fit, atom_of, nothing}
use Rattle.chase.specs.Chase.{same_atom, stands, missing, guard_of}
use Rattle.semantics.specs.Subject.{On}
use Rattle.semantics.proofs.Fitting.{some_is, none_some, then_some, same_bool, fit_sound}

pub every_nth : {A : Type 0} (P : A → Type 0) (xs : List A) (k : ℕ) (x : A) → AllByRecursion P xs → slice_get xs k ≡ Some x → P x
every_nth P [] k x h e = absurd (none_some e)
every_nth P (y ∷ ys) zero x h e = subst P (some_is e) h.0
every_nth P (y ∷ ys) (suc k) x h e = every_nth P ys k x h.1 e

pub every_map : {A : Type 0} (P Q : A → Type 0) (xs : List A) → ((x : A) → P x → Q x) → AllByRecursion P xs → AllByRecursion Q xs
every_map P Q [] f h = tt
every_map P Q (x ∷ xs) f h = (f x h.0, every_map P Q xs f h.1)

pub every_both : {A : Type 0} (P Q R : A → Type 0) (xs : List A) → ((x : A) → P x → Q x → R x) → AllByRecursion P xs → AllByRecursion Q xs → AllByRecursion R xs
every_both P Q R [] f h k = tt
every_both P Q R (x ∷ xs) f h k = (f x h.0 k.0, every_both P Q R xs f h.1 k.1)

same_atom_is : (a b : Atom) → same_atom a b ≡ true → a ≡ b
same_atom_is a b e =
    let h = and_parts (eqb a.pred b.pred) (same_text a.terms b.terms) e in
    λ i. record { pred = eqb-true a.pred b.pred h.0 i; terms = (bytes_decides a.terms b.terms).0 h.1 i }

same_atom_itself : (a : Atom) → same_atom a a ≡ true
same_atom_itself a = and_from _ _ (eq-eqb a.pred a.pred refl) ((bytes_decides a.terms a.terms).1 refl)

pub stands_on : (pile : List Atom) (a : Atom) → stands pile a ≡ true → On pile a
stands_on [] a e = absurd (both_ways false refl e)
stands_on (x ∷ xs) a e = elim (or_cases (same_atom x a) (stands xs a) e) [ inl h ↦ (zero, ap Some (same_atom_is x a h)) | inr h ↦ (suc (stands_on xs a h).0, (stands_on xs a h).1) ]

pub on_stands : (pile : List Atom) (a : Atom) (k : ℕ) → slice_get pile k ≡ Some a → stands pile a ≡ true
on_stands [] a k e = absurd (none_some e)
on_stands (x ∷ xs) a zero e = ap (λ w. w || stands xs a) (ap (λ y. same_atom x y) (sym (some_is e)) ∙ same_atom_itself x)
on_stands (x ∷ xs) a (suc k) e = ap (λ w. same_atom x a || w) (on_stands xs a k e) ∙ or-true (same_atom x a)

pub mapped_none : {A B : Type 0} (f : A → B) (o : Option A) → option_map f o ≡ None → o ≡ None
mapped_none f None e = refl
mapped_none f (Some x) e = absurd (none_some (sym e))

pub missing_none : (pile : List Atom) (b : Binding) (ps : List Pattern) → missing pile b ps ≡ None → AllByRecursion (λ p. On pile (atom_of b p)) ps
missing_none pile b [] e = tt
missing_none pile b (p ∷ ps) e = go (missing_none pile b ps) (stands pile (atom_of b p)) refl e
  where
    go : (missing pile b ps ≡ None → AllByRecursion (λ p. On pile (atom_of b p)) ps) → (w : Bool) → stands pile (atom_of b p) ≡ w → cond w (option_map suc (missing pile b ps)) (Some 0) ≡ None → On pile (atom_of b p) × AllByRecursion (λ p. On pile (atom_of b p)) ps
    go rest true q h = (stands_on pile (atom_of b p) q, rest (mapped_none suc (missing pile b ps) h))
    go rest false q h = absurd (none_some (sym h))

pub none_missing : (pile : List Atom) (b : Binding) (ps : List Pattern) → AllByRecursion (λ p. On pile (atom_of b p)) ps → missing pile b ps ≡ None
none_missing pile b [] h = refl
none_missing pile b (p ∷ ps) h =
    ap (λ w. cond w (option_map suc (missing pile b ps)) (Some 0)) (on_stands pile (atom_of b p) h.0.0 h.0.1) ∙ ap (option_map suc) (none_missing pile b ps h.1)

covers_in : (ss q : List Slot) (i : ℕ) → covers ss q ≡ true → in_slots i ss ≡ true → in_slots i q ≡ true
covers_in [] q i e h = absurd (both_ways false refl h)
covers_in (con c ∷ ss) q i e h = covers_in ss q i e h
covers_in (var j ∷ ss) q i e h =
    let c = and_parts (in_slots j q) (covers ss q) e in
    elim (or_cases (eqb i j) (in_slots i ss) h) [ inl s ↦ ap (λ k. in_slots k q) (eqb-true i j s) ∙ c.0 | inr s ↦ covers_in ss q i c.1 s ]

covers_all_in : (ps : List Pattern) (q : List Slot) (i : ℕ) → covers_all ps q ≡ true → in_patterns i ps ≡ true → in_slots i q ≡ true
covers_all_in [] q i e h = absurd (both_ways false refl h)
covers_all_in (p ∷ ps) q i e h =
    let c = and_parts (covers p.slots q) (covers_all ps q) e in
    elim (or_cases (in_slots i p.slots) (in_patterns i ps) h) [ inl s ↦ covers_in p.slots q i c.0 s | inr s ↦ covers_all_in ps q i c.1 s ]

pub in_one : (ps : List Pattern) (k : ℕ) (p : Pattern) (i : ℕ) → slice_get ps k ≡ Some p → in_slots i p.slots ≡ true → in_patterns i ps ≡ true
in_one [] k p i e h = absurd (none_some e)
in_one (q ∷ ps) zero p i e h = ap (λ w. w || in_patterns i ps) (ap (λ x. in_slots i x.slots) (some_is e) ∙ h)
in_one (q ∷ ps) (suc k) p i e h = ap (λ w. in_slots i q.slots || w) (in_one ps k p i e h) ∙ or-true (in_slots i q.slots)

guard_covers : (body ps : List Pattern) (k : ℕ) → guard_from body ps ≡ Some k → (g : Pattern) → slice_get ps k ≡ Some g → covers_all body g.slots ≡ true
guard_covers body [] k e g h = absurd (none_some e)
guard_covers body (p ∷ ps) k e g h = go (covers_all body p.slots) refl e (λ j q n. guard_covers body ps j q g n)
  where
    Later : Type 0
    Later = (j : ℕ) → guard_from body ps ≡ Some j → slice_get ps j ≡ Some g → covers_all body g.slots ≡ true

    later : (o : Option ℕ) → guard_from body ps ≡ o → option_map suc o ≡ Some k → Later → covers_all body g.slots ≡ true
    later None q n rest = absurd (none_some n)
    later (Some j) q n rest = rest j q (ap (slice_get (p ∷ ps)) (some_is n) ∙ h)

    go : (w : Bool) → covers_all body p.slots ≡ w → cond w (Some 0) (option_map suc (guard_from body ps)) ≡ Some k → Later → covers_all body g.slots ≡ true
    go true q n rest = ap (λ (x : Pattern). covers_all body x.slots) (sym (some_is (ap (slice_get (p ∷ ps)) (some_is n) ∙ h))) ∙ q
    go false q n rest = later (guard_from body ps) refl n rest

-- the guard has the variables of the body and no others
pub record Guards (g : Pattern) (body : List Pattern) : Type 0 where
  pub place : ℕ
  pub there : slice_get body place ≡ Some g
  pub same : (i : ℕ) → in_slots i g.slots ≡ in_patterns i body

pub guards : (r : Rule) (g : Pattern) → guard_of r ≡ Some g → Guards g r.body
guards r g e =
    let h = then_some (guard r.body) (slice_get r.body) g e in
    record {
      place = h.0;
      there = h.2;
      same = λ i. same_bool _ _ (in_one r.body h.0 g i h.2) (covers_all_in r.body g.slots i (guard_covers r.body r.body h.0 h.1 g h.2));
    }

-- so a guard that fits binds just the body's variables
pub guard_exact : (r : Rule) (g : Pattern) (a : Atom) (b : Binding) → guard_of r ≡ Some g → fit nothing g a ≡ Some b → Exactly b r.body
guard_exact r g a b e f i = (fit_sound nothing g a b f).exact i ∙ (guards r g e).same i
