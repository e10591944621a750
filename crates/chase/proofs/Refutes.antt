-- A pile that passes the test of refute is a model.
use Rattle.std.proofs.Common.{◌≡◌, ℕ, zero, suc, Bool, true, false, cond, ◌||◌, List, [], ◌∷◌, ◌++◌, is_some, Some, None, Option, sym, refl, ap, ◌∙◌, subst}
use mathlib.Core.Bool.{Bool-set, or-false, or_comm}
use mathlib.Core.Logic.{∥∥₁_elim}
use Rattle.std.specs.Option.{option_map}
use Rattle.std.specs.List.{slice_get, AllByRecursion}
use Rattle.std.proofs.lemmas.Bool.{both_ways}
use Rattle.semantics.specs.Subject.{Pattern, Atom, Binding, Rule, Holds, Follows, Extends, Exactly, in_slots, in_patterns, Obeys}
use Rattle.chase.specs.Chase.{PlainAll}
use Rattle.semantics.specs.Computed.{guard, guard_from, covers_all}
use Rattle.semantics.specs.Computed.{and_then, nothing, atom_of}
use Rattle.semantics.specs.Subject.{On}
use Rattle.chase.specs.Chase.{guard_of, Kept}
use Rattle.chase.specs.Theorems.{Guarded, RefutedSound, RefutedComplete, VerdictsAgree, ClashesAgree}
use Rattle.semantics.proofs.Fitting.{some_is, none_some, fit_sound, fit_complete, gives_terms, all_more}
use Rattle.chase.proofs.Piles.{every_nth, every_map, every_both, none_missing, guards, guard_exact}
use Rattle.chase.proofs.Image.{on_match, numbered_every}
use Rattle.chase.proofs.Claims.{entailed, holds_more}
use Rattle.chase.proofs.Searches.{found_sound, found_complete}

-- two bindings of the same variables, one extending the other, are the same
pub same_part : (b c : Binding) → Extends b c → ((i : ℕ) → is_some (b i) ≡ is_some (c i)) → Extends c b
same_part b c x s i t h = go (b i) refl
  where
    go : (o : Option ℕ) → b i ≡ o → b i ≡ Some t
    go None q = absurd (both_ways true (ap is_some (sym h) ∙ sym (s i) ∙ ap is_some q) refl)
    go (Some u) q = q ∙ ap Some (some_is (sym (x i u q) ∙ h))

-- a guarded rule has a guard
guard_nth : (body ps : List Pattern) (k : ℕ) → guard_from body ps ≡ Some k → (g : Pattern) × (slice_get ps k ≡ Some g)
guard_nth body [] k e = absurd (none_some e)
guard_nth body (p ∷ ps) k e = go (covers_all body p.slots) e (guard_nth body ps)
  where
    Later : Type 0
    Later = (j : ℕ) → guard_from body ps ≡ Some j → (g : Pattern) × (slice_get ps j ≡ Some g)

    later : (o : Option ℕ) → guard_from body ps ≡ o → option_map suc o ≡ Some k → Later → (g : Pattern) × (slice_get (p ∷ ps) k ≡ Some g)
    later None q n rest = absurd (none_some n)
    later (Some j) q n rest = ((rest j q).0, ap (slice_get (p ∷ ps)) (sym (some_is n)) ∙ (rest j q).1)

    go : (w : Bool) → cond w (Some 0) (option_map suc (guard_from body ps)) ≡ Some k → Later → (g : Pattern) × (slice_get (p ∷ ps) k ≡ Some g)
    go true n rest = (p, ap (slice_get (p ∷ ps)) (sym (some_is n)))
    go false n rest = later (guard_from body ps) refl n rest

guard_there : (r : Rule) → Guarded r → (g : Pattern) × (guard_of r ≡ Some g)
guard_there r h = go (guard r.body) refl h
  where
    go : (o : Option ℕ) → guard r.body ≡ o → is_some o ≡ true → (g : Pattern) × (and_then (guard r.body) (slice_get r.body) ≡ Some g)
    go None q e = absurd (both_ways false refl e)
    go (Some k) q e =
        let w = guard_nth r.body r.body k q in
        (w.0, ap (λ o. and_then o (slice_get r.body)) q ∙ w.1)

module _ (pile : List Atom) (r : Rule) where
  kept_follows : Guarded r → Kept pile r → Follows (On pile) r
  kept_follows guarded kept b mt =
      let (g, ge) = guard_there r guarded in
      let gu = guards r g ge in
      let w : Holds (On pile) b g = every_nth (Holds (On pile) b) r.body gu.place g mt.1 gu.there in
      let fc = fit_complete nothing b g w.0 (λ i t h. absurd (none_some h)) w.1 in
      let d : Binding = fc.0 in
      let exact : Exactly d r.body = λ i. (fit_sound nothing g w.0 d fc.1).exact i ∙ gu.same i in
      let back : Extends b d = same_part d b fc.2 (λ i. exact i ∙ sym (mt.0 i)) in
      let stand = every_map (Holds (On pile) b) (λ p. On pile (atom_of d p)) r.body (λ p h. subst (On pile) (λ i. record { pred = sym h.1.0 i; terms = gives_terms d p.slots h.0.terms (all_more b d p.slots h.0.terms back h.1.1) i }) h.2) mt.1 in
      let s = found_sound pile d (r.head ∷ []) (kept g w.2.0 w.0 d ge w.2.1 fc.1 (none_missing pile d r.body stand)) in
      let c : Binding = s.to in
      let grown = s.grown in
      let more : Extends b c = λ i t h. grown.more i t (back i t h) in
      ∣ (
        c,
        more,
        (
          λ i. grown.exact i ∙ ap (λ x. is_some (d i) || x) (or-false (in_slots i r.head.slots)) ∙ ap (λ x. x || in_slots i r.head.slots) (exact i) ∙ or_comm (in_patterns i r.body) (in_slots i r.head.slots),
          (grown.gives.0, every_map (Holds (On pile) b) (Holds (On pile) c) r.body (λ p h. holds_more (On pile) b c p more h) mt.1),
        ),
      ) ∣₁

nth_append : {A : Type 0} (xs ys : List A) (k : ℕ) (x : A) → slice_get xs k ≡ Some x → slice_get (xs ++ ys) k ≡ Some x
nth_append [] ys k x e = absurd (none_some e)
nth_append (y ∷ xs) ys zero x e = e
nth_append (y ∷ xs) ys (suc k) x e = nth_append xs ys k x e

on_itself : (xs : List Atom) → AllByRecursion (On xs) xs
on_itself [] = tt
on_itself (x ∷ xs) = ((zero, refl), every_map (On xs) (On (x ∷ xs)) xs (λ a h. (suc h.0, h.1)) (on_itself xs))

all_follow : (pile : List Atom) (rules : List Rule) → AllByRecursion Guarded rules → AllByRecursion (Kept pile) rules → AllByRecursion (Follows (On pile)) rules
all_follow pile rules g k = every_both Guarded (Kept pile) (Follows (On pile)) rules (kept_follows pile) g k

-- what stands in the front stands in the whole
on_front : (xs ys : List Atom) (a : Atom) → On xs a → On (xs ++ ys) a
on_front xs ys a h = (h.0, nth_append xs ys h.0 a h.1)

pub refutes : RefutedSound
refutes facts added rules constraints query guarded ref = (
  record {
    has = every_map (On facts) (On (facts ++ added)) facts (on_front facts added) (on_itself facts);
    follows = all_follow (facts ++ added) rules guarded ref.rules_kept;
  },
  ref.quiet,
  ref.unmatched,
)

pub agree : VerdictsAgree
agree facts more added rules constraints query steps places b f p q guarded sub e ref =
    ref.unmatched
    (entailed (On (more ++ added)) facts rules steps query places b f p q e (record {
      has = every_map (On more) (On (more ++ added)) facts (on_front more added) sub;
      follows = all_follow (more ++ added) rules guarded ref.rules_kept;
    }))

follows_kept : (pile : List Atom) (r : Rule) → Follows (On pile) r → Kept pile r
follows_kept pile r follows g k a b ge e f n =
    ∥∥₁_elim (follows b (on_match pile b r.body (guard_exact r g a b ge f) n)) (Bool-set _ _) (λ w. found_complete pile b w.0 (r.head ∷ []) w.1 (w.2.1.0, tt))

pub refutes_all : RefutedComplete
refutes_all pile facts rules constraints query model quiet un = record {
  rules_kept = every_map (Follows (On pile)) (Kept pile) rules (follows_kept pile) model.follows;
  quiet = quiet;
  unmatched = un;
}

pub clashes : ClashesAgree
clashes facts more added rules constraints query constraint n steps places b f p q guarded sub at e ref =
    numbered_every (Obeys (On (more ++ added))) constraints n constraint ref.quiet at
    (entailed (On (more ++ added)) facts rules steps constraint places b f p (numbered_every PlainAll constraints n constraint q at) e (record {
      has = every_map (On more) (On (more ++ added)) facts (on_front more added) sub;
      follows = all_follow (more ++ added) rules guarded ref.rules_kept;
    }))
