-- Refute passes exactly the piles that are counter-models.
use Rattle.std.proofs.Common.{◌≡◌, ℕ, zero, suc, ◌≤◌, Bool, true, false, cond, leb, List, [], ◌∷◌, length, Some, None, Option, sym, refl, ap, ◌∙◌}
use Rattle.std.specs.Option.{option_map, option_or}
use Rattle.std.specs.List.{slice_get, AllByRecursion}
use Rattle.std.proofs.lemmas.Bool.{both_ways, le-leb}
use Rattle.semantics.specs.Subject.{Pattern, Atom, Binding, Rule, Obeys}
use Rattle.semantics.specs.Subject.{On}
use Rattle.semantics.specs.Computed.{fit, nothing}
use Rattle.chase.specs.Chase.{missing, found, guard_of, Kept, Refuted}
use Rattle.chase.specs.Refute.{first, bad_side, bad_fit, bad_place, bad_rule, Refutal, refused, refuted, on_query, on_constraint, on_rule, refute, RefuteExact}
use Rattle.semantics.proofs.Fitting.{some_is, none_some}
use Rattle.chase.proofs.Piles.{every_nth, every_map, mapped_none}
use Rattle.chase.proofs.Searches.{searches}

every_from : {A : Type 0} (P : A → Type 0) (xs : List A) → ((k : ℕ) (a : A) → slice_get xs k ≡ Some a → P a) → AllByRecursion P xs
every_from P [] f = tt
every_from P (x ∷ xs) f = (f zero x refl, every_from P xs (λ k a e. f (suc k) a e))

first_none : {A : Type 0} (f : A → Bool) (xs : List A) → first f xs ≡ None → AllByRecursion (λ x. f x ≡ false) xs
first_none f [] e = tt
first_none f (x ∷ xs) e = go (f x) refl e (first_none f xs)
  where
    go : (w : Bool) → f x ≡ w → cond w (Some 0) (option_map suc (first f xs)) ≡ None → (first f xs ≡ None → AllByRecursion (λ x. f x ≡ false) xs) → (f x ≡ false) × AllByRecursion (λ x. f x ≡ false) xs
    go true q h rest = absurd (none_some (sym h))
    go false q h rest = (q, rest (mapped_none suc (first f xs) h))

none_first : {A : Type 0} (f : A → Bool) (xs : List A) → AllByRecursion (λ x. f x ≡ false) xs → first f xs ≡ None
none_first f [] h = refl
none_first f (x ∷ xs) h = ap (λ w. cond w (Some 0) (option_map suc (first f xs))) h.0 ∙ ap (option_map suc) (none_first f xs h.1)

not_true : (w : Bool) → cond w false true ≡ false → w ≡ true
not_true true e = refl
not_true false e = absurd (both_ways true e refl)

kept_side : (pile : List Atom) (r : Rule) (b : Binding) (o : Option ℕ) → bad_side pile r b o ≡ false → o ≡ None → found pile b (r.head ∷ []) ≡ true
kept_side pile r b (Some i) e n = absurd (none_some (sym n))
kept_side pile r b None e n = not_true (found pile b (r.head ∷ [])) e

kept_from : (pile : List Atom) (r : Rule) → bad_place pile r (guard_of r) ≡ None → Kept pile r
kept_from pile r e g k a b ge ae f n =
    let all = first_none (λ a. bad_fit pile r (fit nothing g a)) pile (sym (ap (bad_place pile r) ge) ∙ e) in
    kept_side pile r b (missing pile b r.body) (sym (ap (bad_fit pile r) f) ∙ every_nth (λ a. bad_fit pile r (fit nothing g a) ≡ false) pile k a all ae) n

kept_to : (pile : List Atom) (r : Rule) → Kept pile r → bad_place pile r (guard_of r) ≡ None
kept_to pile r kept = go (guard_of r) refl
  where
    side : (g : Pattern) (k : ℕ) (a : Atom) (b : Binding) → guard_of r ≡ Some g → slice_get pile k ≡ Some a → fit nothing g a ≡ Some b → (o : Option ℕ) → missing pile b r.body ≡ o → bad_side pile r b o ≡ false
    side g k a b ge ae f (Some i) n = refl
    side g k a b ge ae f None n = ap (λ w. cond w false true) (kept g k a b ge ae f n)

    fits : (g : Pattern) (k : ℕ) (a : Atom) → guard_of r ≡ Some g → slice_get pile k ≡ Some a → (o : Option Binding) → fit nothing g a ≡ o → bad_fit pile r o ≡ false
    fits g k a ge ae None f = refl
    fits g k a ge ae (Some b) f = side g k a b ge ae f (missing pile b r.body) refl

    go : (o : Option Pattern) → guard_of r ≡ o → bad_place pile r o ≡ None
    go None q = refl
    go (Some g) q = none_first (λ a. bad_fit pile r (fit nothing g a)) pile (every_from (λ a. bad_fit pile r (fit nothing g a) ≡ false) pile (λ k a ae. fits g k a q ae (fit nothing g a) refl))

or_none : {A : Type 0} (o p : Option A) → option_or o p ≡ None → (o ≡ None) × (p ≡ None)
or_none None p e = (refl, e)
or_none (Some x) p e = absurd (none_some (sym e))

rules_from : (pile : List Atom) (n : ℕ) (rs : List Rule) → bad_rule pile n rs ≡ None → AllByRecursion (Kept pile) rs
rules_from pile n [] e = tt
rules_from pile n (r ∷ rs) e =
    let h = or_none (option_map (λ k. (n, k)) (bad_place pile r (guard_of r))) (bad_rule pile (suc n) rs) e in
    (kept_from pile r (mapped_none (λ k. (n, k)) (bad_place pile r (guard_of r)) h.0), rules_from pile (suc n) rs h.1)

rules_to : (pile : List Atom) (n : ℕ) (rs : List Rule) → AllByRecursion (Kept pile) rs → bad_rule pile n rs ≡ None
rules_to pile n [] h = refl
rules_to pile n (r ∷ rs) h = ap (λ o. option_or (option_map (λ k. (n, k)) o) (bad_rule pile (suc n) rs)) (kept_to pile r h.0) ∙ rules_to pile (suc n) rs h.1

obeys_from : (pile : List Atom) (ps : List Pattern) → found pile nothing ps ≡ false → Obeys (On pile) ps
obeys_from pile ps e m = both_ways (found pile nothing ps) e ((searches pile ps).1 m)

obeys_to : (pile : List Atom) (ps : List Pattern) → Obeys (On pile) ps → found pile nothing ps ≡ false
obeys_to pile ps ob = go (found pile nothing ps) refl
  where
    go : (w : Bool) → found pile nothing ps ≡ w → found pile nothing ps ≡ false
    go true e = absurd (ob ∣ (searches pile ps).0 e ∣₁)
    go false e = e

abbrev size_of : Refutal → ℕ → ℕ
size_of (refused n x y) d = d
size_of (refuted n) d = n

abbrev is_refuted : Refutal → Option ℕ
is_refuted (refused n x y) = None
is_refuted (refuted n) = Some n

not_refused : {n x y m : ℕ} → refused n x y ≡ refuted m → ⊥
not_refused {n} {x} {y} {m} e = none_some (ap is_refuted e)

rule_passed : (o : Option (ℕ × ℕ)) (r : Refutal) (n : ℕ) → on_rule o r ≡ refuted n → (o ≡ None) × (r ≡ refuted n)
rule_passed (Some x) r n e = absurd (not_refused e)
rule_passed None r n e = (refl, e)

constraint_passed : (size : ℕ) (o : Option ℕ) (r : Refutal) (n : ℕ) → on_constraint size o r ≡ refuted n → (o ≡ None) × (r ≡ refuted n)
constraint_passed size (Some x) r n e = absurd (not_refused e)
constraint_passed size None r n e = (refl, e)

query_passed : (size q : ℕ) (w : Bool) (n : ℕ) → on_query size q w ≡ refuted n → (w ≡ false) × (size ≡ n)
query_passed size q true n e = absurd (not_refused e)
query_passed size q false n e = (refl, some_is (ap is_refuted e))

pub refutes_exact : RefuteExact
refutes_exact pile rules constraints q query = (λ n. go n (leb (length pile) 128), back)
  where
    size : ℕ
    size = length pile

    last : Refutal
    last = on_query size q (found pile nothing query)

    rest : Refutal
    rest = on_constraint size (first (found pile nothing) constraints) last

    all : Refutal
    all = on_rule (bad_rule pile 1 rules) rest

    go : (n : ℕ) (w : Bool) → cond w all (refused 20 size 0) ≡ refuted n → Refuted pile rules constraints query × (n ≡ length pile)
    go n false e = absurd (not_refused e)
    go n true e =
        let a = rule_passed (bad_rule pile 1 rules) rest n e in
        let b = constraint_passed size (first (found pile nothing) constraints) last n a.1 in
        let d = query_passed size q (found pile nothing query) n b.1 in (
          record {
            rules_kept = rules_from pile 1 rules a.0;
            quiet = every_map (λ ps. found pile nothing ps ≡ false) (Obeys (On pile)) constraints (obeys_from pile) (first_none (found pile nothing) constraints b.0);
            unmatched = obeys_from pile query d.0;
          },
          sym d.1,
        )

    back : length pile ≤ 128 → Refuted pile rules constraints query → refute pile rules constraints q query ≡ refuted size
    back few ref =
        ap (λ w. cond w all (refused 20 size 0)) (le-leb (length pile) 128 few)
        ∙ ap (λ o. on_rule o rest) (rules_to pile 1 rules ref.rules_kept)
        ∙ ap (λ o. on_constraint size o last) (none_first (found pile nothing) constraints (every_map (Obeys (On pile)) (λ ps. found pile nothing ps ≡ false) constraints (obeys_to pile) ref.quiet))
        ∙ ap (on_query size q) (obeys_to pile query ref.unmatched)
