-- The plain chase as a relation and as a computation, and steps of a checker as steps of it.
use Rattle.std.proofs.Common.{◌≡◌, ℕ, ◌≤◌, Bool, true, false, ◌||◌, leb, ◌⊎◌, List, [], ◌∷◌, ◌++◌, length, Ok, Err, Result, sym, refl, ap, ◌∙◌, subst, inl, inr, add-one}
use mathlib.Core.Bool.{or-true}
use Rattle.std.proofs.lemmas.Bool.{both_ways, leb-true, le-leb, or_cases}
use Rattle.semantics.specs.Subject.{Atom, Rule, On}
use Rattle.semantics.proofs.Fitting.{some_is, none_some}
use Rattle.chase.specs.Chase as chase
use Rattle.chase.specs.Chase.{put_head, is_full, moved, step, fresh}
use Rattle.chase.specs.Firing.{Fires}
use Rattle.chase.specs.Law.{Used, is_broken}
use Rattle.chase.proofs.Laws.{steps_exact}
use Rattle.chase.proofs.Numbers.{numbered_same}
use Rattle.chase.proofs.Piles.{stands_on, on_stands}
use Rattle.refusals.specs.declared.refusal.Refusal.{Refusal}
use Rattle.book.specs.Theory.{rules_of}
use Rattle.shelves.specs.declared.taken.Taken.{Taken}
use Rattle.shelves.specs.declared.taken.Taken.TheVariants.{Already, At}
use Rattle.protocol.specs.States.{State, OwnDerivation}
use Rattle.protocol.specs.Calls.{Stepped, Yields, foreign_step, no_rule, not_fired, overfull}
use Rattle.protocol.specs.ChaseOf.{chase_of}
use Rattle.protocol.specs.Law.{Gives, Breaks, Advances, Chases, breaks, overfills, stands, adds}
use Rattle.protocol.proofs.Refusing.{not_fired_breaks}

-- full, as a test
full_test : (s : chase.State) → (256 ≤ s.added) ⊎ (1000000 ≤ length s.pile) → is_full s ≡ true
full_test s (inl h) = ap (λ w. w || leb 1000000 (length s.pile)) (le-leb 256 s.added h)
full_test s (inr h) = ap (λ w. leb 256 s.added || w) (le-leb 1000000 (length s.pile) h) ∙ or-true (leb 256 s.added)

room_test : (s : chase.State) → ((256 ≤ s.added) ⊎ (1000000 ≤ length s.pile) → ⊥) → is_full s ≡ false
room_test s no_more = go (is_full s) refl
  where
    go : (w : Bool) → is_full s ≡ w → w ≡ false
    go false e = refl
    go true e = absurd (no_more (elim (or_cases (leb 256 s.added) (leb 1000000 (length s.pile)) e) [ inl h ↦ inl (leb-true 256 s.added h) | inr h ↦ inr (leb-true 1000000 (length s.pile) h) ]))

stands_not : (pile : List Atom) (a : Atom) → (On pile a → ⊥) → chase.stands pile a ≡ false
stands_not pile a new = go (chase.stands pile a) refl
  where
    go : (w : Bool) → chase.stands pile a ≡ w → w ≡ false
    go false e = refl
    go true e = absurd (new (stands_on pile a e))

module _ (rules : List Rule) (s : chase.State) (k p : ℕ) where
  -- what the rule gives is what the computed step tries to put
  pub given : (a : Atom) (n : ℕ) → Gives rules s k p a n → step rules s k p ≡ put_head s a n (chase.stands s.pile a) (is_full s)
  given a n g =
      let used : Used rules s k p = record { rule = g.rule; named = numbered_same rules k ∙ g.named_rule; by = g.by; fires = g.fires } in
      (steps_exact rules s k p).0 used ∙ (λ i. put_head s (sym g.bears.0 i) (sym g.bears.1 i) (chase.stands s.pile (sym g.bears.0 i)) (is_full s))

  idle : (m : chase.Move) → is_broken m ≡ true → moved s m ≡ s
  idle (chase.broken n x y) e = refl
  idle chase.already e = absurd (both_ways false refl e)
  idle chase.overfull e = absurd (both_ways false refl e)
  idle (chase.adds a n) e = absurd (both_ways false refl e)

  broken_not : Breaks rules s k p → is_broken (step rules s k p) ≡ true
  broken_not none = go (is_broken (step rules s k p)) refl
    where
      go : (w : Bool) → is_broken (step rules s k p) ≡ w → w ≡ true
      go true e = refl
      go false e =
          let u = (steps_exact rules s k p).1 e in
          absurd (none _ _ (record { rule = u.rule; named_rule = sym (numbered_same rules k) ∙ u.named; by = u.by; fires = u.fires; bears = (refl, refl) }))

  put_is : (a : Atom) (n : ℕ) (v w : Bool) → Gives rules s k p a n → chase.stands s.pile a ≡ v → is_full s ≡ w → step rules s k p ≡ put_head s a n v w
  put_is a n v w g e f = given a n g ∙ (λ i. put_head s a n (e i) (f i))

  -- the relation has one outcome, the computed one
  advances_is : (t : chase.State) → Advances rules s k p t → t ≡ moved s (step rules s k p)
  advances_is t (breaks none e) = e ∙ sym (idle (step rules s k p) (broken_not none))
  advances_is t (overfills (a, n, g, new, full) e) = e ∙ ap (moved s) (sym (put_is a n false true g (stands_not s.pile a new) (full_test s full)))
  advances_is t (stands a n g on e) = e ∙ ap (moved s) (sym (put_is a n true (is_full s) g (on_stands s.pile a on.0 on.1) refl))
  advances_is t (adds a n g new room e) = e ∙ ap (moved s) (sym (put_is a n false false g (stands_not s.pile a new) (room_test s room)))

pub chases_run : (rules : List Rule) (s t : chase.State) (xs : List (ℕ × ℕ)) → Chases rules s xs t → t ≡ chase.run rules s xs
chases_run rules s t [] h = h
chases_run rules s t (x ∷ xs) h = chases_run rules h.0 t xs h.2 ∙ ap (λ (m : chase.State). chase.run rules m xs) (advances_is rules s x.0 x.1 h.0 h.1)

-- one more step at the end
pub chases_more : (rules : List Rule) (s t u : chase.State) (xs : List (ℕ × ℕ)) (k p : ℕ) → Chases rules s xs t → Advances rules t k p u → Chases rules s (xs ++ (k, p) ∷ []) u
chases_more rules s t u [] k p h a = (u, subst (λ (m : chase.State). Advances rules m k p u) h a, refl)
chases_more rules s t u (x ∷ xs) k p h a = (h.0, h.1, chases_more rules h.0 t u xs k p h.2 a)

-- a rule that may be used gives the same to the state and to its chase
pub gives_of : (s : State) (k p : ℕ) (a : Atom) (n : ℕ) → Yields s k p a n → Gives (rules_of s.book) (chase_of s) k p a n
gives_of s k p a n y = record { rule = y.rule; named_rule = y.named_rule; by = y.by; fires = y.fires; bears = y.bears }

-- a step under the checker's own slip is a step of the plain chase
pub stepped_advances : (s t : State) (n q k p : ℕ) (r : Result Taken Refusal) → OwnDerivation s n q → Stepped s n k p r t → Advances (rules_of s.book) (chase_of s) k p (chase_of t)
stepped_advances s t n q k p (Ok Already) own (o, a, m, is, y, on, e) = stands a m (gives_of s k p a m y) on (ap chase_of e)
stepped_advances s t n q k p (Ok (At place)) own (o, a, m, is, y, new, room, at, e) =
    adds a m (gives_of s k p a m y) new room (ap chase_of e ∙ (λ i. record { pile = s.pile ++ a ∷ []; added = add-one s.added i; nulls = m }))
stepped_advances s t n q k p (Err e) own (foreign_step is foreign, f) = absurd (foreign q own)
stepped_advances s t n q k p (Err e) own (no_rule o is oo none, f) = breaks (λ a m g. none_some (sym none ∙ g.named_rule)) (ap chase_of f)
stepped_advances s t n q k p (Err e) own (not_fired o rule oo named h, f) =
    breaks (λ a m g. not_fired_breaks s.pile rule p e h g.by (subst (λ (r : Rule). Fires s.pile r p g.by) (some_is (sym g.named_rule ∙ named)) g.fires)) (ap chase_of f)
stepped_advances s t n q k p (Err e) own (overfull o a m is oo y new full, f) = overfills (a, m, gives_of s k p a m y, new, full) (ap chase_of f)
