-- The edge cases hold.
use Rattle.std.proofs.Common.{◌≡◌, ℕ, ◌≤◌, Bool, true, false, eqb, List, [], ◌∷◌, Some, sym, refl, ap, ◌∙◌, subst, arith}
use mathlib.Core.Logic.{∥∥₁_elim}
use Rattle.std.specs.Map.{update}
use Rattle.std.specs.List.{AllByRecursion}
use Rattle.semantics.specs.Subject.{var, Fits, Pattern, Atom, Binding, Rule, Obeys, On, Guards}
use Rattle.semantics.specs.Computed.{nothing, atom_of}
use Rattle.semantics.proofs.Fitting.{some_is, none_some}
use Rattle.semantics.proofs.Guarding.{guards, guard_only}
use Rattle.chase.specs.Chase as chase
use Rattle.chase.specs.Chase.{step, put_head, fresh}
use Rattle.chase.specs.Law.{is_broken}
use Rattle.chase.specs.Satisfying.{Satisfied}
use Rattle.chase.proofs.Laws.{steps_exact}
use Rattle.chase.proofs.Numbers.{numbered_same}
use Rattle.chase.proofs.Piles.{every_map}
use Rattle.matching.specs.Places.{unfit}
use Rattle.protocol.specs.Law.{Gives}
use Rattle.edges.specs.Edges.{Edges, pat, atom, SomePatterns}

-- what the computed step adds is what the rule gives
added : (s : chase.State) (a b : Atom) (m n : ℕ) (v w : Bool) → chase.adds a m ≡ put_head s b n v w → (a ≡ b) × (m ≡ n)
added s a b m n true w e = let z : ◌≡◌ {A = ℕ} 0 1 = cc in absurd (omega arith)
added s a b m n false true e = let z : ◌≡◌ {A = ℕ} 0 1 = cc in absurd (omega arith)
added s a b m n false false e = (cc, cc)

gives : (rules : List Rule) (s : chase.State) (k p : ℕ) (a : Atom) (n : ℕ) → step rules s k p ≡ chase.adds a n → Gives rules s k p a n
gives rules s k p a n e =
    let u = (steps_exact rules s k p).1 (ap is_broken e) in
    let f = fresh u.by s.nulls u.rule.head.slots in
    let h = added s a (atom_of f.0 u.rule.head) n f.1 (chase.stands s.pile (atom_of f.0 u.rule.head)) (chase.is_full s) (sym e ∙ (steps_exact rules s k p).0 u) in
    record { rule = u.rule; named_rule = sym (numbered_same rules k) ∙ u.named; by = u.by; fires = u.fires; bears = h }

satisfied_none : (rules : List Rule) → AllByRecursion (Satisfied []) rules
satisfied_none [] = tt
satisfied_none (r ∷ rs) = (λ k b f. absurd (none_some f.there), satisfied_none rs)

⊥-is : (x y : ⊥) → x ≡ y
⊥-is x y = absurd x

quiet : (ps : List Pattern) → SomePatterns ps → Obeys (On []) ps
quiet [] n h = n
quiet (p ∷ ps) n h = ∥∥₁_elim h ⊥-is (λ w. none_some w.1.1.0.2.1)

pub edges : Edges
edges = record {
  guard_in_the_middle = guards _ 1 refl;
  unguarded = λ body e k g. none_some (guard_only _ k (subst (λ ps. Guards ps k) e g));
  guard_without_variables = guards _ 0 refl;
  first_use = gives _ _ 1 0 _ 1 refl;
  second_use = gives _ _ 1 0 _ 2 refl;
  fits_twice = (update eqb nothing 1 (Some 17), (refl, (refl, (refl, tt))));
  fits_once_not = λ b f. let z : ◌≡◌ {A = ℕ} 17 18 = some_is (sym f.1.0 ∙ f.1.1.0) in omega arith;
  empty_pile = λ rules cs number query some one. (refl, omega arith, record { satisfied = satisfied_none rules; obeyed = every_map SomePatterns (Obeys (On [])) cs quiet some; unmatched = quiet query one });
  claim_at_null = λ e is. unfit 0 0 (atom 2 (17 ∷ 1000000 ∷ [])) is refl refl refl (nothing, tt) (λ w. let f = w.1.0.2 in let same = some_is w.1.0.1 in differ w.0 w.1.0.0 same f);
}
  where
    differ : (b : Binding) (a : Atom) → atom 2 (17 ∷ 1000000 ∷ []) ≡ a → Fits b (pat 2 (var 1 ∷ var 1 ∷ [])) a → ⊥
    differ b a e f =
        let g = subst (Fits b (pat 2 (var 1 ∷ var 1 ∷ []))) (sym e) f in
        let z : ◌≡◌ {A = ℕ} 17 1000000 = some_is (sym g.1.0 ∙ g.1.1.0) in
        omega arith
