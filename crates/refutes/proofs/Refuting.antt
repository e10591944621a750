-- The parts of refuting, put together.
use Rattle.std.proofs.Common.{◌≡◌, ℕ, List, length, IsErrAnd, Ok, Err, Result, sym, ap, ◌∙◌, subst}
use Rattle.std.specs.List.{AllByRecursion}
use Rattle.std.proofs.lemmas.List.{length-map}
use Rattle.std.proofs.lemmas.Result.{err_from_is_err_and}
use Rattle.semantics.specs.Subject as subject
use Rattle.semantics.specs.Subject.{Pattern, On, Obeys}
use Rattle.chase.specs.Satisfying.{Satisfied}
use Rattle.atoms.specs.Meaning.{atom_meant}
use Rattle.atoms.specs.declared.atom.Atom.{Atom}
use Rattle.refusals.specs.declared.refusal.Refusal.{Refusal}
use Rattle.terms.specs.declared.term.Term.{Term}
use Rattle.matching.specs.Searches.{pile}
use Rattle.refutes.specs.Parts.{SizeJudged, RulesJudged, ConstraintsJudged, QueryJudged}
use Rattle.chase.specs.Refuting.{NotRefuted, large, unsatisfied, matched, answered, Refuted}

-- the pile is as long as the stock
size_meant : (xs : List (Atom Term)) (r : Result ℕ Refusal) → SizeJudged (length xs) r → SizeJudged (length (pile xs)) r
size_meant xs r = subst (λ n. SizeJudged n r) (sym (length-map xs atom_meant))

module _ (xs : List (Atom Term)) (rules : List subject.Rule) (constraints : List (List Pattern)) (number : ℕ) (query : List Pattern) where
  -- the exit with that refusal
  exits : (e : Refusal) (r : Result ℕ Refusal) → IsErrAnd r (λ x. x ≡ e) → NotRefuted (pile xs) rules constraints number query e → Refuted (pile xs) rules constraints number query r
  exits e r out not =
      let p = err_from_is_err_and r out in
      subst (Refuted (pile xs) rules constraints number query) (sym (p.1 ∙ ap Err p.2)) not

  pub too_large : (e : Refusal) (r : Result ℕ Refusal) → IsErrAnd r (λ x. x ≡ e) → SizeJudged (length xs) (Err e) → Refuted (pile xs) rules constraints number query r
  too_large e r out s = let h = size_meant xs (Err e) s in exits e r out (large h.0 h.1)

  module _ (size : ℕ) (judged : SizeJudged (length xs) (Ok size)) where
    pub not_satisfied : (e : Refusal) (r : Result ℕ Refusal) → IsErrAnd r (λ x. x ≡ e) → RulesJudged (pile xs) rules (Err e) → Refuted (pile xs) rules constraints number query r
    not_satisfied e r out l = exits e r out (unsatisfied l.index l.place l.rule l.is (size_meant xs (Ok size) judged).1 l.there l.before l.first.0 l.first.1)

    module _ (satisfied : AllByRecursion (Satisfied (pile xs)) rules) where
      pub not_obeyed : (e : Refusal) (r : Result ℕ Refusal) → IsErrAnd r (λ x. x ≡ e) → ConstraintsJudged (pile xs) constraints (Err e) → Refuted (pile xs) rules constraints number query r
      not_obeyed e r out l = exits e r out (matched l.index l.constraint l.is (size_meant xs (Ok size) judged).1 satisfied l.there l.before l.matches)

      module _ (obeyed : AllByRecursion (Obeys (On (pile xs))) constraints) where
        pub has_answer : (e : Refusal) (r : Result ℕ Refusal) → IsErrAnd r (λ x. x ≡ e) → QueryJudged (pile xs) number query (Err e) → Refuted (pile xs) rules constraints number query r
        has_answer e r out q = exits e r out (answered q.0 (size_meant xs (Ok size) judged).1 satisfied obeyed q.1)

        pub refutes : Obeys (On (pile xs)) query → Refuted (pile xs) rules constraints number query (Ok size)
        refutes un = let h = size_meant xs (Ok size) judged in (h.0, h.1, record { satisfied = satisfied; obeyed = obeyed; unmatched = un })
