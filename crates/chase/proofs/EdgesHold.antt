-- The edges hold.
use Rattle.std.proofs.Common.{◌≡◌, ℕ, eqb, List, [], ◌∷◌, Some, sym, refl, ◌∙◌, arith}
use mathlib.Core.Logic.{∥∥₁_elim}
use Rattle.std.specs.List.{AllByRecursion}
use Rattle.std.specs.Map.{update}
use Rattle.semantics.specs.Subject.{Pattern, Rule, Obeys}
use Rattle.semantics.specs.Computed.{nothing}
use Rattle.chase.specs.Chase.{Kept}
use Rattle.semantics.specs.Subject.{On}
use Rattle.chase.specs.Edges.{Edges, Bundle, SomePatterns}
use Rattle.chase.proofs.Piles.{every_map}
use Rattle.chase.proofs.Refusals.{refutes_exact}
use Rattle.semantics.proofs.Fitting.{some_is, none_some}

kept_none : (rules : List Rule) → AllByRecursion (Kept []) rules
kept_none [] = tt
kept_none (r ∷ rs) = (λ g k a b ge e f n. absurd (none_some e), kept_none rs)

⊥-is : (x y : ⊥) → x ≡ y
⊥-is x y = absurd x

quiet : (ps : List Pattern) → SomePatterns ps → Obeys (On []) ps
quiet [] n h = n
quiet (p ∷ ps) n h = ∥∥₁_elim h ⊥-is (λ w. none_some w.1.1.0.2.1)

pub edges : Edges
edges = record {
  e1 = refl;
  e2 = refl;
  e3 = refl;
  e4 = refl;
  e5 = refl;
  e6 = (update eqb nothing 1 (Some 17), (refl, (refl, (refl, tt))));
  e6_not = λ b f. let z : ◌≡◌ {A = ℕ} 17 18 = some_is (sym f.1.0 ∙ f.1.1.0) in omega arith;
  e7 = λ rules cs q query n m. (refutes_exact [] rules cs q query).1 (omega arith) (record { rules_kept = kept_none rules; quiet = every_map SomePatterns (Obeys (On [])) cs quiet n; unmatched = quiet query m });
  e8 = refl;
}

pub bundle : Bundle
bundle = record { pile = refl; figures = (refl, refl); entailed = (_, refl); unsatisfied = refl; satisfied = refl }
