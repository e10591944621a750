use Rattle.std.proofs.Common.{◌≡◌, ℕ, ◌<◌, ◌≤◌, List, length, get_or, take, Some, sym, refl, ap, ◌∙◌, subst, arith}
use Rattle.std.specs.List.{slice_get, AllByRecursion}
use Rattle.std.specs.Option.{option_map}
use Rattle.std.proofs.lemmas.List.{length-map, take_all}
use Rattle.std.proofs.lemmas.Option.{slice_get-get_or}
use Rattle.std.proofs.lemmas.Bool.{false≢true}
use Rattle.semantics.specs.Subject.{On, Holds}
use Rattle.atoms.specs.Meaning.{pattern_meant}
use Rattle.atoms.specs.declared.atom.Atom.{Atom}
use Rattle.terms.specs.declared.pattern_term.PatternTerm.{PatternTerm}
use Rattle.fitting.specs.Bindings.{bound}
use Rattle.matching.specs.Searches.{pile, patterns_meant}
use Rattle.matching.proofs.Rounds.{nth_map}
use Rattle.steps.proofs.Standing.{every_more}
use Rattle.steps.proofs.side.first_missing.Goals as goal

there : (ps : List (Atom PatternTerm)) (i : ℕ) (p : Atom PatternTerm) → i < length ps → p ≡ get_or ps i p → slice_get (patterns_meant ps) i ≡ Some (pattern_meant p)
there ps i p h e = nth_map pattern_meant ps i ∙ ap (option_map pattern_meant) (slice_get-get_or ps i p h ∙ ap Some (sym e))

pub returns-then-not-stands : goal.returns-then-not-stands
returns-then-not-stands g c = ((_, there c.args.patterns.now c.loop-index.index c.index-patterns-index.result c.loop-index-test.true c.index-patterns-index.is, λ h. false≢true (c.if-not-stands.ensures.1 h)), c.loop-index.invariant)

pub loop-index-preserved : goal.loop-index-preserved
loop-index-preserved g c =
    every_more (Holds (On (pile (g.S.Stock.list c.args.stock.now))) (bound c.args.binding)) (patterns_meant c.args.patterns.now) c.loop-index.index _
    (there c.args.patterns.now c.loop-index.index c.index-patterns-index.result c.loop-index-test.true c.index-patterns-index.is)
    c.loop-index.invariant (c.if-not-stands.ensures.0 refl)

pub returns : goal.returns
returns g c =
    let far : length (patterns_meant c.args.patterns.now) ≤ c.loop-index.index = omega (arith, length-map c.args.patterns.now pattern_meant) in
    subst (AllByRecursion (Holds (On (pile (g.S.Stock.list c.args.stock.now))) (bound c.args.binding))) (take_all c.loop-index.index (patterns_meant c.args.patterns.now) far) c.loop-index.invariant
