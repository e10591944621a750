use Rattle.std.proofs.Common.{◌≡◌, ◌<◌, ◌≤◌, length, sym, refl, ◌∙◌, arith}
use Rattle.std.proofs.lemmas.List.{length-map}
use Rattle.semantics.proofs.Placing.{all_placed}
use Rattle.atoms.specs.Meaning.{pattern_meant}
use Rattle.fitting.specs.Bindings.{bound}
use Rattle.matching.specs.Places.{uneven}
use Rattle.matching.specs.Searches.{pile, patterns_meant}
use Rattle.matching.proofs.Placed.{placed_more, not_placed, exits}
use Rattle.matching.proofs.places.fit_places.Goals as goal

pub returns-then-places-patterns : goal.returns-then-places-patterns
returns-then-places-patterns g c = uneven (refl, refl, refl) (λ e. c.if-places-patterns.true (sym (sym (length-map c.args.patterns.now pattern_meant) ∙ e)))

pub returns-in_err-binding : goal.returns-in_err-binding
returns-in_err-binding g c =
    let xs = pile (g.S.Stock.list c.args.stock.now) in
    let ps = c.args.patterns.now in
    let ks = c.args.places.now in
    let hk : c.loop-index.index < length ks = omega arith in
    let long : length (patterns_meant ps) ≡ length ks = length-map ps pattern_meant ∙ sym c.if-places-patterns.false in
    exits xs (patterns_meant ps) ks _ _ c.from_residual.ensures.1 (not_placed xs ps ks c.loop-index.index c.index-patterns-index.result c.loop-index-test.true c.index-patterns-index.is hk (bound c.loop-index.binding) c.loop-index.invariant long _ c.in_err-binding.ensures)

pub loop-index-preserved : goal.loop-index-preserved
loop-index-preserved g c =
    let hk : c.loop-index.index < length c.args.places.now = omega arith in
    placed_more (pile (g.S.Stock.list c.args.stock.now)) c.args.patterns.now c.args.places.now c.loop-index.index c.index-patterns-index.result c.loop-index-test.true c.index-patterns-index.is hk (bound c.loop-index.binding) c.loop-index.invariant (bound c.in_ok-binding.binding) c.in_ok-binding.ensures

pub returns : goal.returns
returns g c =
    let far : length c.args.places.now ≤ c.loop-index.index = omega arith in
    all_placed (pile (g.S.Stock.list c.args.stock.now)) (patterns_meant c.args.patterns.now) c.args.places.now (bound c.loop-index.binding) c.loop-index.index (omega (arith, length-map c.args.patterns.now pattern_meant)) far c.loop-index.invariant
