use Rattle.std.proofs.Common.{rules, tests, ◌∙◌, [], ◌∷◌}
use Rattle.std.proofs.lemmas.Iterator.{YieldsList-from_slice}
use Rattle.std.proofs.lemmas.Iterator.Search.{any_from_yields_List}
use Rattle.semantics.specs.Computed.{reaches}
use Rattle.terms.specs.Meaning.{slot_meant}
use Rattle.fitting.specs.Bindings.{bound}
use Rattle.matching.specs.Searches.{patterns_meant}
use Rattle.matching.proofs.Standing.{any_reaches}
use Rattle.matching.proofs.find.slots_reach.Goals as goal

pub returns : goal.returns
returns c =
    let b = bound c.args.binding in
    let ps = patterns_meant c.args.later.now in
    any_from_yields_List (λ s. reaches b (slot_meant s ∷ []) ps) _ _ c.any.result c.any.ensures.ran (YieldsList-from_slice c.args.slots.now (search rules)) (λ x r q k. search (rules, tests)) ∙ any_reaches b ps c.args.slots.now
