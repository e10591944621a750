use Rattle.std.proofs.Common.{rules, tests, ◌∙◌, suc}
use Rattle.std.proofs.lemmas.Iterator.{YieldsList-from_slice}
use Rattle.std.proofs.lemmas.Iterator.Search.{any_from_yields_List}
use Rattle.semantics.specs.Subject.{in_slots}
use Rattle.atoms.specs.Meaning.{pattern_meant}
use Rattle.matching.proofs.Standing.{any_has}
use Rattle.matching.proofs.find.stands_in.Goals as goal

pub returns : goal.returns
returns c =
    let i = suc c.args.variable.index in
    any_from_yields_List (λ p. in_slots i (pattern_meant p).slots) _ _ c.any.result c.any.ensures.ran (YieldsList-from_slice c.args.patterns.now (search rules)) (λ x b q k. search (rules, tests)) ∙ any_has i c.args.patterns.now
