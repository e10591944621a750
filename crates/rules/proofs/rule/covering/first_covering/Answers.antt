use Rattle.std.proofs.Common.{rules, tests, map, ◌∙◌}
use Rattle.std.proofs.lemmas.Iterator.{YieldsList-from_slice}
use Rattle.std.proofs.lemmas.Iterator.Search.{position_from_yields_List}
use Rattle.semantics.specs.Computed.{covers_all}
use Rattle.atoms.specs.Meaning.{pattern_meant}
use Rattle.rules.specs.Covering.{slots_meant}
use Rattle.rules.proofs.Scanning.{first_covers}
use Rattle.rules.proofs.rule.covering.first_covering.Goals as goal

pub returns : goal.returns
returns c =
    let body = map pattern_meant c.args.body.now in
    position_from_yields_List (λ p. covers_all body (slots_meant p)) _ _ c.position.result c.position.ensures.ran (YieldsList-from_slice c.args.body.now (search rules)) (λ x b f k. search (rules, tests)) ∙ first_covers body c.args.body.now
