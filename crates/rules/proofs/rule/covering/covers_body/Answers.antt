use Rattle.std.proofs.Common.{rules, tests, ◌∙◌}
use Rattle.std.proofs.lemmas.Iterator.{YieldsList-from_slice}
use Rattle.std.proofs.lemmas.Iterator.Search.{all_from_yields_List}
use Rattle.semantics.specs.Computed.{covers}
use Rattle.rules.specs.Covering.{slots_meant}
use Rattle.rules.proofs.Scanning.{all_cover}
use Rattle.rules.proofs.rule.covering.covers_body.Goals as goal

pub returns : goal.returns
returns c =
    let q = slots_meant c.args.pattern.now in
    all_from_yields_List (λ p. covers (slots_meant p) q) _ _ c.all.result c.all.ensures.ran (YieldsList-from_slice c.args.body.now (search rules)) (λ x b f k. search (rules, tests)) ∙ all_cover q c.args.body.now
