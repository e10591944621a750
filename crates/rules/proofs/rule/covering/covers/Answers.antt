use Rattle.std.proofs.Common.{rules, tests, ◌∙◌}
use Rattle.std.proofs.lemmas.Iterator.{YieldsList-from_slice}
use Rattle.std.proofs.lemmas.Iterator.Search.{all_from_yields_List}
use Rattle.terms.specs.Meaning.{slot_meant}
use Rattle.rules.specs.Covering.{slot_covered, slots_meant}
use Rattle.rules.proofs.Scanning.{all_covered}
use Rattle.rules.proofs.rule.covering.covers.Goals as goal

pub returns : goal.returns
returns c =
    let q = slots_meant c.args.pattern.now in
    all_from_yields_List (λ t. slot_covered (slot_meant t) q) _ _ c.all.result c.all.ensures.ran (YieldsList-from_slice c.args.other.now.terms (search rules)) (λ x b f k. search (rules, tests)) ∙ all_covered q c.args.other.now.terms
