use Rattle.std.proofs.Common.{map, ap, ◌∙◌}
use Rattle.semantics.specs.Computed.{guard}
use Rattle.atoms.specs.Meaning.{pattern_meant}
use Rattle.rules.proofs.Scanning.{finds_guard}
use Rattle.rules.proofs.rule.covering.find_guard.Goals as goal

pub returns : goal.returns
returns c = finds_guard c.args.body.now c.first_covering.result (c.first_covering.ensures ∙ ap (λ ps. guard (map pattern_meant ps)) c.as_slice.ensures.value)
