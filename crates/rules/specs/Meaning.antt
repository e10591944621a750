-- What a rule of the code means to the subject.
use Rattle.semantics.specs.Subject as subject
use Rattle.atoms.specs.Meaning.{pattern_meant}
use Rattle.declarations.specs.Bodies.{patterns_meant}
use Rattle.rules.specs.declared.rule.Rule.{Rule}

abbrev pub rule_meant : Rule → subject.Rule
rule_meant r = record { body = patterns_meant r.body; head = pattern_meant r.head }
