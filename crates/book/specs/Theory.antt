-- What a book means to the subject: its arities, rules, constraints and queries, as lists.
use Rattle.std.specs.Prelude.{ℕ, List, map}
use Rattle.semantics.specs.Subject.{Pattern, Rule}
use Rattle.declarations.specs.Arities.{arities_of}
use Rattle.declarations.specs.Bodies.{patterns_meant}
use Rattle.rules.specs.Meaning.{rule_meant}
use Rattle.book.specs.Tables.{entries}
use Rattle.book.specs.declared.book.Book.{Book}

abbrev pub predicates_of : Book → List ℕ
predicates_of b = arities_of b.declarations

abbrev pub rules_of : Book → List Rule
rules_of b = map rule_meant (entries b.rules)

abbrev pub constraints_of : Book → List (List Pattern)
constraints_of b = map patterns_meant (entries b.constraints)

abbrev pub queries_of : Book → List (List Pattern)
queries_of b = map patterns_meant (entries b.queries)
