-- How terms are shown: a constant by its number, null k as nk, variable v1 as v1.
use Rattle.std.specs.Prelude.{ℕ, ◌+◌, List, ◌∷◌, decimal}
use Rattle.terms.specs.declared.term.Term.{Term}
use Rattle.terms.specs.declared.term.Term.TheVariants as ground_term
use Rattle.terms.specs.declared.pattern_term.PatternTerm.{PatternTerm}
use Rattle.terms.specs.declared.pattern_term.PatternTerm.TheVariants as slot

abbrev pub term_shown : Term → List ℕ
term_shown (ground_term.Constant c) = decimal c.number
term_shown (ground_term.Null k) = 110 ∷ decimal k.number

abbrev pub pattern_term_shown : PatternTerm → List ℕ
pattern_term_shown (slot.Constant c) = decimal c.number
pattern_term_shown (slot.Variable v) = 118 ∷ decimal (v.index + 1)
