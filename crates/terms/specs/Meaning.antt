-- What the code's terms mean to the subject.
use Rattle.std.specs.Prelude.{ℕ, suc, ◌+◌}
use Rattle.semantics.specs.Subject as subject
use Rattle.terms.specs.declared.constant.Constant.{Constant}
use Rattle.terms.specs.declared.term.Term.{Term}
use Rattle.terms.specs.declared.term.Term.TheVariants as ground_term
use Rattle.terms.specs.declared.pattern_term.PatternTerm.{PatternTerm}
use Rattle.terms.specs.declared.pattern_term.PatternTerm.TheVariants as slot

-- a constant is its own number, and null k is 1,000,000 + k
abbrev pub term_meant : Term → ℕ
term_meant (ground_term.Constant c) = c.number
term_meant (ground_term.Null k) = 1000000 + k.number

abbrev pub constant_meant : Constant → ℕ
constant_meant c = c.number

-- a variable is its number, from 1
abbrev pub slot_meant : PatternTerm → subject.Slot
slot_meant (slot.Constant c) = subject.con c.number
slot_meant (slot.Variable v) = subject.var (suc v.index)
