-- Terms that mean the same are the same.
use Rattle.std.proofs.Common.{◌≡◌, ap, arith}
use Rattle.terms.specs.Meaning.{term_meant}
use Rattle.terms.specs.declared.term.Term.{Term}
use Rattle.terms.specs.declared.term.Term.TheVariants.{Constant, Null}
use Rattle.terms.specs.Same.{same_constant, same_null}

pub same_meant : (t u : Term) → term_meant t ≡ term_meant u → t ≡ u
same_meant (Constant c) (Constant d) e = ap Constant (same_constant c d e)
same_meant (Constant c) (Null k) e = absurd (omega (arith, c.high))
same_meant (Null k) (Constant d) e = absurd (omega (arith, d.high))
same_meant (Null k) (Null j) e = ap Null (same_null k j (omega arith))
