-- How terms are written, and what reads them back.
use Rattle.std.specs.Prelude.{◌≡◌, ℕ, ◌+◌, List, map, take, Some, None, Ok, Err, Option, Result, ◌≢◌}
use Rattle.std.specs.List.{slice_get, AllByRecursion}
use Rattle.terms.specs.declared.constant.Constant.{Constant}
use Rattle.terms.specs.declared.term.Term.{Term}
use Rattle.terms.specs.declared.term.Term.TheVariants as ground_term
use Rattle.terms.specs.declared.pattern_term.PatternTerm.{PatternTerm}
use Rattle.terms.specs.declared.pattern_term.PatternTerm.TheVariants as slot
use Rattle.reading.specs.declared.raw.RawTerm.{RawTerm}
use Rattle.reading.specs.declared.raw.RawTerm.TheVariants as raw

-- a constant by its number, null k by k, variable v1 by 1
abbrev pub constant_written : Constant → RawTerm
constant_written c = raw.Constant c.number

abbrev pub term_written : Term → RawTerm
term_written (ground_term.Constant c) = raw.Constant c.number
term_written (ground_term.Null k) = raw.Null k.number

abbrev pub slot_written : PatternTerm → RawTerm
slot_written (slot.Constant c) = raw.Constant c.number
slot_written (slot.Variable v) = raw.Variable (v.index + 1)

module _ {T : Type 0} (written : T → RawTerm) where
  -- no value of the sort is written so: the number is out of range, or the sort is not allowed there
  abbrev pub Unreadable : RawTerm → Type 0
  Unreadable w = (t : T) → written t ≢ w

  -- the value that is written so, or nothing where none is
  abbrev pub Reads : RawTerm → Option T → Type 0
  Reads w (Some t) = written t ≡ w
  Reads w None = Unreadable w

  -- the same, with the index at which it stands where none is
  abbrev pub ReadsAt : RawTerm → ℕ → Result T ℕ → Type 0
  ReadsAt w i (Ok t) = written t ≡ w
  ReadsAt w i (Err j) = (j ≡ i) × Unreadable w

  abbrev pub Readable : RawTerm → Type 0
  Readable w = (t : T) × (written t ≡ w)

  -- the values that are written so, or the lowest index at which none is
  abbrev pub ReadsAll : List RawTerm → Result (List T) ℕ → Type 0
  ReadsAll ws (Ok row) = map written row ≡ ws
  ReadsAll ws (Err i) = ((w : RawTerm) × (slice_get ws i ≡ Some w) × Unreadable w) × AllByRecursion Readable (take i ws)
