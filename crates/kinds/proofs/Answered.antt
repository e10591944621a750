-- What is read as its meaning is read, and is whole, reads the line.
use Rattle.std.proofs.Common.{◌≡◌, ℕ, List, IfOk, decimal, Result}
use Rattle.std.specs.Option.{option_map}
use Rattle.words.specs.declared.error.ReadError.{ReadError}
use Rattle.words.specs.Reads.{Reads, IfRead}
use Rattle.words.proofs.Inverse.{answers, answers_fit}
use Rattle.reading.specs.declared.raw.RawAtom.{RawAtom}
use Rattle.lines.specs.Atoms.{told, atom_text, GoodAtom}
use Rattle.lines.specs.Sentences.{list_text}
use Rattle.kinds.specs.declared.request.RuleLine.{RuleLine}
use Rattle.kinds.specs.declared.request.Request.{Request}
use Rattle.kinds.specs.Kinds.{rule_text, GoodList, GoodRule, asked_text, GoodAsked, SmallNumber, fact_of, arity_of, list_of, rule_of, asked_of}
use Rattle.kinds.specs.Lines.{Whole, fact_text, GoodFact, spelled, WholeList, atoms_text, GoodAtoms, ruled, WholeRule, rule_line_text, GoodRuleLine, asked, WholeRequest, request_text, GoodRequest}
use Rattle.kinds.proofs.Doors.{fact_inverse, arity_inverse, list_inverse, rule_inverse, call_inverse}

pub fact_answered : (line : List ℕ) (r : Result RawAtom ReadError) → IfRead r (λ o. option_map told o ≡ fact_of line) → IfOk r Whole → IfRead r (λ o. Reads GoodFact fact_text line o)
fact_answered = answers_fit GoodAtom atom_text fact_of fact_inverse told Whole

pub arity_answered : (line : List ℕ) (r : Result ℕ ReadError) → IfRead r (λ o. o ≡ arity_of line) → IfRead r (λ o. Reads SmallNumber decimal line o)
arity_answered = answers SmallNumber decimal arity_of arity_inverse (λ o. o)

pub list_answered : (line : List ℕ) (r : Result (List RawAtom) ReadError) → IfRead r (λ o. option_map spelled o ≡ list_of line) → IfOk r WholeList → IfRead r (λ o. Reads GoodAtoms atoms_text line o)
list_answered = answers_fit GoodList list_text list_of list_inverse spelled WholeList

pub rule_answered : (line : List ℕ) (r : Result RuleLine ReadError) → IfRead r (λ o. option_map ruled o ≡ rule_of line) → IfOk r WholeRule → IfRead r (λ o. Reads GoodRuleLine rule_line_text line o)
rule_answered = answers_fit GoodRule rule_text rule_of rule_inverse ruled WholeRule

pub request_answered : (line : List ℕ) (r : Result Request ReadError) → IfRead r (λ o. option_map asked o ≡ asked_of line) → IfOk r WholeRequest → IfRead r (λ o. Reads GoodRequest request_text line o)
request_answered = answers_fit GoodAsked asked_text asked_of call_inverse asked WholeRequest
