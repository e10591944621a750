-- What is read from a line, and how it is written.
use Rattle.std.specs.Prelude.{ℕ, ◌≤◌, List, map}
use Rattle.std.specs.List.{AllByRecursion}
use Rattle.reading.specs.declared.raw.RawAtom.{RawAtom}
use Rattle.calls.specs.Named.{named}
use Rattle.lines.specs.Atoms.{Said, told, atom_text, GoodAtom}
use Rattle.lines.specs.Sentences.{list_text}
use Rattle.kinds.specs.Kinds.{Ruled, rule_text, GoodList, GoodRule, Asked, open_derivation, open_model, step, add, lodge, claim, clash, refute, strike, asked_text, GoodAsked}
use Rattle.kinds.specs.declared.request.RuleLine.{RuleLine}
use Rattle.kinds.specs.declared.request.Request.{Request}
use Rattle.kinds.specs.declared.request.Request.TheVariants.{OpenDerivation, OpenModel, Step, Add, Lodge, Claim, Clash, Refute, Strike}

-- an atom with all its terms kept
abbrev pub Whole : RawAtom → Type 0
Whole a = a.terms.count ≤ 4

-- facts

abbrev pub fact_text : RawAtom → List ℕ
fact_text a = atom_text (told a)

abbrev pub GoodFact : RawAtom → Type 0
GoodFact a = GoodAtom (told a) × Whole a

-- lists of atoms

abbrev pub spelled : List RawAtom → List Said
spelled l = map told l

abbrev pub WholeList : List RawAtom → Type 0
WholeList l = AllByRecursion Whole l

abbrev pub atoms_text : List RawAtom → List ℕ
atoms_text l = list_text (spelled l)

abbrev pub GoodAtoms : List RawAtom → Type 0
GoodAtoms l = GoodList (spelled l) × WholeList l

-- rules

abbrev pub ruled : RuleLine → Ruled
ruled r = record { body = spelled r.body; head = told r.head }

abbrev pub WholeRule : RuleLine → Type 0
WholeRule r = WholeList r.body × Whole r.head

abbrev pub rule_line_text : RuleLine → List ℕ
rule_line_text r = rule_text (ruled r)

abbrev pub GoodRuleLine : RuleLine → Type 0
GoodRuleLine r = GoodRule (ruled r) × WholeRule r

-- requests

abbrev pub asked : Request → Asked
asked (OpenDerivation q) = open_derivation q
asked (OpenModel q) = open_model q
asked (Step r p) = step r p
asked (Add a) = add (told a)
asked (Lodge a) = lodge (told a)
asked (Claim ps) = claim (named ps)
asked (Clash k ps) = clash k (named ps)
asked Refute = refute
asked Strike = strike

-- with all its terms or places kept
abbrev pub WholeRequest : Request → Type 0
WholeRequest (OpenDerivation q) = Unit {0}
WholeRequest (OpenModel q) = Unit {0}
WholeRequest (Step r p) = Unit {0}
WholeRequest (Add a) = Whole a
WholeRequest (Lodge a) = Whole a
WholeRequest (Claim ps) = ps.count ≤ 4
WholeRequest (Clash k ps) = ps.count ≤ 4
WholeRequest Refute = Unit {0}
WholeRequest Strike = Unit {0}

abbrev pub request_text : Request → List ℕ
request_text r = asked_text (asked r)

abbrev pub GoodRequest : Request → Type 0
GoodRequest r = GoodAsked (asked r) × WholeRequest r
