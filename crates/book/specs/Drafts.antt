-- What each call answers, and what the draft then is. A call that is refused leaves the draft as it was.
use Rattle.std.specs.Prelude.{◌≡◌, ℕ, List, [], Ok, Err, Result}
use Rattle.refusals.specs.Refusals.{Is}
use Rattle.reading.specs.declared.raw.RawAtom.{RawAtom}
use Rattle.refusals.specs.declared.refusal.Refusal.{Refusal}
use Rattle.declarations.specs.Arities.{arities_of, Added, NotDeclared}
use Rattle.declarations.specs.Bodies.{PatternsChecked, PatternsRefused}
use Rattle.rules.specs.Rules.{RuleChecked, RuleRefused}
use Rattle.book.specs.Tables.{entries, Full}
use Rattle.declarations.specs.declared.declarations.Declarations.{Declarations}
use Rattle.book.specs.declared.draft.Draft.{Draft}
use Rattle.atoms.specs.declared.atom.Atom.{Atom}
use Rattle.terms.specs.declared.pattern_term.PatternTerm.{PatternTerm}
use Rattle.rules.specs.declared.rule.Rule.{Rule}
use Rattle.book.specs.declared.table.Table.{Table}

-- nothing is written down
pub record Empty (d : Draft) : Type 0 where
  pub declarations : arities_of d.book.declarations ≡ []
  pub rules : entries d.book.rules ≡ []
  pub constraints : entries d.book.constraints ≡ []
  pub queries : entries d.book.queries ≡ []

-- the draft with one part put in place of its own
abbrev pub with_declarations : Draft → Declarations → Draft
with_declarations d t = record { book = record { declarations = t; rules = d.book.rules; constraints = d.book.constraints; queries = d.book.queries } }

abbrev pub with_rules : Draft → Table Rule 64 → Draft
with_rules d t = record { book = record { declarations = d.book.declarations; rules = t; constraints = d.book.constraints; queries = d.book.queries } }

abbrev pub with_constraints : Draft → Table (List (Atom PatternTerm)) 32 → Draft
with_constraints d t = record { book = record { declarations = d.book.declarations; rules = d.book.rules; constraints = t; queries = d.book.queries } }

abbrev pub with_queries : Draft → Table (List (Atom PatternTerm)) 16 → Draft
with_queries d t = record { book = record { declarations = d.book.declarations; rules = d.book.rules; constraints = d.book.constraints; queries = t } }

-- why an entry is refused: 8 where its table is full, else by its own check
pub data EntryRefused (full : Type 0) (checked : Refusal → Type 0) (e : Refusal) : Type 0 where
  table_full : full → Is e 8 0 0 → EntryRefused full checked e
  not_taken : (full → ⊥) → checked e → EntryRefused full checked e

-- what is to be written down, where its table has room for it; or why it is refused
abbrev pub Judged : {X : Type 0} → Type 0 → (Result X Refusal → Type 0) → Result X Refusal → Type 0
Judged full checked (Ok x) = (full → ⊥) × checked (Ok x)
Judged full checked (Err e) = EntryRefused full (λ y. checked (Err y)) e

-- the new predicate comes last; all else stays
abbrev pub DeclareDone : Draft → ℕ → Result ℕ Refusal → Draft → Type 0
DeclareDone d arity (Ok n) after = Added (arities_of d.book.declarations) arity n (arities_of after.book.declarations) × (after ≡ with_declarations d after.book.declarations)
DeclareDone d arity (Err e) after = NotDeclared (arities_of d.book.declarations) arity e × (after ≡ d)

-- the rule that is written comes last; all else stays
abbrev pub RuleDone : Draft → List RawAtom → RawAtom → Result ℕ Refusal → Draft → Type 0
RuleDone d body head (Ok n) after = (r : Rule) × RuleChecked (arities_of d.book.declarations) body head (Ok r) × Added (entries d.book.rules) r n (entries after.book.rules) × (after ≡ with_rules d after.book.rules)
RuleDone d body head (Err e) after = EntryRefused (Full 64 d.book.rules) (RuleRefused (arities_of d.book.declarations) body head) e × (after ≡ d)

-- the patterns that are written come last among the constraints; all else stays
abbrev pub ConstraintDone : Draft → List RawAtom → Result ℕ Refusal → Draft → Type 0
ConstraintDone d raws (Ok n) after = (ps : List (Atom PatternTerm)) × PatternsChecked (arities_of d.book.declarations) raws (Ok ps) × Added (entries d.book.constraints) ps n (entries after.book.constraints) × (after ≡ with_constraints d after.book.constraints)
ConstraintDone d raws (Err e) after = EntryRefused (Full 32 d.book.constraints) (PatternsRefused (arities_of d.book.declarations) raws) e × (after ≡ d)

-- the patterns that are written come last among the queries; all else stays
abbrev pub QueryDone : Draft → List RawAtom → Result ℕ Refusal → Draft → Type 0
QueryDone d raws (Ok n) after = (ps : List (Atom PatternTerm)) × PatternsChecked (arities_of d.book.declarations) raws (Ok ps) × Added (entries d.book.queries) ps n (entries after.book.queries) × (after ≡ with_queries d after.book.queries)
QueryDone d raws (Err e) after = EntryRefused (Full 16 d.book.queries) (PatternsRefused (arities_of d.book.declarations) raws) e × (after ≡ d)
