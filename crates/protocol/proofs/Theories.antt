-- What every book has: rules with guards, and constants below 1,000,000.
use Rattle.std.proofs.Common.{◌≡◌, ℕ, ◌-◌, Bool, true, false, cond, eqb, List, [], ◌∷◌, map, is_some, None, refl, ap, arith}
use Rattle.std.specs.List.{slice_get, AllByRecursion}
use Rattle.std.specs.Option.{option_map}
use Rattle.semantics.specs.Subject.{Pattern, numbered}
use Rattle.chase.specs.Chase.{Plain, PlainAll, PlainRule}
use Rattle.chase.specs.Theorems.{Guarded}
use Rattle.terms.specs.Meaning.{slot_meant}
use Rattle.terms.specs.declared.pattern_term.PatternTerm.{PatternTerm}
use Rattle.terms.specs.declared.pattern_term.PatternTerm.TheVariants as slot
use Rattle.atoms.specs.Meaning.{pattern_meant}
use Rattle.atoms.specs.declared.atom.Atom.{Atom}
use Rattle.matching.proofs.Rounds.{nth_map}
use Rattle.declarations.specs.Bodies.{patterns_meant}
use Rattle.rules.specs.Meaning.{rule_meant}
use Rattle.rules.specs.declared.rule.Rule.{Rule}
use Rattle.book.specs.Tables.{entries}
use Rattle.book.specs.Theory.{rules_of, constraints_of, queries_of}
use Rattle.book.specs.declared.book.Book.{Book}

-- what holds of every value of f holds of a list of them
every_mapped : {A B : Type 0} (P : B → Type 0) (f : A → B) → ((x : A) → P (f x)) → (xs : List A) → AllByRecursion P (map f xs)
every_mapped P f h [] = tt
every_mapped P f h (x ∷ xs) = (h x, every_mapped P f h xs)

-- an entry by number of a mapped list
pub numbered_map : {A B : Type 0} (f : A → B) (xs : List A) (n : ℕ) → numbered (map f xs) n ≡ option_map f (numbered xs n)
numbered_map f xs n = go (eqb n 0)
  where
    go : (w : Bool) → cond w None (slice_get (map f xs) (n - 1)) ≡ option_map f (cond w None (slice_get xs (n - 1)))
    go true = refl
    go false = nth_map f xs (n - 1)

plain_slot : (t : PatternTerm) → Plain (slot_meant t)
plain_slot (slot.Constant c) = omega arith
plain_slot (slot.Variable v) = tt

plain_pattern : (p : Atom PatternTerm) → AllByRecursion Plain (pattern_meant p).slots
plain_pattern p = every_mapped Plain slot_meant plain_slot p.terms

plain_patterns : (ps : List (Atom PatternTerm)) → PlainAll (patterns_meant ps)
plain_patterns ps = every_mapped (λ (p : Pattern). AllByRecursion Plain p.slots) pattern_meant plain_pattern ps

-- constants are below 1,000,000
pub plain_rules : (b : Book) → AllByRecursion PlainRule (rules_of b)
plain_rules b = every_mapped PlainRule rule_meant (λ (r : Rule). (plain_pattern r.head, plain_patterns r.body)) (entries b.rules)

pub plain_queries : (b : Book) → AllByRecursion PlainAll (queries_of b)
plain_queries b = every_mapped PlainAll patterns_meant plain_patterns (entries b.queries)

pub plain_constraints : (b : Book) → AllByRecursion PlainAll (constraints_of b)
plain_constraints b = every_mapped PlainAll patterns_meant plain_patterns (entries b.constraints)

-- every rule has a guard
pub guarded_rules : (b : Book) → AllByRecursion Guarded (rules_of b)
guarded_rules b = every_mapped Guarded rule_meant (λ (r : Rule). ap is_some r.guarded) (entries b.rules)
