-- Rules and their guards.
use Rattle.std.specs.Prelude.{◌≡◌, ℕ, List, [], ◌∷◌, ◌++◌, length, Some, None, Ok, Err, Option, Result}
use Rattle.semantics.specs.Subject.{Guards}
use Rattle.refusals.specs.Refusals.{Is}
use Rattle.atoms.specs.declared.atom.Atom.{Atom}
use Rattle.reading.specs.declared.raw.RawAtom.{RawAtom}
use Rattle.refusals.specs.declared.refusal.Refusal.{Refusal}
use Rattle.terms.specs.declared.pattern_term.PatternTerm.{PatternTerm}
use Rattle.declarations.specs.Bodies.{patterns_meant, Pairwise, OneToFour, TakenAs, FirstRefused}
use Rattle.semantics.specs.Computed.{guard}
use Rattle.rules.specs.declared.rule.Rule.{Rule}

-- the body has no guard
abbrev pub Unguarded : List (Atom PatternTerm) → Type 0
Unguarded body = (k : ℕ) → Guards (patterns_meant body) k → ⊥

-- the guard's index, as computed and as the subject has it; or nothing where there is none
abbrev pub FindsGuard : List (Atom PatternTerm) → Option ℕ → Type 0
FindsGuard body (Some k) = (guard (patterns_meant body) ≡ Some k) × Guards (patterns_meant body) k
FindsGuard body None = Unguarded body

-- the rule of this body and head, with the guard's index; or nothing where the body has no guard
abbrev pub MakesRule : List (Atom PatternTerm) → Atom PatternTerm → Option Rule → Type 0
MakesRule body head (Some r) = (r.body ≡ body) × (r.head ≡ head) × Guards (patterns_meant body) r.guard
MakesRule body head None = Unguarded body

module _ (arities : List ℕ) (body : List RawAtom) (head : RawAtom) where
  -- b and h are what is written
  abbrev pub Written : List (Atom PatternTerm) → Atom PatternTerm → Type 0
  Written b h = Pairwise (TakenAs arities) body b × TakenAs arities head h

  -- why a rule is refused: 7 for no body pattern or over four, else the first atom that is refused, the head being the
  -- last, else 6 where the body has no guard
  pub data RuleRefused (e : Refusal) : Type 0 where
    wrong_number : (OneToFour (length body) → ⊥) → Is e 7 (length body) 0 → RuleRefused e
    refused_atom : OneToFour (length body) → FirstRefused arities (body ++ head ∷ []) e → RuleRefused e
    unguarded : OneToFour (length body) → (b : List (Atom PatternTerm)) (h : Atom PatternTerm) → Written b h → Unguarded b → Is e 6 0 0 → RuleRefused e

  -- the rule that is written, or why it is refused
  abbrev pub RuleChecked : Result Rule Refusal → Type 0
  RuleChecked (Ok r) = OneToFour (length body) × Written r.body r.head
  RuleChecked (Err e) = RuleRefused e
