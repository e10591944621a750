-- One to four patterns as a list, and how they come from what a caller writes.
use Rattle.std.specs.Prelude.{◌≡◌, ℕ, ◌≤◌, List, [], ◌∷◌, map, length, take, Some, Ok, Err, Result}
use Rattle.std.specs.List.{slice_get, AllByRecursion}
use Rattle.semantics.specs.Subject as subject
use Rattle.atoms.specs.Meaning.{pattern_meant}
use Rattle.refusals.specs.Refusals.{Is}
use Rattle.reading.specs.Written.{slot_written}
use Rattle.atoms.specs.declared.atom.Atom.{Atom}
use Rattle.reading.specs.declared.raw.RawAtom.{RawAtom}
use Rattle.refusals.specs.declared.refusal.Refusal.{Refusal}
use Rattle.terms.specs.declared.pattern_term.PatternTerm.{PatternTerm}
use Rattle.declarations.specs.Checked.{Taken, AtomRefused}

-- patterns as the subject has them
abbrev pub patterns_meant : List (Atom PatternTerm) → List subject.Pattern
patterns_meant = map pattern_meant

-- R holds between the first ones, the second ones, .., and there are equally many
abbrev pub Pairwise : {A B : Type 0} → (A → B → Type 0) → List A → List B → Type 0
Pairwise R [] [] = Unit {0}
Pairwise R [] (y ∷ ys) = ⊥
Pairwise R (x ∷ xs) [] = ⊥
Pairwise R (x ∷ xs) (y ∷ ys) = R x y × Pairwise R xs ys

abbrev pub OneToFour : ℕ → Type 0
OneToFour n = (1 ≤ n) × (n ≤ 4)

module _ (arities : List ℕ) where
  -- p is the pattern that is written
  abbrev pub TakenAs : RawAtom → Atom PatternTerm → Type 0
  TakenAs = Taken slot_written arities

  -- some pattern is written so
  abbrev pub Fine : RawAtom → Type 0
  Fine raw = (p : Atom PatternTerm) × TakenAs raw p

  -- the first atom of the list that is not fine, refused as the atom of its index
  pub record FirstRefused (raws : List RawAtom) (e : Refusal) : Type 0 where
    pub index : ℕ
    pub atom : RawAtom
    pub there : slice_get raws index ≡ Some atom
    pub before : AllByRecursion Fine (take index raws)
    pub refused : AtomRefused slot_written arities index atom e

  -- why patterns are refused: 7 for none or over four, else the first atom that is refused
  pub data PatternsRefused (raws : List RawAtom) (e : Refusal) : Type 0 where
    wrong_number : (OneToFour (length raws) → ⊥) → Is e 7 (length raws) 0 → PatternsRefused raws e
    refused_atom : OneToFour (length raws) → FirstRefused raws e → PatternsRefused raws e

  -- the patterns that are written, or why they are refused
  abbrev pub PatternsChecked : List RawAtom → Result (List (Atom PatternTerm)) Refusal → Type 0
  PatternsChecked raws (Ok ps) = OneToFour (length raws) × Pairwise TakenAs raws ps
  PatternsChecked raws (Err e) = PatternsRefused raws e
