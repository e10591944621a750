-- An atom as it is written.
use Rattle.std.specs.Prelude.{ℕ, ◌^◌, ◌<◌, ◌≤◌, cond, List, [], ◌∷◌, ◌++◌, length, Some, None, decimal, Option, nat_lt}
use Rattle.std.specs.List.{flat_map, AllByRecursion}
use Rattle.reading.specs.declared.raw.RawAtom.{RawAtom}
use Rattle.reading.specs.declared.raw.RawTerm.{RawTerm}
use Rattle.reading.specs.declared.raw.RawTerm.TheVariants as raw
use Rattle.words.specs.Words.{term_text, number_of}

-- a predicate number and terms
pub record Said : Type 0 where
  pub predicate : ℕ
  pub terms : List RawTerm

-- what a caller's atom says, where it has at most four terms
abbrev pub told : RawAtom → Said
told a = record { predicate = a.predicate; terms = a.terms.first }

-- words are parted by one space
abbrev pub atom_text : Said → List ℕ
atom_text a = decimal a.predicate ++ flat_map (λ t. 32 ∷ term_text t) a.terms

abbrev pub SmallTerm : RawTerm → Type 0
SmallTerm t = number_of t < 10 ^ 7

-- numbers of at most seven digits, at most four terms
pub record GoodAtom (a : Said) : Type 0 where
  pub predicate : a.predicate < 10 ^ 7
  pub terms : AllByRecursion SmallTerm a.terms
  pub few : length a.terms ≤ 4

-- how an atom grows by a word

abbrev pub begins : ℕ → Said
begins p = record { predicate = p; terms = [] }

abbrev pub grown : Said → RawTerm → Said
grown a t = record { predicate = a.predicate; terms = a.terms ++ t ∷ [] }

abbrev pub extends : Said → RawTerm → Option Said
extends a t = cond (nat_lt (length a.terms) 4) (Some (grown a t)) None

-- an atom begins with a bare number
abbrev pub opens : RawTerm → Option Said
opens (raw.Constant n) = Some (begins n)
opens (raw.Null n) = None
opens (raw.Variable n) = None

abbrev pub takes : Option Said → RawTerm → Option Said
takes None t = opens t
takes (Some a) t = extends a t
