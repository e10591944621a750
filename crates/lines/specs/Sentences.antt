-- Atoms parted by commas, and after a semicolon perhaps one more.
use Rattle.std.specs.Prelude.{ℕ, ◌<◌, List, [], ◌∷◌, ◌++◌, length, Some, None, vec_items, Option, option_and_then}
use Rattle.std.specs.List.{flat_map, AllByRecursion}
use Rattle.words.specs.declared.word.Mark.{Mark}
use Rattle.words.specs.declared.word.Mark.TheVariants.{Space, Comma, Semicolon, End}
use Rattle.words.specs.declared.word.Token.{Token}
use Rattle.words.specs.Words.{tokens_of}
use Rattle.lines.specs.declared.part.Part.{Part}
use Rattle.lines.specs.declared.part.Part.TheVariants.{Body, Head}
use Rattle.lines.specs.declared.sentence.Sentence.{Sentence}
use Rattle.lines.specs.Atoms.{Said, atom_text, GoodAtom, takes}

-- the atoms before a semicolon, and the one after it
pub record Spoken : Type 0 where
  pub body : List Said
  pub head : Option Said

abbrev pub sentence : Sentence → Spoken
sentence s = record { body = vec_items s.body; head = s.head }

-- atoms are parted by one comma
abbrev pub list_text : List Said → List ℕ
list_text [] = []
list_text (a ∷ more) = atom_text a ++ flat_map (λ b. 44 ∷ atom_text b) more

abbrev pub head_text : Option Said → List ℕ
head_text None = []
head_text (Some a) = 59 ∷ atom_text a

abbrev pub spoken_text : Spoken → List ℕ
spoken_text s = list_text s.body ++ head_text s.head

abbrev pub GoodHead : Option Said → Type 0
GoodHead None = Unit {0}
GoodHead (Some a) = GoodAtom a

pub record GoodSpoken (s : Spoken) : Type 0 where
  pub some : 0 < length s.body
  pub body : AllByRecursion GoodAtom s.body
  pub head : GoodHead s.head

-- how it is gathered from words

abbrev pub by_mark : {R : Type 0} → R → R → R → R → Mark → R
by_mark s c h e Space = s
by_mark s c h e Comma = c
by_mark s c h e Semicolon = h
by_mark s c h e End = e

-- the sentence that the last atom ends
abbrev pub closed : List Said → Part → Said → Spoken
closed body Body a = record { body = body ++ a ∷ []; head = None }
closed body Head a = record { body = body; head = Some a }

abbrev pub whole : List Said → Part → Said → List Token → Option Spoken
whole body part a [] = Some (closed body part a)
whole body part a (t ∷ ts) = None

-- a comma or a semicolon stands only before the head
abbrev pub in_body : {R : Type 0} → Part → Option R → Option R
in_body Body o = o
in_body Head o = None

-- body: the atoms so far; part: the one that the next atom stands in; begun: the atom that is begun
abbrev pub gathers : List Said → Part → Option Said → List Token → Option Spoken
gathers body part begun [] = None
gathers body part begun (t ∷ ts) =
    option_and_then (λ a.
    by_mark
    (gathers body part (Some a) ts)
    (in_body part (gathers (body ++ a ∷ []) Body None ts))
    (in_body part (gathers (body ++ a ∷ []) Head None ts))
    (whole body part a ts)
    t.mark)
    (takes begun t.term)

abbrev pub gathered : List Token → Option Spoken
gathered ts = gathers [] Body None ts

-- the sentence of a line
abbrev pub spoken_of : List ℕ → Option Spoken
spoken_of line = option_and_then gathered (tokens_of line)
