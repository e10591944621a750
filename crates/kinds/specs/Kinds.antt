-- The kinds of lines: how each is written.
use Rattle.std.specs.Prelude.{ℕ, ◌^◌, ◌<◌, ◌≤◌, cond, ◌&&◌, List, [], ◌∷◌, ◌++◌, length, drop, Some, None, decimal, Option, option_and_then, ◌==◌, nat_le, slice_index}
use Rattle.std.specs.List.{flat_map, AllByRecursion}
use Rattle.std.specs.Option.{option_map}
use Rattle.reading.specs.declared.raw.RawTerm.{RawTerm}
use Rattle.reading.specs.declared.raw.RawTerm.TheVariants as raw
use Rattle.lines.specs.Atoms.{Said, atom_text, GoodAtom}
use Rattle.lines.specs.Sentences.{Spoken, list_text, spoken_of}

-- a rule: body and head, parted by a semicolon
pub record Ruled : Type 0 where
  pub body : List Said
  pub head : Said

abbrev pub rule_text : Ruled → List ℕ
rule_text r = list_text r.body ++ 59 ∷ atom_text r.head

-- one to four atoms
pub record GoodList (body : List Said) : Type 0 where
  pub some : 0 < length body
  pub few : length body ≤ 4
  pub atoms : AllByRecursion GoodAtom body

pub record GoodRule (r : Ruled) : Type 0 where
  pub body : GoodList r.body
  pub head : GoodAtom r.head

-- numbers of at most seven digits, parted by one space
abbrev pub numbers_text : List ℕ → List ℕ
numbers_text [] = []
numbers_text (n ∷ ns) = decimal n ++ flat_map (λ m. 32 ∷ decimal m) ns

-- what the lines of a certificate ask for
pub data Asked : Type 0 where
  open_derivation : ℕ → Asked
  open_model : ℕ → Asked
  step : ℕ → ℕ → Asked
  add : Said → Asked
  lodge : Said → Asked
  claim : List ℕ → Asked
  clash : ℕ → List ℕ → Asked
  refute : Asked
  strike : Asked

abbrev pub asked_text : Asked → List ℕ
asked_text (open_derivation q) = 79 ∷ 32 ∷ numbers_text (q ∷ [])
asked_text (open_model q) = 77 ∷ 32 ∷ numbers_text (q ∷ [])
asked_text (step r p) = 83 ∷ 32 ∷ numbers_text (r ∷ p ∷ [])
asked_text (add a) = 65 ∷ 32 ∷ atom_text a
asked_text (lodge a) = 76 ∷ 32 ∷ atom_text a
asked_text (claim ps) = 67 ∷ 32 ∷ numbers_text ps
asked_text (clash k ps) = 88 ∷ 32 ∷ numbers_text (k ∷ ps)
asked_text refute = 82 ∷ []
asked_text strike = 75 ∷ []

abbrev pub SmallNumber : ℕ → Type 0
SmallNumber n = n < 10 ^ 7

-- one to four places
pub record GoodPlaces (ps : List ℕ) : Type 0 where
  pub some : 0 < length ps
  pub few : length ps ≤ 4
  pub small : AllByRecursion SmallNumber ps

abbrev pub GoodAsked : Asked → Type 0
GoodAsked (open_derivation q) = SmallNumber q
GoodAsked (open_model q) = SmallNumber q
GoodAsked (step r p) = SmallNumber r × SmallNumber p
GoodAsked (add a) = GoodAtom a
GoodAsked (lodge a) = GoodAtom a
GoodAsked (claim ps) = GoodPlaces ps
GoodAsked (clash k ps) = SmallNumber k × GoodPlaces ps
GoodAsked refute = Unit {0}
GoodAsked strike = Unit {0}

-- how each is found in the sentence of the line

abbrev pub only_atom : List Said → Option Said
only_atom [] = None
only_atom (a ∷ []) = Some a
only_atom (a ∷ b ∷ more) = None

abbrev pub by_head : {R : Type 0} → R → (Said → R) → Option Said → R
by_head n f None = n
by_head n f (Some a) = f a

abbrev pub sole_of : Spoken → Option Said
sole_of s = by_head (only_atom s.body) (λ _. None) s.head

-- one to four atoms
abbrev pub few_of : List Said → Option (List Said)
few_of [] = None
few_of (a ∷ []) = Some (a ∷ [])
few_of (a ∷ b ∷ []) = Some (a ∷ b ∷ [])
few_of (a ∷ b ∷ c ∷ []) = Some (a ∷ b ∷ c ∷ [])
few_of (a ∷ b ∷ c ∷ d ∷ []) = Some (a ∷ b ∷ c ∷ d ∷ [])
few_of (a ∷ b ∷ c ∷ d ∷ e ∷ more) = None

abbrev pub plain_of : Spoken → Option (List Said)
plain_of s = by_head (few_of s.body) (λ _. None) s.head

abbrev pub rule_from : Spoken → Option Ruled
rule_from s = by_head None (λ h. option_map (λ l. record { body = l; head = h }) (few_of s.body)) s.head

abbrev pub bare_of : ℕ → Option Asked
bare_of l = cond (l == 82) (Some refute) (cond (l == 75) (Some strike) None)

abbrev pub if_bare : {R : Type 0} → (ℕ → Option R) → RawTerm → Option R
if_bare f (raw.Constant n) = f n
if_bare f (raw.Null n) = None
if_bare f (raw.Variable n) = None

abbrev pub barely : List ℕ → List RawTerm → Option (List ℕ)
barely acc [] = Some acc
barely acc (t ∷ ts) = if_bare (λ n. barely (acc ++ n ∷ []) ts) t

abbrev pub numbers_of : Said → Option (List ℕ)
numbers_of a = barely (a.predicate ∷ []) a.terms

abbrev pub numbered_of : ℕ → List ℕ → Option Asked
numbered_of l ns =
    cond (l == 79) (cond (length ns == 1) (Some (open_derivation (slice_index ns 0))) None)
    (cond (l == 77) (cond (length ns == 1) (Some (open_model (slice_index ns 0))) None)
    (cond (l == 83) (cond (length ns == 2) (Some (step (slice_index ns 0) (slice_index ns 1))) None)
    (cond (l == 67) (cond (nat_le (length ns) 4) (Some (claim ns)) None)
    (cond (l == 88) (cond (nat_le 2 (length ns) && nat_le (length ns) 5) (Some (clash (slice_index ns 0) (drop 1 ns))) None) None))))

-- the reading of each kind

abbrev pub fact_of : List ℕ → Option Said
fact_of line = option_and_then sole_of (spoken_of line)

abbrev pub list_of : List ℕ → Option (List Said)
list_of line = option_and_then plain_of (spoken_of line)

abbrev pub rule_of : List ℕ → Option Ruled
rule_of line = option_and_then rule_from (spoken_of line)

abbrev pub no_terms : ℕ → List RawTerm → Option ℕ
no_terms n [] = Some n
no_terms n (t ∷ ts) = None

abbrev pub arity_of : List ℕ → Option ℕ
arity_of line = option_and_then (λ a. no_terms a.predicate a.terms) (fact_of line)

abbrev pub asked_with : ℕ → Said → Option Asked
asked_with l a = cond (l == 65) (Some (add a)) (cond (l == 76) (Some (lodge a)) (option_and_then (numbered_of l) (numbers_of a)))

abbrev pub asked_of : List ℕ → Option Asked
asked_of [] = None
asked_of (l ∷ []) = bare_of l
asked_of (l ∷ s ∷ rest) = cond (s == 32) (option_and_then (asked_with l) (fact_of rest)) None
