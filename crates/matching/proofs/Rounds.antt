-- The search, atom by atom.
use Rattle.std.proofs.Common.{◌≡◌, ℕ, zero, suc, ◌+◌, ◌-◌, ◌<◌, ◌≤◌, true, false, ◌⊎◌, List, [], ◌∷◌, map, length, get_or, take, drop, is_some, Some, None, Option, sym, refl, ap, ◌∙◌, ⊎_elim, add-one, arith}
use Rattle.std.specs.List.{slice_get}
use Rattle.std.specs.Option.{option_map, option_or}
use Rattle.std.proofs.lemmas.List.{take_all}
use Rattle.std.proofs.lemmas.Bool.{both_ways}
use Rattle.semantics.specs.Subject.{Atom, Binding, Pattern}
use Rattle.semantics.specs.Computed.{fit, and_then, first_given, first_match, reaches}
use Rattle.semantics.proofs.Fitting.{some_is, none_some}
use Rattle.semantics.proofs.Searching.{none_first, once_enough}

-- what the first pattern gives at the atoms of rest
abbrev pub tried : List Atom → Binding → Pattern → List Pattern → List Atom → Option Binding
tried whole b p ps rest = first_given (λ a. and_then (fit b p a) (λ c. first_match whole c ps)) rest

module _ {A B : Type 0} (f : A → Option B) where
  turn_suc : (xs : List A) (k : ℕ) (x : A) → slice_get xs k ≡ Some x → first_given f (drop k xs) ≡ option_or (f x) (first_given f (drop (suc k) xs))
  turn_suc [] k x e = absurd (none_some e)
  turn_suc (y ∷ ys) zero x e = ap (λ z. option_or (f z) (first_given f ys)) (some_is e)
  turn_suc (y ∷ ys) (suc k) x e = turn_suc ys k x e

  past_suc : (xs : List A) (k : ℕ) → slice_get xs k ≡ None → first_given f (drop (suc k) xs) ≡ first_given f (drop k xs)
  past_suc [] zero e = refl
  past_suc [] (suc k) e = refl
  past_suc (y ∷ ys) zero e = absurd (none_some (sym e))
  past_suc (y ∷ ys) (suc k) e = past_suc ys k e

  turn : (xs : List A) (k : ℕ) (x : A) → slice_get xs k ≡ Some x → first_given f (drop k xs) ≡ option_or (f x) (first_given f (drop (k + 1) xs))
  turn xs k x e = rw add-one (turn_suc xs k x e)

  pub past : (xs : List A) (k : ℕ) → slice_get xs k ≡ None → first_given f (drop (k + 1) xs) ≡ first_given f (drop k xs)
  past xs k e = rw add-one (past_suc xs k e)

  pub over : (xs : List A) (k : ℕ) → length xs ≤ k → first_given f (drop k xs) ≡ None
  over [] zero h = refl
  over [] (suc k) h = refl
  over (y ∷ ys) zero h = absurd (omega arith)
  over (y ∷ ys) (suc k) h = over ys k (omega arith)

pub nth_map : {A B : Type 0} (f : A → B) (xs : List A) (k : ℕ) → slice_get (map f xs) k ≡ option_map f (slice_get xs k)
nth_map f [] zero = refl
nth_map f [] (suc k) = refl
nth_map f (x ∷ xs) zero = refl
nth_map f (x ∷ xs) (suc k) = nth_map f xs k

-- a slice's first element and the others
pub split : {A : Type 0} (xs : List A) (x : A) → 0 < length xs → x ≡ get_or xs 0 x → xs ≡ x ∷ take (length xs - 1) (drop 1 xs)
split [] x h e = absurd (omega arith)
split (y ∷ ys) x h e = λ i. sym e i ∷ sym (take_all (length (y ∷ ys) - 1) ys (omega arith)) i

-- the atom at place k, which the first pattern fits
module _ (whole : List Atom) (b : Binding) (p : Pattern) (ps : List Pattern) (k : ℕ) (x : Atom) (there : slice_get whole k ≡ Some x) (c : Binding) (fits : Some c ≡ fit b p x) (r : Option Binding) (is : r ≡ first_match whole c ps) where
  here : and_then (fit b p x) (λ d. first_match whole d ps) ≡ r
  here = ap (λ o. and_then o (λ d. first_match whole d ps)) (sym fits) ∙ sym is

  one : tried whole b p ps (drop k whole) ≡ option_or r (tried whole b p ps (drop (k + 1) whole))
  one = turn (λ a. and_then (fit b p a) (λ d. first_match whole d ps)) whole k x there ∙ ap (λ o. option_or o (tried whole b p ps (drop (k + 1) whole))) here

  pub goes_on : is_some r ≡ false → tried whole b p ps (drop (k + 1) whole) ≡ tried whole b p ps (drop k whole)
  goes_on n = sym (one ∙ other r n)
    where
      other : (o : Option Binding) → is_some o ≡ false → option_or o (tried whole b p ps (drop (k + 1) whole)) ≡ tried whole b p ps (drop (k + 1) whole)
      other None q = refl
      other (Some y) q = absurd (both_ways true q refl)

  pub ends : (is_some r ≡ true) ⊎ (reaches b p.slots ps ≡ false) → r ≡ tried whole b p ps (drop k whole)
  ends why = sym (one ∙ go r refl)
    where
      later : r ≡ None → reaches b p.slots ps ≡ false → tried whole b p ps (drop (k + 1) whole) ≡ None
      later e once = none_first (λ a. and_then (fit b p a) (λ d. first_match whole d ps)) (drop (k + 1) whole) (once_enough whole b p ps once x c (sym fits) (sym is ∙ e))

      go : (o : Option Binding) → r ≡ o → option_or o (tried whole b p ps (drop (k + 1) whole)) ≡ o
      go (Some y) e = refl
      go None e = ⊎_elim (λ s. absurd (both_ways false refl (sym (ap is_some e) ∙ s))) (later e) why

pub none_long : {A : Type 0} (xs : List A) → length xs < 1 → xs ≡ []
none_long [] h = refl
none_long (x ∷ xs) h = absurd (omega arith)

pub mapped_some : {A B : Type 0} (f : A → B) (o : Option A) → is_some (option_map f o) ≡ is_some o
mapped_some f None = refl
mapped_some f (Some x) = refl

-- the atom at place k, which the first pattern does not fit
pub no_fit : (whole : List Atom) (b : Binding) (p : Pattern) (ps : List Pattern) (k : ℕ) (x : Atom) → slice_get whole k ≡ Some x → None ≡ fit b p x → tried whole b p ps (drop (k + 1) whole) ≡ tried whole b p ps (drop k whole)
no_fit whole b p ps k x there e =
    sym (turn (λ a. and_then (fit b p a) (λ d. first_match whole d ps)) whole k x there ∙ ap (λ o. option_or (and_then o (λ d. first_match whole d ps)) (tried whole b p ps (drop (k + 1) whole))) (sym e))
