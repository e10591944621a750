-- The search through a pile, as a test.
use Rattle.std.proofs.Common.{◌≡◌, true, false, List, is_some, Some, None, Option, refl}
use mathlib.Core.Bool.{Bool-set}
use mathlib.Core.Logic.{∥∥₁_elim}
use Rattle.std.specs.List.{AllByRecursion}
use Rattle.std.proofs.lemmas.Bool.{both_ways}
use Rattle.semantics.specs.Subject.{Pattern, Atom, Binding, Holds, On, Extends, in_patterns}
use Rattle.semantics.specs.Computed.{nothing, first_match as seek}
use Rattle.semantics.proofs.Fitting.{none_some, Grown}
use Rattle.semantics.proofs.Searching.{search_sound, search_complete}
use Rattle.chase.specs.Chase.{found}
use Rattle.chase.specs.Theorems.{SearchExact}

pub record Found (pile : List Atom) (b : Binding) (ps : List Pattern) : Type 0 where
  pub to : Binding
  pub grown : Grown b to (AllByRecursion (Holds (On pile) to) ps) (λ i. in_patterns i ps)

pub found_sound : (pile : List Atom) (b : Binding) (ps : List Pattern) → found pile b ps ≡ true → Found pile b ps
found_sound pile b ps = go (seek pile b ps) refl
  where
    go : (o : Option Binding) → seek pile b ps ≡ o → is_some o ≡ true → Found pile b ps
    go None q e = absurd (both_ways false refl e)
    go (Some c) q e = record { to = c; grown = search_sound pile b ps c q }

pub found_complete : (pile : List Atom) (b c : Binding) (ps : List Pattern) → Extends b c → AllByRecursion (Holds (On pile) c) ps → found pile b ps ≡ true
found_complete pile b c ps x h = go (seek pile b ps) refl
  where
    go : (o : Option Binding) → seek pile b ps ≡ o → is_some o ≡ true
    go None q = absurd (search_complete pile b c ps x h q)
    go (Some d) q = refl

pub searches : SearchExact
searches pile ps = (
  λ e. let f = found_sound pile nothing ps e in (f.to, (f.grown.exact, f.grown.gives)),
  λ h. ∥∥₁_elim h (Bool-set _ _) (λ w. found_complete pile nothing w.0 ps (λ i t q. absurd (none_some q)) w.1.1),
)
