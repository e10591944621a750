-- Patterns checked one by one, beside what a caller writes.
use Rattle.std.proofs.Common.{◌≡◌, ℕ, suc, ◌+◌, List, [], ◌∷◌, map, length, take, Some, Ok, Err, Result, inl, inr, refl, subst, arith, Bor}
use Rattle.std.specs.List.{slice_get, AllByRecursion}
use Rattle.atoms.specs.declared.atom.Atom.{Atom}
use Rattle.reading.specs.Written.{slot_written}
use Rattle.reading.specs.declared.raw.RawAtom.{RawAtom}
use Rattle.refusals.specs.declared.refusal.Refusal.{Refusal}
use Rattle.short_rows.specs.Tries.{TriesFrom}
use Rattle.terms.specs.declared.pattern_term.PatternTerm.{PatternTerm}
use Rattle.declarations.specs.Bodies.{Pairwise, OneToFour, TakenAs, Fine, refused_atom, PatternsChecked}
use Rattle.declarations.specs.Checked.{AtomRefused, Checked}

module _ (arities : List ℕ) (R : ℕ → Bor RawAtom → Result (Atom PatternTerm) Refusal → Type 0) (h : (i : ℕ) (w : Bor RawAtom) (r : Result (Atom PatternTerm) Refusal) → R i w r → Checked slot_written arities i w.now r) where
  all_taken : (i : ℕ) (ws : List (Bor RawAtom)) (ps : List (Atom PatternTerm)) → TriesFrom R i ws (Ok ps) → Pairwise (TakenAs arities) (map (λ (x : Bor RawAtom). x.now) ws) ps
  all_taken i [] [] e = tt
  all_taken i [] (p ∷ ps) e = absurd e
  all_taken i (w ∷ ws) [] e = absurd e
  all_taken i (w ∷ ws) (p ∷ ps) e = (h i w (Ok p) e.0, all_taken (suc i) ws ps e.1)

  -- the first that is refused, counted from i
  StopsAt : ℕ → List RawAtom → Refusal → Type 0
  StopsAt i ws e = (k : ℕ) × (w : RawAtom) × (slice_get ws k ≡ Some w) × AllByRecursion (Fine arities) (take k ws) × AtomRefused slot_written arities (i + k) w e

  one_refused : (i : ℕ) (ws : List (Bor RawAtom)) (e : Refusal) → TriesFrom R i ws (Err e) → StopsAt i (map (λ (x : Bor RawAtom). x.now) ws) e
  unfolding StopsAt
  one_refused i [] e t = absurd t
  one_refused i (w ∷ ws) e (inl t) =
      let same : i ≡ i + 0 = omega arith in
      (0, w.now, refl, tt, subst (λ k. AtomRefused slot_written arities k w.now e) same (h i w (Err e) t))
  one_refused i (w ∷ ws) e (inr t) =
      let s = one_refused (suc i) ws e t.2 in
      let same : suc i + s.0 ≡ i + suc s.0 = omega arith in
      (suc s.0, s.1, s.2, ((t.0, h i w (Ok t.0) t.1), s.3), subst (λ k. AtomRefused slot_written arities k s.1 e) same s.4)

  pub tries_checked : (ws : List (Bor RawAtom)) (raws : List RawAtom) (r : Result (List (Atom PatternTerm)) Refusal) → map (λ (x : Bor RawAtom). x.now) ws ≡ raws → OneToFour (length raws) → TriesFrom R 0 ws r → PatternsChecked arities raws r
  unfolding StopsAt
  tries_checked ws raws (Ok ps) is few t = (few, subst (λ xs. Pairwise (TakenAs arities) xs ps) is (all_taken 0 ws ps t))
  tries_checked ws raws (Err e) is few t =
      let s = subst (λ xs. StopsAt 0 xs e) is (one_refused 0 ws e t) in
      let same : 0 + s.0 ≡ s.0 = omega arith in
      refused_atom few (record { index = s.0; atom = s.1; there = s.2; before = s.3; refused = subst (λ k. AtomRefused slot_written arities k s.1 e) same s.4 })

-- what corresponds to patterns is fine
pub all_fine : (arities : List ℕ) (raws : List RawAtom) (ps : List (Atom PatternTerm)) → Pairwise (TakenAs arities) raws ps → AllByRecursion (Fine arities) raws
all_fine arities [] ps h = tt
all_fine arities (r ∷ rs) [] h = absurd h
all_fine arities (r ∷ rs) (p ∷ ps) h = ((p, h.0), all_fine arities rs ps h.1)
