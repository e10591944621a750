-- Terms read one after the other are read as a row.
use Rattle.std.proofs.Common.{◌≡◌, ℕ, suc, ◌+◌, List, [], ◌∷◌, map, take, Some, Ok, Err, Result, inl, inr, ◌∙◌, subst, refl, arith}
use Rattle.std.specs.List.{slice_get, AllByRecursion}
use Rattle.reading.specs.declared.raw.RawTerm.{RawTerm}
use Rattle.reading.specs.Written.{Readable, Unreadable, ReadsAt, ReadsAll}
use Rattle.short_rows.specs.Tries.{TriesFrom}

module _ {T : Type 0} (written : T → RawTerm) (R : ℕ → RawTerm → Result T ℕ → Type 0) (h : (i : ℕ) (w : RawTerm) (r : Result T ℕ) → R i w r → ReadsAt written w i r) where
  all_read : (i : ℕ) (ws : List RawTerm) (ts : List T) → TriesFrom R i ws (Ok ts) → map written ts ≡ ws
  all_read i [] [] e = refl
  all_read i [] (t ∷ ts) e = absurd e
  all_read i (w ∷ ws) [] e = absurd e
  all_read i (w ∷ ws) (t ∷ ts) e = λ j. h i w (Ok t) e.0 j ∷ all_read (suc i) ws ts e.1 j

  -- the lowest index at which none is written so, counted from i
  StopsAt : ℕ → List RawTerm → ℕ → Type 0
  StopsAt i ws j = (k : ℕ) × (j ≡ i + k) × ((w : RawTerm) × (slice_get ws k ≡ Some w) × Unreadable written w) × AllByRecursion (Readable written) (take k ws)

  one_unread : (i : ℕ) (ws : List RawTerm) (j : ℕ) → TriesFrom R i ws (Err j) → StopsAt i ws j
  unfolding StopsAt
  one_unread i [] j e = absurd e
  one_unread i (w ∷ ws) j (inl e) = (0, (h i w (Err j) e).0 ∙ omega arith, (w, refl, (h i w (Err j) e).1), tt)
  one_unread i (w ∷ ws) j (inr e) =
      let s = one_unread (suc i) ws j e.2 in
      (suc s.0, omega (arith, s.1), s.2, ((e.0, h i w (Ok e.0) e.1), s.3))

  pub tries_read : (ws : List RawTerm) (r : Result (List T) ℕ) → TriesFrom R 0 ws r → ReadsAll written ws r
  unfolding StopsAt
  tries_read ws (Ok ts) e = all_read 0 ws ts e
  tries_read ws (Err j) e =
      let s = one_unread 0 ws j e in
      let at : s.0 ≡ j = omega (arith, s.1) in
      subst (λ i. ReadsAll written ws (Err i)) at (s.2, s.3)
