-- Fitting patterns at named places, one after another: the binding so far is the least.
use Rattle.std.proofs.Common.{◌≡◌, ℕ, zero, suc, ◌≤◌, ◌||◌, List, [], ◌∷◌, length, take, Some, None, sym, refl, ap, ◌∙◌, subst}
use mathlib.Core.Bool.{or-false, or_assoc}
use Rattle.std.specs.List.{slice_get}
use Rattle.std.proofs.lemmas.List.{take_all}
use Rattle.semantics.specs.Subject.{Pattern, Atom, Binding, Fits, Extends, Exactly, AtPlaces, in_slots, in_patterns}
use Rattle.semantics.specs.Computed.{nothing, fit}
use Rattle.semantics.proofs.Fitting.{some_is, none_some, all_more, fit_sound, fit_complete}

module _ (pile : List Atom) where
  -- under b the pattern fits the atom at place k
  abbrev pub AtPlace : Binding → Pattern → ℕ → Type 0
  AtPlace b p k = (a : Atom) × (slice_get pile k ≡ Some a) × Fits b p a

  at_more : (b c : Binding) (ps : List Pattern) (ks : List ℕ) → Extends b c → AtPlaces pile b ps ks → AtPlaces pile c ps ks
  at_more b c [] [] x h = tt
  at_more b c [] (k ∷ ks) x h = h
  at_more b c (p ∷ ps) [] x h = h
  at_more b c (p ∷ ps) (k ∷ ks) x h = ((h.0.0, h.0.1, (h.0.2.0, all_more b c p.slots h.0.0.terms x h.0.2.1)), at_more b c ps ks x h.1)

  -- one pattern more, and one less
  longer : (b : Binding) (ps : List Pattern) (ks : List ℕ) (i : ℕ) (p : Pattern) (k : ℕ) → slice_get ps i ≡ Some p → slice_get ks i ≡ Some k → AtPlaces pile b (take i ps) (take i ks) → AtPlace b p k → AtPlaces pile b (take (suc i) ps) (take (suc i) ks)
  longer b [] ks i p k ep ek h w = absurd (none_some ep)
  longer b (q ∷ ps) [] i p k ep ek h w = absurd (none_some ek)
  longer b (q ∷ ps) (j ∷ ks) zero p k ep ek h w = (subst (λ x. AtPlace b x j) (sym (some_is ep)) (subst (AtPlace b p) (sym (some_is ek)) w), tt)
  longer b (q ∷ ps) (j ∷ ks) (suc i) p k ep ek h w = (h.0, longer b ps ks i p k ep ek h.1 w)

  shorter : (b : Binding) (ps : List Pattern) (ks : List ℕ) (i : ℕ) (p : Pattern) (k : ℕ) → slice_get ps i ≡ Some p → slice_get ks i ≡ Some k → AtPlaces pile b (take (suc i) ps) (take (suc i) ks) → AtPlaces pile b (take i ps) (take i ks) × AtPlace b p k
  shorter b [] ks i p k ep ek h = absurd (none_some ep)
  shorter b (q ∷ ps) [] i p k ep ek h = absurd (none_some ek)
  shorter b (q ∷ ps) (j ∷ ks) zero p k ep ek h = (tt, subst (λ x. AtPlace b x k) (some_is ep) (subst (AtPlace b q) (some_is ek) h.0))
  shorter b (q ∷ ps) (j ∷ ks) (suc i) p k ep ek h =
      let r = shorter b ps ks i p k ep ek h.1 in
      ((h.0, r.0), r.1)

  in_longer : (v : ℕ) (ps : List Pattern) (i : ℕ) (p : Pattern) → slice_get ps i ≡ Some p → in_patterns v (take (suc i) ps) ≡ (in_patterns v (take i ps) || in_slots v p.slots)
  in_longer v [] i p e = absurd (none_some e)
  in_longer v (q ∷ ps) zero p e = or-false (in_slots v q.slots) ∙ ap (λ x. in_slots v x.slots) (some_is e)
  in_longer v (q ∷ ps) (suc i) p e = ap (λ w. in_slots v q.slots || w) (in_longer v ps i p e) ∙ sym (or_assoc (in_slots v q.slots) (in_patterns v (take i ps)) (in_slots v p.slots))

  -- b is the least binding under which the first i patterns fit at their places
  pub record Sofar (ps : List Pattern) (ks : List ℕ) (b : Binding) (i : ℕ) : Type 0 where
    pub fits : AtPlaces pile b (take i ps) (take i ks)
    pub exact : Exactly b (take i ps)
    pub least : (d : Binding) → AtPlaces pile d (take i ps) (take i ks) → Extends b d

  pub none_yet : (ps : List Pattern) (ks : List ℕ) → Sofar ps ks nothing 0
  none_yet ps ks = record { fits = tt; exact = λ i. refl; least = λ d f i t e. absurd (none_some e) }

  module _ (ps : List Pattern) (ks : List ℕ) (b : Binding) (i : ℕ) (so : Sofar ps ks b i) (p : Pattern) (k : ℕ) (a : Atom) (ep : slice_get ps i ≡ Some p) (ek : slice_get ks i ≡ Some k) (there : slice_get pile k ≡ Some a) where
    pub one_more : (c : Binding) → fit b p a ≡ Some c → Sofar ps ks c (suc i)
    one_more c e =
        let g = fit_sound b p a c e in
        record {
          fits = longer c ps ks i p k ep ek (at_more b c (take i ps) (take i ks) g.more so.fits) (a, there, g.gives);
          exact = λ v. g.exact v ∙ ap (λ w. w || in_slots v p.slots) (so.exact v) ∙ sym (in_longer v ps i p ep);
          least = λ d f.
              let r = shorter d ps ks i p k ep ek f in
              let h = fit_complete b d p a (so.least d r.0) (same_place d r.1) in
              subst (λ y. Extends y d) (some_is (sym h.1 ∙ e)) h.2;
        }
      where
        same_place : (d : Binding) → AtPlace d p k → Fits d p a
        same_place d w = subst (Fits d p) (some_is (sym w.1 ∙ there)) w.2

    pub stops : fit b p a ≡ None → (d : Binding) → AtPlaces pile d (take (suc i) ps) (take (suc i) ks) → ⊥
    stops e d f =
        let r = shorter d ps ks i p k ep ek f in
        let at : Fits d p a = subst (Fits d p) (some_is (sym r.1.1 ∙ there)) r.1.2 in
        let h = fit_complete b d p a (so.least d r.0) at in
        none_some (sym e ∙ h.1)

  pub all_placed : (ps : List Pattern) (ks : List ℕ) (b : Binding) (i : ℕ) → length ps ≤ i → length ks ≤ i → Sofar ps ks b i → AtPlaces pile b ps ks × Exactly b ps
  all_placed ps ks b i hp hk so =
      let ep = take_all i ps hp in
      let ek = take_all i ks hk in
      (subst (λ qs. AtPlaces pile b qs ks) ep (subst (AtPlaces pile b (take i ps)) ek so.fits), subst (Exactly b) ep so.exact)
