-- Verdicts on one query in their order: entailed, then never not entailed; not entailed, then entailed only after a new fact.
use Rattle.std.proofs.Common.{◌≡◌, ℕ, ◌⊎◌, List, [], ◌∷◌, ◌++◌, Some, Ok, Err, sym, refl, ap, ◌∙◌, subst, inl, inr, append_assoc}
use Rattle.std.specs.List.{AllByRecursion}
use Rattle.semantics.specs.Subject.{Atom, Candidate, Model, HasMatch, Obeys, On}
use Rattle.semantics.proofs.Fitting.{some_is, none_some}
use Rattle.reading.specs.declared.raw.RawAtom.{RawAtom}
use Rattle.book.specs.Theory.{rules_of, queries_of}
use Rattle.book.specs.declared.book.Book.{Book}
use Rattle.shelves.specs.declared.taken.Taken.TheVariants.{Already, At}
use Rattle.calls.specs.declared.answer.Verdict.TheVariants.{Entailed, NotEntailed}
use Rattle.calls.specs.declared.event.Event.{Event}
use Rattle.calls.specs.declared.event.Event.TheVariants.{Lodge, OpenDerivation, OpenModel, Step, Add, Claim, Clash, Refute, StrikeDerivation, StrikeModel, NoSlip}
use Rattle.protocol.specs.States.{State, raw_meant}
use Rattle.protocol.specs.Runs.{Met, with_brought, held}
use Rattle.protocol.specs.Law.{Entry, gives, SomeLodged}
use Rattle.protocol.proofs.Verdicts.{verdicts}

-- the call lodged a fact
record Lodges (e : Event) : Type 0 where
  fact : RawAtom
  place : ℕ
  is : e ≡ Lodge fact (Ok (At place))

-- a call lodged a fact, or the facts stay
brings : (e : Event) → Lodges e ⊎ ((facts : List Atom) → with_brought facts e ≡ facts)
brings (Lodge w (Ok (At place))) = inl (record { fact = w; place = place; is = refl })
brings (Lodge w (Ok Already)) = inr (λ f. refl)
brings (Lodge w (Err e)) = inr (λ f. refl)
brings (OpenDerivation q r) = inr (λ f. refl)
brings (OpenModel q r) = inr (λ f. refl)
brings (Step n k p r) = inr (λ f. refl)
brings (Add n w r) = inr (λ f. refl)
brings (Claim n p r) = inr (λ f. refl)
brings (Clash n c p r) = inr (λ f. refl)
brings (Refute n r) = inr (λ f. refl)
brings (StrikeDerivation n r) = inr (λ f. refl)
brings (StrikeModel n r) = inr (λ f. refl)
brings NoSlip = inr (λ f. refl)

every_front : {A : Type 0} (P : A → Type 0) (xs ys : List A) → AllByRecursion P (xs ++ ys) → AllByRecursion P xs
every_front P [] ys h = tt
every_front P (x ∷ xs) ys h = (h.0, every_front P xs ys h.1)

-- what has the facts held later has those held before
fewer : (m : Candidate) (es : List Event) (facts : List Atom) → AllByRecursion m (held facts es) → AllByRecursion m facts
fewer m [] facts h = h
fewer m (e ∷ es) facts h = go (brings e) (fewer m es (with_brought facts e) h)
  where
    go : Lodges e ⊎ ((fs : List Atom) → with_brought fs e ≡ fs) → AllByRecursion m (with_brought facts e) → AllByRecursion m facts
    go (inl l) k = every_front m facts (raw_meant l.fact ∷ []) (subst (λ (x : Event). AllByRecursion m (with_brought facts x)) l.is k)
    go (inr s) k = subst (AllByRecursion m) (s facts) k

held_++ : (xs ys : List Event) (facts : List Atom) → held facts (xs ++ ys) ≡ held (held facts xs) ys
held_++ [] ys facts = refl
held_++ (x ∷ xs) ys facts = held_++ xs ys (with_brought facts x)

abbrev Still : List Event → Type 0
Still es = (facts : List Atom) → held facts es ≡ facts

-- some fact was lodged, or the facts stay
look : (es : List Event) → SomeLodged es ⊎ Still es
look [] = inr (λ f. refl)
look (e ∷ es) = go (brings e) (look es)
  where
    go : Lodges e ⊎ ((fs : List Atom) → with_brought fs e ≡ fs) → SomeLodged es ⊎ Still es → SomeLodged (e ∷ es) ⊎ Still (e ∷ es)
    go (inl l) rest = inl (record { before = []; after = es; fact = l.fact; place = l.place; there = ap (λ (x : Event). x ∷ es) l.is })
    go (inr s) (inl l) = inl (record { before = e ∷ l.before; after = l.after; fact = l.fact; place = l.place; there = ap {B = List Event} (λ xs. e ∷ xs) l.there })
    go (inr s) (inr r) = inr (λ f. r (with_brought f e) ∙ s f)

-- no query has a match where it has none
at_odds : (book : Book) (q : ℕ) (m : Candidate) → Entry (queries_of book) q (HasMatch m) → Entry (queries_of book) q (Obeys m) → ⊥
at_odds book q m has not = not.2 (subst (HasMatch m) (some_is (sym has.1 ∙ not.1)) has.2)

module _ (m : Candidate) (book : Book) (number : ℕ) (start : List Atom) (es : List Event) (s : State) (met : Met book number start es s) where
  -- a query that was entailed is never found not entailed after
  pub never_after : (before between after : List Event) (e f : Event) (q added nulls size : ℕ) → es ≡ before ++ e ∷ (between ++ f ∷ after) → gives e ≡ Some (Entailed q added nulls) → gives f ≡ Some (NotEntailed q size) → ⊥
  never_after before between after e f q added nulls size is ge gf =
      let back = append_assoc before (e ∷ between) (f ∷ after) in
      let t = verdicts m book number start es s met (before ++ e ∷ between) after f (NotEntailed q size) (is ∙ sym back) gf in
      let few = fewer (On t.0) (e ∷ between) (held start before) (subst (AllByRecursion (On t.0)) (held_++ before (e ∷ between) start) t.2.has) in
      at_odds book q (On t.0)
      (verdicts (On t.0) book number start es s met before (between ++ f ∷ after) e (Entailed q added nulls) is ge (record { has = few; follows = t.2.follows }))
      t.4

  -- and where it was found not entailed before, a fact was lodged between
  pub lodged_between : (before between after : List Event) (e f : Event) (q added nulls size : ℕ) → es ≡ before ++ f ∷ (between ++ e ∷ after) → gives f ≡ Some (NotEntailed q size) → gives e ≡ Some (Entailed q added nulls) → SomeLodged between
  lodged_between before between after e f q added nulls size is gf ge = go (brings f) (look between)
    where
      go : Lodges f ⊎ ((fs : List Atom) → with_brought fs f ≡ fs) → SomeLodged between ⊎ Still between → SomeLodged between
      go (inl l) rest = absurd (none_some (ap gives (sym l.is) ∙ gf))
      go (inr one) (inl l) = l
      go (inr one) (inr still) =
          let back = append_assoc before (f ∷ between) (e ∷ after) in
          let t = verdicts m book number start es s met before (between ++ e ∷ after) f (NotEntailed q size) is gf in
          let same : held start (before ++ f ∷ between) ≡ held start before = held_++ before (f ∷ between) start ∙ still (with_brought (held start before) f) ∙ one (held start before) in
          absurd (at_odds book q (On t.0)
          (verdicts (On t.0) book number start es s met (before ++ f ∷ between) after e (Entailed q added nulls) (is ∙ sym back) ge (subst (λ (l : List Atom). Model (On t.0) l (rules_of book)) (sym same) t.2))
          t.4)
