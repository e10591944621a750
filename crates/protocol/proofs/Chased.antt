-- An open derivation is its plain chase, and its steps and claims are answered by it.
use Rattle.std.proofs.Common.{◌≡◌, ℕ, Bool, true, false, eqb, ◌⊎◌, List, [], ◌∷◌, ◌++◌, is_ok, Some, Ok, Err, Result, sym, refl, ap, ◌∙◌, subst, inl, inr, arith}
use Rattle.std.specs.List.{AllByRecursion}
use Rattle.std.proofs.lemmas.Bool.{eqb-true, eq-eqb, both_ways}
use Rattle.semantics.specs.Subject.{Atom, Pattern, Rule, On, numbered}
use Rattle.semantics.proofs.Fitting.{some_is, none_some}
use Rattle.chase.specs.Chase as chase
use Rattle.chase.specs.Chase.{start, step, fresh, put_head, is_full, stands, already}
use Rattle.chase.proofs.Piles.{stands_on, on_stands}
use Rattle.refusals.specs.declared.refusal.Refusal.{Refusal}
use Rattle.book.specs.Theory.{rules_of, queries_of}
use Rattle.book.specs.declared.book.Book.{Book}
use Rattle.calls.specs.Named.{Places}
use Rattle.shelves.specs.declared.taken.Taken.{Taken}
use Rattle.shelves.specs.declared.taken.Taken.TheVariants.{Already, At}
use Rattle.calls.specs.declared.answer.Verdict.{Verdict}
use Rattle.calls.specs.declared.answer.Verdict.TheVariants.{Entailed}
use Rattle.calls.specs.declared.answer.Check.TheVariants.{Derivation}
use Rattle.calls.specs.declared.event.Event.{Event}
use Rattle.calls.specs.declared.event.Event.TheVariants.{Lodge, OpenDerivation, OpenModel, Step, Add, Claim, Clash, Refute, StrikeDerivation, StrikeModel, NoSlip}
use Rattle.protocol.specs.States.{State, opened, OwnDerivation}
use Rattle.protocol.specs.Calls.{Shown, Stepped, NotStepped, foreign_step, no_rule, not_fired, overfull, Claimed, NotClaimed, foreign_claim, unshown_query}
use Rattle.protocol.specs.Runs.{Did, Ran, Met, held}
use Rattle.protocol.specs.ChaseOf.{chase_of}
use Rattle.protocol.specs.Law.{Entry, Gives, Breaks, Overfills, Chases, fed_by, feeds, ends, Within, Takes}
use Rattle.protocol.proofs.Plain.{given, gives_of, chases_run, stepped_advances}
use Rattle.protocol.proofs.Keeping.{not_shut, not_model, kept_met, met_before, split}
use Rattle.protocol.proofs.Refusing.{not_fired_breaks, unshown}

no_both : {X : Type 0} → true ≡ false → X
no_both e = absurd (both_ways true e refl)

-- the call is a step
record IsStep (e : Event) : Type 0 where
  slip : ℕ
  rule : ℕ
  place : ℕ
  answer : Result Taken Refusal
  is : e ≡ Step slip rule place answer

-- a call that is no step: it feeds nothing, and where it does not end an open derivation it changes nothing
record Passes (number : ℕ) (e : Event) : Type 0 where
  unfed : (es : List Event) → feeds number (e ∷ es) ≡ feeds number es
  unmoved : (q : ℕ) (s t : State) → ends e ≡ false → Did s e t → s.check ≡ Some (Derivation q) → t ≡ s

-- every call is one or the other
passes : (number : ℕ) (e : Event) → Passes number e ⊎ IsStep e
passes number (Step n k p r) = inr (record { slip = n; rule = k; place = p; answer = r; is = refl })
passes number (Lodge w (Ok Already)) = inl (record { unfed = λ es. refl; unmoved = λ q s t n h o. h.3 })
passes number (Lodge w (Ok (At x))) = inl (record { unfed = λ es. refl; unmoved = λ q s t n h o. not_shut h.0 o })
passes number (Lodge w (Err e)) = inl (record { unfed = λ es. refl; unmoved = λ q s t n h o. h.1 })
passes number (OpenDerivation x (Ok u)) = inl (record { unfed = λ es. refl; unmoved = λ q s t n h o. not_shut h.0 o })
passes number (OpenDerivation x (Err e)) = inl (record { unfed = λ es. refl; unmoved = λ q s t n h o. h.1 })
passes number (OpenModel x (Ok u)) = inl (record { unfed = λ es. refl; unmoved = λ q s t n h o. not_shut h.0 o })
passes number (OpenModel x (Err e)) = inl (record { unfed = λ es. refl; unmoved = λ q s t n h o. h.1 })
passes number (Add m w (Ok Already)) = inl (record { unfed = λ es. refl; unmoved = λ q s t n h o. h.4 })
passes number (Add m w (Ok (At x))) = inl (record { unfed = λ es. refl; unmoved = λ q s t n h o. not_model h.1.0 o })
passes number (Add m w (Err e)) = inl (record { unfed = λ es. refl; unmoved = λ q s t n h o. h.1 })
passes number (Claim m p (Ok v)) = inl (record { unfed = λ es. refl; unmoved = λ q s t n h o. no_both n })
passes number (Claim m p (Err e)) = inl (record { unfed = λ es. refl; unmoved = λ q s t n h o. h.1 })
passes number (Clash m c p (Ok v)) = inl (record { unfed = λ es. refl; unmoved = λ q s t n h o. no_both n })
passes number (Clash m c p (Err e)) = inl (record { unfed = λ es. refl; unmoved = λ q s t n h o. h.1 })
passes number (Refute m (Ok v)) = inl (record { unfed = λ es. refl; unmoved = λ q s t n h o. not_model h.2.0 o })
passes number (Refute m (Err e)) = inl (record { unfed = λ es. refl; unmoved = λ q s t n h o. h.1 })
passes number (StrikeDerivation m (Ok u)) = inl (record { unfed = λ es. refl; unmoved = λ q s t n h o. no_both n })
passes number (StrikeDerivation m (Err e)) = inl (record { unfed = λ es. refl; unmoved = λ q s t n h o. h.2 })
passes number (StrikeModel m (Ok u)) = inl (record { unfed = λ es. refl; unmoved = λ q s t n h o. not_model h.0.1.0 o })
passes number (StrikeModel m (Err e)) = inl (record { unfed = λ es. refl; unmoved = λ q s t n h o. h.2 })
passes number NoSlip = inl (record { unfed = λ es. refl; unmoved = λ q s t n h o. h })

-- a derivation of the query is open in a checker of this book and number
record Inside (book : Book) (number q : ℕ) (s : State) : Type 0 where
  its_book : s.book ≡ book
  its_number : s.number ≡ number
  open_is : s.check ≡ Some (Derivation q)

module _ (book : Book) (number q : ℕ) where
  -- what calls from s to t have fed
  abbrev Fed : State → List (ℕ × ℕ) → State → Type 0
  Fed s xs t = Inside book number q t × Chases (rules_of book) (chase_of s) xs (chase_of t)

  -- a step leaves the derivation open
  step_inside : (s t : State) (n k p : ℕ) (r : Result Taken Refusal) → Stepped s n k p r t → Inside book number q s → Inside book number q t
  step_inside s t n k p (Ok Already) h i = subst (Inside book number q) (sym h.6) i
  step_inside s t n k p (Ok (At x)) h i = subst (Inside book number q) (sym h.8) (record { its_book = i.its_book; its_number = i.its_number; open_is = i.open_is })
  step_inside s t n k p (Err e) h i = subst (Inside book number q) (sym h.1) i

  -- under a foreign slip it changes nothing
  step_foreign : (s t : State) (n k p : ℕ) (r : Result Taken Refusal) → Stepped s n k p r t → (n ≡ s.number → ⊥) → t ≡ s
  step_foreign s t n k p (Ok Already) h f = absurd (f h.3.1)
  step_foreign s t n k p (Ok (At x)) h f = absurd (f h.3.1)
  step_foreign s t n k p (Err e) h f = h.1

  -- a step under the checker's own number is fed to the chase, and another is not
  step_fed : (s m t : State) (n k p : ℕ) (r : Result Taken Refusal) (xs : List (ℕ × ℕ)) → Stepped s n k p r m → Inside book number q s → Fed m xs t → Fed s (fed_by (eqb n number) k p xs) t
  step_fed s m t n k p r xs h i fed = go (eqb n number) refl
    where
      go : (w : Bool) → eqb n number ≡ w → Fed s (fed_by w k p xs) t
      go true e =
          let own : OwnDerivation s n q = (i.open_is, eqb-true n number e ∙ sym i.its_number) in
          let adv = stepped_advances s m n q k p r own h in
          (fed.0, (chase_of m, rw (← i.its_book) adv, fed.1))
      go false e =
          let same = step_foreign s m n k p r h (λ is. both_ways (eqb n number) e (eq-eqb n number (is ∙ i.its_number))) in
          (fed.0, subst (λ (x : State). Chases (rules_of book) (chase_of x) xs (chase_of t)) same fed.1)

  -- calls that do not end the derivation feed its chase with their steps
  all_fed : (es : List Event) (s t : State) → AllByRecursion (λ x. ends x ≡ false) es → Ran s es t → Inside book number q s → Fed s (feeds number es) t
  all_fed [] s t w r i = (subst (Inside book number q) (sym r) i, ap chase_of r)
  all_fed (e ∷ es) s t w r i = go (passes number e) (all_fed es r.0 t w.1 r.2)
    where
      go : Passes number e ⊎ IsStep e → (Inside book number q r.0 → Fed r.0 (feeds number es) t) → Fed s (feeds number (e ∷ es)) t
      go (inl p) more =
          let same = p.unmoved q s r.0 w.0 r.1 i.open_is in
          let rest = more (subst (Inside book number q) (sym same) i) in
          subst (λ (xs : List (ℕ × ℕ)). Fed s xs t) (sym (p.unfed es)) (rest.0, subst (λ (x : State). Chases (rules_of book) (chase_of x) (feeds number es) (chase_of t)) same rest.1)
      go (inr p) more =
          let h = subst (λ (x : Event). Did s x r.0) p.is r.1 in
          let rest = more (step_inside s r.0 p.slip p.rule p.place p.answer h i) in
          subst (λ (x : Event). Fed s (feeds number (x ∷ es)) t) (sym p.is) (step_fed s r.0 t p.slip p.rule p.place p.answer (feeds number es) h i rest)

-- where a call inside a check finds the checker
record Standing (book : Book) (number q : ℕ) (facts : List Atom) (before inside : List Event) (e : Event) : Type 0 where
  at : State
  then : State
  did : Did at e then
  within : Inside book number q at
  chases : Chases (rules_of book) (start (held facts before)) (feeds number inside) (chase_of at)

standing : (book : Book) (number : ℕ) (facts : List Atom) (es : List Event) (s : State) → Met book number facts es s → (q : ℕ) (before inside : List Event) (e : Event) → Within es q before inside e → Standing book number q facts before inside e
standing book number facts es s met q before inside e w =
    let h = met_before book number facts es before (OpenDerivation q (Ok tt) ∷ (inside ++ e ∷ w.after)) s met w.split in
    let keeps = kept_met book number facts before h.0 h.1 in
    let is : h.2.0 ≡ opened h.0 (Derivation q) = h.2.1.3 in
    let begun : Inside book number q h.2.0 = subst (Inside book number q) (sym is) (record { its_book = keeps.its_book; its_number = keeps.its_number; open_is = refl }) in
    let first : chase_of h.2.0 ≡ start (held facts before) = ap chase_of is ∙ ap start keeps.its_facts in
    let u = split inside (e ∷ w.after) h.2.0 s h.2.2 in
    let fed = all_fed book number q inside h.2.0 u.0 w.not_ended u.1 begun in
    record {
      at = u.0;
      then = u.2.0;
      did = u.2.1;
      within = fed.0;
      chases = subst (λ (x : chase.State). Chases (rules_of book) x (feeds number inside) (chase_of u.0)) first fed.1;
    }

-- every use of rule k at the place gives the same head, so where one stands on the pile each does
module _ (rules : List Rule) (s : chase.State) (k place : ℕ) where
  not_already : (a : Atom) (n : ℕ) (full : Bool) → put_head s a n false full ≡ already → ⊥
  not_already a n true e = let z : ◌≡◌ {A = ℕ} 0 1 = cc in omega arith
  not_already a n false e = let z : ◌≡◌ {A = ℕ} 0 1 = cc in omega arith

  one_head : (a c : Atom) (n m : ℕ) → Gives rules s k place a n → On s.pile a → Gives rules s k place c m → On s.pile c
  one_head a c n m g on h = go (stands s.pile c) refl
    where
      stood : step rules s k place ≡ already
      stood = given rules s k place a n g ∙ ap (λ (w : Bool). put_head s a n w (is_full s)) (on_stands s.pile a on.0 on.1)

      go : (w : Bool) → stands s.pile c ≡ w → On s.pile c
      go true e = stands_on s.pile c e
      go false e = absurd (not_already c m (is_full s) (ap (λ (w : Bool). put_head s c m w (is_full s)) (sym e) ∙ sym (given rules s k place c m h) ∙ stood))

-- what an answer to a step says of the chase
abbrev StepSays : List Rule → chase.State → ℕ → ℕ → Result Taken Refusal → Type 0
StepSays rules c k place r = (is_ok r ≡ false → Breaks rules c k place ⊎ Overfills rules c k place) × (Breaks rules c k place ⊎ Overfills rules c k place → is_ok r ≡ false) × ((t : Taken) → r ≡ Ok t → Takes rules c k place t)

-- a refused step breaks the chase rule or overfills
step_refused : (s : State) (n q k place : ℕ) (e : Refusal) → OwnDerivation s n q → NotStepped s n k place e → Breaks (rules_of s.book) (chase_of s) k place ⊎ Overfills (rules_of s.book) (chase_of s) k place
step_refused s n q k place e own (foreign_step is foreign) = absurd (foreign q own)
step_refused s n q k place e own (no_rule q' is own' none) = inl (λ a m g. none_some (sym none ∙ g.named_rule))
step_refused s n q k place e own (not_fired q' rule own' at not) =
    inl (λ a m g. not_fired_breaks s.pile rule place e not g.by (rw (some_is (sym at ∙ g.named_rule)) g.fires))
step_refused s n q k place e own (overfull q' a m is own' y new full) = inr (a, m, gives_of s k place a m y, new, full)

-- and every answer to a step under an own slip says so
step_says : (s t : State) (n q k place : ℕ) (r : Result Taken Refusal) → OwnDerivation s n q → Stepped s n k place r t → StepSays (rules_of s.book) (chase_of s) k place r
step_says s t n q k place (Err e) own h = (λ f. step_refused s n q k place e own h.0, λ b. refl, λ x is. let z : ◌≡◌ {A = ℕ} 0 1 = cc in absurd (omega arith))
step_says s t n q k place (Ok Already) own h =
    let rules = rules_of s.book in
    let g = gives_of s k place h.1 h.2 h.4 in (
      no_both,
      λ b. elim b [ inl breaks ↦ absurd (breaks h.1 h.2 g) | inr over ↦ absurd (over.3 (one_head rules (chase_of s) k place h.1 over.0 h.2 over.1 g h.5 over.2)) ],
      λ x is. let e : Already ≡ x = cc in subst (Takes rules (chase_of s) k place) e (h.1, h.2, g, h.5),
    )
step_says s t n q k place (Ok (At p)) own h =
    let rules = rules_of s.book in
    let g = gives_of s k place h.1 h.2 h.4 in (
      no_both,
      λ b. elim b [ inl breaks ↦ absurd (breaks h.1 h.2 g) | inr over ↦ absurd (h.6 over.4) ],
      λ x is. let e : At p ≡ x = cc in subst (Takes rules (chase_of s) k place) e (h.1, h.2, g, h.5, h.7),
    )

-- what an answer to a claim says of the chase
abbrev ClaimSays : Book → chase.State → ℕ → Places → Result Verdict Refusal → Type 0
ClaimSays book c q p r = ((v : Verdict) → r ≡ Ok v → (v ≡ Entailed q c.added c.nulls) × Entry (queries_of book) q (λ ps. Shown c.pile ps p)) × (Entry (queries_of book) q (λ ps. Shown c.pile ps p) → r ≡ Ok (Entailed q c.added c.nulls))

-- where a claim is refused the query is not shown
claim_refused : (s : State) (n q : ℕ) (p : Places) (e : Refusal) → OwnDerivation s n q → NotClaimed s n p e → Entry (queries_of s.book) q (λ ps. Shown s.pile ps p) → ⊥
claim_refused s n q p e own (foreign_claim is foreign) shown = foreign q own
claim_refused s n q p e own (unshown_query q' ps own' at not) shown =
    let same : q ≡ q' = cc (own.0, own'.0) in
    let one : shown.0 ≡ ps = some_is (sym shown.1 ∙ ap (numbered (queries_of s.book)) same ∙ at) in
    unshown s.pile ps p e not (subst (λ (x : List Pattern). Shown s.pile x p) one shown.2)

-- and every answer to a claim under an own slip says so
claim_says : (s t : State) (n q : ℕ) (p : Places) (r : Result Verdict Refusal) → OwnDerivation s n q → Claimed s n p r t → ClaimSays s.book (chase_of s) q p r
claim_says s t n q p (Err e) own h = (λ v is. let z : ◌≡◌ {A = ℕ} 0 1 = cc in absurd (omega arith), λ shown. absurd (claim_refused s n q p e own h.0 shown))
claim_says s t n q p (Ok v) own h =
    let same : h.0 ≡ q = cc (own.0, h.2.0) in
    let is : v ≡ Entailed q s.added s.nulls = h.5 ∙ ap (λ (x : ℕ). Entailed x s.added s.nulls) same in (
      λ x e. let i : v ≡ x = cc in (sym i ∙ is, (h.1, ap (numbered (queries_of s.book)) (sym same) ∙ h.3, h.4)),
      λ shown. ap Ok is,
    )

module _ (book : Book) (number : ℕ) (facts : List Atom) (es : List Event) (s : State) (met : Met book number facts es s) where
  -- the plain chase of the check is that of the checker
  only_chase : (q : ℕ) (before inside : List Event) (e : Event) (st : Standing book number q facts before inside e) (c : chase.State) → Chases (rules_of book) (start (held facts before)) (feeds number inside) c → chase_of st.at ≡ c
  only_chase q before inside e st c h = chases_run (rules_of book) (start (held facts before)) (chase_of st.at) (feeds number inside) st.chases ∙ sym (chases_run (rules_of book) (start (held facts before)) c (feeds number inside) h)

  -- each check for a derivation has its plain chase
  pub chased : (q : ℕ) (before inside : List Event) (e : Event) → Within es q before inside e → (c : chase.State) × Chases (rules_of book) (start (held facts before)) (feeds number inside) c
  chased q before inside e w = let st = standing book number facts es s met q before inside e w in (chase_of st.at, st.chases)

  -- its steps are answered by it
  pub steps : (q : ℕ) (before inside : List Event) (k place : ℕ) (r : Result Taken Refusal) (c : chase.State) → Within es q before inside (Step number k place r) → Chases (rules_of book) (start (held facts before)) (feeds number inside) c → StepSays (rules_of book) c k place r
  steps q before inside k place r c w h =
      let st = standing book number facts es s met q before inside (Step number k place r) w in
      let says = step_says st.at st.then number q k place r (st.within.open_is, sym st.within.its_number) st.did in
      subst (λ (x : chase.State). StepSays (rules_of book) x k place r) (only_chase q before inside (Step number k place r) st c h)
      (subst (λ (b : Book). StepSays (rules_of b) (chase_of st.at) k place r) st.within.its_book says)

  -- and so are its claims
  pub claims : (q : ℕ) (before inside : List Event) (p : Places) (r : Result Verdict Refusal) (c : chase.State) → Within es q before inside (Claim number p r) → Chases (rules_of book) (start (held facts before)) (feeds number inside) c → ClaimSays book c q p r
  claims q before inside p r c w h =
      let st = standing book number facts es s met q before inside (Claim number p r) w in
      let says = claim_says st.at st.then number q p r (st.within.open_is, sym st.within.its_number) st.did in
      subst (λ (x : chase.State). ClaimSays book x q p r) (only_chase q before inside (Claim number p r) st c h)
      (subst (λ (b : Book). ClaimSays b (chase_of st.at) q p r) st.within.its_book says)
