-- What stays true of a checker from call to call.
use Rattle.std.proofs.Common.{◌≡◌, ℕ, suc, ◌<◌, ◌≤◌, Bool, true, false, ltb, List, [], ◌∷◌, ◌++◌, Some, None, Option, Ok, Err, sym, refl, ap, ◌∙◌, subst, append_assoc, append-nil, arith, ltb-false, ltb-true}
use Rattle.std.specs.List.{slice_get, AllByRecursion}
use Rattle.semantics.specs.Subject.{Atom, Pattern}
use Rattle.chase.specs.Chase.{IsFact, start}
use Rattle.chase.specs.Unfit.{IsConstant, FactOf, FirstUnfit, no_fact}
use Rattle.book.specs.Theory.{predicates_of, rules_of}
use Rattle.book.specs.declared.book.Book.{Book}
use Rattle.shelves.specs.declared.taken.Taken.TheVariants.{Already, At}
use Rattle.calls.specs.declared.answer.Check.{Check}
use Rattle.calls.specs.declared.answer.Check.TheVariants.{Derivation, Model}
use Rattle.calls.specs.declared.event.Event.{Event}
use Rattle.calls.specs.declared.event.Event.TheVariants.{Lodge, OpenDerivation, OpenModel, Step, Add, Claim, Clash, Refute, StrikeDerivation, StrikeModel, NoSlip}
use Rattle.protocol.specs.States.{State, anew, opened, closed, with_fact, with_atom, Fresh, raw_meant}
use Rattle.protocol.specs.Calls.{Idle, Asks, Stepped}
use Rattle.protocol.specs.Runs.{Did, Ran, Met, with_brought, held}
use Rattle.protocol.specs.ChaseOf.{chase_of}
use Rattle.protocol.specs.Law.{Chases}
use Rattle.protocol.proofs.Plain.{chases_more, stepped_advances}

-- a check is not open and shut, and not of both kinds
pub not_shut : {X : Type 0} {q : ℕ} {k : Option Check} → k ≡ None → k ≡ Some (Derivation q) → X
not_shut e f = let z : ◌≡◌ {A = ℕ} 0 1 = cc in absurd (omega arith)

pub not_model : {X : Type 0} {p q : ℕ} {k : Option Check} → k ≡ Some (Model p) → k ≡ Some (Derivation q) → X
not_model e f = let z : ◌≡◌ {A = ℕ} 0 1 = cc in absurd (omega arith)

-- the terms are low, since they are not not constants
low_terms : (ts : List ℕ) → ((AllByRecursion IsConstant ts → ⊥) → ⊥) → AllByRecursion (λ t. t < 1000000) ts
low_terms [] h = tt
low_terms (t ∷ ts) h = (low (ltb t 1000000) refl, low_terms ts (λ f. h (λ c. f c.1)))
  where
    low : (w : Bool) → ltb t 1000000 ≡ w → t < 1000000
    low true e = ltb-true t 1000000 e
    low false e = absurd (h (λ c. let n : 1000000 ≤ t = ltb-false t 1000000 e in omega (arith, c.0.1)))

-- where a check may be opened each fact has low terms
facts_low : (arities : List ℕ) (xs : List Atom) → FirstUnfit arities xs None → AllByRecursion IsFact xs
facts_low arities xs h = go xs (λ k a e f. h k (no_fact a e f))
  where
    go : (ys : List Atom) → ((k : ℕ) (a : Atom) → slice_get ys k ≡ Some a → (FactOf arities a → ⊥) → ⊥) → AllByRecursion IsFact ys
    go [] f = tt
    go (y ∷ ys) f = (low_terms y.terms (λ n. f 0 y refl (λ c. n c.1)), go ys (λ k a e. f (suc k) a e))

-- what an open check is worth: a derivation's pile is a chase of low facts, and a model's begins with the facts
abbrev pub Worth : State → Option Check → Type 0
Worth s None = s ≡ closed s
Worth s (Some (Derivation q)) = ((ps : List Pattern) × Asks s q ps) × AllByRecursion IsFact s.facts × ((xs : List (ℕ × ℕ)) × Chases (rules_of s.book) (start s.facts) xs (chase_of s))
Worth s (Some (Model q)) = ((ps : List Pattern) × Asks s q ps) × ((own : List Atom) × (s.pile ≡ s.facts ++ own))

-- what stays true: book and number stay, the facts are those that were brought, and the check is worth that
pub record Keeps (book : Book) (number : ℕ) (facts : List Atom) (s : State) : Type 0 where
  pub its_book : s.book ≡ book
  pub its_number : s.number ≡ number
  pub its_facts : s.facts ≡ facts
  pub worth : Worth s s.check

-- the worth of the check that is open
pub worth_of : (s : State) (k : Option Check) → s.check ≡ k → Worth s s.check → Worth s k
worth_of s k e w = subst (Worth s) e w

worth_back : (s : State) (k : Option Check) → s.check ≡ k → Worth s k → Worth s s.check
worth_back s k e w = subst (Worth s) (sym e) w

module _ (book : Book) (number : ℕ) (facts : List Atom) where
  -- nothing changed
  same : (s t : State) → t ≡ s → Keeps book number facts s → Keeps book number facts t
  same s t e k = subst (Keeps book number facts) (sym e) k

  -- a check is opened or shut
  turned : (s t : State) (c : Option Check) → t ≡ anew s c → Worth (anew s c) c → Keeps book number facts s → Keeps book number facts t
  turned s t c e w k = subst (Keeps book number facts) (sym e) (record { its_book = k.its_book; its_number = k.its_number; its_facts = k.its_facts; worth = w })

  shuts : (s t : State) → t ≡ closed s → Keeps book number facts s → Keeps book number facts t
  shuts s t e k = turned s t None e refl k

  lodges : (s t : State) (a : Atom) → Idle s → t ≡ with_fact s a → Keeps book number facts s → Keeps book number (facts ++ a ∷ []) t
  lodges s t a idle e k = subst (Keeps book number (facts ++ a ∷ [])) (sym e) (record {
    its_book = k.its_book;
    its_number = k.its_number;
    its_facts = ap (λ (l : List Atom). l ++ a ∷ []) k.its_facts;
    worth = worth_back (with_fact s a) None idle (ap (λ (x : State). with_fact x a) (worth_of s None idle k.worth));
  })

  -- an atom more on the pile
  grows : (s : State) (a : Atom) (m : ℕ) (c : Option Check) → s.check ≡ c → Worth (with_atom s a m) c → Keeps book number facts s → Keeps book number facts (with_atom s a m)
  grows s a m c e w k = record { its_book = k.its_book; its_number = k.its_number; its_facts = k.its_facts; worth = worth_back (with_atom s a m) c e w }

  steps : (s t : State) (n k p x : ℕ) → Stepped s n k p (Ok (At x)) t → Keeps book number facts s → Keeps book number facts t
  steps s t n k p x h keeps =
      let a = h.1 in
      let m = h.2 in
      let w = worth_of s (Some (Derivation h.0)) h.3.0 keeps.worth in
      let e = h.8 in
      let more = chases_more (rules_of s.book) (start s.facts) (chase_of s) (chase_of (with_atom s a m)) w.2.0 k p w.2.1
      (stepped_advances s (with_atom s a m) n h.0 k p (Ok (At x)) h.3 (h.0, a, m, h.3, h.4, h.5, h.6, h.7, refl)) in
      subst (Keeps book number facts) (sym e) (grows s a m (Some (Derivation h.0)) h.3.0 (w.0, w.1, (w.2.0 ++ (k, p) ∷ [], more)) keeps)

  adds : (s t : State) (a : Atom) (q : ℕ) → s.check ≡ Some (Model q) → t ≡ with_atom s a s.nulls → Keeps book number facts s → Keeps book number facts t
  adds s t a q c e keeps =
      let w = worth_of s (Some (Model q)) c keeps.worth in
      subst (Keeps book number facts) (sym e)
      (grows s a s.nulls (Some (Model q)) c (w.0, (w.1.0 ++ a ∷ [], ap (λ (l : List Atom). l ++ a ∷ []) w.1.1 ∙ append_assoc s.facts w.1.0 (a ∷ []))) keeps)

-- each call keeps it
pub kept : (book : Book) (number : ℕ) (facts : List Atom) (s t : State) (e : Event) → Did s e t → Keeps book number facts s → Keeps book number (with_brought facts e) t
kept b n f s t (Lodge w (Ok Already)) h k = same b n f s t h.3 k
kept b n f s t (Lodge w (Ok (At place))) h k = lodges b n f s t (raw_meant w) h.0 h.5 k
kept b n f s t (Lodge w (Err e)) h k = same b n f s t h.1 k
kept b n f s t (OpenDerivation q (Ok u)) h k = turned b n f s t (Some (Derivation q)) h.3 (h.1, facts_low (predicates_of s.book) s.facts h.2, ([], refl)) k
kept b n f s t (OpenDerivation q (Err e)) h k = same b n f s t h.1 k
kept b n f s t (OpenModel q (Ok u)) h k = turned b n f s t (Some (Model q)) h.3 (h.1, ([], sym (append-nil s.facts))) k
kept b n f s t (OpenModel q (Err e)) h k = same b n f s t h.1 k
kept b n f s t (Step m r p (Ok Already)) h k = same b n f s t h.6 k
kept b n f s t (Step m r p (Ok (At x))) h k = steps b n f s t m r p x h k
kept b n f s t (Step m r p (Err e)) h k = same b n f s t h.1 k
kept b n f s t (Add m w (Ok Already)) h k = same b n f s t h.4 k
kept b n f s t (Add m w (Ok (At x))) h k = adds b n f s t (raw_meant w) h.0 h.1.0 h.6 k
kept b n f s t (Add m w (Err e)) h k = same b n f s t h.1 k
kept b n f s t (Claim m p (Ok v)) h k = shuts b n f s t h.6 k
kept b n f s t (Claim m p (Err e)) h k = same b n f s t h.1 k
kept b n f s t (Clash m c p (Ok v)) h k = shuts b n f s t h.6 k
kept b n f s t (Clash m c p (Err e)) h k = same b n f s t h.1 k
kept b n f s t (Refute m (Ok v)) h k = shuts b n f s t h.7 k
kept b n f s t (Refute m (Err e)) h k = same b n f s t h.1 k
kept b n f s t (StrikeDerivation m (Ok u)) h k = shuts b n f s t h.1 k
kept b n f s t (StrikeDerivation m (Err e)) h k = same b n f s t h.2 k
kept b n f s t (StrikeModel m (Ok u)) h k = shuts b n f s t h.1 k
kept b n f s t (StrikeModel m (Err e)) h k = same b n f s t h.2 k
kept b n f s t NoSlip h k = same b n f s t h k

-- and so does each list of calls
pub kept_all : (book : Book) (number : ℕ) (facts : List Atom) (s t : State) (es : List Event) → Ran s es t → Keeps book number facts s → Keeps book number (held facts es) t
kept_all b n f s t [] r k = same b n f s t r k
kept_all b n f s t (e ∷ es) r k = kept_all b n (with_brought f e) r.0 t es r.2 (kept b n f s r.0 e r.1 k)

-- it holds of a checker just made
pub kept_new : (s : State) → Fresh s → Keeps s.book s.number s.facts s
kept_new s fresh = record { its_book = refl; its_number = refl; its_facts = refl; worth = worth_back s None (ap (λ (x : State). x.check) fresh) fresh }

-- so it holds wherever a checker has come
pub kept_met : (book : Book) (number : ℕ) (start : List Atom) (es : List Event) (s : State) → Met book number start es s → Keeps book number (held start es) s
kept_met book number facts es s m =
    let k = kept_new m.first m.fresh in
    kept_all book number facts m.first s es m.ran
    (record { its_book = m.its_book; its_number = m.its_number; its_facts = m.its_facts; worth = k.worth })

-- the state between two lists of calls
pub split : (xs ys : List Event) (s t : State) → Ran s (xs ++ ys) t → (m : State) × Ran s xs m × Ran m ys t
split [] ys s t r = (s, refl, r)
split (x ∷ xs) ys s t r =
    let h = split xs ys r.0 t r.2 in
    (h.0, (r.0, r.1, h.1), h.2)

-- what was met before the calls ys, which come last
pub met_before : (book : Book) (number : ℕ) (start : List Atom) (es xs ys : List Event) (t : State) → Met book number start es t → es ≡ xs ++ ys → (s : State) × Met book number start xs s × Ran s ys t
met_before book number start es xs ys t m e =
    let h = split xs ys m.first t (subst (λ (l : List Event). Ran m.first l t) e m.ran) in
    (h.0, record { first = m.first; fresh = m.fresh; its_book = m.its_book; its_number = m.its_number; its_facts = m.its_facts; ran = h.1 }, h.2)

-- more calls at the end
pub ran_more : (xs ys : List Event) (s m t : State) → Ran s xs m → Ran m ys t → Ran s (xs ++ ys) t
ran_more [] ys s m t r q = subst (λ (x : State). Ran x ys t) r q
ran_more (x ∷ xs) ys s m t r q = (r.0, r.1, ran_more xs ys r.0 m t r.2 q)

-- a checker just made has met nothing
pub met_new : (s : State) → Fresh s → Met s.book s.number s.facts [] s
met_new s fresh = record { first = s; fresh = fresh; its_book = refl; its_number = refl; its_facts = refl; ran = refl }

-- one more call
pub met_more : (book : Book) (number : ℕ) (start : List Atom) (es : List Event) (s t : State) (e : Event) → Met book number start es s → Did s e t → Met book number start (es ++ e ∷ []) t
met_more book number start es s t e m d = record { first = m.first; fresh = m.fresh; its_book = m.its_book; its_number = m.its_number; its_facts = m.its_facts; ran = ran_more es (e ∷ []) m.first s t m.ran (t, d, refl) }

-- book and number are the same
abbrev pub Same : State → State → Type 0
Same s t = (t.book ≡ s.book) × (t.number ≡ s.number)

becomes : (s t x : State) → Same s x → t ≡ x → Same s t
becomes s t x h e = subst (Same s) (sym e) h

-- no call changes them, wherever the checker stands
pub did_same : (s t : State) (e : Event) → Did s e t → Same s t
did_same s t (Lodge w (Ok Already)) h = becomes s t s (refl, refl) h.3
did_same s t (Lodge w (Ok (At place))) h = becomes s t (with_fact s (raw_meant w)) (refl, refl) h.5
did_same s t (Lodge w (Err e)) h = becomes s t s (refl, refl) h.1
did_same s t (OpenDerivation q (Ok u)) h = becomes s t (opened s (Derivation q)) (refl, refl) h.3
did_same s t (OpenDerivation q (Err e)) h = becomes s t s (refl, refl) h.1
did_same s t (OpenModel q (Ok u)) h = becomes s t (opened s (Model q)) (refl, refl) h.3
did_same s t (OpenModel q (Err e)) h = becomes s t s (refl, refl) h.1
did_same s t (Step n k p (Ok Already)) h = becomes s t s (refl, refl) h.6
did_same s t (Step n k p (Ok (At x))) h = becomes s t (with_atom s h.1 h.2) (refl, refl) h.8
did_same s t (Step n k p (Err e)) h = becomes s t s (refl, refl) h.1
did_same s t (Add n w (Ok Already)) h = becomes s t s (refl, refl) h.4
did_same s t (Add n w (Ok (At x))) h = becomes s t (with_atom s (raw_meant w) s.nulls) (refl, refl) h.6
did_same s t (Add n w (Err e)) h = becomes s t s (refl, refl) h.1
did_same s t (Claim n p (Ok v)) h = becomes s t (closed s) (refl, refl) h.6
did_same s t (Claim n p (Err e)) h = becomes s t s (refl, refl) h.1
did_same s t (Clash n c p (Ok v)) h = becomes s t (closed s) (refl, refl) h.6
did_same s t (Clash n c p (Err e)) h = becomes s t s (refl, refl) h.1
did_same s t (Refute n (Ok v)) h = becomes s t (closed s) (refl, refl) h.7
did_same s t (Refute n (Err e)) h = becomes s t s (refl, refl) h.1
did_same s t (StrikeDerivation n (Ok u)) h = becomes s t (closed s) (refl, refl) h.1
did_same s t (StrikeDerivation n (Err e)) h = becomes s t s (refl, refl) h.2
did_same s t (StrikeModel n (Ok u)) h = becomes s t (closed s) (refl, refl) h.1
did_same s t (StrikeModel n (Err e)) h = becomes s t s (refl, refl) h.2
did_same s t NoSlip h = becomes s t s (refl, refl) h

pub ran_same : (es : List Event) (s t : State) → Ran s es t → Same s t
ran_same [] s t r = becomes s t s (refl, refl) r
ran_same (e ∷ es) s t r =
    let one = did_same s r.0 e r.1 in
    let rest = ran_same es r.0 t r.2 in
    (rest.0 ∙ one.0, rest.1 ∙ one.1)
