-- Each verdict is true of the facts held when it was given.
use Rattle.std.proofs.Common.{◌≡◌, ℕ, List, [], ◌∷◌, ◌++◌, Some, None, Ok, Err, Result, sym, refl, ap, ◌∙◌, subst}
use Rattle.std.specs.List.{slice_get}
use Rattle.semantics.specs.Subject.{Atom, Binding, Pattern, Rule, Candidate, Model, HasMatch, Obeys, On, Fits}
use Rattle.semantics.specs.Computed.{guard, nothing, fit}
use Rattle.semantics.proofs.Fitting.{then_some, some_is, none_some, fit_sound}
use Rattle.semantics.proofs.Guarding.{guards}
use Rattle.chase.specs.Chase as chase
use Rattle.chase.specs.Chase.{PlainAll, Kept, guard_of, missing, claim, accepted, start}
use Rattle.chase.specs.Firing.{Fires}
use Rattle.chase.specs.Satisfying.{Satisfied}
use Rattle.chase.proofs.Claims.{entailed}
use Rattle.chase.proofs.Image.{on_match}
use Rattle.chase.proofs.Numbers.{subject_every}
use Rattle.chase.proofs.Laws.{claims_exact}
use Rattle.chase.proofs.Piles.{every_map, guard_exact}
use Rattle.chase.proofs.Refutes.{refutes}
use Rattle.chase.proofs.Searches.{found_complete}
use Rattle.book.specs.Theory.{rules_of, constraints_of, queries_of}
use Rattle.book.specs.declared.book.Book.{Book}
use Rattle.refusals.specs.declared.refusal.Refusal.{Refusal}
use Rattle.calls.specs.Named.{Places, named}
use Rattle.calls.specs.declared.answer.Verdict.{Verdict}
use Rattle.calls.specs.declared.answer.Check.TheVariants as check
use Rattle.calls.specs.declared.event.Event.{Event}
use Rattle.calls.specs.declared.event.Event.TheVariants.{Lodge, OpenDerivation, OpenModel, Step, Add, Claim, Clash, Refute, StrikeDerivation, StrikeModel, NoSlip}
use Rattle.protocol.specs.States.{State}
use Rattle.protocol.specs.Calls.{Shown, Claimed, Clashed, Refuted}
use Rattle.protocol.specs.Runs.{Did, Met, held}
use Rattle.protocol.specs.ChaseOf.{chase_of}
use Rattle.protocol.specs.Law.{Truth, verdict_in, gives}
use Rattle.protocol.proofs.Plain.{chases_run}
use Rattle.protocol.proofs.Theories.{plain_rules, plain_queries, plain_constraints, guarded_rules}
use Rattle.protocol.proofs.Keeping.{Worth, Keeps, worth_of, kept_met, met_before}

-- where the guard fits and the rest of the body stands there, the rule may be used
fires : (pile : List Atom) (r : Rule) (g : Pattern) (k : ℕ) (a : Atom) (b : Binding) → guard_of r ≡ Some g → slice_get pile k ≡ Some a → fit nothing g a ≡ Some b → missing pile b r.body ≡ None → Fires pile r k b
fires pile r g k a b e there f m =
    let h = then_some (guard r.body) (slice_get r.body) g e in
    let q = guards r.body h.0 h.1 in
    record {
      index = h.0;
      guards = q;
      at = a;
      there = there;
      fits = subst (λ (p : Pattern). Fits b p a) (some_is (sym h.2 ∙ q.there)) (fit_sound nothing g a b f).gives;
      matches = on_match pile b r.body (guard_exact r g a b e f) m;
    }

-- so a rule that is satisfied passes the test of refute
satisfied_kept : (pile : List Atom) (r : Rule) → Satisfied pile r → Kept pile r
satisfied_kept pile r s g k a b e there f m =
    let h = s k b (fires pile r g k a b e there f m) in
    found_complete pile b h.2.0 (r.head ∷ []) h.2.1 ((h.0, h.2.2, h.1), tt)

-- what one derivation shows
module _ (m : Candidate) (s : State) (q : ℕ) (worth : Worth s (Some (check.Derivation q))) where
  -- patterns that were shown on its pile have a match in every model
  shown_match : (ps : List Pattern) (p : Places) → PlainAll ps → Shown s.pile ps p → Model m s.facts (rules_of s.book) → HasMatch m ps
  shown_match ps p plain shown model =
      let rules = rules_of s.book in
      let xs = worth.2.0 in
      let e = chases_run rules (start s.facts) (chase_of s) xs worth.2.1 in
      let c = (claims_exact s.pile ps (named p)).1 shown.1.0 shown.1.1 in
      entailed m s.facts rules xs ps (named p) c.0 worth.1 (plain_rules s.book) plain
      (subst (λ (x : chase.State). claim x.pile ps (named p) ≡ accepted c.0) e c.1) model

-- a truth of the state is one of the book and of the facts that it has
truth_moved : (m : Candidate) (book : Book) (number : ℕ) (facts : List Atom) (s : State) (v : Verdict) → Keeps book number facts s → Truth m s.book s.facts v → Truth m book facts v
truth_moved m book number facts s v k t = subst (λ (b : Book). Truth m b facts v) k.its_book (subst (λ (l : List Atom). Truth m s.book l v) k.its_facts t)

module _ (m : Candidate) (book : Book) (number : ℕ) (facts : List Atom) (s t : State) (keeps : Keeps book number facts s) where
  claim_kept : (n : ℕ) (p : Places) (v : Verdict) → Claimed s n p (Ok v) t → Truth m book facts v
  claim_kept n p v h =
      let w = worth_of s (Some (check.Derivation h.0)) h.2.0 keeps.worth in
      let plain = subject_every PlainAll (queries_of s.book) h.0 h.1 (plain_queries s.book) h.3 in
      truth_moved m book number facts s v keeps
      (subst (Truth m s.book s.facts) (sym h.5) (λ model. (h.1, h.3, shown_match m s h.0 w h.1 p plain h.4 model)))

  clash_kept : (n c : ℕ) (p : Places) (v : Verdict) → Clashed s n c p (Ok v) t → Truth m book facts v
  clash_kept n c p v h =
      let w = worth_of s (Some (check.Derivation h.0)) h.2.0 keeps.worth in
      let plain = subject_every PlainAll (constraints_of s.book) c h.1 (plain_constraints s.book) h.3 in
      truth_moved m book number facts s v keeps
      (subst (Truth m s.book s.facts) (sym h.5) (λ model.
      let found = shown_match m s h.0 w h.1 p plain h.4 model in
      ((h.1, h.3, found), λ obeys. subject_every (Obeys m) (constraints_of s.book) c h.1 obeys h.3 found)))

-- a claim that was accepted is true of the facts held
pub claim_true : (m : Candidate) (book : Book) (number : ℕ) (start : List Atom) (es : List Event) (s t : State) (n : ℕ) (p : Places) (v : Verdict) → Met book number start es s → Claimed s n p (Ok v) t → Truth m book (held start es) v
claim_true m book number start es s t n p v met h = claim_kept m book number (held start es) s t (kept_met book number start es s met) n p v h

-- and so is a clash
pub clash_true : (m : Candidate) (book : Book) (number : ℕ) (start : List Atom) (es : List Event) (s t : State) (n c : ℕ) (p : Places) (v : Verdict) → Met book number start es s → Clashed s n c p (Ok v) t → Truth m book (held start es) v
clash_true m book number start es s t n c p v met h = clash_kept m book number (held start es) s t (kept_met book number start es s met) n c p v h

-- a pile that begins with the facts and refutes the query is the model that is promised
pub refute_true : (m : Candidate) (s t : State) (own : List Atom) (n : ℕ) (v : Verdict) → s.pile ≡ s.facts ++ own → Refuted s n (Ok v) t → Truth m s.book s.facts v
refute_true m s t own n v e h =
    let rules = rules_of s.book in
    let constraints = constraints_of s.book in
    let ref : chase.Refuted s.pile rules constraints h.1 = record {
      rules_kept = every_map (Satisfied s.pile) (Kept s.pile) rules (satisfied_kept s.pile) h.5.satisfied;
      quiet = h.5.obeyed;
      unmatched = h.5.unmatched;
    } in
    let whole = refutes s.facts own rules constraints h.1 (guarded_rules s.book) (subst (λ (l : List Atom). chase.Refuted l rules constraints h.1) e ref) in
    let model = subst (λ (l : List Atom). Model (On l) s.facts rules) (sym e) whole.0 in
    subst (Truth m s.book s.facts) (sym h.6) (s.pile, refl, model, h.5.obeyed, (h.1, h.3, h.5.unmatched))

-- the verdict in an answer is the one that was given
verdict_is : (r : Result Verdict Refusal) (v : Verdict) → verdict_in r ≡ Some v → r ≡ Ok v
verdict_is (Ok w) v e = ap Ok (some_is e)
verdict_is (Err x) v e = absurd (none_some e)

refute_kept : (m : Candidate) (book : Book) (number : ℕ) (facts : List Atom) (s t : State) (n : ℕ) (v : Verdict) → Keeps book number facts s → Refuted s n (Ok v) t → Truth m book facts v
refute_kept m book number facts s t n v keeps h =
    let w = worth_of s (Some (check.Model h.0)) h.2.0 keeps.worth in
    truth_moved m book number facts s v keeps (refute_true m s t w.1.0 n v w.1.1 h)

-- the verdict that a call gave is true of the facts held
given_true : (m : Candidate) (book : Book) (number : ℕ) (facts : List Atom) (s t : State) (e : Event) (v : Verdict) → Keeps book number facts s → Did s e t → gives e ≡ Some v → Truth m book facts v
given_true m b n f s t (Claim x p r) v k d g = claim_kept m b n f s t k x p v (subst (λ (a : Result Verdict Refusal). Claimed s x p a t) (verdict_is r v g) d)
given_true m b n f s t (Clash x c p r) v k d g = clash_kept m b n f s t k x c p v (subst (λ (a : Result Verdict Refusal). Clashed s x c p a t) (verdict_is r v g) d)
given_true m b n f s t (Refute x r) v k d g = refute_kept m b n f s t x v k (subst (λ (a : Result Verdict Refusal). Refuted s x a t) (verdict_is r v g) d)
given_true m b n f s t (Lodge w r) v k d g = absurd (none_some g)
given_true m b n f s t (OpenDerivation q r) v k d g = absurd (none_some g)
given_true m b n f s t (OpenModel q r) v k d g = absurd (none_some g)
given_true m b n f s t (Step x y p r) v k d g = absurd (none_some g)
given_true m b n f s t (Add x w r) v k d g = absurd (none_some g)
given_true m b n f s t (StrikeDerivation x r) v k d g = absurd (none_some g)
given_true m b n f s t (StrikeModel x r) v k d g = absurd (none_some g)
given_true m b n f s t NoSlip v k d g = absurd (none_some g)

-- each verdict is true of the facts held when it was given
pub verdicts : (m : Candidate) (book : Book) (number : ℕ) (start : List Atom) (es : List Event) (s : State) → Met book number start es s → (before after : List Event) (e : Event) (v : Verdict) → es ≡ before ++ e ∷ after → gives e ≡ Some v → Truth m book (held start before) v
verdicts m book number start es s met before after e v is g =
    let h = met_before book number start es before (e ∷ after) s met is in
    given_true m book number (held start before) h.0 h.2.0 e v (kept_met book number start before h.0 h.1) h.2.1 g
