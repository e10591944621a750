-- The law over runs: what a list of calls with their answers promises, whatever the calls are.
use Rattle.std.specs.Prelude.{◌≡◌, ℕ, suc, ◌≤◌, Bool, true, false, ◌⊎◌, List, [], ◌∷◌, ◌++◌, length, is_ok, Some, None, Ok, Err, Option, Result, ◌==◌, ◌≢◌}
use Rattle.std.specs.List.{AllByRecursion}
use Rattle.semantics.specs.Subject.{Atom, Binding, Pattern, Rule, Candidate, Model, HasMatch, Obeys, On, numbered}
use Rattle.chase.specs.Chase.{State, start}
use Rattle.chase.specs.Firing.{Fires}
use Rattle.steps.specs.Judged.{Bears}
use Rattle.reading.specs.declared.raw.RawAtom.{RawAtom}
use Rattle.refusals.specs.declared.refusal.Refusal.{Refusal}
use Rattle.book.specs.Theory.{rules_of, constraints_of, queries_of}
use Rattle.book.specs.declared.book.Book.{Book}
use Rattle.calls.specs.Named.{Places}
use Rattle.shelves.specs.declared.taken.Taken.{Taken}
use Rattle.shelves.specs.declared.taken.Taken.TheVariants.{Already, At}
use Rattle.calls.specs.declared.answer.Verdict.{Verdict}
use Rattle.calls.specs.declared.answer.Verdict.TheVariants.{Entailed, Inconsistent, NotEntailed}
use Rattle.calls.specs.declared.event.Event.{Event}
use Rattle.calls.specs.declared.event.Event.TheVariants.{Lodge, OpenDerivation, OpenModel, Step, Add, Claim, Clash, Refute, StrikeDerivation, StrikeModel, NoSlip}
use Rattle.protocol.specs.Calls.{Shown}
use Rattle.protocol.specs.Runs.{held}

-- an entry of that number is there, and P holds of it
abbrev pub Entry : List (List Pattern) → ℕ → (List Pattern → Type 0) → Type 0
Entry xs n P = (ps : List Pattern) × (numbered xs n ≡ Some ps) × P ps

-- what a verdict says of the candidate m, where these facts are held
abbrev pub Truth : Candidate → Book → List Atom → Verdict → Type 0
-- in every model of the facts and the rules the query has a match
Truth m book facts (Entailed q added nulls) = Model m facts (rules_of book) → Entry (queries_of book) q (HasMatch m)
-- no model of them obeys every constraint: the one that is named has a match in each
Truth m book facts (Inconsistent c added nulls) = Model m facts (rules_of book) → Entry (constraints_of book) c (HasMatch m) × (AllByRecursion (Obeys m) (constraints_of book) → ⊥)
-- some model of them obeys every constraint and has no match of the query; a finite one is given
Truth m book facts (NotEntailed q size) = (atoms : List Atom) × (length atoms ≡ size) × Model (On atoms) facts (rules_of book) × AllByRecursion (Obeys (On atoms)) (constraints_of book) × Entry (queries_of book) q (Obeys (On atoms))

abbrev pub verdict_in : Result Verdict Refusal → Option Verdict
verdict_in (Ok v) = Some v
verdict_in (Err e) = None

-- the verdict that a call gave
abbrev pub gives : Event → Option Verdict
gives (Claim n p r) = verdict_in r
gives (Clash n c p r) = verdict_in r
gives (Refute n r) = verdict_in r
gives (Lodge w r) = None
gives (OpenDerivation q r) = None
gives (OpenModel q r) = None
gives (Step n k p r) = None
gives (Add n w r) = None
gives (StrikeDerivation n r) = None
gives (StrikeModel n r) = None
gives NoSlip = None

-- some fact was lodged: a lodging answered its place
pub record SomeLodged (es : List Event) : Type 0 where
  pub before : List Event
  pub after : List Event
  pub fact : RawAtom
  pub place : ℕ
  pub there : es ≡ before ++ Lodge fact (Ok (At place)) ∷ after

-- the plain chase

-- rule k may be used at the place in the chase s, and gives the atom a, with n nulls issued then
pub record Gives (rules : List Rule) (s : State) (k place : ℕ) (a : Atom) (n : ℕ) : Type 0 where
  pub rule : Rule
  pub named_rule : numbered rules k ≡ Some rule
  pub by : Binding
  pub fires : Fires s.pile rule place by
  pub bears : Bears by s.nulls rule.head a n

-- the step breaks the chase rule: there is no such rule, or it may not be used at the place
abbrev pub Breaks : List Rule → State → ℕ → ℕ → Type 0
Breaks rules s k place = (a : Atom) (n : ℕ) → Gives rules s k place a n → ⊥

-- the step overfills: its head is new while 256 were added or 1,000,000 are there
abbrev pub Overfills : List Rule → State → ℕ → ℕ → Type 0
Overfills rules s k place = (a : Atom) × (n : ℕ) × Gives rules s k place a n × (On s.pile a → ⊥) × ((256 ≤ s.added) ⊎ (1000000 ≤ length s.pile))

-- one step of the plain chase takes s to t
pub data Advances (rules : List Rule) (s : State) (k place : ℕ) (t : State) : Type 0 where
  breaks : Breaks rules s k place → t ≡ s → Advances rules s k place t
  overfills : Overfills rules s k place → t ≡ s → Advances rules s k place t
  stands : (a : Atom) (n : ℕ) → Gives rules s k place a n → On s.pile a → t ≡ s → Advances rules s k place t
  adds : (a : Atom) (n : ℕ) → Gives rules s k place a n → (On s.pile a → ⊥) → ((256 ≤ s.added) ⊎ (1000000 ≤ length s.pile) → ⊥) → t ≡ record { pile = s.pile ++ a ∷ []; added = suc s.added; nulls = n } → Advances rules s k place t

-- the steps, as rule and place, take the chase from s to t
abbrev pub Chases : List Rule → State → List (ℕ × ℕ) → State → Type 0
Chases rules s [] t = t ≡ s
Chases rules s (x ∷ xs) t = (m : State) × Advances rules s x.0 x.1 m × Chases rules m xs t

-- rule and place of a step under the number, before those that follow
abbrev pub fed_by : Bool → ℕ → ℕ → List (ℕ × ℕ) → List (ℕ × ℕ)
fed_by true k p xs = (k, p) ∷ xs
fed_by false k p xs = xs

-- what a check feeds to its chase: rule and place of each step whose slip bears the number
abbrev pub feeds : ℕ → List Event → List (ℕ × ℕ)
feeds number [] = []
feeds number (Step n k p r ∷ es) = fed_by (n == number) k p (feeds number es)
feeds number (Lodge w r ∷ es) = feeds number es
feeds number (OpenDerivation q r ∷ es) = feeds number es
feeds number (OpenModel q r ∷ es) = feeds number es
feeds number (Add n w r ∷ es) = feeds number es
feeds number (Claim n p r ∷ es) = feeds number es
feeds number (Clash n c p r ∷ es) = feeds number es
feeds number (Refute n r ∷ es) = feeds number es
feeds number (StrikeDerivation n r ∷ es) = feeds number es
feeds number (StrikeModel n r ∷ es) = feeds number es
feeds number (NoSlip ∷ es) = feeds number es

-- a call that ends the open derivation: an accepted claim or clash, or a strike that was not foreign
abbrev pub ends : Event → Bool
ends (Claim n p r) = is_ok r
ends (Clash n c p r) = is_ok r
ends (StrikeDerivation n r) = is_ok r
ends (Lodge w r) = false
ends (OpenDerivation q r) = false
ends (OpenModel q r) = false
ends (Step n k p r) = false
ends (Add n w r) = false
ends (Refute n r) = false
ends (StrikeModel n r) = false
ends NoSlip = false

-- the call e stands inside a check for a derivation of query q: the check was opened after the calls `before`, and none of the
-- calls `inside` ended it
pub record Within (es : List Event) (q : ℕ) (before inside : List Event) (e : Event) : Type 0 where
  pub after : List Event
  pub split : es ≡ before ++ OpenDerivation q (Ok tt) ∷ (inside ++ e ∷ after)
  pub not_ended : AllByRecursion (λ x. ends x ≡ false) inside

-- what an accepted step took in: its head stood there, or it is new and goes to the end
abbrev pub Takes : List Rule → State → ℕ → ℕ → Taken → Type 0
Takes rules s k place Already = (a : Atom) × (n : ℕ) × Gives rules s k place a n × On s.pile a
Takes rules s k place (At p) = (a : Atom) × (n : ℕ) × Gives rules s k place a n × (On s.pile a → ⊥) × (p ≡ length s.pile)

-- m is any candidate, and facts is what the shelf held when the checker was made of the book and the number
pub record Law (m : Candidate) (book : Book) (number : ℕ) (facts : List Atom) (es : List Event) : Type 0 where
  -- each verdict is true of the facts held when it was given
  pub verdicts : (before after : List Event) (e : Event) (v : Verdict) → es ≡ before ++ e ∷ after → gives e ≡ Some v → Truth m book (held facts before) v
  -- a query that was entailed is never found not entailed after
  pub never_after : (before between after : List Event) (e f : Event) (q added nulls size : ℕ) → es ≡ before ++ e ∷ (between ++ f ∷ after) → gives e ≡ Some (Entailed q added nulls) → gives f ≢ Some (NotEntailed q size)
  -- and where it was found not entailed before, a fact was lodged between
  pub lodged_between : (before between after : List Event) (e f : Event) (q added nulls size : ℕ) → es ≡ before ++ f ∷ (between ++ e ∷ after) → gives f ≡ Some (NotEntailed q size) → gives e ≡ Some (Entailed q added nulls) → SomeLodged between
  -- each check for a derivation has its plain chase, fed with the facts held at its opening and its steps under the checker's number
  pub chased : (q : ℕ) (before inside : List Event) (e : Event) → Within es q before inside e → (s : State) × Chases (rules_of book) (start (held facts before)) (feeds number inside) s
  -- such a step is refused exactly when it breaks the chase rule or overfills there, and else takes in what the chase takes in
  pub steps : (q : ℕ) (before inside : List Event) (k place : ℕ) (r : Result Taken Refusal) (s : State) → Within es q before inside (Step number k place r) → Chases (rules_of book) (start (held facts before)) (feeds number inside) s →
      (is_ok r ≡ false → Breaks (rules_of book) s k place ⊎ Overfills (rules_of book) s k place) × (Breaks (rules_of book) s k place ⊎ Overfills (rules_of book) s k place → is_ok r ≡ false) × ((t : Taken) → r ≡ Ok t → Takes (rules_of book) s k place t)
  -- such a claim gives no verdict but entailed with the query and the counts of the chase, only if it is true there, and if it is
  pub claims : (q : ℕ) (before inside : List Event) (p : Places) (r : Result Verdict Refusal) (s : State) → Within es q before inside (Claim number p r) → Chases (rules_of book) (start (held facts before)) (feeds number inside) s →
      ((v : Verdict) → r ≡ Ok v → (v ≡ Entailed q s.added s.nulls) × Entry (queries_of book) q (λ ps. Shown s.pile ps p)) × (Entry (queries_of book) q (λ ps. Shown s.pile ps p) → r ≡ Ok (Entailed q s.added s.nulls))

-- the truth of the verdicts once more, of all candidates that a test decides
abbrev pub TrueOfDecidable : Book → List Atom → List Event → Type 0
TrueOfDecidable book facts es = (m : Atom → Bool) (before after : List Event) (e : Event) (v : Verdict) → es ≡ before ++ e ∷ after → gives e ≡ Some v → Truth (λ a. m a ≡ true) book (held facts before) v
