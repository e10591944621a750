-- The reading of each kind of line is the inverse of its writing.
use Rattle.std.proofs.Common.{◌≡◌, ℕ, ◌^◌, ◌<◌, ◌≤◌, false, cond, ◌&&◌, eqb, leb, List, [], ◌∷◌, ◌++◌, map, length, get_or, drop, Some, None, decimal, Option, option_and_then, sym, refl, ap, ◌∙◌, subst, append-nil, arith}
use Rattle.std.proofs.lemmas.Option.{none-some, cond_some}
use Rattle.std.specs.List.{flat_map, AllByRecursion}
use Rattle.std.specs.Option.{option_map}
use Rattle.std.proofs.lemmas.List.{append_assoc, length-map}
use Rattle.std.proofs.lemmas.Bool.{cond-true, cond-false, cond_both, le-leb, leb-true, eqb-true, and_from, and_parts}
use Rattle.reading.specs.declared.raw.RawTerm.{RawTerm}
use Rattle.reading.specs.declared.raw.RawTerm.TheVariants as raw
use Rattle.words.specs.Words.{term_text}
use Rattle.words.proofs.Inverse.{Inverse}
use Rattle.lines.specs.Atoms.{Said, atom_text, SmallTerm, GoodAtom}
use Rattle.lines.specs.Sentences.{Spoken, list_text, spoken_text, GoodSpoken, spoken_of}
use Rattle.lines.proofs.Speech.{spoken_inverse}
use Rattle.kinds.specs.Kinds.{Ruled, rule_text, GoodList, GoodRule, numbers_text, Asked, open_derivation, open_model, step, add, lodge, claim, clash, refute, strike, asked_text, SmallNumber, GoodAsked, sole_of, few_of, plain_of, rule_from, if_bare, barely, numbers_of, numbered_of, fact_of, list_of, rule_of, no_terms, arity_of, asked_with, asked_of}

-- one reading after another
chain : {X Y : Type 0} (GoodY : Y → Type 0) (textY : Y → List ℕ) (read_y : List ℕ → Option Y) → Inverse GoodY textY read_y → (Good : X → Type 0) (text : X → List ℕ) (pick : Y → Option X) (embed : X → Y) → ((x : X) → text x ≡ textY (embed x)) → ((y : Y) (x : X) → GoodY y → pick y ≡ Some x → Good x × (embed x ≡ y)) → ((x : X) → Good x → GoodY (embed x) × (pick (embed x) ≡ Some x)) → Inverse Good text (λ bs. option_and_then pick (read_y bs))
chain {X} {Y} GoodY textY read_y v Good text pick embed same picks embeds = record {
  sound = λ bs x e. cases bs x (read_y bs) refl e;
  complete = λ x g. ap (λ l. option_and_then pick (read_y l)) (same x) ∙ ap (option_and_then pick) (v.complete (embed x) (embeds x g).0) ∙ (embeds x g).1;
}
  where
    cases : (bs : List ℕ) (x : X) (o : Option Y) → read_y bs ≡ o → option_and_then pick o ≡ Some x → Good x × (text x ≡ bs)
    cases bs x None k h = absurd (none-some x h)
    cases bs x (Some y) k h =
        let w = v.sound bs y k in
        let p = picks y x w.0 h in
        (p.0, same x ∙ ap textY p.1 ∙ w.1)

-- facts

abbrev as_fact : Said → Spoken
as_fact a = record { body = a ∷ []; head = None }

abbrev as_list : List Said → Spoken
as_list l = record { body = l; head = None }

abbrev as_rule : Ruled → Spoken
as_rule r = record { body = r.body; head = Some r.head }

abbrev as_arity : ℕ → Said
as_arity n = record { predicate = n; terms = [] }

fact_picks : (body : List Said) (h : Option Said) (a : Said) → GoodSpoken (record { body = body; head = h }) → sole_of (record { body = body; head = h }) ≡ Some a → GoodAtom a × (as_fact a ≡ record { body = body; head = h })
fact_picks body (Some x) a g e = absurd (none-some a e)
fact_picks [] None a g e = absurd (none-some a e)
fact_picks (b ∷ []) None a g e = let p : b ≡ a = cc in (subst GoodAtom p g.body.0, ap as_fact (sym p))
fact_picks (b ∷ x ∷ more) None a g e = absurd (none-some a e)

pub fact_inverse : Inverse GoodAtom atom_text fact_of
fact_inverse = chain GoodSpoken spoken_text spoken_of spoken_inverse GoodAtom atom_text sole_of as_fact
    (λ a. sym (append-nil _ ∙ append-nil _))
    (λ s a g e. fact_picks s.body s.head a g e)
    (λ a g. (record { some = omega arith; body = (g, tt); head = tt }, refl))

-- lists and rules

record Few (xs l : List Said) : Type 0 where
  same : xs ≡ l
  some : 0 < length l
  few : length l ≤ 4

few_found : (xs l : List Said) → few_of xs ≡ Some l → Few xs l
few_found [] l e = absurd (none-some l e)
few_found (a ∷ []) l e = let p : a ∷ [] ≡ l = cc in subst (Few (a ∷ [])) p (record { same = refl; some = omega arith; few = omega arith })
few_found (a ∷ b ∷ []) l e = let p : a ∷ b ∷ [] ≡ l = cc in subst (Few (a ∷ b ∷ [])) p (record { same = refl; some = omega arith; few = omega arith })
few_found (a ∷ b ∷ c ∷ []) l e = let p : a ∷ b ∷ c ∷ [] ≡ l = cc in subst (Few (a ∷ b ∷ c ∷ [])) p (record { same = refl; some = omega arith; few = omega arith })
few_found (a ∷ b ∷ c ∷ d ∷ []) l e = let p : a ∷ b ∷ c ∷ d ∷ [] ≡ l = cc in subst (Few (a ∷ b ∷ c ∷ d ∷ [])) p (record { same = refl; some = omega arith; few = omega arith })
few_found (a ∷ b ∷ c ∷ d ∷ x ∷ more) l e = absurd (none-some l e)

few_kept : (l : List Said) → 0 < length l → length l ≤ 4 → few_of l ≡ Some l
few_kept [] h k = absurd (omega arith)
few_kept (a ∷ []) h k = refl
few_kept (a ∷ b ∷ []) h k = refl
few_kept (a ∷ b ∷ c ∷ []) h k = refl
few_kept (a ∷ b ∷ c ∷ d ∷ []) h k = refl
few_kept (a ∷ b ∷ c ∷ d ∷ x ∷ more) h k = absurd (omega arith)

list_picks : (body : List Said) (h : Option Said) (l : List Said) → GoodSpoken (record { body = body; head = h }) → plain_of (record { body = body; head = h }) ≡ Some l → GoodList l × (as_list l ≡ record { body = body; head = h })
list_picks body (Some x) l g e = absurd (none-some l e)
list_picks body None l g e =
    let p = few_found body l e in
    (record { some = p.some; few = p.few; atoms = subst (AllByRecursion GoodAtom) p.same g.body }, ap as_list (sym p.same))

pub list_inverse : Inverse GoodList list_text list_of
list_inverse = chain GoodSpoken spoken_text spoken_of spoken_inverse GoodList list_text plain_of as_list
    (λ l. sym (append-nil _))
    (λ s l g e. list_picks s.body s.head l g e)
    (λ l g. (record { some = g.some; body = g.atoms; head = tt }, few_kept l g.some g.few))

rule_some : (body : List Said) (x : Said) (r : Ruled) → AllByRecursion GoodAtom body → GoodAtom x → (o : Option (List Said)) → few_of body ≡ o → option_map (λ l. record { body = l; head = x }) o ≡ Some r → GoodRule r × (as_rule r ≡ record { body = body; head = Some x })
rule_some body x r g h None k e = absurd (none-some r e)
rule_some body x r g h (Some l) k e =
    let p = few_found body l k in
    let q : record { body = l; head = x } ≡ r = cc in
    (subst GoodRule q (record { body = record { some = p.some; few = p.few; atoms = subst (AllByRecursion GoodAtom) p.same g }; head = h }), ap as_rule (sym q) ∙ ap (λ l. record { body = l; head = Some x }) (sym p.same))

rule_picks : (body : List Said) (h : Option Said) (r : Ruled) → GoodSpoken (record { body = body; head = h }) → rule_from (record { body = body; head = h }) ≡ Some r → GoodRule r × (as_rule r ≡ record { body = body; head = h })
rule_picks body None r g e = absurd (none-some r e)
rule_picks body (Some x) r g e = rule_some body x r g.body g.head (few_of body) refl e

pub rule_inverse : Inverse GoodRule rule_text rule_of
rule_inverse = chain GoodSpoken spoken_text spoken_of spoken_inverse GoodRule rule_text rule_from as_rule
    (λ r. refl)
    (λ s r g e. rule_picks s.body s.head r g e)
    (λ r g. (record { some = g.body.some; body = g.body.atoms; head = g.head }, ap (option_map (λ l. record { body = l; head = r.head })) (few_kept r.body g.body.some g.body.few)))

-- arities

arity_picks : (p : ℕ) (ts : List RawTerm) (n : ℕ) → p < 10 ^ 7 → no_terms p ts ≡ Some n → SmallNumber n × (as_arity n ≡ record { predicate = p; terms = ts })
arity_picks p [] n g e = let q : p ≡ n = cc in (subst SmallNumber q g, ap as_arity (sym q))
arity_picks p (t ∷ ts) n g e = absurd (none-some n e)

pub arity_inverse : Inverse SmallNumber decimal arity_of
arity_inverse = chain GoodAtom atom_text fact_of fact_inverse SmallNumber decimal (λ a. no_terms a.predicate a.terms) as_arity
    (λ n. sym (append-nil _))
    (λ a n g e. arity_picks a.predicate a.terms n g.predicate e)
    (λ n g. (record { predicate = g; terms = tt; few = omega arith }, refl))

-- numbers

abbrev bare : ℕ → RawTerm
bare n = raw.Constant n

bare_text : (ns : List ℕ) → flat_map (λ t. 32 ∷ term_text t) (map bare ns) ≡ flat_map (λ n. 32 ∷ decimal n) ns
bare_text [] = refl
bare_text (n ∷ ns) = ap (λ l. (32 ∷ decimal n) ++ l) (bare_text ns)

bare_small : (ns : List ℕ) → AllByRecursion SmallNumber ns → AllByRecursion SmallTerm (map bare ns)
bare_small [] h = tt
bare_small (n ∷ ns) h = (h.0, bare_small ns h.1)

small_bare : (ns : List ℕ) → AllByRecursion SmallTerm (map bare ns) → AllByRecursion SmallNumber ns
small_bare [] h = tt
small_bare (n ∷ ns) h = (h.0, small_bare ns h.1)

bare_read : (ns acc : List ℕ) → barely acc (map bare ns) ≡ Some (acc ++ ns)
bare_read [] acc = ap Some (sym (append-nil acc))
bare_read (n ∷ ns) acc = bare_read ns (acc ++ n ∷ []) ∙ ap Some (append_assoc acc (n ∷ []) ns)

record Bare (acc : List ℕ) (ts : List RawTerm) (ns : List ℕ) : Type 0 where
  more : List ℕ
  all : ns ≡ acc ++ more
  terms : map bare more ≡ ts

bare_step : (t : RawTerm) (acc : List ℕ) (ts : List RawTerm) (ns : List ℕ) → ((acc ns : List ℕ) → barely acc ts ≡ Some ns → Bare acc ts ns) → if_bare (λ n. barely (acc ++ n ∷ []) ts) t ≡ Some ns → Bare acc (t ∷ ts) ns
bare_step (raw.Constant n) acc ts ns rest e =
    let r = rest (acc ++ n ∷ []) ns e in
    record { more = n ∷ r.more; all = r.all ∙ append_assoc acc (n ∷ []) r.more; terms = ap (λ l. bare n ∷ l) r.terms }
bare_step (raw.Null n) acc ts ns rest e = absurd (none-some ns e)
bare_step (raw.Variable n) acc ts ns rest e = absurd (none-some ns e)

bare_written : (ts : List RawTerm) (acc ns : List ℕ) → barely acc ts ≡ Some ns → Bare acc ts ns
bare_written [] acc ns e = record { more = []; all = (let p : acc ≡ ns = cc in sym p ∙ sym (append-nil acc)); terms = refl }
bare_written (t ∷ ts) acc ns e = bare_step t acc ts ns (bare_written ts) e

-- one to five numbers
record GoodNumbers (ns : List ℕ) : Type 0 where
  some : 0 < length ns
  few : length ns ≤ 5
  small : AllByRecursion SmallNumber ns

numbers_written : (a : Said) (ns : List ℕ) → GoodAtom a → numbers_of a ≡ Some ns → GoodNumbers ns × (numbers_text ns ≡ atom_text a)
numbers_written a ns g e =
    let b = bare_written a.terms (a.predicate ∷ []) ns e in
    let l : length b.more ≤ 4 = omega (arith, length-map b.more bare, ap length b.terms, g.few) in
    let t : AllByRecursion SmallNumber b.more = small_bare b.more (subst (AllByRecursion SmallTerm) (sym b.terms) g.terms) in
    (subst GoodNumbers (sym b.all) (record { some = omega arith; few = omega arith; small = (g.predicate, t) }), ap numbers_text b.all ∙ ap (λ l. decimal a.predicate ++ l) (sym (bare_text b.more) ∙ ap (flat_map (λ t. 32 ∷ term_text t)) b.terms))

numbers_read : (n : ℕ) (ns : List ℕ) → SmallNumber n → AllByRecursion SmallNumber ns → length ns ≤ 4 → fact_of (numbers_text (n ∷ ns)) ≡ Some (record { predicate = n; terms = map bare ns })
numbers_read n ns h hs l =
    ap (λ x. fact_of (decimal n ++ x)) (sym (bare_text ns))
    ∙ fact_inverse.complete (record { predicate = n; terms = map bare ns }) (record { predicate = h; terms = bare_small ns hs; few = omega (arith, length-map ns bare) })

-- a letter with numbers
lettered : (l n : ℕ) (ns : List ℕ) → eqb l 65 ≡ false → eqb l 76 ≡ false → SmallNumber n → AllByRecursion SmallNumber ns → length ns ≤ 4 → asked_of (l ∷ 32 ∷ numbers_text (n ∷ ns)) ≡ numbered_of l (n ∷ ns)
lettered l n ns na nl h hs k =
    ap (option_and_then (asked_with l)) (numbers_read n ns h hs k)
    ∙ cond-false (eqb l 65) _ _ na ∙ cond-false (eqb l 76) _ _ nl
    ∙ ap (option_and_then (numbered_of l)) (bare_read ns (n ∷ []))

-- calls

call_complete : (k : Asked) → GoodAsked k → asked_of (asked_text k) ≡ Some k
call_complete (open_derivation q) g = lettered 79 q [] refl refl g tt (omega arith)
call_complete (open_model q) g = lettered 77 q [] refl refl g tt (omega arith)
call_complete (step r p) g = lettered 83 r (p ∷ []) refl refl g.0 (g.1, tt) (omega arith)
call_complete (add a) g = ap (option_and_then (asked_with 65)) (fact_inverse.complete a g)
call_complete (lodge a) g = ap (option_and_then (asked_with 76)) (fact_inverse.complete a g)
call_complete (claim []) g = absurd (omega (arith, g.some))
call_complete (claim (p ∷ ps)) g = lettered 67 p ps refl refl g.small.0 g.small.1 (omega (arith, g.few)) ∙ cond-true (leb (length (p ∷ ps)) 4) _ _ (le-leb _ _ g.few)
call_complete (clash k []) g = absurd (omega (arith, g.1.some))
call_complete (clash k (p ∷ ps)) g = lettered 88 k (p ∷ ps) refl refl g.0 g.1.small g.1.few ∙ cond-true (leb 2 (length (k ∷ p ∷ ps)) && leb (length (k ∷ p ∷ ps)) 5) _ _ (and_from _ _ (le-leb 2 (length (k ∷ p ∷ ps)) (omega arith)) (le-leb (length (k ∷ p ∷ ps)) 5 (omega (arith, g.1.few))))
call_complete refute g = refl
call_complete strike g = refl

abbrev Written : Asked → List ℕ → Type 0
Written k bs = GoodAsked k × (asked_text k ≡ bs)

-- a letter's case
case : (l x : ℕ) (o rest : Option Asked) (k : Asked) (bs : List ℕ) → (o ≡ Some k → Written k (x ∷ bs)) → (rest ≡ Some k → Written k (l ∷ bs)) → cond (eqb l x) o rest ≡ Some k → Written k (l ∷ bs)
case l x o rest k bs here there e =
    cond_both (eqb l x) o rest (λ z. z ≡ Some k → Written k (l ∷ bs))
    (λ t h. subst (λ y. Written k (y ∷ bs)) (sym (eqb-true l x t)) (here h)) (λ _ h. there h) e

one_number : (ns : List ℕ) → length ns ≡ 1 → ns ≡ get_or ns 0 0 ∷ []
one_number [] h = absurd (omega arith)
one_number (n ∷ []) h = refl
one_number (n ∷ m ∷ ns) h = absurd (omega arith)

two_numbers : (ns : List ℕ) → length ns ≡ 2 → ns ≡ get_or ns 0 0 ∷ get_or ns 1 0 ∷ []
two_numbers [] h = absurd (omega arith)
two_numbers (n ∷ []) h = absurd (omega arith)
two_numbers (n ∷ m ∷ []) h = refl
two_numbers (n ∷ m ∷ x ∷ ns) h = absurd (omega arith)

-- one call of one number, by its constructor
one_call : (ns : List ℕ) (K : ℕ → Asked) (k : Asked) (x : ℕ) → ((n : ℕ) → SmallNumber n → Written (K n) (x ∷ 32 ∷ numbers_text (n ∷ []))) → GoodNumbers ns → cond (eqb (length ns) 1) (Some (K (get_or ns 0 0))) None ≡ Some k → Written k (x ∷ 32 ∷ numbers_text ns)
one_call ns K k x w g e =
    let p = cond_some (eqb (length ns) 1) (K (get_or ns 0 0)) k e in
    let q = one_number ns (eqb-true _ _ p.0) in
    let s : AllByRecursion SmallNumber (get_or ns 0 0 ∷ []) = subst (AllByRecursion SmallNumber) q g.small in
    subst (λ z. Written z (x ∷ 32 ∷ numbers_text ns)) p.1 (subst (λ z. Written (K (get_or ns 0 0)) (x ∷ 32 ∷ numbers_text z)) (sym q) (w (get_or ns 0 0) s.0))

step_call : (ns : List ℕ) (k : Asked) → GoodNumbers ns → cond (eqb (length ns) 2) (Some (step (get_or ns 0 0) (get_or ns 1 0))) None ≡ Some k → Written k (83 ∷ 32 ∷ numbers_text ns)
step_call ns k g e =
    let p = cond_some (eqb (length ns) 2) (step (get_or ns 0 0) (get_or ns 1 0)) k e in
    let q = two_numbers ns (eqb-true _ _ p.0) in
    let s : AllByRecursion SmallNumber (get_or ns 0 0 ∷ get_or ns 1 0 ∷ []) = subst (AllByRecursion SmallNumber) q g.small in
    subst (λ z. Written z (83 ∷ 32 ∷ numbers_text ns)) p.1 ((s.0, s.1.0), ap (λ z. 83 ∷ 32 ∷ numbers_text z) (sym q))

claim_call : (ns : List ℕ) (k : Asked) → GoodNumbers ns → cond (leb (length ns) 4) (Some (claim ns)) None ≡ Some k → Written k (67 ∷ 32 ∷ numbers_text ns)
claim_call ns k g e =
    let p = cond_some (leb (length ns) 4) (claim ns) k e in
    subst (λ z. Written z (67 ∷ 32 ∷ numbers_text ns)) p.1 (record { some = g.some; few = leb-true _ _ p.0; small = g.small }, refl)

clash_call : (ns : List ℕ) (k : Asked) → GoodNumbers ns → cond (leb 2 (length ns) && leb (length ns) 5) (Some (clash (get_or ns 0 0) (drop 1 ns))) None ≡ Some k → Written k (88 ∷ 32 ∷ numbers_text ns)
clash_call [] k g e = absurd (omega (arith, g.some))
clash_call (n ∷ ns) k g e =
    let p = cond_some (leb 2 (length (n ∷ ns)) && leb (length (n ∷ ns)) 5) (clash n ns) k e in
    let q = and_parts (leb 2 (length (n ∷ ns))) (leb (length (n ∷ ns)) 5) p.0 in
    subst (λ z. Written z (88 ∷ 32 ∷ numbers_text (n ∷ ns))) p.1 ((g.small.0, record { some = omega (arith, leb-true 2 (length (n ∷ ns)) q.0); few = omega (arith, g.few); small = g.small.1 }), refl)

numbered_written : (l : ℕ) (ns : List ℕ) (k : Asked) → GoodNumbers ns → numbered_of l ns ≡ Some k → Written k (l ∷ 32 ∷ numbers_text ns)
numbered_written l ns k g =
    case l 79 _ _ k (32 ∷ numbers_text ns) (one_call ns open_derivation k 79 (λ n h. (h, refl)) g)
    (case l 77 _ _ k (32 ∷ numbers_text ns) (one_call ns open_model k 77 (λ n h. (h, refl)) g)
    (case l 83 _ _ k (32 ∷ numbers_text ns) (step_call ns k g)
    (case l 67 _ _ k (32 ∷ numbers_text ns) (claim_call ns k g)
    (case l 88 _ _ k (32 ∷ numbers_text ns) (clash_call ns k g) (λ e. absurd (none-some k e))))))

with_written : (l : ℕ) (a : Said) (k : Asked) → GoodAtom a → asked_with l a ≡ Some k → Written k (l ∷ 32 ∷ atom_text a)
with_written l a k g =
    case l 65 _ _ k (32 ∷ atom_text a) (λ e. (let p : add a ≡ k = cc in subst (λ z. Written z (65 ∷ 32 ∷ atom_text a)) p (g, refl)))
    (case l 76 _ _ k (32 ∷ atom_text a) (λ e. (let p : lodge a ≡ k = cc in subst (λ z. Written z (76 ∷ 32 ∷ atom_text a)) p (g, refl)))
    (numbered (numbers_of a) refl))
  where
    numbered : (o : Option (List ℕ)) → numbers_of a ≡ o → option_and_then (numbered_of l) o ≡ Some k → Written k (l ∷ 32 ∷ atom_text a)
    numbered None q e = absurd (none-some k e)
    numbered (Some ns) q e = let w = numbers_written a ns g q in subst (λ z. Written k (l ∷ 32 ∷ z)) w.1 (numbered_written l ns k w.0 e)

call_sound : (bs : List ℕ) (k : Asked) → asked_of bs ≡ Some k → Written k bs
call_sound [] k e = absurd (none-some k e)
call_sound (l ∷ []) k e =
    case l 82 _ _ k [] (λ h. (let p : refute ≡ k = cc in subst (λ z. Written z (82 ∷ [])) p (tt, refl)))
    (case l 75 _ _ k [] (λ h. (let p : strike ≡ k = cc in subst (λ z. Written z (75 ∷ [])) p (tt, refl))) (λ h. absurd (none-some k h))) e
call_sound (l ∷ s ∷ rest) k e =
    cond_both (eqb s 32) (option_and_then (asked_with l) (fact_of rest)) None (λ z. z ≡ Some k → Written k (l ∷ s ∷ rest))
    (λ t h. subst (λ y. Written k (l ∷ y ∷ rest)) (sym (eqb-true s 32 t)) (found (fact_of rest) refl h)) (λ _ h. absurd (none-some k h)) e
  where
    found : (o : Option Said) → fact_of rest ≡ o → option_and_then (asked_with l) o ≡ Some k → Written k (l ∷ 32 ∷ rest)
    found None q h = absurd (none-some k h)
    found (Some a) q h = let w = fact_inverse.sound rest a q in subst (λ z. Written k (l ∷ 32 ∷ z)) w.1 (with_written l a k w.0 h)

pub call_inverse : Inverse GoodAsked asked_text asked_of
call_inverse = record { sound = call_sound; complete = call_complete }
