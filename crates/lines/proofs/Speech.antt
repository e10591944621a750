-- Gathering is the inverse of writing.
use Rattle.std.proofs.Common.{◌≡◌, ℕ, suc, ◌+◌, ◌<◌, ◌≤◌, ltb, List, [], ◌∷◌, ◌++◌, length, Some, None, Option, option_and_then, sym, refl, ap, ◌∙◌, subst, append_assoc, append-nil, arith}
use Rattle.std.proofs.lemmas.Option.{none-some}
use Rattle.std.specs.List.{flat_map, AllByRecursion}
use Rattle.std.proofs.ByRecursion.{All-append, All-push, All-weaker}
use Rattle.std.proofs.lemmas.List.{length_push, flat_map_more, append_cancel_right}
use Rattle.std.proofs.lemmas.Bool.{cond-true, cond_both, lt-ltb, ltb-true}
use Rattle.reading.specs.declared.raw.RawTerm.{RawTerm}
use Rattle.reading.specs.declared.raw.RawTerm.TheVariants as raw
use Rattle.words.specs.declared.word.Mark.{Mark}
use Rattle.words.specs.declared.word.Mark.TheVariants.{Space, Comma, Semicolon, End}
use Rattle.words.specs.declared.word.Token.{Token}
use Rattle.words.specs.Words.{term_text, mark_byte, tokens_text, Small, tokens_of}
use Rattle.words.proofs.Inverse.{Inverse}
use Rattle.words.proofs.Scans.{tokens_append, tokens_written, tokens_read}
use Rattle.lines.specs.declared.part.Part.{Part}
use Rattle.lines.specs.declared.part.Part.TheVariants.{Body, Head}
use Rattle.lines.specs.Atoms.{Said, atom_text, SmallTerm, GoodAtom, begins, grown, opens, takes}
use Rattle.lines.specs.Sentences.{Spoken, list_text, spoken_text, GoodHead, GoodSpoken, by_mark, in_body, whole, gathers, gathered, spoken_of}

-- the words of each part, with the mark after the last

abbrev run : RawTerm → List RawTerm → Mark → List Token
run w [] m = record { term = w; mark = m } ∷ []
run w (v ∷ vs) m = record { term = w; mark = Space } ∷ run v vs m

abbrev bare : ℕ → RawTerm
bare p = raw.Constant p

abbrev atom_tokens : Said → Mark → List Token
atom_tokens a m = run (bare a.predicate) a.terms m

abbrev list_tokens : Said → List Said → Mark → List Token
list_tokens a [] m = atom_tokens a m
list_tokens a (b ∷ bs) m = atom_tokens a Comma ++ list_tokens b bs m

abbrev list_of : List Said → Mark → List Token
list_of [] m = []
list_of (a ∷ more) m = list_tokens a more m

abbrev closing : List Said → Option Said → List Token
closing body None = list_of body End
closing body (Some h) = list_of body Semicolon ++ atom_tokens h End

abbrev spoken_tokens : Spoken → List Token
spoken_tokens s = closing s.body s.head

-- their texts

run_text : (w : RawTerm) (ws : List RawTerm) (m : Mark) → tokens_text (run w ws m) ≡ (term_text w ++ flat_map (λ t. 32 ∷ term_text t) ws) ++ mark_byte m ∷ []
run_text w [] m = ap (λ l. l ++ mark_byte m ∷ []) (sym (append-nil (term_text w)))
run_text w (v ∷ vs) m = ap (λ l. term_text w ++ 32 ∷ l) (run_text v vs m) ∙ sym (append_assoc (term_text w) (32 ∷ (term_text v ++ flat_map (λ t. 32 ∷ term_text t) vs)) (mark_byte m ∷ []))

list_text_lem : (a : Said) (more : List Said) (m : Mark) → tokens_text (list_tokens a more m) ≡ list_text (a ∷ more) ++ mark_byte m ∷ []
list_text_lem a [] m = run_text (bare a.predicate) a.terms m ∙ ap (λ l. l ++ mark_byte m ∷ []) (sym (append-nil (atom_text a)))
list_text_lem a (b ∷ bs) m =
    tokens_append (atom_tokens a Comma) (list_tokens b bs m)
    ∙ ap (λ l. l ++ tokens_text (list_tokens b bs m)) (run_text (bare a.predicate) a.terms Comma)
    ∙ append_assoc (atom_text a) (44 ∷ []) _
    ∙ ap (λ l. atom_text a ++ 44 ∷ l) (list_text_lem b bs m)
    ∙ sym (append_assoc (atom_text a) (44 ∷ list_text (b ∷ bs)) (mark_byte m ∷ []))

spoken_text_lem : (a : Said) (more : List Said) (h : Option Said) → tokens_text (closing (a ∷ more) h) ≡ spoken_text (record { body = a ∷ more; head = h }) ++ 10 ∷ []
spoken_text_lem a more None = list_text_lem a more End ∙ ap (λ l. l ++ 10 ∷ []) (sym (append-nil (list_text (a ∷ more))))
spoken_text_lem a more (Some h) =
    tokens_append (list_tokens a more Semicolon) (atom_tokens h End)
    ∙ ap (λ l. l ++ tokens_text (atom_tokens h End)) (list_text_lem a more Semicolon)
    ∙ append_assoc (list_text (a ∷ more)) (59 ∷ []) _
    ∙ ap (λ l. list_text (a ∷ more) ++ 59 ∷ l) (run_text (bare h.predicate) h.terms End)
    ∙ sym (append_assoc (list_text (a ∷ more)) (59 ∷ atom_text h) (10 ∷ []))

-- what is written is gathered

-- what the mark after the atom a does
abbrev on_mark : List Said → Part → Said → List Token → Mark → Option Spoken
on_mark body part a ts m =
    by_mark
    (gathers body part (Some a) ts)
    (in_body part (gathers (body ++ a ∷ []) Body None ts))
    (in_body part (gathers (body ++ a ∷ []) Head None ts))
    (whole body part a ts)
    m

abbrev Few : Said → Type 0
Few a = length a.terms ≤ 4

words_read : (w : RawTerm) (ws : List RawTerm) (m : Mark) (rest : List Token) (body : List Said) (part : Part) (a : Said) → length a.terms + suc (length ws) ≤ 4 → gathers body part (Some a) (run w ws m ++ rest) ≡ on_mark body part (record { predicate = a.predicate; terms = a.terms ++ w ∷ ws }) rest m
words_read w [] m rest body part a h = ap (option_and_then (λ x. on_mark body part x rest m)) (cond-true (ltb (length a.terms) 4) (Some (grown a w)) None (lt-ltb _ _ (omega arith)))
words_read w (v ∷ vs) m rest body part a h =
    ap (option_and_then (λ x. on_mark body part x (run v vs m ++ rest) Space)) (cond-true (ltb (length a.terms) 4) (Some (grown a w)) None (lt-ltb _ _ (omega arith)))
    ∙ words_read v vs m rest body part (grown a w) (omega (arith, length_push a.terms w))
    ∙ ap (λ ts. on_mark body part (record { predicate = a.predicate; terms = ts }) rest m) (append_assoc a.terms (w ∷ []) (v ∷ vs))

atom_read' : (p : ℕ) (ts : List RawTerm) (m : Mark) (rest : List Token) (body : List Said) (part : Part) → length ts ≤ 4 → gathers body part None (run (bare p) ts m ++ rest) ≡ on_mark body part (record { predicate = p; terms = ts }) rest m
atom_read' p [] m rest body part h = refl
atom_read' p (t ∷ ts) m rest body part h = words_read t ts m rest body part (begins p) (omega arith)

atom_read : (a : Said) (m : Mark) (rest : List Token) (body : List Said) (part : Part) → Few a → gathers body part None (atom_tokens a m ++ rest) ≡ on_mark body part a rest m
atom_read a m rest body part h = atom_read' a.predicate a.terms m rest body part h

list_read : (m : Mark) (rest : List Token) (K : List Said → Option Spoken) → ((body : List Said) (a : Said) → on_mark body Body a rest m ≡ K (body ++ a ∷ [])) → (more : List Said) (a : Said) (body : List Said) → Few a → AllByRecursion Few more → gathers body Body None (list_tokens a more m ++ rest) ≡ K (body ++ a ∷ more)
list_read m rest K k [] a body h hs = atom_read a m rest body Body h ∙ k body a
list_read m rest K k (b ∷ bs) a body h hs =
    ap (gathers body Body None) (append_assoc (atom_tokens a Comma) (list_tokens b bs m) rest)
    ∙ atom_read a Comma (list_tokens b bs m ++ rest) body Body h
    ∙ list_read m rest K k bs b (body ++ a ∷ []) hs.0 hs.1
    ∙ ap K (append_assoc body (a ∷ []) (b ∷ bs))

abbrev FewHead : Option Said → Type 0
FewHead None = Unit {0}
FewHead (Some a) = Few a

spoken_read : (a : Said) (more : List Said) (h : Option Said) → Few a → AllByRecursion Few more → FewHead h → gathered (closing (a ∷ more) h) ≡ Some (record { body = a ∷ more; head = h })
spoken_read a more None f fs g = ap gathered (sym (append-nil (list_tokens a more End))) ∙ list_read End [] (λ l. Some (record { body = l; head = None })) (λ body b. refl) more a [] f fs
spoken_read a more (Some h) f fs g =
    list_read Semicolon (atom_tokens h End) (λ l. gathers l Head None (atom_tokens h End)) (λ body b. refl) more a [] f fs
    ∙ ap (gathers (a ∷ more) Head None) (sym (append-nil (atom_tokens h End)))
    ∙ atom_read h End [] (a ∷ more) Head g

-- what is gathered was written

-- the words of what was gathered so far
abbrev prefix : List Said → Part → List Token
prefix body Body = flat_map (λ a. atom_tokens a Comma) body
prefix body Head = list_of body Semicolon

abbrev begun_tokens : Option Said → List Token
begun_tokens None = []
begun_tokens (Some a) = atom_tokens a Space

run_more : (w : RawTerm) (ws : List RawTerm) (v : RawTerm) (m : Mark) → run w ws Space ++ record { term = v; mark = m } ∷ [] ≡ run w (ws ++ v ∷ []) m
run_more w [] v m = refl
run_more w (x ∷ xs) v m = ap (λ l. record { term = w; mark = Space } ∷ l) (run_more x xs v m)

list_more : (body : List Said) (a : Said) (m : Mark) → list_of (body ++ a ∷ []) m ≡ flat_map (λ a. atom_tokens a Comma) body ++ atom_tokens a m
list_more [] a m = refl
list_more (b ∷ []) a m = ap (λ l. l ++ atom_tokens a m) (sym (append-nil (atom_tokens b Comma)))
list_more (b ∷ c ∷ bs) a m = ap (λ l. atom_tokens b Comma ++ l) (list_more (c ∷ bs) a m) ∙ sym (append_assoc (atom_tokens b Comma) (flat_map (λ a. atom_tokens a Comma) (c ∷ bs)) (atom_tokens a m))

-- the atom that a word makes of the one begun
record Taken (begun : Option Said) (w : RawTerm) (a : Said) : Type 0 where
  few : Few a
  words : (m : Mark) → begun_tokens begun ++ record { term = w; mark = m } ∷ [] ≡ atom_tokens a m

taken_first : (w : RawTerm) (a : Said) → opens w ≡ Some a → Taken None w a
taken_first (raw.Constant n) a e = let p : begins n ≡ a = cc in subst (Taken None (raw.Constant n)) p (record { few = omega arith; words = λ m. refl })
taken_first (raw.Variable n) a e = absurd (none-some a e)
taken_first (raw.Null n) a e = absurd (none-some a e)

taken : (begun : Option Said) (w : RawTerm) (a : Said) → takes begun w ≡ Some a → Taken begun w a
taken None w a e = taken_first w a e
taken (Some b) w a e =
    cond_both (ltb (length b.terms) 4) (Some (grown b w)) None (λ o. o ≡ Some a → Taken (Some b) w a)
    (λ lt e'. (let p : grown b w ≡ a = cc in subst (Taken (Some b) w) p (record { few = omega (arith, length_push b.terms w, ltb-true _ _ lt); words = λ m. run_more (bare b.predicate) b.terms w m })))
    (λ ge e'. absurd (none-some a e')) e

-- before the head stands an atom
abbrev Begun : Part → List Said → Type 0
Begun Body body = Unit {0}
Begun Head body = 0 < length body

record State (body : List Said) (part : Part) : Type 0 where
  some : Begun part body
  few : AllByRecursion Few body

record Spells (s : Spoken) (ts : List Token) : Type 0 where
  some : 0 < length s.body
  few : AllByRecursion Few s.body
  head : FewHead s.head
  tokens : spoken_tokens s ≡ ts

push_some : (body : List Said) (a : Said) → 0 < length (body ++ a ∷ [])
push_some body a = omega (arith, length_push body a)

abbrev From : List Token → Type 0
From ts = (body : List Said) (part : Part) (begun : Option Said) (s : Spoken) → State body part → gathers body part begun ts ≡ Some s → Spells s (prefix body part ++ (begun_tokens begun ++ ts))

-- the word t makes a of the atom that was begun
onto : (pre : List Token) (begun : Option Said) (t : Token) (ts : List Token) (a : Said) → Taken begun t.term a → pre ++ (begun_tokens begun ++ t ∷ ts) ≡ (pre ++ atom_tokens a t.mark) ++ ts
onto pre begun t ts a k =
    ap (λ l. pre ++ l) (sym (append_assoc (begun_tokens begun) (t ∷ []) ts) ∙ ap (λ l. l ++ ts) (k.words t.mark))
    ∙ sym (append_assoc pre (atom_tokens a t.mark) ts)

whole_written : (body : List Said) (part : Part) (a : Said) (ts : List Token) (s : Spoken) → State body part → Few a → whole body part a ts ≡ Some s → Spells s ((prefix body part ++ atom_tokens a End) ++ ts)
whole_written body Head a [] s st f e =
    let p : record { body = body; head = Some a } ≡ s = cc in
    subst (λ x. Spells x ((prefix body Head ++ atom_tokens a End) ++ [])) p (record { some = st.some; few = st.few; head = f; tokens = sym (append-nil _) })
whole_written body Body a [] s st f e =
    let p : record { body = body ++ a ∷ []; head = None } ≡ s = cc in
    subst (λ x. Spells x ((prefix body Body ++ atom_tokens a End) ++ [])) p (record { some = push_some body a; few = All-push Few body a st.few f; head = tt; tokens = list_more body a End ∙ sym (append-nil _) })
whole_written body part a (t ∷ ts) s st f e = absurd (none-some s e)

mark_written : (ts : List Token) → From ts → (body : List Said) (part : Part) (a : Said) (m : Mark) (s : Spoken) → State body part → Few a → on_mark body part a ts m ≡ Some s → Spells s ((prefix body part ++ atom_tokens a m) ++ ts)
mark_written ts rest body part a Space s st f e = subst (Spells s) (sym (append_assoc (prefix body part) (atom_tokens a Space) ts)) (rest body part (Some a) s st e)
mark_written ts rest body Head a Comma s st f e = absurd (none-some s e)
mark_written ts rest body Body a Comma s st f e =
    let ih = rest (body ++ a ∷ []) Body None s (record { some = tt; few = All-push Few body a st.few f }) e in
    subst (λ l. Spells s (l ++ ts)) (sym (flat_map_more (λ x. atom_tokens x Comma) [] body a)) ih
mark_written ts rest body Head a Semicolon s st f e = absurd (none-some s e)
mark_written ts rest body Body a Semicolon s st f e =
    let ih = rest (body ++ a ∷ []) Head None s (record { some = push_some body a; few = All-push Few body a st.few f }) e in
    subst (λ l. Spells s (l ++ ts)) (list_more body a Semicolon) ih
mark_written ts rest body part a End s st f e = whole_written body part a ts s st f e

word_written : (t : Token) (ts : List Token) → From ts → (body : List Said) (part : Part) (begun : Option Said) (s : Spoken) → State body part → (o : Option Said) → takes begun t.term ≡ o → option_and_then (λ a. on_mark body part a ts t.mark) o ≡ Some s → Spells s (prefix body part ++ (begun_tokens begun ++ t ∷ ts))
word_written t ts rest body part begun s st None k h = absurd (none-some s h)
word_written t ts rest body part begun s st (Some a) k h =
    let g = taken begun t.term a k in
    subst (Spells s) (sym (onto (prefix body part) begun t ts a g)) (mark_written ts rest body part a t.mark s st g.few h)

gather_written : (ts : List Token) → From ts
gather_written [] body part begun s st e = absurd (none-some s e)
gather_written (t ∷ ts) body part begun s st e = word_written t ts (gather_written ts) body part begun s st (takes begun t.term) refl e

gathered_written : (ts : List Token) (s : Spoken) → gathered ts ≡ Some s → Spells s ts
gathered_written ts s e = gather_written ts [] Body None s (record { some = tt; few = tt }) e

-- small numbers in the words and in the atoms

all_parts : {X : Type 0} (P : X → Type 0) (xs ys : List X) → AllByRecursion P (xs ++ ys) → AllByRecursion P xs × AllByRecursion P ys
all_parts P [] ys h = (tt, h)
all_parts P (x ∷ xs) ys h = let r = all_parts P xs ys h.1 in ((h.0, r.0), r.1)

run_small : (w : RawTerm) (ws : List RawTerm) (m : Mark) → SmallTerm w → AllByRecursion SmallTerm ws → AllByRecursion Small (run w ws m)
run_small w [] m h hs = (h, tt)
run_small w (v ∷ vs) m h hs = (h, run_small v vs m hs.0 hs.1)

small_run : (w : RawTerm) (ws : List RawTerm) (m : Mark) → AllByRecursion Small (run w ws m) → SmallTerm w × AllByRecursion SmallTerm ws
small_run w [] m h = (h.0, tt)
small_run w (v ∷ vs) m h = let r = small_run v vs m h.1 in (h.0, (r.0, r.1))

list_small : (a : Said) (more : List Said) (m : Mark) → GoodAtom a → AllByRecursion GoodAtom more → AllByRecursion Small (list_tokens a more m)
list_small a [] m h hs = run_small _ a.terms m h.predicate h.terms
list_small a (b ∷ bs) m h hs = All-append Small (atom_tokens a Comma) (list_tokens b bs m) (run_small _ a.terms Comma h.predicate h.terms) (list_small b bs m hs.0 hs.1)

small_atom : (a : Said) (m : Mark) → Few a → AllByRecursion Small (atom_tokens a m) → GoodAtom a
small_atom a m f h = let r = small_run (bare a.predicate) a.terms m h in record { predicate = r.0; terms = r.1; few = f }

small_list : (a : Said) (more : List Said) (m : Mark) → Few a → AllByRecursion Few more → AllByRecursion Small (list_tokens a more m) → GoodAtom a × AllByRecursion GoodAtom more
small_list a [] m f fs h = (small_atom a m f h, tt)
small_list a (b ∷ bs) m f fs h =
    let r = all_parts Small (atom_tokens a Comma) (list_tokens b bs m) h in
    (small_atom a Comma f r.0, small_list b bs m fs.0 fs.1 r.1)

few_from : (xs : List Said) → AllByRecursion GoodAtom xs → AllByRecursion Few xs
few_from xs h = All-weaker GoodAtom Few (λ a g. g.few) xs h

-- the two together, for a line

spoken_read_line : (line : List ℕ) (a : Said) (more : List Said) (h : Option Said) → GoodAtom a → AllByRecursion GoodAtom more → GoodHead h → spoken_text (record { body = a ∷ more; head = h }) ≡ line → spoken_of line ≡ Some (record { body = a ∷ more; head = h })
spoken_read_line line a more h g gs gh e =
    ap (option_and_then gathered) (tokens_read line (closing (a ∷ more) h) (small h gh) (spoken_text_lem a more h ∙ ap (λ l. l ++ 10 ∷ []) e))
    ∙ spoken_read a more h g.few (few_from more gs) (few_head h gh)
  where
    small : (h : Option Said) → GoodHead h → AllByRecursion Small (closing (a ∷ more) h)
    small None k = list_small a more End g gs
    small (Some x) k = All-append Small (list_tokens a more Semicolon) (atom_tokens x End) (list_small a more Semicolon g gs) (run_small _ x.terms End k.predicate k.terms)

    few_head : (h : Option Said) → GoodHead h → FewHead h
    few_head None k = tt
    few_head (Some x) k = k.few

spoken_complete : (s : Spoken) → GoodSpoken s → spoken_of (spoken_text s) ≡ Some s
spoken_complete s g = cases s.body s.head g.some g.body g.head
  where
    cases : (body : List Said) (h : Option Said) → 0 < length body → AllByRecursion GoodAtom body → GoodHead h → spoken_of (spoken_text (record { body = body; head = h })) ≡ Some (record { body = body; head = h })
    cases [] h l gs gh = absurd (omega arith)
    cases (a ∷ more) h l gs gh = spoken_read_line _ a more h gs.0 gs.1 gh refl

good_head : (a : Said) (more : List Said) (h : Option Said) → Few a → AllByRecursion Few more → FewHead h → AllByRecursion Small (closing (a ∷ more) h) → (GoodAtom a × AllByRecursion GoodAtom more) × GoodHead h
good_head a more None f fs g h = (small_list a more End f fs h, tt)
good_head a more (Some x) f fs g h =
    let r = all_parts Small (list_tokens a more Semicolon) (atom_tokens x End) h in
    (small_list a more Semicolon f fs r.0, small_atom x End g r.1)

written_line : (line : List ℕ) (body : List Said) (h : Option Said) → Spells (record { body = body; head = h }) (closing body h) → AllByRecursion Small (closing body h) → tokens_text (closing body h) ≡ line ++ 10 ∷ [] → GoodSpoken (record { body = body; head = h }) × (spoken_text (record { body = body; head = h }) ≡ line)
written_line line [] h sp small e = absurd (omega (arith, sp.some))
written_line line (a ∷ more) h sp small e =
    let g = good_head a more h sp.few.0 sp.few.1 sp.head small in
    (record { some = sp.some; body = (g.0.0, g.0.1); head = g.1 }, append_cancel_right _ line (10 ∷ []) (sym (spoken_text_lem a more h) ∙ e))

spoken_sound : (line : List ℕ) (s : Spoken) → spoken_of line ≡ Some s → GoodSpoken s × (spoken_text s ≡ line)
spoken_sound line s e = cases (tokens_of line) refl e
  where
    cases : (o : Option (List Token)) → tokens_of line ≡ o → option_and_then gathered o ≡ Some s → GoodSpoken s × (spoken_text s ≡ line)
    cases None k h = absurd (none-some s h)
    cases (Some ts) k h =
        let w = tokens_written line ts k in
        let sp = gathered_written ts s h in
        let q : spoken_tokens s ≡ ts = sp.tokens in
        written_line line s.body s.head (record { some = sp.some; few = sp.few; head = sp.head; tokens = refl }) (subst (AllByRecursion Small) (sym q) w.0) (ap tokens_text q ∙ w.1)

pub spoken_inverse : Inverse GoodSpoken spoken_text spoken_of
spoken_inverse = record { sound = spoken_sound; complete = spoken_complete }
