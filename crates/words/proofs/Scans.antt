-- Scanning is the inverse of writing.
use Rattle.std.proofs.Common.{◌≡◌, ℕ, ◌+◌, ◌-◌, ◌*◌, ◌/◌, ◌%◌, ◌^◌, ◌<◌, ◌≤◌, true, ◌&&◌, eqb, ltb, leb, List, [], ◌∷◌, ◌++◌, Some, None, decimal, Ok, Err, Option, Result, option_map, option_and_then, sym, refl, ap, ◌∙◌, subst, append_assoc, append-nil, arith}
use Rattle.std.proofs.lemmas.Option.{none-some}
use Rattle.std.specs.List.{AllByRecursion}
use Rattle.std.proofs.ByRecursion.{All-push}
use Rattle.std.proofs.lemmas.Fmt.{decimal_by_steps, decimal_digit, decimal_step}
use Rattle.std.proofs.lemmas.Bool.Decides.{nat_tests}
use Rattle.std.proofs.lemmas.Bool.{cond_both, and_parts, leb-true, ltb-true, eqb-true}
use Rattle.reading.specs.declared.raw.RawTerm.{RawTerm}
use Rattle.reading.specs.declared.raw.RawTerm.TheVariants as raw
use Rattle.words.specs.declared.word.TermKind.{TermKind}
use Rattle.words.specs.declared.word.TermKind.TheVariants.{Constant, Variable, Null}
use Rattle.words.specs.declared.word.Mark.{Mark}
use Rattle.words.specs.declared.word.Mark.TheVariants.{Space, Comma, Semicolon, End}
use Rattle.words.specs.declared.word.Token.{Token}
use Rattle.words.specs.declared.word.State.{State}
use Rattle.words.specs.declared.word.State.TheVariants.{BetweenWords, AfterV, AfterN, InNumber}
use Rattle.words.specs.declared.word.Step.{Step}
use Rattle.words.specs.declared.word.Step.TheVariants.{Go, Ends}
use Rattle.words.specs.Reads.{Reads, IfRead}
use Rattle.words.specs.declared.error.ReadError.{ReadError}
use Rattle.words.specs.Words.{term_text, number_of, term_of, mark_byte, tokens_text, Small, digit, token, step_of, by_step, scan, tokens_of}

-- what is written is read

-- the letter before the number
abbrev letter : TermKind → List ℕ
letter Constant = []
letter Variable = 118 ∷ []
letter Null = 110 ∷ []

kind_text : (k : TermKind) (n : ℕ) → term_text (term_of k n) ≡ letter k ++ decimal n
kind_text Constant n = refl
kind_text Variable n = refl
kind_text Null n = refl

kind_number : (k : TermKind) (n : ℕ) → n < 10 ^ 7 → number_of (term_of k n) < 10 ^ 7
kind_number Constant n h = h
kind_number Variable n h = h
kind_number Null n h = h

-- where a number of the kind begins
abbrev start : TermKind → State
start Constant = BetweenWords
start Variable = AfterV
start Null = AfterN

at_digit : (k : TermKind) (d : ℕ) → d < 10 → step_of (start k) (48 + d) ≡ Some (Go (InNumber k d))
at_digit Constant d h = let e : (48 + d) - 48 ≡ d = omega arith in grind (arith, nat_tests)
at_digit Variable d h = let e : (48 + d) - 48 ≡ d = omega arith in grind (arith, nat_tests)
at_digit Null d h = let e : (48 + d) - 48 ≡ d = omega arith in grind (arith, nat_tests)

at_more : (k : TermKind) (n d : ℕ) → d < 10 → 0 < n → n < 1000000 → step_of (InNumber k n) (48 + d) ≡ Some (Go (InNumber k (n * 10 + d)))
at_more k n d h pos low = let e : (48 + d) - 48 ≡ d = omega arith in grind (arith, nat_tests)

at_mark : (k : TermKind) (n : ℕ) (m : Mark) → step_of (InNumber k n) (mark_byte m) ≡ Some (Ends (token k n m))
at_mark k n Space = refl
at_mark k n Comma = refl
at_mark k n Semicolon = refl
at_mark k n End = refl

-- the scan after one byte
abbrev scan_on : List Token → List ℕ → Option Step → Option (List Token)
scan_on out bs x = option_and_then (by_step (λ t. scan out t bs) (λ w. scan (out ++ w ∷ []) BetweenWords bs)) x

after : (s : State) (b : ℕ) (x : Option Step) (out : List Token) (bs : List ℕ) → step_of s b ≡ x → scan out s (b ∷ bs) ≡ scan_on out bs x
after s b x out bs e = ap (scan_on out bs) e

abbrev DigitsRead : ℕ → List ℕ → Type 0
DigitsRead n ds = n < 10 ^ 7 → (k : TermKind) (out : List Token) (rest : List ℕ) → scan out (start k) (ds ++ rest) ≡ scan out (InNumber k n) rest

digits_read : (n : ℕ) → n < 2 ^ 64 → DigitsRead n (decimal n)
digits_read = decimal_by_steps DigitsRead
    (λ n h small k out rest. after (start k) (48 + n) (Some (Go (InNumber k n))) out rest (at_digit k n h))
    (λ n ds h ih small k out rest.
    let d : ℕ = 48 + n % 10 in
    let e : (n / 10) * 10 + n % 10 ≡ n = omega arith in
    ap (scan out (start k)) (append_assoc ds ((48 + n % 10) ∷ []) rest)
    ∙ ih (omega arith) k out ((48 + n % 10) ∷ rest)
    ∙ after (InNumber k (n / 10)) (48 + n % 10) (Some (Go (InNumber k n))) out rest (at_more k (n / 10) (n % 10) (omega arith) (omega arith) (omega arith) ∙ ap (λ x. Some (Go (InNumber k x))) e))

number_read : (k : TermKind) (n : ℕ) (m : Mark) (out : List Token) (rest : List ℕ) → n < 10 ^ 7 → scan out (start k) (decimal n ++ mark_byte m ∷ rest) ≡ scan (out ++ token k n m ∷ []) BetweenWords rest
number_read k n m out rest h = digits_read n (omega arith) h k out (mark_byte m ∷ rest) ∙ after (InNumber k n) (mark_byte m) (Some (Ends (token k n m))) out rest (at_mark k n m)

word_read : (w : RawTerm) (m : Mark) (out : List Token) (rest : List ℕ) → number_of w < 10 ^ 7 → scan out BetweenWords (term_text w ++ mark_byte m ∷ rest) ≡ scan (out ++ record { term = w; mark = m } ∷ []) BetweenWords rest
word_read (raw.Constant n) m out rest h = number_read Constant n m out rest h
word_read (raw.Variable n) m out rest h = number_read Variable n m out rest h
word_read (raw.Null n) m out rest h = number_read Null n m out rest h

written_read : (ts : List Token) (out : List Token) → AllByRecursion Small ts → scan out BetweenWords (tokens_text ts) ≡ Some (out ++ ts)
written_read [] out h = ap Some (sym (append-nil out))
written_read (t ∷ ts) out h =
    word_read t.term t.mark out (tokens_text ts) h.0
    ∙ written_read ts (out ++ t ∷ []) h.1
    ∙ ap Some (append_assoc out (t ∷ []) ts)

-- what is read is written

-- the part of a word that was read
abbrev begun : State → List ℕ
begun BetweenWords = []
begun AfterV = 118 ∷ []
begun AfterN = 110 ∷ []
begun (InNumber s n) = letter s ++ decimal n

-- the number so far has at most seven digits
abbrev Sound : State → Type 0
Sound BetweenWords = Unit {0}
Sound AfterV = Unit {0}
Sound AfterN = Unit {0}
Sound (InNumber s n) = n < 10 ^ 7

-- the byte belongs to the word or ends it
abbrev Steps : State → ℕ → Option Step → Type 0
Steps s b (Some (Go t)) = Sound t × (begun t ≡ begun s ++ b ∷ [])
Steps s b (Some (Ends t)) = (mark_byte t.mark ≡ b) × Small t × (term_text t.term ≡ begun s)
Steps s b None = Unit {0}

digit_true : (b : ℕ) → digit b ≡ true → (48 ≤ b) × (b ≤ 57)
digit_true b e = let p = and_parts (leb 48 b) (leb b 57) e in (leb-true 48 b p.0, leb-true b 57 p.1)

one_more : (n b : ℕ) → 0 < n → n < 1000000 → (48 ≤ b) × (b ≤ 57) → decimal (n * 10 + (b - 48)) ≡ decimal n ++ b ∷ []
one_more n b pos small d =
    let q : (n * 10 + (b - 48)) / 10 ≡ n = omega arith in
    let r : 48 + (n * 10 + (b - 48)) % 10 ≡ b = omega arith in
    decimal_step (n * 10 + (b - 48)) (omega arith) (omega arith) ∙ ap (λ x. decimal x ++ (48 + (n * 10 + (b - 48)) % 10) ∷ []) q ∙ ap (λ x. decimal n ++ x ∷ []) r

one_digit : (b : ℕ) → (48 ≤ b) × (b ≤ 57) → decimal (b - 48) ≡ b ∷ []
one_digit b d = let e : 48 + (b - 48) ≡ b = omega arith in decimal_digit (b - 48) (omega arith) ∙ ap (λ x. x ∷ []) e

steps : (s : State) (b : ℕ) → Sound s → Steps s b (step_of s b)
steps BetweenWords b h =
    cond_both (eqb b 118) (Some (Go AfterV)) _ (Steps BetweenWords b) (λ e. (tt, ap (λ x. x ∷ []) (sym (eqb-true b 118 e)))) (λ nv.
    cond_both (eqb b 110) (Some (Go AfterN)) _ (Steps BetweenWords b) (λ e. (tt, ap (λ x. x ∷ []) (sym (eqb-true b 110 e)))) (λ nn.
    cond_both (digit b) (Some (Go (InNumber Constant (b - 48)))) None (Steps BetweenWords b) (λ e. let d = digit_true b e in (omega (arith, d.1), one_digit b d)) (λ nd. tt)))
steps AfterV b h = cond_both (digit b) (Some (Go (InNumber Variable (b - 48)))) None (Steps AfterV b) (λ e. let d = digit_true b e in (omega (arith, d.1), ap (λ l. 118 ∷ l) (one_digit b d))) (λ nd. tt)
steps AfterN b h = cond_both (digit b) (Some (Go (InNumber Null (b - 48)))) None (Steps AfterN b) (λ e. let d = digit_true b e in (omega (arith, d.1), ap (λ l. 110 ∷ l) (one_digit b d))) (λ nd. tt)
steps (InNumber s n) b h =
    cond_both (digit b && (ltb 0 n && ltb n 1000000)) (Some (Go (InNumber s (n * 10 + (b - 48))))) _ (Steps (InNumber s n) b)
    (λ e.
    let p = and_parts (digit b) (ltb 0 n && ltb n 1000000) e in
    let q = and_parts (ltb 0 n) (ltb n 1000000) p.1 in
    let d = digit_true b p.0 in
    let pos = ltb-true 0 n q.0 in
    let low = ltb-true n 1000000 q.1 in
    (omega (arith, d.1), ap (λ l. letter s ++ l) (one_more n b pos low d) ∙ sym (append_assoc (letter s) (decimal n) (b ∷ []))))
    (λ out.
    cond_both (eqb b 32) (Some (Ends (token s n Space))) _ (Steps (InNumber s n) b) (λ e. (sym (eqb-true b 32 e), kind_number s n h, kind_text s n)) (λ _.
    cond_both (eqb b 44) (Some (Ends (token s n Comma))) _ (Steps (InNumber s n) b) (λ e. (sym (eqb-true b 44 e), kind_number s n h, kind_text s n)) (λ _.
    cond_both (eqb b 59) (Some (Ends (token s n Semicolon))) _ (Steps (InNumber s n) b) (λ e. (sym (eqb-true b 59 e), kind_number s n h, kind_text s n)) (λ _.
    cond_both (eqb b 10) (Some (Ends (token s n End))) None (Steps (InNumber s n) b) (λ e. (sym (eqb-true b 10 e), kind_number s n h, kind_text s n)) (λ _. tt)))))

pub tokens_append : (xs ys : List Token) → tokens_text (xs ++ ys) ≡ tokens_text xs ++ tokens_text ys
tokens_append [] ys = refl
tokens_append (x ∷ xs) ys = ap (λ l. term_text x.term ++ mark_byte x.mark ∷ l) (tokens_append xs ys) ∙ sym (append_assoc (term_text x.term) (mark_byte x.mark ∷ tokens_text xs) (tokens_text ys))

abbrev Written : List Token → List Token → List ℕ → Type 0
Written ts out bs = AllByRecursion Small ts × (tokens_text ts ≡ tokens_text out ++ bs)

abbrev From : List ℕ → Type 0
From bs = (out : List Token) (s : State) (ts : List Token) → AllByRecursion Small out → Sound s → scan out s bs ≡ Some ts → Written ts out (begun s ++ bs)

read_step : (bs : List ℕ) → From bs → (b : ℕ) (out : List Token) (s : State) (ts : List Token) (x : Option Step) → AllByRecursion Small out → Steps s b x → scan_on out bs x ≡ Some ts → Written ts out (begun s ++ b ∷ bs)
read_step bs rest b out s ts (Some (Go t)) small h e =
    let ih = rest out t ts small h.0 e in
    (ih.0, ih.1 ∙ ap (λ l. tokens_text out ++ l) (ap (λ l. l ++ bs) h.1 ∙ append_assoc (begun s) (b ∷ []) bs))
read_step bs rest b out s ts (Some (Ends w)) small h e =
    let ih = rest (out ++ w ∷ []) BetweenWords ts (All-push Small out w small h.1) tt e in
    let p : (term_text w.term ++ mark_byte w.mark ∷ []) ++ bs ≡ begun s ++ b ∷ bs = append_assoc (term_text w.term) _ bs ∙ (let q = h.0 in let r = h.2 in cc) in
    (ih.0, ih.1 ∙ ap (λ l. l ++ bs) (tokens_append out (w ∷ [])) ∙ append_assoc (tokens_text out) _ bs ∙ ap (λ l. tokens_text out ++ l) p)
read_step bs rest b out s ts None small h e = absurd (none-some ts e)

read_written : (bs : List ℕ) → From bs
read_written [] out BetweenWords ts small sound e = let p : out ≡ ts = cc in (subst (AllByRecursion Small) p small, ap tokens_text (sym p) ∙ sym (append-nil (tokens_text out)))
read_written [] out AfterV ts small sound e = absurd (none-some ts e)
read_written [] out AfterN ts small sound e = absurd (none-some ts e)
read_written [] out (InNumber k n) ts small sound e = absurd (none-some ts e)
read_written (b ∷ bs) out s ts small sound e = read_step bs (read_written bs) b out s ts (step_of s b) small (steps s b sound) e

-- the two together, for a line that byte 10 ends
pub tokens_written : (line : List ℕ) (ts : List Token) → tokens_of line ≡ Some ts → AllByRecursion Small ts × (tokens_text ts ≡ line ++ 10 ∷ [])
tokens_written line ts e = read_written (line ++ 10 ∷ []) [] BetweenWords ts tt tt e

pub tokens_read : (line : List ℕ) (ts : List Token) → AllByRecursion Small ts → tokens_text ts ≡ line ++ 10 ∷ [] → tokens_of line ≡ Some ts
tokens_read line ts small e = ap (scan [] BetweenWords) (sym e) ∙ written_read ts [] small

-- so what is found reads the line
pub tokens_known : (line : List ℕ) (o : Option (List Token)) → o ≡ tokens_of line → Reads (AllByRecursion Small) tokens_text (line ++ 10 ∷ []) o
tokens_known line (Some ts) e = tokens_written line ts (sym e)
tokens_known line None e = λ ts small text. absurd (none-some ts (e ∙ tokens_read line ts small text))

-- the same of a reader's answer
pub answer_known : (line : List ℕ) {T : Type 0} (m : T → List Token) (r : Result T ReadError) → IfRead r (λ o. option_map m o ≡ tokens_of line) → IfRead r (λ o. Reads (AllByRecursion Small) tokens_text (line ++ 10 ∷ []) (option_map m o))
answer_known line m (Ok x) h = tokens_known line (Some (m x)) h
answer_known line m (Err e) h = λ b. tokens_known line None (h b)
