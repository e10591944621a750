-- Words and their marks: how they are written, and what each byte does.
use Rattle.std.specs.Prelude.{ℕ, ◌+◌, ◌-◌, ◌*◌, ◌^◌, ◌<◌, Bool, cond, ◌&&◌, List, [], ◌∷◌, ◌++◌, Some, None, decimal, Option, option_and_then, ◌==◌, nat_le, nat_lt}
use Rattle.reading.specs.declared.raw.RawTerm.{RawTerm}
use Rattle.reading.specs.declared.raw.RawTerm.TheVariants as raw
use Rattle.words.specs.declared.word.TermKind.{TermKind}
use Rattle.words.specs.declared.word.TermKind.TheVariants.{Constant, Variable, Null}
use Rattle.words.specs.declared.word.Mark.{Mark}
use Rattle.words.specs.declared.word.Mark.TheVariants.{Space, Comma, Semicolon, End}
use Rattle.words.specs.declared.word.Token.{Token}
use Rattle.words.specs.declared.word.State.{State}
use Rattle.words.specs.declared.word.State.TheVariants.{BetweenWords, AfterV, AfterN, InNumber}
use Rattle.words.specs.declared.word.Step.{Step}
use Rattle.words.specs.declared.word.Step.TheVariants.{Go, Ends}

-- a constant is written bare, a variable as v1, a null as n0; numbers in decimal, without leading zeros
abbrev pub term_text : RawTerm → List ℕ
term_text (raw.Constant n) = decimal n
term_text (raw.Variable n) = 118 ∷ decimal n
term_text (raw.Null n) = 110 ∷ decimal n

abbrev pub number_of : RawTerm → ℕ
number_of (raw.Constant n) = n
number_of (raw.Variable n) = n
number_of (raw.Null n) = n

abbrev pub mark_byte : Mark → ℕ
mark_byte Space = 32
mark_byte Comma = 44
mark_byte Semicolon = 59
mark_byte End = 10

-- each word with its mark
abbrev pub tokens_text : List Token → List ℕ
tokens_text [] = []
tokens_text (t ∷ ts) = term_text t.term ++ mark_byte t.mark ∷ tokens_text ts

-- at most seven digits
abbrev pub Small : Token → Type 0
Small t = number_of t.term < 10 ^ 7

abbrev pub digit : ℕ → Bool
digit b = nat_le 48 b && nat_le b 57

abbrev pub term_of : TermKind → ℕ → RawTerm
term_of Constant n = raw.Constant n
term_of Variable n = raw.Variable n
term_of Null n = raw.Null n

abbrev pub token : TermKind → ℕ → Mark → Token
token k n m = record { term = term_of k n; mark = m }

-- what a byte does in each state; none where it breaks the form
abbrev pub step_of : State → ℕ → Option Step
step_of BetweenWords b = cond (b == 118) (Some (Go AfterV)) (cond (b == 110) (Some (Go AfterN)) (cond (digit b) (Some (Go (InNumber Constant (b - 48)))) None))
step_of AfterV b = cond (digit b) (Some (Go (InNumber Variable (b - 48)))) None
step_of AfterN b = cond (digit b) (Some (Go (InNumber Null (b - 48)))) None
step_of (InNumber k n) b =
    cond (digit b && (nat_lt 0 n && nat_lt n 1000000)) (Some (Go (InNumber k (n * 10 + (b - 48)))))
    (cond (b == 32) (Some (Ends (token k n Space)))
    (cond (b == 44) (Some (Ends (token k n Comma)))
    (cond (b == 59) (Some (Ends (token k n Semicolon)))
    (cond (b == 10) (Some (Ends (token k n End))) None))))

abbrev pub by_step : {R : Type 0} → (State → R) → (Token → R) → Step → R
by_step go ends (Go s) = go s
by_step go ends (Ends t) = ends t

abbrev pub at_end : List Token → State → Option (List Token)
at_end out BetweenWords = Some out
at_end out AfterV = None
at_end out AfterN = None
at_end out (InNumber k n) = None

-- the words so far and those of the bytes that follow
abbrev pub scan : List Token → State → List ℕ → Option (List Token)
scan out s [] = at_end out s
scan out s (b ∷ bs) = option_and_then (by_step (λ t. scan out t bs) (λ w. scan (out ++ w ∷ []) BetweenWords bs)) (step_of s b)

abbrev pub tokens_of : List ℕ → Option (List Token)
tokens_of line = scan [] BetweenWords (line ++ 10 ∷ [])
