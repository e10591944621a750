-- The printed line of each answer, byte 10 included. The number n is that of the line that is answered.
use Rattle.std.specs.Prelude.{ℕ, List, ◌++◌, codes, decimal}
use Rattle.refusals.specs.Refusals.{number_of, first_figure, second_figure}
use Rattle.refusals.specs.declared.refusal.Refusal.{Refusal}
use Rattle.shelves.specs.declared.taken.Taken.{Taken}
use Rattle.shelves.specs.declared.taken.Taken.TheVariants.{Already, At}
use Rattle.calls.specs.declared.answer.Verdict.{Verdict}
use Rattle.calls.specs.declared.answer.Verdict.TheVariants.{Entailed, Inconsistent, NotEntailed}

abbrev pub open_text : ℕ → List ℕ
open_text n = decimal n ++ codes " open\n"

abbrev pub taken_text : ℕ → Taken → List ℕ
taken_text n Already = decimal n ++ codes " already\n"
taken_text n (At p) = decimal n ++ (codes " at " ++ (decimal p ++ codes "\n"))

abbrev pub verdict_text : ℕ → Verdict → List ℕ
verdict_text n (Entailed q a u) = decimal n ++ (codes " entailed " ++ (decimal q ++ (codes " " ++ (decimal a ++ (codes " " ++ (decimal u ++ codes "\n"))))))
verdict_text n (Inconsistent c a u) = decimal n ++ (codes " inconsistent " ++ (decimal c ++ (codes " " ++ (decimal a ++ (codes " " ++ (decimal u ++ codes "\n"))))))
verdict_text n (NotEntailed q s) = decimal n ++ (codes " not-entailed " ++ (decimal q ++ (codes " " ++ (decimal s ++ codes "\n"))))

abbrev pub struck_text : ℕ → List ℕ
struck_text n = decimal n ++ codes " struck\n"

abbrev pub refusal_text : ℕ → ℕ → ℕ → ℕ → List ℕ
refusal_text n r x y = decimal n ++ (codes " refused " ++ (decimal r ++ (codes " " ++ (decimal x ++ (codes " " ++ (decimal y ++ codes "\n"))))))

abbrev pub refused_text : ℕ → Refusal → List ℕ
refused_text n r = refusal_text n (number_of r) (first_figure r) (second_figure r)

-- line l of the bundle is refused with number r
abbrev pub bad_number_text : ℕ → ℕ → List ℕ
bad_number_text l r = codes "bad " ++ (decimal l ++ (codes " " ++ (decimal r ++ codes "\n")))

abbrev pub bad_text : ℕ → Refusal → List ℕ
bad_text l r = bad_number_text l (number_of r)

-- a check that was open at the end
abbrev pub end_text : List ℕ
end_text = codes "end struck\n"
