-- How verdicts are shown.
use Rattle.std.specs.Prelude.{ℕ, List, ◌++◌, codes, decimal}
use Rattle.calls.specs.declared.answer.Verdict.{Verdict}
use Rattle.calls.specs.declared.answer.Verdict.TheVariants.{Entailed, Inconsistent, NotEntailed}

abbrev pub verdict_shown : Verdict → List ℕ
verdict_shown (Entailed q a u) = codes "entailed " ++ (decimal q ++ (codes " " ++ (decimal a ++ (codes " " ++ decimal u))))
verdict_shown (Inconsistent c a u) = codes "inconsistent " ++ (decimal c ++ (codes " " ++ (decimal a ++ (codes " " ++ decimal u))))
verdict_shown (NotEntailed q s) = codes "not-entailed " ++ (decimal q ++ (codes " " ++ decimal s))
