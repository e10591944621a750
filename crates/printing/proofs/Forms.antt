-- The forms of lines, from how answers are shown.
use Rattle.std.proofs.Common.{◌≡◌, ℕ, ◌++◌, decimal, codes, append_assoc, arith}
use Rattle.refusals.specs.declared.refusal.Refusal.{Refusal}
use Rattle.refusals.specs.Refusals.{refusal_shown}
use Rattle.calls.specs.declared.answer.Verdict.{Verdict}
use Rattle.calls.specs.declared.answer.Verdict.TheVariants.{Entailed, Inconsistent, NotEntailed}
use Rattle.calls.specs.Shown.{verdict_shown}
use Rattle.printing.specs.Printed.{verdict_text, refused_text}

pub verdict_form : (n : ℕ) (v : Verdict) → decimal n ++ (codes " " ++ (verdict_shown v ++ codes "\n")) ≡ verdict_text n v
verdict_form n (Entailed q a u) = grind (arith, append_assoc)
verdict_form n (Inconsistent c a u) = grind (arith, append_assoc)
verdict_form n (NotEntailed q s) = grind (arith, append_assoc)

pub refused_form : (n : ℕ) (r : Refusal) → decimal n ++ (codes " " ++ (refusal_shown r ++ codes "\n")) ≡ refused_text n r
refused_form n r = grind (arith, append_assoc)
