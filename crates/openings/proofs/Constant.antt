-- Terms that are constants, and what they mean.
use Rattle.std.proofs.Common.{◌≡◌, Bool, Decides, List, [], ◌∷◌, map, sym, refl, subst, arith}
use Rattle.std.specs.List.{list_all, AllByRecursion}
use Rattle.chase.specs.Unfit.{IsConstant}
use Rattle.openings.specs.Constants.{is_fixed}
use Rattle.terms.specs.Meaning.{term_meant}
use Rattle.terms.specs.declared.term.Term.{Term}
use Rattle.terms.specs.declared.term.Term.TheVariants.{Constant, Null}

all_fixed : (ts : List Term) → Decides (list_all is_fixed ts) (AllByRecursion IsConstant (map term_meant ts))
all_fixed [] = (λ t. tt, λ e. refl)
all_fixed (Constant c ∷ ts) = (λ t. ((c.low, c.high), (all_fixed ts).0 t), λ e. (all_fixed ts).1 e.1)
all_fixed (Null k ∷ ts) = (λ t. absurd (cc t), λ e. absurd (omega (arith, e.0.1)))

pub fixed_decides : (r : Bool) (ts : List Term) → r ≡ list_all is_fixed ts → Decides r (AllByRecursion IsConstant (map term_meant ts))
fixed_decides r ts e = subst (λ b. Decides b (AllByRecursion IsConstant (map term_meant ts))) (sym e) (all_fixed ts)
