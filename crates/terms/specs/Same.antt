-- Two values of a sort with the same number are equal: that a number is in range has one proof at most.
use Rattle.std.proofs.Common.{◌≡◌, ◌≤◌, ◌==◌, ℕ, Bool, false, Decides, ap, sym, ◌∙◌}
use Rattle.std.proofs.lemmas.Bool.{eqb-true, eq-eqb}
use mathlib.Core.HLevel.{is_prop→PathP}
use native.Mathlib.Bridge.{le_prop}
use Rattle.terms.specs.declared.constant.Constant.{Constant}
use Rattle.terms.specs.declared.null.Null.{Null}
use Rattle.terms.specs.declared.variable.Variable.{Variable}
use Rattle.terms.specs.declared.predicate.UpTo.{UpTo}
use Rattle.terms.specs.declared.term.Term.{Term}
use Rattle.terms.specs.declared.term.Term.TheVariants as ground_term
use Rattle.terms.specs.declared.pattern_term.PatternTerm.{PatternTerm}
use Rattle.terms.specs.declared.pattern_term.PatternTerm.TheVariants as slot

pub same_constant : (a b : Constant) → a.number ≡ b.number → a ≡ b
same_constant a b e = λ i. record {
  number = e i;
  low = is_prop→PathP (λ k. 1 ≤ e k) (λ k. le_prop) a.low b.low i;
  high = is_prop→PathP (λ k. e k ≤ 999999) (λ k. le_prop) a.high b.high i;
}

pub same_null : (a b : Null) → a.number ≡ b.number → a ≡ b
same_null a b e = λ i. record {
  number = e i;
  high = is_prop→PathP (λ k. e k ≤ 999999) (λ k. le_prop) a.high b.high i;
}

pub same_variable : (a b : Variable) → a.index ≡ b.index → a ≡ b
same_variable a b e = λ i. record {
  index = e i;
  high = is_prop→PathP (λ k. e k ≤ 7) (λ k. le_prop) a.high b.high i;
}

pub same_up_to : {MOST : ℕ} (a b : UpTo MOST) → a.number ≡ b.number → a ≡ b
same_up_to {MOST = MOST} a b e = λ i. record {
  number = e i;
  low = is_prop→PathP (λ k. 1 ≤ e k) (λ k. le_prop) a.low b.low i;
  high = is_prop→PathP (λ k. e k ≤ MOST) (λ k. le_prop) a.high b.high i;
}

-- where equal numbers make two values the same, comparing the numbers decides it
by_number : {K : Type 0} (f : K → ℕ) → ((x y : K) → f x ≡ f y → x ≡ y) → (x y : K) → Decides (f x == f y) (x ≡ y)
by_number f same x y = (λ t. same x y (eqb-true (f x) (f y) t), λ e. eq-eqb (f x) (f y) (ap f e))

pub constant_exact : (c d : Constant) → Decides (c.number == d.number) (c ≡ d)
constant_exact = by_number (λ (c : Constant). c.number) same_constant

pub null_exact : (k j : Null) → Decides (k.number == j.number) (k ≡ j)
null_exact = by_number (λ (k : Null). k.number) same_null

pub variable_exact : (v w : Variable) → Decides (v.index == w.index) (v ≡ w)
variable_exact = by_number (λ (v : Variable). v.index) same_variable

pub up_to_exact : {MOST : ℕ} (p q : UpTo MOST) → Decides (p.number == q.number) (p ≡ q)
up_to_exact {MOST = MOST} = by_number (λ (p : UpTo MOST). p.number) same_up_to

-- a test of terms that is true of those of one sort with one number decides whether they are the same
pub term_exact : (E : Term → Term → Bool) → ((c d : Constant) → E (ground_term.Constant c) (ground_term.Constant d) ≡ (c.number == d.number)) → ((c : Constant) (k : Null) → E (ground_term.Constant c) (ground_term.Null k) ≡ false) → ((k : Null) (c : Constant) → E (ground_term.Null k) (ground_term.Constant c) ≡ false) → ((k j : Null) → E (ground_term.Null k) (ground_term.Null j) ≡ (k.number == j.number)) → (t u : Term) → Decides (E t u) (t ≡ u)
term_exact E p q r s (ground_term.Constant c) (ground_term.Constant d) = (λ t. ap ground_term.Constant ((constant_exact c d).0 (sym (p c d) ∙ t)), λ e. p c d ∙ (constant_exact c d).1 cc)
term_exact E p q r s (ground_term.Constant c) (ground_term.Null k) = (λ t. absurd (cc (t, q c k)), λ e. cc)
term_exact E p q r s (ground_term.Null k) (ground_term.Constant c) = (λ t. absurd (cc (t, r k c)), λ e. cc)
term_exact E p q r s (ground_term.Null k) (ground_term.Null j) = (λ t. ap ground_term.Null ((null_exact k j).0 (sym (s k j) ∙ t)), λ e. s k j ∙ (null_exact k j).1 cc)

-- the same of the terms of patterns
pub pattern_term_exact : (E : PatternTerm → PatternTerm → Bool) → ((c d : Constant) → E (slot.Constant c) (slot.Constant d) ≡ (c.number == d.number)) → ((c : Constant) (v : Variable) → E (slot.Constant c) (slot.Variable v) ≡ false) → ((v : Variable) (c : Constant) → E (slot.Variable v) (slot.Constant c) ≡ false) → ((v w : Variable) → E (slot.Variable v) (slot.Variable w) ≡ (v.index == w.index)) → (t u : PatternTerm) → Decides (E t u) (t ≡ u)
pattern_term_exact E p q r s (slot.Constant c) (slot.Constant d) = (λ t. ap slot.Constant ((constant_exact c d).0 (sym (p c d) ∙ t)), λ e. p c d ∙ (constant_exact c d).1 cc)
pattern_term_exact E p q r s (slot.Constant c) (slot.Variable v) = (λ t. absurd (cc (t, q c v)), λ e. cc)
pattern_term_exact E p q r s (slot.Variable v) (slot.Constant c) = (λ t. absurd (cc (t, r v c)), λ e. cc)
pattern_term_exact E p q r s (slot.Variable v) (slot.Variable w) = (λ t. ap slot.Variable ((variable_exact v w).0 (sym (s v w) ∙ t)), λ e. s v w ∙ (variable_exact v w).1 cc)
