-- What is true of every checker.
use Rattle.std.specs.Prelude.{◌≡◌, ℕ, ◌≤◌, Bool, true, ◌&&◌, ◌==◌, nat_le, length, Some, None, Option}
use Rattle.book.specs.Tables.{entries}
use Rattle.book.specs.declared.book.Book.{Book}
use Rattle.calls.specs.declared.answer.Check.{Check}
use Rattle.calls.specs.declared.answer.Check.TheVariants.{Derivation, Model}

abbrev pub query_of : Check → ℕ
query_of (Derivation q) = q
query_of (Model q) = q

-- query q is there
abbrev pub Known : Book → ℕ → Type 0
Known b q = (1 ≤ q) × (q ≤ length (entries b.queries))

-- the query of an open check is one of the n queries
abbrev pub query_known : ℕ → Option Check → Bool
query_known n None = true
query_known n (Some k) = nat_le 1 (query_of k) && nat_le (query_of k) n

-- an overlay has no atoms of its own while no check is open
abbrev pub own_known : ℕ → Option Check → Bool
own_known own None = own == 0
own_known own (Some k) = true
