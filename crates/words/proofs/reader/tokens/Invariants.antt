use Rattle.std.proofs.Common.{◌≡◌, [], ◌∷◌, ◌++◌, drop, vec_items}
use Rattle.words.specs.Words.{scan, tokens_of}
use Rattle.words.proofs.reader.tokens.Given as goal

abbrev pub invariant-loop-byte : goal.invariant-loop-byte
invariant-loop-byte l = scan (vec_items l.out) l.state (drop l.byte-index l.line ++ 10 ∷ []) ≡ tokens_of l.line
