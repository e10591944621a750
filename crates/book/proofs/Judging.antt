-- Entries as they are judged.
use Rattle.std.proofs.Common.{Ok, Err, Result}
use Rattle.refusals.specs.declared.refusal.Refusal.{Refusal}
use Rattle.book.specs.Drafts.{Judged, not_taken}

-- where there is room, the check decides
pub judged : {X : Type 0} (full : Type 0) (checked : Result X Refusal → Type 0) (r : Result X Refusal) → (full → ⊥) → checked r → Judged full checked r
judged full checked (Ok x) room h = (room, h)
judged full checked (Err e) room h = not_taken room h
