use Rattle.std.proofs.Common.{◌+◌, ◌-◌, ◌≤◌, length, take, vec_items, vec_len, vec_capacity}
use Rattle.checker.specs.Views.{view}
use Rattle.runs.specs.Conducted.{Went}
use Rattle.runs.proofs.perform.run.Given as goal

-- the calls so far were made, and there is room for what the others may bring
abbrev pub invariant-loop-call : goal.invariant-loop-call
invariant-loop-call g l = record {
  went : Went (view g.S.Stock.list g.S.Shelf.free l.initial.checker) (vec_items l.initial.pool) (take l.call-index l.calls) (vec_items l.initial.log) (view g.S.Stock.list g.S.Shelf.free l.checker) (vec_items l.pool) (vec_items l.log);
  slots : vec_len l.pool + (length l.calls - l.call-index) ≤ vec_capacity l.pool;
  notes : vec_len l.log + (length l.calls - l.call-index) ≤ vec_capacity l.log;
}
