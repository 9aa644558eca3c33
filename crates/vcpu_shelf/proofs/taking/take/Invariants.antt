use Rattle.std.proofs.Common.{◌≡◌}
use Rattle.vcpu_shelf.proofs.FindingLemmas.{IsSoFar}
use Rattle.vcpu_shelf.proofs.taking.take.Given as goal

-- the seat stays of its table, and the scan so far has won no place
abbrev pub invariant-loop-place : goal.invariant-loop-place
invariant-loop-place g l = record { home : l.seat.seat.table_id ≡ l.initial.seat.seat.table_id; far : IsSoFar l.place l.all_done l.initial.seat.seat.me.0 l.seat.seat.me.0 }
