-- The table so far.
use Rattle.std.proofs.Common.{◌≡◌}
use Rattle.its_exec.specs.Core.{shape_of}
use Rattle.pe_mem.proofs.TableLemmas.{TableSoFar}
use Rattle.pe_mem.proofs.pending.enable_lpis.Given as goal

abbrev pub invariant-loop-number : goal.invariant-loop-number
invariant-loop-number g l = record { end : l.number-end ≡ (shape_of (g.P.Port.seen l.initial.port)).lpis; so : TableSoFar (g.P.Port.seen l.initial.port) (g.P.Port.seen l.port) l.vcpu l.pendbaser l.number l.last }
