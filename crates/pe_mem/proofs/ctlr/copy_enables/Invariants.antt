-- The copies so far.
use Rattle.std.proofs.Common.{◌≡◌}
use Rattle.its_exec.specs.Words.{interrupt_count}
use Rattle.its_exec.specs.Core.{shape_of}
use Rattle.pe_mem.proofs.CopyLemmas.{CopiedSoFar}
use Rattle.pe_mem.proofs.ctlr.copy_enables.Given as goal

abbrev pub invariant-loop-place : goal.invariant-loop-place
invariant-loop-place g l = record { end : l.place-end ≡ interrupt_count (shape_of (g.P.Port.seen l.initial.port)); copies : CopiedSoFar (g.P.Port.seen l.initial.port) (g.P.Port.seen l.port) l.enables l.place }
