use Rattle.pe_its.specs.PeMem.Call.{CanAccess}
use Rattle.table_bench.proofs.board.write_all.Given as goal

-- the vCPU can make the next access
abbrev pub invariant-loop-number : goal.invariant-loop-number
invariant-loop-number g l = CanAccess (g.P.Port.seen l.port)
