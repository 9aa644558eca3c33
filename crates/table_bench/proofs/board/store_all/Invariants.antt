use Rattle.pe_its.specs.PeMem.Call.{CanAccess}
use Rattle.table_bench.proofs.board.store_all.Given as goal

-- the vCPU can make the next access
abbrev pub invariant-loop-address : goal.invariant-loop-address
invariant-loop-address g l = CanAccess (g.P.Port.seen l.port)
