use Rattle.pe_its.specs.PeMem.Call.{CanAccess}
use Rattle.table_bench.proofs.board.set_tables.Given as goal

-- the vCPU can make the next access
abbrev pub invariant-loop-vcpu : goal.invariant-loop-vcpu
invariant-loop-vcpu g l = CanAccess (g.P.Port.seen l.port)
