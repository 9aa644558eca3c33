-- What was chosen for the places so far was claimed.
use Rattle.pe_loop.specs.Claiming.{IsClaiming}
use Rattle.pe_loop.proofs.claims.claim_all.Given as goal

abbrev pub invariant-loop-place : goal.invariant-loop-place
invariant-loop-place g l = IsClaiming (g.P.Port.seen l.initial.port) (g.P.Port.seen l.port) l.fill l.initial.vcpu l.vcpu l.place l.failed
