-- The claim of what the vCPU holds.
use Rattle.std.proofs.Common.{true}
use Rattle.pe_loop.proofs.ChosenLemmas.{can_take, may_take_it, held_fits, takes_so}
use Rattle.pe_loop.proofs.claims.take_causes.Goals as goal

pub claim-requires-clause-packable : goal.claim-requires-clause-packable
claim-requires-clause-packable g c = held_fits (g.P.Port.seen c.args.port.now) c.args.choice.now c.actor.result c.actor.ensures c.requires

pub claim-requires-clause-can : goal.claim-requires-clause-can
claim-requires-clause-can g c = can_take (g.P.Port.seen c.args.port.now) c.args.choice.now c.actor.result c.actor.ensures c.requires

pub claim-requires-clause-may : goal.claim-requires-clause-may
claim-requires-clause-may g c = may_take_it (g.P.Port.seen c.args.port.now) c.args.choice.now c.actor.result c.actor.ensures c.requires

pub returns-then-claim : goal.returns-then-claim
returns-then-claim g c = takes_so (g.P.Port.seen c.args.port.now) (g.P.Port.seen c.claim.new.port) c.args.choice.now c.actor.result true c.actor.ensures c.if-claim.ensures
