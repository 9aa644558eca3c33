-- What was held leaves, place by place.
use Rattle.std.proofs.Common.{subst, arith}
use Rattle.pe_loop.specs.Leave.{IsLeaving}
use Rattle.pe_loop.proofs.LeaveLemmas.{none_left_yet, can_leave, place_left, settled_owes, leaves}
use Rattle.pe_loop.proofs.exit.leave.Goals as goal

pub loop-place-init : goal.loop-place-init
loop-place-init g c = none_left_yet (g.P.Port.seen c.args.port.now) c.args.vcpu (settled_owes (g.P.Port.seen c.args.port.now).local c.requires.settled)

pub release_held-requires-clause-can : goal.release_held-requires-clause-can
release_held-requires-clause-can g c =
    can_leave (g.P.Port.seen c.args.port.now) (g.P.Port.seen c.loop-place.port) c.args.vcpu c.loop-place.place c.fold-backs.result (omega arith) c.fold-backs.ensures (g.P.Port.is_port c.args.port.now) c.requires c.loop-place.invariant

pub loop-place-preserved : goal.loop-place-preserved
loop-place-preserved g c =
    place_left (g.P.Port.seen c.args.port.now) (g.P.Port.seen c.loop-place.port) (g.P.Port.seen c.release_held.new.port) c.args.vcpu c.loop-place.place c.loop-place.invariant c.release_held.ensures

pub returns-clause-leaves : goal.returns-clause-leaves
returns-clause-leaves g c =
    leaves (g.P.Port.seen c.args.port.now) (g.P.Port.seen c.loop-place.port) c.args.vcpu c.shelve.result (omega arith) c.requires c.shelve.ensures.value
    (subst (IsLeaving (g.P.Port.seen c.args.port.now) (g.P.Port.seen c.loop-place.port) c.args.vcpu) (omega arith) c.loop-place.invariant)
