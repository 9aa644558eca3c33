-- Place by place.
use Rattle.std.proofs.Common.{subst, arith}
use Rattle.pe_loop.specs.Claiming.{IsClaiming}
use Rattle.pe_loop.proofs.ClaimingLemmas.{nothing_claimed, can_claim, place_claimed, all_claimed}
use Rattle.pe_loop.proofs.claims.claim_all.Goals as goal

pub loop-place-init : goal.loop-place-init
loop-place-init g c = nothing_claimed (g.P.Port.seen c.args.port.now) c.args.fill.now c.args.vcpu.now (g.P.Port.is_port c.args.port.now) c.requires.plan c.requires.blank

pub claim_place-failed-requires-clause-can : goal.claim_place-failed-requires-clause-can
claim_place-failed-requires-clause-can g c =
    can_claim (g.P.Port.seen c.args.port.now) (g.P.Port.seen c.loop-place.port) c.args.fill.now c.args.vcpu.now c.loop-place.vcpu c.loop-place.place c.loop-place.failed (g.P.Port.is_port c.args.port.now) c.requires.plan (omega arith) c.loop-place.invariant

pub loop-place-preserved : goal.loop-place-preserved
loop-place-preserved g c =
    place_claimed (g.P.Port.seen c.args.port.now) (g.P.Port.seen c.loop-place.port) (g.P.Port.seen c.claim_place-failed.new.port) c.args.fill.now c.args.vcpu.now c.loop-place.vcpu c.claim_place-failed.new.vcpu c.loop-place.place c.loop-place.failed
    c.claim_place-failed.result (g.P.Port.is_port c.args.port.now) c.requires.plan (omega arith) c.loop-place.invariant c.claim_place-failed.ensures

pub returns : goal.returns
returns g c =
    all_claimed (g.P.Port.seen c.args.port.now) (g.P.Port.seen c.loop-place.port) c.args.fill.now c.args.vcpu.now c.loop-place.vcpu c.loop-place.failed (g.P.Port.is_port c.args.port.now) c.requires.plan
    (subst (λ place. IsClaiming (g.P.Port.seen c.args.port.now) (g.P.Port.seen c.loop-place.port) c.args.fill.now c.args.vcpu.now c.loop-place.vcpu place c.loop-place.failed) (omega arith) c.loop-place.invariant)
