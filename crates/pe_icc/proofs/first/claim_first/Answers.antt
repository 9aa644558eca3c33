-- Where there is one, and where not.
use Rattle.std.proofs.Common.{false, sym, subst}
use Rattle.pe_loop.specs.Claiming.{ClaimsSome}
use Rattle.pe_icc.specs.First.{CanClaimFirst, ClaimsFirst}
use Rattle.pe_icc.proofs.FirstLemmas.{can_claim_first, none_claimed, some_claimed}
use Rattle.pe_icc.proofs.first.claim_first.Goals as goal

pub claim_into-requires-clause-can : goal.claim_into-requires-clause-can
claim_into-requires-clause-can g c =
    let old = g.P.Port.seen c.args.port.now in
    can_claim_first old c.args.vcpu.now c.in-Some.offer c.chosen_as-choice.result (subst (CanClaimFirst old c.args.vcpu.now) c.in-Some.is c.requires) c.chosen_as-choice.ensures.value

pub returns-in-Some : goal.returns-in-Some
returns-in-Some g c =
    let old = g.P.Port.seen c.args.port.now in
    let new = g.P.Port.seen c.claim_into.new.port in
    let before = c.args.vcpu.now in
    let after = c.claim_into.new.vcpu in
    subst (λ first. ClaimsFirst old new before after first c.claim_into.result) (sym c.in-Some.is)
    (some_claimed old new before after c.in-Some.offer c.claim_into.result (g.P.Port.is_port c.args.port.now).good.sound.shape (subst (CanClaimFirst old before) c.in-Some.is c.requires)
    (subst (λ choice. ClaimsSome old new 0 choice before after c.claim_into.result) c.chosen_as-choice.ensures.value c.claim_into.ensures))

pub returns-in-None : goal.returns-in-None
returns-in-None g c =
    let old = g.P.Port.seen c.args.port.now in
    let vcpu = c.args.vcpu.now in
    subst (λ first. ClaimsFirst old old vcpu vcpu first false) (sym c.in-None.is) (none_claimed old vcpu (subst (CanClaimFirst old vcpu) c.in-None.is c.requires))
