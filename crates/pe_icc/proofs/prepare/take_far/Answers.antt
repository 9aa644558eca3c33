-- At once, or after it gave all back.
use Rattle.std.proofs.Common.{ap, sym, ◌∙◌}
use Rattle.pe_loop.specs.Words.{is_number}
use Rattle.pe_icc.proofs.ReadyLemmas.{at_empty, can_claim, can_take_after, gathered_claimed, gathered_inactive, none_cands, takes_here}
use Rattle.pe_icc.proofs.prepare.take_far.Goals as goal

pub claim_far-requires : goal.claim_far-requires
claim_far-requires g c =
    let old = g.P.Port.seen c.args.port.now in
    can_claim old c.args.stay.vcpu c.args.key c.args.irq.now c.requires (ap (λ local. local.at) (sym c.local_ref.ensures) ∙ at_empty c.local_ref.result.now.at c.as_slice.result.now c.as_slice.ensures.value (sym c.is_empty.ensures ∙ c.if-is_empty.true))

pub returns-then-is_empty : goal.returns-then-is_empty
returns-then-is_empty g c = takes_here (g.P.Port.seen c.args.port.now) (g.P.Port.seen c.claim_far.new.port) c.args.key c.args.stay c.claim_far.result c.claim_far.ensures

pub look_for-last-requires-clause-none : goal.look_for-last-requires-clause-none
look_for-last-requires-clause-none g c = none_cands (g.P.Port.seen c.gather-vcpu.new.port) c.gather-vcpu.result c.gather-vcpu.ensures.set.on

pub returns-then-not-is_active_by : goal.returns-then-not-is_active_by
returns-then-not-is_active_by g c =
    let old = g.P.Port.seen c.args.port.now in
    let mid = g.P.Port.seen c.gather-vcpu.new.port in
    let new = g.P.Port.seen c.look_for-last.new.port in
    gathered_inactive old mid new c.args.key c.args.stay c.gather-vcpu.result c.look_for-last.result c.gather-vcpu.ensures c.look_for-last.ensures
    (ap (λ actor. is_number actor c.look_for-last.result.act_by) (sym (c.actor.ensures ∙ ap (λ seen. seen.actor) c.look_for-last.ensures.adds.new_is)) ∙ sym c.is_active_by.ensures ∙ c.if-not-is_active_by.true)

pub claim_far-requires-2 : goal.claim_far-requires-2
claim_far-requires-2 g c =
    let old = g.P.Port.seen c.args.port.now in
    let mid = g.P.Port.seen c.gather-vcpu.new.port in
    let new = g.P.Port.seen c.look_for-last.new.port in
    can_take_after old mid new c.args.stay.vcpu c.gather-vcpu.result c.args.key c.args.irq.now c.look_for-last.result c.requires c.gather-vcpu.ensures c.look_for-last.ensures
    (ap (λ actor. is_number actor c.look_for-last.result.act_by) (sym (c.actor.ensures ∙ ap (λ seen. seen.actor) c.look_for-last.ensures.adds.new_is)) ∙ sym c.is_active_by.ensures ∙ c.if-not-is_active_by.false)

pub returns : goal.returns
returns g c =
    let old = g.P.Port.seen c.args.port.now in
    let mid = g.P.Port.seen c.gather-vcpu.new.port in
    let mid2 = g.P.Port.seen c.look_for-last.new.port in
    gathered_claimed old mid mid2 (g.P.Port.seen c.claim_far-2.new.port) c.args.key c.args.stay c.gather-vcpu.result c.claim_far-2.result c.look_for-last.result c.gather-vcpu.ensures c.look_for-last.ensures
    (ap (λ actor. is_number actor c.look_for-last.result.act_by) (sym (c.actor.ensures ∙ ap (λ seen. seen.actor) c.look_for-last.ensures.adds.new_is)) ∙ sym c.is_active_by.ensures ∙ c.if-not-is_active_by.false) c.claim_far-2.ensures
