-- At the interface, inactive, or active and not there.
use Rattle.std.proofs.Common.{is_some, ap, sym, ◌∙◌}
use Rattle.pe_loop.specs.Words.{is_number}
use Rattle.pe_loop.specs.Core.{entry_for}
use Rattle.pe_icc.proofs.ReadyLemmas.{can_take, none_cands, ready_far, ready_inactive, ready_near, up_set}
use Rattle.pe_icc.proofs.prepare.ready_end.Goals as goal

pub returns-then-is_some : goal.returns-then-is_some
returns-then-is_some g c =
    let old = g.P.Port.seen c.args.port.now in
    ready_near old c.args.key c.args.stay c.requires.up (ap (λ local. is_some (entry_for c.args.key local.at)) (sym c.local_ref.ensures) ∙ ap is_some (sym c.find.ensures) ∙ sym c.is_some.ensures ∙ c.if-is_some.true)

pub look_for-irq-requires-clause-none : goal.look_for-irq-requires-clause-none
look_for-irq-requires-clause-none g c = none_cands (g.P.Port.seen c.args.port.now) c.args.stay.vcpu c.requires.up.on

pub returns-then-not-is_active_by : goal.returns-then-not-is_active_by
returns-then-not-is_active_by g c =
    let old = g.P.Port.seen c.args.port.now in
    ready_inactive old (g.P.Port.seen c.look_for-irq.new.port) c.args.key c.args.stay c.look_for-irq.result c.requires.up c.look_for-irq.ensures
    (ap (λ actor. is_number actor c.look_for-irq.result.act_by) (sym (c.actor.ensures ∙ ap (λ seen. seen.actor) c.look_for-irq.ensures.adds.new_is)) ∙ sym c.is_active_by.ensures ∙ c.if-not-is_active_by.true)

pub take_far-requires : goal.take_far-requires
take_far-requires g c =
    let old = g.P.Port.seen c.args.port.now in
    can_take old (g.P.Port.seen c.look_for-irq.new.port) c.args.stay.vcpu c.args.key c.look_for-irq.result (up_set old c.args.stay.vcpu c.requires.up) c.requires.there c.requires.own
    (ap (λ local. is_some (entry_for c.args.key local.at)) (sym c.local_ref.ensures) ∙ ap is_some (sym c.find.ensures) ∙ sym c.is_some.ensures ∙ c.if-is_some.false) c.look_for-irq.ensures
    (ap (λ actor. is_number actor c.look_for-irq.result.act_by) (sym (c.actor.ensures ∙ ap (λ seen. seen.actor) c.look_for-irq.ensures.adds.new_is)) ∙ sym c.is_active_by.ensures ∙ c.if-not-is_active_by.false)

pub returns : goal.returns
returns g c =
    let old = g.P.Port.seen c.args.port.now in
    ready_far old (g.P.Port.seen c.look_for-irq.new.port) (g.P.Port.seen c.take_far.new.port) c.args.key c.args.stay c.take_far.result c.look_for-irq.result c.look_for-irq.ensures
    (ap (λ actor. is_number actor c.look_for-irq.result.act_by) (sym (c.actor.ensures ∙ ap (λ seen. seen.actor) c.look_for-irq.ensures.adds.new_is)) ∙ sym c.is_active_by.ensures ∙ c.if-not-is_active_by.false) c.take_far.ensures
