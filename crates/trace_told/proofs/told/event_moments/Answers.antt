use Rattle.std.proofs.Common.{◌≡◌, Some, sym, ap, ◌∙◌, subst, true≢false}
use Rattle.legal_play.specs.Histories.{vcpu_of}
use Rattle.legal_play.specs.Calls.{CanHappen}
use Rattle.trace_told.specs.Told.{event_told}
use Rattle.trace_told.proofs.ToldLemmas.{cannot}
use Rattle.trace_told.proofs.told.event_moments.Goals as goal

pub returns-then-not-can_happen-clause-none : goal.returns-then-not-can_happen-clause-none
returns-then-not-can_happen-clause-none c =
    let state = c.args.state.now in
    let is : event_told state (vcpu_of state.guest.shape c.args.actor) c.args.operation c.args.piece.now c.args.act.now ≡ Some c.in-Some.event =
    ap (λ vcpu. event_told state vcpu c.args.operation c.args.piece.now c.args.act.now) (sym (c.vcpu_of-vcpu.ensures ∙ ap (λ shape. vcpu_of shape c.args.actor) c.shape.ensures)) ∙ sym c.in-Some.ensures in
    cannot state c.args.actor c.args.operation c.args.piece.now c.args.act.now c.in-Some.event is
    (λ can. true≢false (sym (c.can_happen.ensures.1 (subst (λ shape. CanHappen shape c.in-Some.event) (sym c.shape-2.ensures) can)) ∙ c.if-not-can_happen.true))
