use Rattle.std.proofs.Common.{IsTrue, subst, sym, ◌∙◌}
use Rattle.std.specs.List.{list_all}
use Rattle.history_check.specs.Ready.{fits}
use Rattle.history_check.proofs.ReadyLemmas.{moved_valid, here_fit, rest_fits}
use Rattle.history_check.proofs.state.State.leave.Goals as goal

pub set_irq-requires-clause-valid : goal.set_irq-requires-clause-valid
set_irq-requires-clause-valid c =
    let state = c.args.self.now in
    c.left.ensures.valid state.guest.shape c.args.key c.requires.ready.shape c.requires.vcpu (moved_valid state c.args.vcpu c.args.key c.in-Some.moved c.requires.ready c.requires.key (sym c.moved.ensures ∙ c.in-Some.is))

pub set_standing-requires-clause-fits : goal.set_standing-requires-clause-fits
set_standing-requires-clause-fits c =
    let state = c.args.self.now in
    let shape = state.guest.shape in
    let here = subst (λ xs. IsTrue (list_all (fits shape) xs)) (sym c.standing.ensures) (here_fit state c.args.vcpu c.requires.ready) in
    let rest = subst (λ xs. IsTrue (list_all (fits shape) xs)) (sym c.in_ok-standing.ensures) (rest_fits (fits shape) c.args.key c.standing.result.now here) in
    subst (λ s. IsTrue (list_all (fits s.guest.shape) c.in_ok-standing.standing)) (sym c.set_irq.ensures.value) rest
