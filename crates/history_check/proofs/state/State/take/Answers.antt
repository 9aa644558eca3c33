use Rattle.std.proofs.Common.{IsTrue, subst, sym, ◌∙◌}
use Rattle.std.specs.List.{list_all}
use Rattle.history_check.specs.Ready.{fits}
use Rattle.history_check.proofs.ReadyLemmas.{moved_valid, here_fit, changed_fits, entry_fits}
use Rattle.history_check.proofs.state.State.take.Goals as goal

pub set_irq-requires-clause-valid : goal.set_irq-requires-clause-valid
set_irq-requires-clause-valid c =
    let state = c.args.self.now in
    (c.taken-taken.ensures.valid state.guest.shape c.args.key (moved_valid state c.args.vcpu c.args.key c.in-Some.moved c.requires.ready c.requires.key (sym c.moved.ensures ∙ c.in-Some.is))).irq

pub set_standing-requires-clause-fits : goal.set_standing-requires-clause-fits
set_standing-requires-clause-fits c =
    let state = c.args.self.now in
    let shape = state.guest.shape in
    let valid = c.taken-taken.ensures.valid shape c.args.key (moved_valid state c.args.vcpu c.args.key c.in-Some.moved c.requires.ready c.requires.key (sym c.moved.ensures ∙ c.in-Some.is)) in
    let here = subst (λ xs. IsTrue (list_all (fits shape) xs)) (sym c.standing.ensures) (here_fit state c.args.vcpu c.requires.ready) in
    let all = changed_fits shape c.args.key c.taken-taken.result.entry c.standing.result.now here (entry_fits shape c.args.key c.taken-taken.result.entry c.requires.key valid.entry) in
    let rest = subst (λ xs. IsTrue (list_all (fits shape) xs)) (sym c.in_ok-standing.ensures) all in
    subst (λ s. IsTrue (list_all (fits s.guest.shape) c.in_ok-standing.standing)) (sym c.set_irq.ensures.value) rest
