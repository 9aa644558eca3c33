use Rattle.std.proofs.Common.{◌≡◌, ap, ◌∙◌}
use Rattle.ideal_guest.specs.declared.guest.IdealGuest.{IdealGuest}
use Rattle.ideal_guest.specs.Call.{after_op, op_answer}
use Rattle.gic_vm.specs.State.{MachineState}
use Rattle.gic_vm.specs.Calls.{value_in}
use Rattle.gic_vm.proofs.DoneLemmas.{done_is}
use Rattle.gic_vm.proofs.machine.Machine.operate.Goals as goal

pub returns-clause-done : goal.returns-clause-done
returns-clause-done c =
    let was = c.self.inside in
    let now = c.args.self.now in
    let guest_is : was.guest ≡ now.guest = ap (λ (machine : MachineState). machine.guest) c.self.view_is in
    let reads : c.value_of.result ≡ value_in (op_answer c.args.op now.guest c.args.vcpu) =
    c.value_of.ensures ∙ ap value_in c.operate-answer.ensures.answer ∙ ap (λ (guest : IdealGuest). value_in (op_answer c.args.op guest c.args.vcpu)) guest_is in
    done_is now was.layout was.guest c.operate-answer.new.self was.lines (λ (guest : IdealGuest). after_op c.args.op guest c.args.vcpu) c.value_of.result (value_in (op_answer c.args.op now.guest c.args.vcpu)) c.look.result
    guest_is c.self.invariant c.operate-answer.ensures.after c.operate-answer.ensures.shape c.look.ensures.changed reads
