use Rattle.std.proofs.Common.{◌≡◌, ℕ, ap, ◌∙◌}
use Rattle.ideal_guest.specs.Words.{GuestOp}
use Rattle.ideal_guest.specs.Registers.{half_written}
use Rattle.gic_vm.specs.State.{MachineState}
use Rattle.guest_memory.specs.Bases.{kept_of, base_in, placed_op}
use Rattle.gic_vm.specs.Own.{kept_after}
use Rattle.gic_vm.specs.Calls.{done_in}
use Rattle.gic_vm.proofs.machine.Machine.write_base.Goals as goal

pub returns-clause-done : goal.returns-clause-done
returns-clause-done c =
    let was = c.self.inside in
    let now = c.args.self.now in
    let base = c.args.base in
    let kept_is : c.kept-kept.result ≡ kept_after now base c.args.half c.args.value =
    c.kept-kept.ensures
    ∙ ap (kept_of base)
    (c.written.ensures.value ∙ ap (λ (n : ℕ). half_written c.args.half n c.args.value) (c.get.ensures ∙ ap (λ (m : MachineState). base_in m.bases base) c.self.view_is)) in
    let op_is : c.placed_op.result ≡ placed_op base (kept_after now base c.args.half c.args.value) = c.placed_op.ensures ∙ ap (placed_op base) kept_is in
    c.operate.ensures.done ∙ ap (λ (op : GuestOp). done_in op was.guest c.args.vcpu) op_is
    ∙ ap (λ (m : MachineState). done_in (placed_op base (kept_after now base c.args.half c.args.value)) m.guest c.args.vcpu) c.self.view_is
