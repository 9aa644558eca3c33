use Rattle.std.proofs.Common.{◌≡◌, Option, None, sym, ap, ◌∙◌}
use Rattle.ideal_guest.specs.Words.{GuestOp}
use Rattle.gic_vm.specs.declared.own.Own.{Own}
use Rattle.gic_vm.specs.State.{MachineState}
use Rattle.gic_vm.specs.Own.{own_at, own_of, read_own, after_own}
use Rattle.gic_vm.specs.Calls.{done_by, done_in}
use Rattle.gic_vm.proofs.machine.Machine.access.Goals as goal

pub returns-in-None-clause-done : goal.returns-in-None-clause-done
returns-in-None-clause-done c =
    let now = c.args.self.now in
    let access = c.args.access.now in
    let none : own_of access now ≡ None =
    sym (ap (λ (m : MachineState). own_at m.guest.shape access.frame access.offset access.size) c.self.view_is) ∙ sym c.own_at.ensures.value ∙ c.in-None.is in
    c.operate.ensures.done ∙ ap (λ (op : GuestOp). done_in op now.guest c.args.vcpu) c.operation.ensures
    ∙ ap (λ (own : Option Own). done_by (read_own own access now c.args.vcpu) now.guest (after_own own access now c.args.vcpu).guest) (sym none)
