use Rattle.std.proofs.Common.{ap, refl}
use Rattle.ideal_guest.specs.Call.{after_device}
use Rattle.gic_vm.specs.State.{MachineState}
use Rattle.gic_vm.proofs.DoneLemmas.{done_is}
use Rattle.gic_vm.proofs.machine.Machine.receive.Goals as goal

pub returns-clause-done : goal.returns-clause-done
returns-clause-done c =
    let was = c.self.inside in
    done_is c.args.self.now was.layout was.guest c.receive.new.self was.lines (after_device c.args.op) 0 0 c.look.result
    (ap (λ (machine : MachineState). machine.guest) c.self.view_is) c.self.invariant c.receive.ensures.after c.receive.ensures.shape c.look.ensures.changed refl
