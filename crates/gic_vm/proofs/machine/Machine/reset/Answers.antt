use Rattle.std.proofs.Common.{ap, refl}
use Rattle.gic_vm.specs.State.{MachineState}
use Rattle.gic_vm.specs.Reset.{reset_of}
use Rattle.gic_vm.proofs.DoneLemmas.{done_is}
use Rattle.gic_vm.proofs.machine.Machine.reset.Goals as goal

pub returns-clause-done : goal.returns-clause-done
returns-clause-done c =
    let was = c.self.inside in
    done_is c.args.self.now was.layout was.guest c.reopen.new.guest was.lines reset_of 0 0 c.look.result
    (ap (λ (machine : MachineState). machine.guest) c.self.view_is) c.self.invariant c.reopen.ensures.value c.reopen.ensures.shape c.look.ensures.changed refl
