use Rattle.std.proofs.Common.{◌≡◌, sym, ap, refl, ◌∙◌}
use Rattle.ideal_guest.specs.declared.guest.IdealGuest.{IdealGuest}
use Rattle.gic_vm.specs.State.{MachineState}
use Rattle.gic_vm.proofs.DoneLemmas.{done_is}
use Rattle.gic_vm.proofs.machine.Machine.put_back.Goals as goal

pub returns-clause-done : goal.returns-clause-done
returns-clause-done c =
    let was = c.self.inside in
    let guest_is : was.guest ≡ c.args.self.now.guest = ap (λ (machine : MachineState). machine.guest) c.self.view_is in
    let shape : c.args.guest.shape ≡ was.guest.shape = c.requires.shape ∙ sym (ap (λ (guest : IdealGuest). guest.shape) guest_is) in
    done_is c.args.self.now was.layout was.guest c.args.guest was.lines (λ (before : IdealGuest). c.args.guest) 0 0 c.look.result guest_is c.self.invariant refl shape c.look.ensures.changed refl
