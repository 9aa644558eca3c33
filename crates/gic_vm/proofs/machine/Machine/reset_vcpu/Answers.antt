use Rattle.std.proofs.Common.{◌≡◌, ◌<◌, ap, refl, subst, arith}
use Rattle.ideal_guest.specs.declared.guest.IdealGuest.{IdealGuest}
use Rattle.gic_vm.specs.State.{MachineState}
use Rattle.gic_vm.specs.Reset.{with_cpu_reset}
use Rattle.gic_vm.proofs.DoneLemmas.{done_is, reset_is}
use Rattle.gic_vm.proofs.machine.Machine.reset_vcpu.Goals as goal

pub returns-clause-answer : goal.returns-clause-answer
returns-clause-answer c =
    let was = c.self.inside in
    let guest_is : was.guest ≡ c.args.self.now.guest = ap (λ (machine : MachineState). machine.guest) c.self.view_is in
    let there : c.args.vcpu < was.guest.shape.vcpus = omega (arith, c.if-vcpu-self.false) in
    reset_is c.args.vcpu c.args.self.now.guest _ (subst (λ (guest : IdealGuest). c.args.vcpu < guest.shape.vcpus) guest_is there)
    (done_is c.args.self.now was.layout was.guest c.reset_cpu.new.guest was.lines (with_cpu_reset c.args.vcpu) 0 0 c.look.result
    guest_is c.self.invariant c.reset_cpu.ensures.value c.reset_cpu.ensures.shape c.look.ensures.changed refl)
