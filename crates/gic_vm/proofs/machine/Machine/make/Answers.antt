use Rattle.std.proofs.Common.{Some, subst}
use Rattle.gic_vm.specs.State.{MachineState}
use Rattle.gic_vm.specs.Mmio.{IsMade}
use Rattle.gic_vm.proofs.MadeLemmas.{is_made, kept_copied}
use Rattle.gic_vm.proofs.machine.Machine.make.Goals as goal

pub returns : goal.returns
returns g c =
    let May = g.M.GuestMemory.may_read c.args.memory.now in
    let was = c.self.inside in
    let machine : MachineState = record { layout = was.layout; guest = was.guest; bases = was.bases } in
    subst (λ (before : MachineState). IsMade May (Some c.args.access.now) c.args.vcpu before c.access.new.self c.access.result) c.self.view_is
    (is_made May c.args.access.now c.args.vcpu machine c.copy.new.guest c.access.new.self c.access.result c.copy.ensures.copied c.copy.ensures.kept c.access.ensures.machine c.access.ensures.done)

pub invariant_of-self : goal.invariant_of-self
invariant_of-self g c = kept_copied c.self.inside.layout c.self.inside.guest c.copy.new.guest c.self.inside.lines c.self.invariant c.copy.ensures.kept
