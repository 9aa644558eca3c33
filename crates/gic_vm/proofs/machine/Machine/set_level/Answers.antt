use Rattle.std.proofs.Common.{◌≡◌, sym, ap, ◌∙◌}
use Rattle.std.specs.Bool.{beq}
use Rattle.ideal_guest.specs.Words.{Irq}
use Rattle.ideal_guest.specs.declared.guest.IdealGuest.{IdealGuest}
use Rattle.ideal_guest.specs.Ideal.{irq_at}
use Rattle.gic_vm.specs.State.{MachineState}
use Rattle.gic_vm.proofs.DoneLemmas.{level_kept, level_moved}
use Rattle.gic_vm.proofs.machine.Machine.set_level.Goals as goal

pub returns-then-irq-up-clause-done : goal.returns-then-irq-up-clause-done
returns-then-irq-up-clause-done c =
    let guest_is : c.self.inside.guest ≡ c.args.self.now.guest = ap (λ (machine : MachineState). machine.guest) c.self.view_is in
    let same : beq (irq_at c.args.self.now.guest c.args.key).line c.args.up ≡ beq c.irq.result.line c.args.up =
    ap (λ (guest : IdealGuest). beq (irq_at guest c.args.key).line c.args.up) (sym guest_is) ∙ ap (λ (irq : Irq). beq irq.line c.args.up) (sym c.irq.ensures) in
    level_kept c.args.self.now.guest c.args.key c.args.up (same ∙ c.if-irq-up.true)

pub returns-clause-done : goal.returns-clause-done
returns-clause-done c =
    let guest_is : c.self.inside.guest ≡ c.args.self.now.guest = ap (λ (machine : MachineState). machine.guest) c.self.view_is in
    let same : beq (irq_at c.args.self.now.guest c.args.key).line c.args.up ≡ beq c.irq.result.line c.args.up =
    ap (λ (guest : IdealGuest). beq (irq_at guest c.args.key).line c.args.up) (sym guest_is) ∙ ap (λ (irq : Irq). beq irq.line c.args.up) (sym c.irq.ensures) in
    c.receive.ensures.done ∙ level_moved c.args.self.now.guest c.args.key c.args.up (same ∙ c.if-irq-up.false)
