use Rattle.std.proofs.Common.{ℕ, Option, sym, ap, ◌∙◌}
use Rattle.gic_vm.specs.Own.{read_write, after_write}
use Rattle.gic_vm.specs.Calls.{done_by}
use Rattle.gic_vm.proofs.machine.Machine.access_own.Goals as goal

pub returns-in_default-clause-done : goal.returns-in_default-clause-done
returns-in_default-clause-done c =
    let now = c.args.self.now in
    c.read_own.ensures
    ∙ ap (λ (write : Option ℕ). done_by (read_write c.args.own write now) now.guest (after_write c.args.own write c.args.access.now now c.args.vcpu).guest) (sym c.in_default.is)
