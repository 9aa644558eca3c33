use Rattle.std.proofs.Common.{[], refl, ap}
use Rattle.gic_ich.specs.declared.regs.IchRegs.{IchRegs}
use Rattle.vcpu_state.proofs.shelved.Shelved.load.Goals as goal

pub returns-clause-back : goal.returns-clause-back
returns-clause-back c =
    let regs : IchRegs = record { lr = []; n = 0; vmcr = c.vmcr_of.result; hcr = 0; ap0r = c.args.self.cpu.ap0; ap1r = c.args.self.cpu.ap1 } in
    ap (λ cpu. record c.args.self { cpu = cpu }) (c.vmcr_of.ensures.back regs refl refl refl)
