-- The access, as its own contract says.
use Rattle.std.proofs.Common.{◌<◌, ◌^◌, subst, ap}
use Rattle.pe_loop.specs.VcpuState.declared.loaded.Loaded.{Loaded}
use Rattle.pe_icc.proofs.OperateLemmas.{IsAccess, operates}
use Rattle.pe_icc.proofs.operate.operate.Goals as goal

pub returns : goal.returns
returns c =
    let before = c.args.vcpu.now in
    let mid = c.open.new.vcpu in
    let after : Loaded = record mid { regs = c.access-outcome.new.regs } in
    let fits : mid.regs.vmcr < 2 ^ 32 = c.open.ensures.fits in
    let is : IsAccess c.args.reg c.args.write mid.regs c.access-outcome.result after.regs
    = record { outcome_is = c.access-outcome.ensures.outcome; after_is = c.access-outcome.ensures.registers; follows = c.access-outcome.ensures.follows; places = c.access-outcome.ensures.places } in
    operates c.args.reg c.args.write before after c.access-outcome.result c.read_by.result c.requires.direction c.requires.free (subst (λ (vcpu : Loaded). vcpu.regs.vmcr < 2 ^ 32) c.open.ensures.value fits)
    (subst (λ (vcpu : Loaded). IsAccess c.args.reg c.args.write vcpu.regs c.access-outcome.result after.regs) c.open.ensures.value is) (ap (λ (vcpu : Loaded). record vcpu { regs = before.regs }) c.open.ensures.value) c.read_by.ensures
