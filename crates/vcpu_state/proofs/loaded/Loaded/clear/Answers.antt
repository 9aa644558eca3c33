use Rattle.std.proofs.Common.{◌<◌, length, arith}
use Rattle.vcpu_state.proofs.PlaceLemmas.{clear_stands}
use Rattle.vcpu_state.proofs.loaded.Loaded.clear.Goals as goal

pub returns-clause-stands : goal.returns-clause-stands
returns-clause-stands c interface one at stand was without =
    let vcpu = c.args.self.now in
    let room : c.args.place < length vcpu.held = omega arith in
    clear_stands vcpu.regs vcpu.held interface at c.args.place one room stand was without
