use Rattle.std.proofs.Common.{◌-◌, arith}
use Rattle.std.proofs.lemmas.Nat.{pow_below}
use Rattle.port_core.proofs.LineLemmas.{few_devices}
use Rattle.port_core.proofs.atomic.device_bit.Goals as goal

pub returns-clause-bound : goal.returns-clause-bound
returns-clause-bound c =
    let few = few_devices c.args.shape.now c.args.actor c.requires.shape c.requires.actor c.requires.device in
    let small = pow_below (c.args.actor - c.args.shape.now.vcpus) 4 few.1 in
    omega (arith, small)
