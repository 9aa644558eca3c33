use Rattle.std.proofs.Common.{◌/◌, ◌^◌, arith}
use Rattle.std.proofs.lemmas.Nat.{pow_pos, mod_below}
use Rattle.gic_ram.proofs.PartLemmas.{masked}
use Rattle.gic_ram.proofs.access.extract.Goals as goal

pub returns-clause-value : goal.returns-clause-value
returns-clause-value c = masked (c.args.word / 2 ^ c.args.part.now.shift) c.args.part.now.bits (omega arith)

pub returns-clause-small : goal.returns-clause-small
returns-clause-small c =
    omega (arith, masked (c.args.word / 2 ^ c.args.part.now.shift) c.args.part.now.bits (omega arith), mod_below (c.args.word / 2 ^ c.args.part.now.shift) (2 ^ c.args.part.now.bits) (pow_pos c.args.part.now.bits))
