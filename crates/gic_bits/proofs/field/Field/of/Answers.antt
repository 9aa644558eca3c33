use Rattle.std.proofs.Common.{arith}
use Rattle.gic_bits.proofs.FieldLemmas.{masked, masked_bound}
use Rattle.gic_bits.proofs.field.Field.of.Goals as goal

pub returns-clause-value : goal.returns-clause-value
returns-clause-value c = masked c.args.word c.args.self.place c.args.self.width (omega arith)

pub returns-clause-bound : goal.returns-clause-bound
returns-clause-bound c = masked_bound c.args.word c.args.self.place c.args.self.width (omega arith)
