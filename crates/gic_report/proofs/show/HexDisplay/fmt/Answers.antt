use Rattle.gic_report.proofs.show.HexDisplay.fmt.Goals as goal
use Rattle.gic_report.proofs.HexLemmas.{padded_hex}

pub returns-clause-writes : goal.returns-clause-writes
returns-clause-writes g c = rw (c.in_radix.ensures, c.laid_out.ensures, padded_hex g.row.DIGITS c.args.self.now.0) at c.write.ensures.writes
