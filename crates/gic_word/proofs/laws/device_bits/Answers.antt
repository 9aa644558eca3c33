use Rattle.gic_word.proofs.CauseLemmas.{soft_set, wire_raised, line_cleared}
use Rattle.gic_word.proofs.laws.device_bits.Goals as goal

pub returns : goal.returns
returns c = record { raise = soft_set; wire_up = wire_raised; wire_down = line_cleared }
