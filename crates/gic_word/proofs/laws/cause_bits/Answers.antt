use Rattle.gic_word.proofs.CauseLemmas.{soft_set, soft_cleared, line_set, line_cleared, rise_set, rise_cleared}
use Rattle.gic_word.proofs.laws.cause_bits.Goals as goal

pub returns : goal.returns
returns c = record { set_soft = soft_set; clear_soft = soft_cleared; set_line = line_set; clear_line = line_cleared; set_rise = rise_set; clear_rise = rise_cleared }
