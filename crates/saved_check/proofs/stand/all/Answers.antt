use Rattle.std.proofs.Common.{◌++◌, ap}
use Rattle.saved_guest.specs.Standing.{all_wires}
use Rattle.saved_check.proofs.RunLemmas.{as_many}
use Rattle.saved_check.proofs.stand.all.Goals as goal

pub loop-number-init : goal.loop-number-init
loop-number-init c = record { whole = ap (λ wires. wires ++ all_wires c.args.guests.now c.args.states.now) c.new-all.ensures; valid = c.requires.valid; each = as_many c.args.guests.now c.args.states.now c.requires.valid }
