use Rattle.std.proofs.Common.{◌≡◌, map, take}
use Rattle.gic_picture.specs.Marks.{irq_in}
use Rattle.gic_picture.specs.Rows.{next_tally}
use Rattle.gic_picture.proofs.rows.next_tallies.Given as goal

-- what is known of the interrupts so far
abbrev pub invariant-loop-tally : goal.invariant-loop-tally
invariant-loop-tally l = l.next ≡ map (λ tally. next_tally (irq_in l.guests tally.name) tally) (take l.tally-index l.tallies)
