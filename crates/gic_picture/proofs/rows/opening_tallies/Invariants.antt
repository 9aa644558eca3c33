use Rattle.std.proofs.Common.{◌≡◌, map, take}
use Rattle.gic_picture.specs.Rows.{opening_tally}
use Rattle.gic_picture.proofs.rows.opening_tallies.Given as goal

-- what is known of the interrupts so far
abbrev pub invariant-loop-name : goal.invariant-loop-name
invariant-loop-name l = l.tallies ≡ map (opening_tally l.guests) (take l.name-index l.name-items)
