use Rattle.std.proofs.Common.{◌≡◌, map, take}
use Rattle.gic_picture.proofs.picture.names_of.Given as goal

-- the interrupts so far
abbrev pub invariant-loop-tally : goal.invariant-loop-tally
invariant-loop-tally l = l.names ≡ map (λ tally. tally.name) (take l.tally-index l.tallies)
