use Rattle.std.proofs.Common.{◌≡◌, map, take}
use Rattle.gic_ideal.specs.Ends.{evt_end}
use Rattle.gic_ideal.proofs.ends.evt_ends.Given as goal

-- the ends so far
abbrev pub invariant-loop-pair : goal.invariant-loop-pair
invariant-loop-pair l = l.ends ≡ map evt_end (take l.pair-index l.pairs)
