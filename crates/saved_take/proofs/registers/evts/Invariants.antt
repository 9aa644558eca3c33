use Rattle.std.proofs.Common.{◌≡◌, map, take}
use Rattle.saved_take.specs.Taken.{evt_of}
use Rattle.saved_take.proofs.registers.evts.Given as goal

-- those so far
abbrev pub invariant-loop-pair : goal.invariant-loop-pair
invariant-loop-pair l = l.evts ≡ map evt_of (take l.pair-index l.pairs)
