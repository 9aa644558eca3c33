use Rattle.std.proofs.Common.{◌≡◌, map, take}
use Rattle.saved_take.specs.Taken.{dev_of}
use Rattle.saved_take.proofs.registers.devs.Given as goal

-- those so far
abbrev pub invariant-loop-pair : goal.invariant-loop-pair
invariant-loop-pair l = l.devs ≡ map dev_of (take l.pair-index l.pairs)
