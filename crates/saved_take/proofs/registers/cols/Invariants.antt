use Rattle.std.proofs.Common.{◌≡◌, map, take}
use Rattle.saved_take.specs.Taken.{col_of}
use Rattle.saved_take.proofs.registers.cols.Given as goal

-- those so far
abbrev pub invariant-loop-pair : goal.invariant-loop-pair
invariant-loop-pair l = l.cols ≡ map col_of (take l.pair-index l.pairs)
