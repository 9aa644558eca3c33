use Rattle.std.proofs.Common.{◌≡◌, ◌++◌, take}
use Rattle.saved_check.proofs.stand.add.Given as goal

abbrev pub invariant-loop-wire : goal.invariant-loop-wire
invariant-loop-wire l = l.wires ≡ l.initial.wires ++ take l.wire-index l.more
