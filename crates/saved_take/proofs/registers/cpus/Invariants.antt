use Rattle.std.proofs.Common.{◌≡◌, map, take}
use Rattle.saved_take.specs.Taken.{cpu_state}
use Rattle.saved_take.proofs.registers.cpus.Given as goal

-- those so far
abbrev pub invariant-loop-rec : goal.invariant-loop-rec
invariant-loop-rec l = l.cpus ≡ map cpu_state (take l.rec-index l.recs)
