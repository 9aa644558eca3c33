-- The first are there.
use Rattle.std.proofs.Common.{◌≡◌, map, take}
use Rattle.saved_guest.specs.State.{cpu_of}
use Rattle.saved_check.proofs.guest.cpus.Given as goal

abbrev pub invariant-loop-state : goal.invariant-loop-state
invariant-loop-state l = l.cpus ≡ map cpu_of (take l.state-index l.states)
