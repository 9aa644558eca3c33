use Rattle.std.proofs.Common.{◌≡◌, ◌++◌, drop}
use Rattle.gic_ideal.specs.Eager.{state_shapes}
use Rattle.gic_picture.specs.Names.{names_from}
use Rattle.gic_picture.proofs.names.irq_names.Given as goal

-- the interrupts so far and those of the guests that are left are all
abbrev pub invariant-loop-number : goal.invariant-loop-number
invariant-loop-number l = l.names ++ names_from l.number (state_shapes (drop l.number l.guests)) ≡ names_from 0 (state_shapes l.guests)
