-- A machine with what was fed for a call of it.
use Rattle.std.specs.Prelude.{ℕ}
use Rattle.vm_saved.specs.GicVm.State.{MachineState}
use Rattle.gic_c.specs.declared.board.Board.{Board}
use Rattle.gic_c.specs.Feed.{no_feed}

-- one for which nothing was fed
abbrev pub opened_with : MachineState → ℕ → Board
opened_with machine vcpus = record { machine = machine; vcpus = vcpus; feed = no_feed }

-- what was fed is dropped
abbrev pub forgotten : Board → Board
forgotten board = record board { feed = no_feed }

-- the machine is this one, and what was fed is dropped
abbrev pub with_machine : Board → MachineState → Board
with_machine board machine = record { machine = machine; vcpus = board.vcpus; feed = no_feed }
