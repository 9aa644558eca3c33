-- The first words are there.
use Rattle.std.proofs.Common.{◌≡◌, length, take, ◌/◌}
use Rattle.saved_guest.specs.State.{memory_of}
use Rattle.saved_check.proofs.guest.memory.Given as goal

abbrev pub invariant-loop-ram : goal.invariant-loop-ram
invariant-loop-ram l = (l.memory.items ≡ memory_of l.shape (take l.ram-index l.told)) × (length l.memory.items ≡ l.shape.ram / 8)
