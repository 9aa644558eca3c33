use Rattle.std.proofs.Common.{◌≡◌, ◌++◌}
use Rattle.std.specs.VecDeque.Iter.{deque_iter_rest}
use Rattle.its_tab.proofs.tables.ItsTables.devices.Given as goal

-- the pairs that are listed so far, and those that are left
abbrev pub invariant-loop-pair : goal.invariant-loop-pair
invariant-loop-pair l = l.pairs.items ++ deque_iter_rest l.pair-iterator ≡ l.self.devices
