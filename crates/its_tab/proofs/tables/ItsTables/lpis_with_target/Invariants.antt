use Rattle.std.proofs.Common.{◌≡◌, ◌++◌}
use Rattle.std.specs.List.{filter}
use Rattle.std.specs.Map.{keys_of}
use Rattle.its_tab.specs.Collection.{has_target}
use Rattle.std.specs.VecDeque.Iter.{deque_iter_rest}
use Rattle.its_tab.proofs.tables.ItsTables.lpis_with_target.Given as goal

-- what passes of all is listed so far, or is left
abbrev pub invariant-loop-pair : goal.invariant-loop-pair
invariant-loop-pair l = filter (has_target l.self) (keys_of (deque_iter_rest l.initial.pair-iterator)) ≡ l.ids.items ++ filter (has_target l.self) (keys_of (deque_iter_rest l.pair-iterator))
