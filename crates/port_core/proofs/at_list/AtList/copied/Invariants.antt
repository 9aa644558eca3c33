use Rattle.std.proofs.Common.{◌≡◌, ◌≤◌, take, length}
use Rattle.port_core.proofs.at_list.AtList.copied.Given as goal

-- those so far
abbrev pub invariant-loop-entry : goal.invariant-loop-entry
invariant-loop-entry l =
    record {
      so_far : l.copy ≡ take l.entry-index l.entry-items;
      room : length l.entry-items ≤ 16;
    }
