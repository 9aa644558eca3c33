use Rattle.std.proofs.Common.{◌≡◌, ◌++◌, map, take, drop}
use Rattle.port_core.specs.AtList.{changed_by, changed_if, is_which}
use Rattle.port_core.proofs.at_list.AtList.change.Given as goal

-- those before the index are changed
abbrev pub invariant-loop-entry : goal.invariant-loop-entry
invariant-loop-entry l =
    l.entry-items ≡ map (changed_if (is_which l.fn.which) (changed_by l.fn.change)) (take l.entry-index l.initial.entry-items) ++ drop l.entry-index l.initial.entry-items
