use Rattle.std.proofs.Common.{◌≡◌, List, ◌++◌, length, map}
use Rattle.std.specs.Vec.Iter.{into_iter_items}
use Rattle.port_table.specs.declared.guest.GuestRoot.{GuestRoot}
use Rattle.port_table.specs.Ports.{words_told, root_told}
use Rattle.port_table.specs.Told.{EndsRuns}
use Rattle.port_table.proofs.threads.finish.Given as goal

-- the guests so far ended; the others are left
abbrev pub invariant-loop-table : goal.invariant-loop-table
invariant-loop-table l =
    record {
      next : (goal.iterator-loop-table).can_next l.table-iterator;
      finite : (goal.iterator-loop-table).is_finite l.table-iterator;
      rest : l.yielded ++ into_iter_items l.table-iterator ≡ l.fn.words.guests.items;
      ended : (early : List GuestRoot) × (early ++ into_iter_items l.roots ≡ l.fn.root.guests.items) × (length early ≡ length l.yielded) × EndsRuns (map words_told l.yielded) (map root_told early) l.ends;
    }
