use Rattle.std.proofs.Common.{◌≡◌, ℕ, ◌<◌, length, map, get_or}
use Rattle.port_ops.specs.Opened.{no_guest}
use Rattle.port_ops.specs.PortCore.IdealGuests.Opening.{opening as opening_guest}
use Rattle.port_table.specs.Ports.{words_told, root_told}
use Rattle.port_table.specs.Told.{opening_root, words_at}
use Rattle.port_table.proofs.threads.start.Given as goal

-- the guests so far, each as it opens, and their roots
abbrev pub invariant-loop-number : goal.invariant-loop-number
invariant-loop-number l =
    record {
      specs : l.specs ≡ l.scenario.guests;
      end : l.number-end ≡ length l.scenario.guests;
      each : length l.guests.items ≡ l.number;
      opened :
          (n : ℕ) → n < l.number → words_at (map words_told l.guests.items) n ≡ record { home = (words_at (map words_told l.guests.items) n).home; guest = opening_guest (get_or l.scenario.guests n no_guest); number = n };
      roots : map root_told l.roots.items ≡ map opening_root (map words_told l.guests.items);
    }
