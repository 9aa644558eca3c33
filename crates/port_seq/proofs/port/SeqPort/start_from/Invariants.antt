use Rattle.std.proofs.Common.{◌≡◌, ℕ, ◌<◌, ◌++◌, length, map, get_or}
use Rattle.std.specs.Vec.Iter.{into_iter_items}
use Rattle.port_ops.specs.PortCore.IdealGuests.Opening.{opening}
use Rattle.port_ops.specs.Opened.{no_guest}
use Rattle.port_seq.specs.Ports.{told}
use Rattle.port_seq.specs.Told.{no_told, opening_told}
use Rattle.port_seq.proofs.port.SeqPort.start_from.Given as goal

-- the guests so far, each as it opens; the others are left
abbrev pub invariant-loop-guest : goal.invariant-loop-guest
invariant-loop-guest l =
    record {
      next : (goal.iterator-loop-guest).can_next l.guest-iterator;
      finite : (goal.iterator-loop-guest).is_finite l.guest-iterator;
      rest : l.yielded ++ into_iter_items l.guest-iterator ≡ l.fn.guests.items;
      each : length l.ports.items ≡ length l.yielded;
      opened : (n : ℕ) → n < length l.yielded → get_or (map told l.ports.items) n no_told ≡ opening_told (get_or (map told l.ports.items) n no_told).home (get_or l.fn.guests.items n (opening no_guest)) n;
    }
