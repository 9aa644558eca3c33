use Rattle.std.proofs.Common.{◌≡◌, ◌++◌, map}
use Rattle.std.specs.Vec.Iter.{into_iter_items}
use Rattle.port_seq.specs.Ports.{told}
use Rattle.port_seq.specs.Told.{words_of_end}
use Rattle.port_seq.proofs.port.SeqPort.finish.Given as goal

-- those of the guests so far; the others are left
abbrev pub invariant-loop-guest : goal.invariant-loop-guest
invariant-loop-guest l =
    record {
      next : (goal.iterator-loop-guest).can_next l.guest-iterator;
      finite : (goal.iterator-loop-guest).is_finite l.guest-iterator;
      rest : l.yielded ++ into_iter_items l.guest-iterator ≡ l.fn.self.guests.items;
      so_far : l.words ≡ map words_of_end (map told l.yielded);
    }
