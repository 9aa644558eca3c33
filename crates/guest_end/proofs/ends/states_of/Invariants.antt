-- The first guests; the words of the others are left.
use Rattle.std.proofs.Common.{◌≡◌, ◌++◌, length}
use Rattle.std.specs.Vec.Iter.{into_iter_items, into_iter_len}
use Rattle.guest_end.proofs.EndsLemmas.{StatesSoFar}
use Rattle.guest_end.proofs.ends.states_of.Given as goal

abbrev pub invariant-loop-one : goal.invariant-loop-one
invariant-loop-one l =
    record {
      next : (goal.iterator-loop-one).can_next l.one-iterator;
      finite : (goal.iterator-loop-one).is_finite l.one-iterator;
      rest : l.yielded ++ into_iter_items l.one-iterator ≡ l.fn.words;
      left : into_iter_len l.one-iterator ≡ length (into_iter_items l.one-iterator);
      each : length l.states.items ≡ length l.yielded;
      so : StatesSoFar l.guests l.fn.words l.cpus l.rest l.states.items (length l.yielded);
    }
