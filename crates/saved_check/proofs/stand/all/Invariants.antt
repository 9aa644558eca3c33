use Rattle.std.proofs.Common.{◌≡◌, ◌++◌, drop, length}
use Rattle.saved_guest.specs.Standing.{all_wires}
use Rattle.saved_guest.specs.Whole.{AreValidStates}
use Rattle.saved_check.proofs.stand.all.Given as goal

-- those so far, and those that are left, are all
abbrev pub invariant-loop-number : goal.invariant-loop-number
invariant-loop-number l =
    record {
      whole : l.all ++ all_wires (drop l.number l.guests) (drop l.number l.states) ≡ all_wires l.guests l.states;
      valid : AreValidStates (drop l.number l.guests) (drop l.number l.states);
      each : length l.states ≡ length l.guests;
    }
