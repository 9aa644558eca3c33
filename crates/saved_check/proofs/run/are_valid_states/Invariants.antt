use Rattle.std.proofs.Common.{◌↔◌, drop}
use Rattle.saved_guest.specs.Whole.{AreValidStates}
use Rattle.saved_check.proofs.run.are_valid_states.Given as goal

-- all are valid exactly where those that are left are
abbrev pub invariant-loop-number : goal.invariant-loop-number
invariant-loop-number l = AreValidStates (drop l.number l.guests) (drop l.number l.states) ↔ AreValidStates l.guests l.states
