use Rattle.std.proofs.Common.{◌≡◌, take}
use Rattle.saved_guest.specs.IdealGuests.Calls.{shapes_of}
use Rattle.saved_check.proofs.stand.shapes.Given as goal

abbrev pub invariant-loop-guest : goal.invariant-loop-guest
invariant-loop-guest l = l.shapes ≡ shapes_of (take l.guest-index l.guests)
