-- The first guests are copied.
use Rattle.std.proofs.Common.{◌≡◌, take}
use Rattle.saved_take.proofs.run.all_copied.Given as goal

abbrev pub invariant-loop-guest : goal.invariant-loop-guest
invariant-loop-guest l = l.copies ≡ take l.guest-index l.guests
