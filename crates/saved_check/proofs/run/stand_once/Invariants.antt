use Rattle.std.proofs.Common.{◌≡◌, drop}
use Rattle.saved_guest.specs.Whole.{stand_once}
use Rattle.saved_check.proofs.run.stand_once.Given as goal

-- none stands twice exactly where none of those that are left does
abbrev pub invariant-loop-pe : goal.invariant-loop-pe
invariant-loop-pe l = stand_once (drop l.pe l.pes) ≡ stand_once l.pes
