use Rattle.std.proofs.Common.{◌≡◌, ◌++◌, drop, map, length}
use Rattle.ideal_guest.specs.Opening.{opening}
use Rattle.gic_ideal.specs.Ends.{ends_of}
use Rattle.gic_ideal.proofs.run.end_all.Given as goal

-- the ends so far and those of the other guests are those of all
abbrev pub invariant-loop-number : goal.invariant-loop-number
invariant-loop-number l =
    record {
      each : length l.closed ≡ length l.guests;
      told : l.ends ++ ends_of (map opening (drop l.number l.guests)) (drop l.number l.closed) ≡ ends_of (map opening l.guests) l.closed;
    }
