use Rattle.std.proofs.Common.{◌≡◌, ◌++◌, map, drop, fold, None}
use Rattle.serde_json.specs.View.{view}
use Rattle.scn_base.specs.Codes.{first_code, first_of}
use Rattle.scn_read.specs.Guest.{guest_fault, guest_of}
use Rattle.scn_read.proofs.guest.guests.Given as goal

-- the first fault so far and those of the guests that are left give the first of all; without one, the guests so far and those that are left are all
abbrev pub invariant-loop-value : goal.invariant-loop-value
invariant-loop-value l =
    record {
      faults : fold first_code l.fault (map guest_fault (map view (drop l.value-index l.values))) ≡ first_of (map guest_fault (map view l.values));
      read : l.fault ≡ None → l.guests ++ map guest_of (map view (drop l.value-index l.values)) ≡ map guest_of (map view l.values);
    }
