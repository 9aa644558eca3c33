use Rattle.std.proofs.Common.{◌≡◌, ◌++◌, drop, map, length}
use Rattle.serde_json.specs.View.{view}
use Rattle.gic_save.specs.Image.{guests_data}
use Rattle.gic_save.proofs.guest.guests.Given as goal

-- the guests so far and the others are all
abbrev pub invariant-loop-number : goal.invariant-loop-number
invariant-loop-number l =
    record {
      each : length l.states ≡ length l.specs;
      told : map view l.values.items ++ guests_data (drop l.number l.specs) (drop l.number l.states) ≡ guests_data l.specs l.states;
    }
