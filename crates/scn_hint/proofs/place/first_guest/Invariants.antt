-- Nothing is amiss with the guests so far, nor with their presets.
use Rattle.std.proofs.Common.{All, map, take}
use Rattle.serde_json.specs.View.{view}
use Rattle.scn_hint.specs.Hint.{IsFitGuest}
use Rattle.scn_hint.proofs.place.first_guest.Given as goal

abbrev pub invariant-loop-guest : goal.invariant-loop-guest
invariant-loop-guest l = All (IsFitGuest l.asks) (take l.guest (map view l.values))
