-- Nothing is amiss with the presets so far.
use Rattle.std.proofs.Common.{◌≡◌, All, None, map, take}
use Rattle.serde_json.specs.View.{view}
use Rattle.scn_hint.specs.Hint.{preset_trouble}
use Rattle.scn_hint.proofs.place.first_preset.Given as goal

abbrev pub invariant-loop-preset : goal.invariant-loop-preset
invariant-loop-preset l = All (λ d. preset_trouble l.asks (view l.guest) d ≡ None) (take l.preset (map view l.values))
