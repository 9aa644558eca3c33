use Rattle.std.proofs.Common.{◌≡◌, ◌-◌, map}
use Rattle.std.specs.List.{range_with_len}
use Rattle.gic_soak.specs.Generated.{preset}
use Rattle.gic_soak.proofs.scenario.guest.Given as goal

-- the presets of the SPIs so far
abbrev pub invariant-loop-id : goal.invariant-loop-id
invariant-loop-id l = l.presets ≡ map preset (range_with_len 32 (l.id - 32))
