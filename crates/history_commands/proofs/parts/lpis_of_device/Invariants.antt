use Rattle.std.proofs.Common.{◌≡◌, take}
use Rattle.std.specs.List.{filter_map}
use Rattle.history_commands.proofs.PartLemmas.{of_device}
use Rattle.history_commands.proofs.parts.lpis_of_device.Given as goal

-- those of the events so far
abbrev pub invariant-loop-pair : goal.invariant-loop-pair
invariant-loop-pair l = l.ids ≡ filter_map (of_device l.device) (take l.pair-index l.pair-items)
