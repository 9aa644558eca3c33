use Rattle.std.proofs.Common.{◌≡◌, map, take}
use Rattle.saved_check.specs.Tables.{dev_entry}
use Rattle.saved_check.proofs.tables.map_devs.Given as goal

-- those so far are mapped
abbrev pub invariant-loop-dev : goal.invariant-loop-dev
invariant-loop-dev l = l.tables ≡ record l.initial.tables { devices = map dev_entry (take l.dev-index l.devs) }
