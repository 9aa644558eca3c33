use Rattle.std.proofs.Common.{◌≡◌, ◌++◌, map, take}
use Rattle.serde_json.specs.View.{view}
use Rattle.image_read.specs.GicResume.GicSave.Cell.{number_data}
use Rattle.vm_saved.proofs.written.push_all.Given as goal

-- the numbers so far are elements
abbrev pub invariant-loop-number : goal.invariant-loop-number
invariant-loop-number l = map view l.values.items ≡ map view l.fn.values.items ++ map number_data (take l.number-index l.numbers)
