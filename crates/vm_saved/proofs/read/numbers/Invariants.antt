use Rattle.std.proofs.Common.{◌≡◌, ◌++◌, map, drop, option_map}
use Rattle.serde_json.specs.View.{view}
use Rattle.vm_saved.specs.Reading.{numbers_in}
use Rattle.vm_saved.proofs.read.numbers.Given as goal

-- the numbers so far, and those that are left, are all
abbrev pub invariant-loop-value : goal.invariant-loop-value
invariant-loop-value l = numbers_in (map view l.values) ≡ option_map (λ rest. l.numbers ++ rest) (numbers_in (map view (drop l.value-index l.values)))
