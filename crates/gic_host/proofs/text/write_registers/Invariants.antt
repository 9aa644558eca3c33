use Rattle.std.proofs.Common.{◌≡◌, ◌++◌, drop, string_bytes}
use Rattle.std.specs.List.{flat_map}
use Rattle.gic_report.specs.Text.{register_value}
use Rattle.gic_host.proofs.text.write_registers.Given as goal

-- the values so far and the others are all
abbrev pub invariant-loop-value : goal.invariant-loop-value
invariant-loop-value l =
    string_bytes l.text ++ flat_map register_value (drop l.value-index l.values) ≡ string_bytes l.fn.text ++ flat_map register_value l.values
