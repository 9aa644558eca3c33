use Rattle.std.proofs.Common.{◌≡◌, ◌++◌, drop, string_bytes}
use Rattle.gic_report.specs.Text.{end_lines}
use Rattle.gic_report.proofs.whole.write_ends.Given as goal

-- the lines so far and those of the other guests are all
abbrev pub invariant-loop-guest : goal.invariant-loop-guest
invariant-loop-guest l =
    string_bytes l.text ++ end_lines l.guest (drop l.guest l.end-items) ≡ string_bytes l.fn.text ++ end_lines 0 l.end-items
