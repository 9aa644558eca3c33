use Rattle.std.proofs.Common.{◌≡◌, ◌++◌, drop, string_bytes}
use Rattle.std.specs.List.{flat_map}
use Rattle.gic_report.specs.Text.{evt_line}
use Rattle.gic_report.proofs.whole.write_evts.Given as goal

-- the lines so far and the others are all
abbrev pub invariant-loop-end : goal.invariant-loop-end
invariant-loop-end l =
    string_bytes l.text ++ flat_map (evt_line l.guest) (drop l.end-index l.end-items) ≡ string_bytes l.fn.text ++ flat_map (evt_line l.guest) l.end-items
