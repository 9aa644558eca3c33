use Rattle.std.proofs.Common.{◌≡◌, ◌≤◌, ◌*◌, take}
use Rattle.scn_base.specs.Standing.{wire_count}
use Rattle.scn_base.proofs.standing.wire_count.Given as goal

-- the wires of the guests so far, each of which has fewer than 8192
abbrev pub invariant-loop-shape : goal.invariant-loop-shape
invariant-loop-shape l = record { so_far : l.count ≡ wire_count (take l.shape-index l.shapes); few : l.count ≤ 8192 * l.shape-index }
