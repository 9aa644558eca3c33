use Rattle.std.proofs.Common.{◌≡◌, ◌++◌, map, take}
use Rattle.serde_json.specs.View.{view}
use Rattle.gic_save.proofs.cell.push_all.Given as goal

-- the elements so far
abbrev pub invariant-loop-item : goal.invariant-loop-item
invariant-loop-item g l = map view l.values.items ≡ map view l.fn.values.items ++ map g.T.Written.written (take l.item-index l.items)
