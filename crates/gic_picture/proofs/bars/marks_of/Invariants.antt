use Rattle.std.proofs.Common.{◌≡◌, map, take}
use Rattle.gic_picture.specs.Bars.{mark_at}
use Rattle.gic_picture.proofs.bars.marks_of.Given as goal

-- the marks so far
abbrev pub invariant-loop-column : goal.invariant-loop-column
invariant-loop-column l = l.marks.items ≡ map (mark_at l.row) (take l.column-index l.column-items)
