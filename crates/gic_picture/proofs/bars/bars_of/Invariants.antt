use Rattle.std.proofs.Common.{◌≡◌, take}
use Rattle.gic_picture.specs.Bars.{shown_by}
use Rattle.gic_picture.proofs.bars.bars_of.Given as goal

-- the bars so far show the marks so far
abbrev pub invariant-loop-mark : goal.invariant-loop-mark
invariant-loop-mark l = shown_by l.bars.items ≡ take l.mark-index l.marks
