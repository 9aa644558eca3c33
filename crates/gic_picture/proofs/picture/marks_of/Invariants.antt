use Rattle.std.proofs.Common.{◌≡◌, map, take}
use Rattle.gic_picture.specs.Marks.{mark_in}
use Rattle.gic_picture.proofs.picture.marks_of.Given as goal

-- what is shown of the interrupts so far
abbrev pub invariant-loop-name : goal.invariant-loop-name
invariant-loop-name l = l.marks ≡ map (mark_in l.guests) (take l.name-index l.rows)
