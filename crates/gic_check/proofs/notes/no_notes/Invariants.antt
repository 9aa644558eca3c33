use Rattle.std.proofs.Common.{◌≡◌, replicate}
use Rattle.gic_check.specs.Notes.{nothing_noted}
use Rattle.gic_check.proofs.notes.no_notes.Given as goal

abbrev pub invariant-loop-actor : goal.invariant-loop-actor
invariant-loop-actor l = l.notes ≡ replicate l._actor nothing_noted
