use Rattle.std.proofs.Common.{List, drop}
use Rattle.trace_told.specs.Calls.{Moment}
use Rattle.trace_told.specs.Histories.{IdealGuest}
use Rattle.gic_check.specs.Play.{IsPlayed}
use Rattle.gic_check.proofs.CheckLemmas.{Going}
use Rattle.gic_check.proofs.verdict.go_on.Given as goal

-- some moments are passed, and these are left
abbrev pub invariant-loop-moment : goal.invariant-loop-moment
invariant-loop-moment l = (guest : IdealGuest) (before : List Moment) → IsPlayed guest before l.fn.play.board l.fn.play.notes → Going guest before l.moments l.fn.play.board.moments (drop l.moment-index l.moments) l.play
