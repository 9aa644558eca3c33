use Rattle.std.proofs.Common.{take, drop}
use Rattle.history_check.specs.IdealGuests.Opening.{opening as opening_guest}
use Rattle.history_play.proofs.CheckLemmas.{IsPlayed}
use Rattle.history_play.proofs.whole.check.Given as goal

-- what was played so far is a fresh history before what is left, with this state and this track
abbrev pub invariant-loop-number : goal.invariant-loop-number
invariant-loop-number l = IsPlayed (opening_guest l.guest) (take l.number l.moments) (drop l.number l.moments) l.number l.state l.track
