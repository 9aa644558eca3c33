use Rattle.std.proofs.Common.{length}
use Rattle.ideal_guest.proofs.SweepLemmas.{Forgets}
use Rattle.ideal_guest.proofs.guest.IdealGuest.forget_events.Given as goal

-- the events so far are forgotten; as many are left as the maps have, at most
abbrev pub invariant-loop-event : goal.invariant-loop-event
invariant-loop-event l = Forgets l.fn.self l.device l.self

abbrev pub decreases-loop-event : goal.decreases-loop-event
decreases-loop-event l = length l.self.tables.events
