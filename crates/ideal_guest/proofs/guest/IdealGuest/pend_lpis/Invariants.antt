use Rattle.std.proofs.Common.{◌≡◌}
use Rattle.ideal_guest.proofs.SweepLemmas.{Pends}
use Rattle.ideal_guest.proofs.guest.IdealGuest.pend_lpis.Given as goal

-- the LPIs before this one are done
abbrev pub invariant-loop-number : goal.invariant-loop-number
invariant-loop-number l = record { end : l.number-end ≡ l.fn.self.shape.lpis; so_far : Pends l.fn.self l.vcpu l.number l.self }
