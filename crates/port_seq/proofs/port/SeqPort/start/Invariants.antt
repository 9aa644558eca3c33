use Rattle.std.proofs.Common.{◌≡◌, map, take}
use Rattle.port_ops.specs.PortCore.IdealGuests.Opening.{opening}
use Rattle.port_seq.proofs.port.SeqPort.start.Given as goal

-- the guests so far, each as it opens
abbrev pub invariant-loop-guest : goal.invariant-loop-guest
invariant-loop-guest l = l.guests.items ≡ map opening (take l.guest-index l.guest-items)
