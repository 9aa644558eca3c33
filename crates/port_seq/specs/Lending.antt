-- The port of one guest, lent.
use Rattle.std.specs.Prelude.{◌<◌}
use Rattle.std.proofs.Common.{sym, subst}
use Rattle.std.proofs.lemmas.List.{length-set}
use Rattle.std.specs.Borrow.{Lends, MutBor, Fml}
use Rattle.std.specs.Vec.{with_item}
use Rattle.port_seq.specs.declared.guest.GuestPort.{GuestPort}
use Rattle.port_seq.specs.declared.port.SeqPort.{SeqPort}
use Rattle.port_seq.specs.contracts.guest.GuestPort.{the_row as guest_row}
use Rattle.port_seq.specs.contracts.port.SeqPort.{the_row}

-- the port with another guest in the place of the one whose actor is told
abbrev pub with_guest : SeqPort → GuestPort → SeqPort
with_guest port guest =
    record { guests = with_item port.guests port.guest guest; guest = port.guest; there = subst (λ n. port.guest < n) (sym (length-set port.guests.items port.guest guest)) port.there }

-- the port ends with what is left of the guest that it lends
abbrev pub LendsGuest : MutBor SeqPort → MutBor GuestPort → Fml
LendsGuest port guest = Lends the_row guest_row port guest (with_guest port.now)
