-- What is true of all that the guests of a port tell.
use Rattle.std.specs.Prelude.{◌≡◌, ℕ, ◌<◌, List, [], ◌∷◌, length, map, slice_index_or, All, None}
use Rattle.std.proofs.Common.{zero, suc, subst, arith}
use Rattle.std.proofs.lemmas.List.{get_or_default, length-map}
use Rattle.port_ops.specs.PortCore.Port.{IsPort}
use Rattle.port_seq.specs.declared.guest.GuestPort.{GuestPort}
use Rattle.port_seq.specs.declared.port.SeqPort.{SeqPort}
use Rattle.port_seq.specs.Kept.{IsTold, IsFree, told_is_port, untaken}
use Rattle.port_seq.specs.Ports.{told, told_all}
use Rattle.port_seq.specs.Told.{GuestTold, no_told, seen_of, guest_at}

-- what is told by the port at a number is true where it is of every guest's port
told_every : (P : GuestTold → Type 0) → ((port : GuestPort) → P (told port)) → (ports : List GuestPort) (number : ℕ) → number < length ports → P (slice_index_or (map told ports) number no_told)
told_every P all [] number h = absurd (omega arith)
told_every P all (port ∷ ports) zero h = all port
told_every P all (port ∷ ports) (suc number) h = told_every P all ports number (omega arith)

pub each_is_port : (ports : List GuestPort) (number : ℕ) → number < length ports → IsPort (seen_of (slice_index_or (map told ports) number no_told))
each_is_port = told_every (λ t. IsPort (seen_of t)) (λ port. told_is_port (told port) port.good port.there port.sound port.made port.turn)

-- what the port of a guest keeps, and so of each guest of a scenario
pub is_told : (port : GuestPort) → IsTold (told port)
is_told port = record { good = port.good; there = port.there; run = port.run; turn = port.turn }

pub each_is_told : (port : SeqPort) (number : ℕ) → number < length (told_all port).guests → IsTold (guest_at (told_all port) number)
each_is_told port number there = told_every IsTold is_told port.guests.items number (subst (λ n. number < n) (length-map port.guests.items told) there)

-- where no actor of the guest has the ITS, its tables are here; and so of all guests of a scenario
pub port_untaken : (port : GuestPort) → IsFree (told port) → (told port).taken ≡ None
port_untaken port = untaken (told port) (is_told port)

pub all_untaken : (port : SeqPort) → ((number : ℕ) → number < length (told_all port).guests → IsFree (guest_at (told_all port) number)) → All (λ guest. guest.taken ≡ None) (told_all port).guests
all_untaken port free = λ number default there.
    subst (λ (guest : GuestTold). guest.taken ≡ None) (get_or_default (told_all port).guests number no_told default there)
    (untaken (guest_at (told_all port) number) (each_is_told port number there) (free number there))
