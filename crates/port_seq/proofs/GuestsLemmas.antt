-- What all guests tell, where one of them changes, comes or goes.
use Rattle.std.proofs.Common.{◌≡◌, ℕ, suc, ◌+◌, ◌<◌, All, List, [], ◌∷◌, ◌++◌, map, length, set, get_or, arith, sym, ap, subst, ◌∙◌}
use Rattle.std.proofs.lemmas.List.{map-set, length-map, get_or-map, get_or-set_same}
use Rattle.port_ops.specs.Calls.{GuestSpec, IsGoodGuest}
use Rattle.port_ops.specs.Opened.{no_guest}
use Rattle.port_ops.specs.PortCore.IdealGuests.CanOpen.{CanOpen}
use Rattle.port_ops.specs.PortCore.IdealGuests.Opening.{opening}
use Rattle.port_ops.proofs.PortCore.IdealGuests.CanOpenLemmas.{openings_can_open}
use Rattle.port_ops.proofs.MapLemmas.{mapped_at, mapped_push}
use Rattle.port_seq.specs.declared.guest.GuestPort.{GuestPort}
use Rattle.port_seq.specs.declared.port.SeqPort.{SeqPort}
use Rattle.port_seq.specs.Lending.{with_guest}
use Rattle.port_seq.specs.Ports.{told, told_all}
use Rattle.port_seq.specs.Told.{GuestTold, SeqTold, no_told, with_current}

-- good guests open in states in which a guest can open
pub opens_good : (guests : List GuestSpec) → All IsGoodGuest guests → All CanOpen (map opening guests)
opens_good guests good = λ k d h.
    let here : k < length guests = subst (λ n. k < n) (length-map guests opening) h in
    subst CanOpen (sym (get_or-map opening guests k no_guest d here)) (openings_can_open (get_or guests k no_guest) (good k no_guest here))

-- what the port at a number tells
pub told_at : (ports : List GuestPort) (number : ℕ) (port : GuestPort) → number < length ports → port ≡ get_or ports number port → get_or (map told ports) number no_told ≡ told port
told_at = mapped_at told no_told

-- the same after it changed
pub told_now : (ports : List GuestPort) (number : ℕ) (next : GuestPort) → number < length ports → get_or (map told (set ports number next)) number no_told ≡ told next
told_now ports number next there =
    ap (λ ts. get_or ts number no_told) (map-set told ports number next) ∙ get_or-set_same (map told ports) number (told next) no_told (subst (λ n. number < n) (sym (length-map ports told)) there)

-- what all tell then
pub told_set : (ports : List GuestPort) (number : ℕ) (port : GuestPort) (next : GuestTold) → told port ≡ next → map told (set ports number port) ≡ set (map told ports) number next
told_set ports number port next is = map-set told ports number port ∙ ap (set (map told ports) number) is

-- what is true of what each guest tells, and of one more
pub told_push :
    (P : GuestTold → ℕ → Type 0) (ports : List GuestPort) (port : GuestPort) (number : ℕ) → length ports ≡ number → ((n : ℕ) → n < number → P (get_or (map told ports) n no_told) n) → P (told port) number
    → (n : ℕ) → n < number + 1 → P (get_or (map told (ports ++ port ∷ [])) n no_told) n
told_push = mapped_push told no_told

-- what is true of what each tells is true of what one in the middle tells
pub told_among : (P : GuestTold → Type 0) (early : List GuestPort) (port : GuestPort) (late : List GuestPort) → All P (map told (early ++ port ∷ late)) → P (told port)
told_among P [] port late all = all 0 no_told (omega arith)
told_among P (other ∷ early) port late all = told_among P early port late (λ k d h. all (suc k) d (omega (arith, h)))

-- what all tell after the one whose actor is told was lent
pub told_lent : (port : SeqPort) (guest : GuestPort) → told_all (with_guest port guest) ≡ with_current (told_all port) (told guest)
told_lent port guest = let with : List GuestTold → SeqTold = λ ts. record { guests = ts; guest = port.guest } in ap with (map-set told port.guests.items port.guest guest)
