-- A worked guest: an LPI is mapped to a collection of vCPU 0, and then the collection is unmapped.
use Rattle.std.specs.Prelude.{◌≡◌, ℕ, ◌+◌, ◌*◌, ◌^◌, true, false, List, [], ◌∷◌, ◌++◌, fold, flat_map, Some, None}
use Rattle.law_lone_calls_are_eager.specs.Calls.{GuestSpec}
use Rattle.law_lone_calls_are_eager.specs.Words.{Its, Ram as Memory, GuestOp, Mem}
use Rattle.law_lone_calls_are_eager.specs.Registers.{Command, Mapd, Mapc, Mapti, encoded, pair_of, has_target}
use Rattle.law_lone_calls_are_eager.specs.Histories.{IdealGuest, view_of, after_events, CanOpen, AreForNone}
use Rattle.law_lone_calls_are_eager.specs.IdealGuests.Opening.{opening}
use Rattle.law_lone_calls_are_eager.specs.GicIdeal.Deeds.{op_events}

-- a vCPU, an LPI, and memory for four commands
abbrev pub worked_spec : GuestSpec
worked_spec = record { shape = record { vcpus = 1; spis = 0; espis = 0; devices = 0; lpis = 1; ram = 128 }; on = true; presets = [] }

-- as it opens
abbrev pub worked_guest : IdealGuest
worked_guest = opening worked_spec

-- device 0 and collection 0 are mapped, then event 0 of the device to LPI 8192 and the collection; then the collection is unmapped
abbrev pub commands : List Command
commands = Mapd 0 0 0 true ∷ Mapc 0 0 true ∷ Mapti 0 0 8192 0 ∷ Mapc 0 0 false ∷ []

-- doublewords are stored in memory, from a place on
abbrev pub stores : ℕ → List ℕ → List GuestOp
stores place [] = []
stores place (word ∷ words) = Mem Memory (8 * place) 8 (Some word) ∷ stores (place + 1) words

-- the commands are stored, GITS_CBASER makes a queue at the address 0, and GITS_CTLR enables the ITS
abbrev pub prepares : List GuestOp
prepares = stores 0 (flat_map encoded commands) ++ Mem Its 0x80 8 (Some (2 ^ 63)) ∷ Mem Its 0 4 (Some 1) ∷ []

-- GITS_CWRITER has commands up to this offset
abbrev pub starts : ℕ → GuestOp
starts offset = Mem Its 0x88 8 (Some offset)

-- the guest after operations of vCPU 0
abbrev pub after_ops : IdealGuest → List GuestOp → IdealGuest
after_ops guest ops = fold (λ guest op. after_events (op_events op guest 0) guest) guest ops

-- after three commands, and after all four
abbrev pub mapped : IdealGuest
mapped = after_ops worked_guest (prepares ++ starts 96 ∷ [])

abbrev pub unmapped : IdealGuest
unmapped = after_ops mapped (starts 128 ∷ [])

-- the LPI is for vCPU 0, and after the last command for none, though its event still has it
pub record UnmappedIsForNone : Type 0 where
  pub good : CanOpen worked_guest
  pub first : AreForNone mapped
  pub has : has_target mapped.tables 8192 ≡ true
  pub for_vcpu : (view_of mapped).targets 8192 ≡ Some 0
  pub event : pair_of unmapped.tables (0, 0) ≡ Some (8192, 0)
  pub has_none : has_target unmapped.tables 8192 ≡ false
  pub for_none : (view_of unmapped).targets 8192 ≡ None
  pub last : AreForNone unmapped
