-- The configuration byte of an LPI, during a command (IHI 0069, "LPI Configuration tables").
use Rattle.std.specs.Prelude.{◌≡◌, ℕ, ◌-◌, ◌/◌, ◌<◌, ◌++◌, ◌&&◌, Bool, true, false, IsTrue, nat_lt, List, [], ◌∷◌, All, Option, slice_index}
use Rattle.std.specs.Option.{option_map_or}
use Rattle.port_call.specs.Words.{GuestShape}
use Rattle.port_call.specs.Registers.{config_address}
use Rattle.port_call.specs.Calls.{Ram, Propbaser, Pendbaser, Place, config_byte, Happened, memory_places}
use Rattle.port_call.specs.GicCall.declared.event.Event.TheVariants.{Read}
use Rattle.port_call.specs.GicCall.declared.event.Found.TheVariants.{Word as FoundWord}
use Rattle.port_call.specs.GicCall.declared.event.Place.TheVariants.{Word, Queue as QueuePlace, Ctlr as CtlrPlace, Lpis}
use Rattle.port_call.specs.Core.{Made, has_all_shut, Seen, shape_of, part_events}
use Rattle.port_call.specs.Memory.{view_by}
use Rattle.its_exec.specs.declared.fetch.Fetched.{Fetched}
use Rattle.its_exec.specs.Known.{Knows, KnowsSame, HasRead, HasFetched, Reading, is_fetched}

-- what the actor goes by while it does the command at an address: the queue, the registers of the ITS, and the command's doublewords in the memory
abbrev pub is_kept : GuestShape → ℕ → Place → Bool
is_kept shape address QueuePlace = true
is_kept shape address (Word (Ram index)) = is_fetched address index && nat_lt index (shape.ram / 8)
is_kept shape address (Word (Propbaser vcpu)) = false
is_kept shape address (Word (Pendbaser vcpu)) = false
is_kept shape address (Word word) = true
is_kept shape address CtlrPlace = false
is_kept shape address (Lpis vcpu) = false

-- a place is not read
abbrev pub IsUnread : Place → List Happened → Type 0
IsUnread place events = All (λ happened. happened.event ≡ Read place → ⊥) events

-- a part leaves what is known of a place, and does not read it
pub record Spares (old new : Seen) (part : List Made) (place : Place) : Type 0 where
  pub same : KnowsSame old new place
  pub unread : IsUnread place (part_events old part)

-- so it is of all that the actor goes by
pub record Keeps (old new : Seen) (address : ℕ) (part : List Made) : Type 0 where
  pub each : (place : Place) → IsTrue (is_kept (shape_of old) address place) → Spares old new part place

-- the actor knows the doublewords of the command that are in the memory as it fetched them, and all translation lines to be shut
pub record HoldsCommand (seen : Seen) (fetched : Fetched) : Type 0 where
  pub each :
      (index : ℕ) → IsTrue (is_fetched fetched.address index) → index < (shape_of seen).ram / 8
      → Knows seen (Word (Ram index)) (FoundWord (slice_index fetched.words (index - fetched.address / 8)))
  pub lines : IsTrue (has_all_shut seen.local)

-- the actor has a word of the memory: as it was fetched with the command, or by a look
pub record ReadsWord (old new : Seen) (fetched : Fetched) (index word : ℕ) : Type 0 where
  pub part : List Made
  pub reading : Reading old new part
  pub keeps : Keeps old new fetched.address part
  pub spares : (vcpu : ℕ) → vcpu < (shape_of old).vcpus → Spares old new part (Word (Propbaser vcpu))
  pub knows : Knows new (Word (Ram index)) (FoundWord word)
  pub has : (before : List Happened) → HasFetched old fetched.address before → HasRead new (Word (Ram index)) (before ++ part_events old part)

-- where the configuration byte of an LPI is that is for a vCPU, or for none
abbrev pub config_places : Seen → Option ℕ → ℕ → List Place
config_places seen target lpi =
    option_map_or (λ vcpu. Word (Propbaser vcpu) ∷ memory_places (shape_of seen) (config_address ((view_by seen).words (Propbaser vcpu)) lpi) 1) target []

-- the actor read it
pub record ReadsConfig (old new : Seen) (fetched : Fetched) (target : Option ℕ) (lpi byte : ℕ) : Type 0 where
  pub part : List Made
  pub reading : Reading old new part
  pub keeps : Keeps old new fetched.address part
  pub byte_is : byte ≡ config_byte (shape_of new) (view_by new) target lpi
  pub has : (before : List Happened) → HasFetched old fetched.address before → All (λ place. HasRead new place (before ++ part_events old part)) (config_places new target lpi)
