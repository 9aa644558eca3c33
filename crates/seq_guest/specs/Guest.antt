-- The vCPUs of a guest, with what its port tells of them (own choice).
use Rattle.std.specs.Prelude.{◌≡◌, ◌≢◌, ℕ, ◌<◌, ◌≤◌, ◌==◌, nat_lt, IsTrue, true, List, [], ◌∷◌, ◌++◌, length, map, All, if◌then◌else◌, Option, Some, slice_get}
use Rattle.std.specs.Option.{option_map_or}
use Rattle.std.specs.List.{range_with_len}
use Rattle.guest_end.specs.Words.{GuestOp}
use Rattle.guest_end.specs.Calls.{Access}
use Rattle.guest_end.specs.Registers.{CpuRec}
use Rattle.pe_place.specs.Core.{actor_count, Seen, IsAtRest, Progress, IsProper, is_settled}
use Rattle.law_entries_are_plans.specs.LawRegistersStand.Asks.{IsUnkicked}
use Rattle.port_seq.specs.Told.{GuestTold, seen_of, state_of}
use Rattle.law_entries_are_plans.specs.LawSerialIsEager.Serial.{WholePart, is_icc}
use Rattle.law_entries_are_plans.specs.Entry.{HasEntered, IsEntry}
use Rattle.pe_place.specs.VcpuState.declared.loaded.Loaded.{Loaded}
use Rattle.pe_place.specs.declared.place.Place.{Place}
use Rattle.pe_place.specs.declared.place.Place.TheVariants.{Pe}
use Rattle.seq_guest.specs.declared.vcpus.Vcpus.{Vcpus}
use Rattle.pe_place.specs.Parts.{IsSeatAfter, IsOfGuest, AreResidences, AreCalls, HaveCall, acts_in, entries_in, parts_by, progress_after}
use Rattle.seq_guest.specs.Operation.{is_of_registers}
use Rattle.pe_place.specs.Place.{Spot, shelf, pe, spot_of, IsAt, IsFollowed, HasRegisters, IsShown}

-- what is told of an actor of a guest
abbrev pub seen_by : GuestTold → ℕ → Seen
seen_by told actor = seen_of (record told { actor = actor })

-- each vCPU of the guest is where its place says, and each device owes nothing
pub record AreAt (told : GuestTold) (vcpus : Vcpus) : Type 0 where
  pub each : length vcpus.places.items ≡ told.guest.shape.vcpus
  pub places : (vcpu : ℕ) (place : Place) → slice_get vcpus.places.items vcpu ≡ Some place → IsAt (seen_by told vcpu) place × HasRegisters vcpus.lrs place
  pub devices : (actor : ℕ) → told.guest.shape.vcpus ≤ actor → actor < actor_count told.guest.shape → IsTrue (is_settled (seen_by told actor).local)

-- the same guest
pub record IsSameGuest (one other : GuestTold) : Type 0 where
  pub home : other.home ≡ one.home
  pub guest : other.guest ≡ one.guest
  pub number : other.number ≡ one.number

-- the protocols of its actors are so far: each vCPU's as its place says, and each device's is at rest
pub record AreFollowed (told : GuestTold) (vcpus : Vcpus) (progress : ℕ → Progress) : Type 0 where
  pub places : (vcpu : ℕ) (place : Place) → slice_get vcpus.places.items vcpu ≡ Some place → IsFollowed (seen_by told vcpu) place (progress vcpu)
  pub devices : (actor : ℕ) → told.guest.shape.vcpus ≤ actor → actor < actor_count told.guest.shape → IsAtRest (seen_by told actor) (progress actor)

-- its actors did some parts, one after the other, that are so, and its vCPUs are so after them: each part is its call, and each actor's are proper wherever its protocol was so far
pub record GoesOn (Are : List WholePart → Type 0) (old new : GuestTold) (before after : Vcpus) : Type 0 where
  pub same : IsSameGuest old new
  pub lrs : after.lrs ≡ before.lrs
  pub at : AreAt new after
  pub parts : List WholePart
  pub are : Are parts
  pub formed : All (IsOfGuest old.guest.shape before.lrs) parts
  pub world : new.world ≡ old.world ++ entries_in parts
  pub seats : (actor : ℕ) → IsSeatAfter (seen_by old actor) (seen_by new actor) (parts_by actor parts)
  pub calls : (actor : ℕ) → AreCalls (seen_by old actor) (parts_by actor parts)
  pub proper : (progress : ℕ → Progress) → AreFollowed old before progress → (actor : ℕ) → actor < actor_count old.guest.shape → IsProper old.guest.shape actor (progress actor) (acts_in (parts_by actor parts))
  pub goes_on : (progress : ℕ → Progress) → AreFollowed old before progress → AreFollowed new after (progress_after old.guest.shape parts progress)

-- where a vCPU is
abbrev pub spot_at : Vcpus → ℕ → Spot
spot_at vcpus vcpu = option_map_or spot_of (slice_get vcpus.places.items vcpu) shelf

-- a vCPU on a PE left it and entered it again, in one part, with nothing else done: it holds what the scan of that entry chose
pub record Shows (old new : GuestTold) (before after : Vcpus) (vcpu : ℕ) : Type 0 where
  pub goes_on : GoesOn AreResidences old new before after
  pub part : WholePart
  pub alone : goes_on.parts ≡ part ∷ []
  pub actor : part.actor ≡ vcpu
  pub lrs : part.lrs ≡ before.lrs
  pub entry : IsEntry part
  pub entered : (progress : ℕ → Progress) → AreFollowed old before progress → HasEntered old.guest.shape (state_of new) vcpu (progress_after old.guest.shape goes_on.parts progress vcpu)
  pub loaded : Loaded
  pub place : slice_get after.places.items vcpu ≡ Some (Pe loaded)

-- and what its PE has then is this, before any kicks are answered
pub record ShowsList (old new : GuestTold) (before after : Vcpus) (vcpu : ℕ) (list : List ℕ) : Type 0 where
  pub mid : GuestTold
  pub between : Vcpus
  pub shows : Shows old mid before between vcpu
  pub list_is : IsShown (Pe shows.loaded) list
  pub later : GoesOn AreResidences mid new between after

-- no other vCPU is on a PE
pub record IsAlone (vcpu : ℕ) (vcpus : Vcpus) : Type 0 where
  pub others : (other : ℕ) → other ≢ vcpu → spot_at vcpus other ≢ pe

-- what comes before a vCPU's operation: nothing, where that accesses a register of the CPU interface; and where it accesses one of the distributor, of a redistributor or
-- of the ITS, all other vCPUs have left their PEs after it
pub record MakesWay (old new : GuestTold) (before after : Vcpus) (vcpu : ℕ) (op : GuestOp) : Type 0 where
  pub goes_on : GoesOn AreResidences old new before after
  pub none : is_icc (Access op) ≡ true → goes_on.parts ≡ []
  pub alone : is_of_registers op ≡ true → IsAlone vcpu after

-- a vCPU did an operation: its call, with residences before it and after it; the guest and its vCPUs are so as the call's part begins, and what came before it made way
pub record Operates (old new : GuestTold) (before after : Vcpus) (vcpu : ℕ) (op : GuestOp) (answer : Option ℕ) : Type 0 where
  pub goes_on : GoesOn (HaveCall vcpu (Access op) answer) old new before after
  pub between : GuestTold
  pub there : Vcpus
  pub way : MakesWay old between before there vcpu op
  pub early_is : goes_on.are.early ≡ way.goes_on.parts

-- no vCPU that is on a PE is kicked
pub record NoneKicked (told : GuestTold) (vcpus : Vcpus) : Type 0 where
  pub each : (vcpu : ℕ) → spot_at vcpus vcpu ≡ pe → IsUnkicked told.guest.shape (state_of told) vcpu

-- where the vCPUs are changes so, by their numbers
pub record ChangesSpots (change : ℕ → Spot → Spot) (before after : Vcpus) : Type 0 where
  pub spot : (vcpu : ℕ) → spot_at after vcpu ≡ change vcpu (spot_at before vcpu)

-- for none; for one; for all but one; for all; and for those below a number
abbrev pub for_none : ℕ → Spot → Spot
for_none vcpu spot = spot

abbrev pub for_one : ℕ → (Spot → Spot) → ℕ → Spot → Spot
for_one one change vcpu spot = if vcpu == one then change spot else spot

abbrev pub but_one : ℕ → (Spot → Spot) → ℕ → Spot → Spot
but_one one change vcpu spot = if vcpu == one then spot else change spot

abbrev pub for_all : (Spot → Spot) → ℕ → Spot → Spot
for_all change vcpu spot = change spot

abbrev pub for_below : ℕ → (ℕ → Spot → Spot) → ℕ → Spot → Spot
for_below bound change vcpu spot = if nat_lt vcpu bound then change vcpu spot else spot

-- the records of the CPU interfaces of its vCPUs, by their numbers
abbrev pub cpus_of : GuestTold → List CpuRec
cpus_of told = map (λ vcpu. (seen_by told vcpu).local.cpu) (range_with_len 0 told.guest.shape.vcpus)
