-- What is saved of a guest tells the guest again (own choice).
use Rattle.std.specs.Prelude.{◌+◌, [], ◌∷◌, ◌≡◌, ℕ, ◌<◌, ◌≤◌, List, length, take, slice_set, true, false, if◌then◌else◌, Option, Some, None}
use Rattle.std.specs.List.{slice_index_or}
use Rattle.saved_guest.specs.IdealGuests.Words.{Irq, interrupt_count, key_at, bit_of}
use Rattle.saved_guest.specs.IdealGuests.Registers.{has_lpis, enabled_in, baser_bits}
use Rattle.saved_guest.specs.IdealGuests.Calls.{GuestSpec, IsGoodGuest, ItsCtlr, Cbaser, Cwriter, Baser0, Baser1, Fault, place_of_plain}
use Rattle.saved_guest.specs.IdealGuests.declared.guest.IdealGuest.{IdealGuest}
use Rattle.saved_guest.specs.IdealGuests.Ideal.{irq_at, word_at}
use Rattle.saved_guest.specs.IdealGuests.Sound.{IsSound}
use Rattle.saved_guest.specs.ScnSaved.ScnBase.declared.standing.MovedWire.{MovedWire}
use Rattle.saved_guest.specs.State.{state_of}
use Rattle.saved_guest.specs.Standing.{no_device, wires_of, standing_of}
use Rattle.saved_guest.specs.ScnSaved.ScnBase.declared.scenario.Scenario.{Scenario}
use Rattle.saved_guest.specs.ScnSaved.ScnBase.declared.standing.Standing.{Standing}
use Rattle.saved_take.specs.Taken.{taken_of, wires_at, standing_at, saved_of}

-- a guest without an ITS has nothing in its registers, and no queue
pub record IsWithoutIts (state : IdealGuest) : Type 0 where
  pub ctlr : word_at state ItsCtlr ≡ 0
  pub cbaser : word_at state Cbaser ≡ 0
  pub cwriter : word_at state Cwriter ≡ 0
  pub baser0 : word_at state Baser0 ≡ 0
  pub baser1 : word_at state Baser1 ≡ 0
  pub offset : state.offset ≡ 0
  pub running : state.is_stalled ≡ false

-- the registers of the ITS hold only bits that writes store (IHI 0069, GITS_CTLR, GITS_BASER<n>), and a guest without LPIs has no ITS
pub record IsStored (state : IdealGuest) : Type 0 where
  pub ctlr : word_at state ItsCtlr ≡ bit_of (enabled_in (word_at state ItsCtlr))
  pub baser0 : word_at state Baser0 ≡ baser_bits (word_at state Baser0)
  pub baser1 : word_at state Baser1 ≡ baser_bits (word_at state Baser1)
  pub none : has_lpis state.shape ≡ false → IsWithoutIts state

-- a guest without the number of a fault, unless its queue is stalled by it
abbrev pub without_past_fault : IdealGuest → IdealGuest
without_past_fault state = record state { words = if state.is_stalled then state.words else slice_set state.words (place_of_plain state.shape Fault) 0 }

-- law: what is saved of a sound guest tells that guest, but for the number of a fault by which nothing is stalled
abbrev pub StatesTellBack : Type 0
StatesTellBack =
    (guest : GuestSpec) (wires : List (Option MovedWire)) (state : IdealGuest) → IsGoodGuest guest → IsSound state → IsStored state → state.shape ≡ guest.shape
    → state_of guest (taken_of guest wires state) ≡ without_past_fault state

-- a wire is as its interrupt's line: down where none has moved it, at the level to which it was moved else, and what is no device holds it up
abbrev pub IsLevelOf : Irq → Option MovedWire → Type 0
IsLevelOf irq None = irq.line ≡ false
IsLevelOf irq (Some wire) = (wire.up ≡ irq.line) × (wire.device ≡ no_device → wire.up ≡ true)

-- so is each wire of a guest
abbrev pub AreLevels : List (Option MovedWire) → IdealGuest → Type 0
AreLevels wires state = (place : ℕ) → place < interrupt_count state.shape → IsLevelOf (irq_at state (key_at state.shape place)) (slice_index_or wires place None)

-- law: what is saved of a guest tells its wires
abbrev pub WiresTellBack : Type 0
WiresTellBack =
    (guest : GuestSpec) (wires : List (Option MovedWire)) (state : IdealGuest) → IsGoodGuest guest → IsSound state → state.shape ≡ guest.shape → interrupt_count state.shape ≤ length wires → AreLevels wires state
    → wires_of guest.shape (taken_of guest wires state).rec ≡ take (interrupt_count state.shape) wires

-- a good guest is in a sound state, whose lines are as its wires, which stand with those of all guests
pub record IsTaken (standing : Standing) (number : ℕ) (guest : GuestSpec) (state : IdealGuest) : Type 0 where
  pub good : IsGoodGuest guest
  pub sound : IsSound state
  pub shape : state.shape ≡ guest.shape
  pub levels : AreLevels (wires_at standing number) state

-- so is each guest, the first of which has this number
abbrev pub AreTaken : Standing → ℕ → List GuestSpec → List IdealGuest → Type 0
AreTaken standing number [] [] = Unit {0}
AreTaken standing number [] (state ∷ states) = ⊥
AreTaken standing number (guest ∷ guests) [] = ⊥
AreTaken standing number (guest ∷ guests) (state ∷ states) = IsTaken standing number guest state × AreTaken standing (number + 1) guests states

-- law: what is saved of a scenario of which some steps were done tells where its vCPUs stand and how its wires are after them
abbrev pub StandingTellsBack : Type 0
StandingTellsBack =
    (scenario : Scenario) (done : ℕ) (states : List IdealGuest) → AreTaken (standing_at scenario done) 0 scenario.guests states → standing_of (saved_of scenario done states) ≡ standing_at scenario done
