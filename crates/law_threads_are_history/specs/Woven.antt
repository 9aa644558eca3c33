-- Actors of a guest that did their parts side by side: their steps come in some order, and each part is a call by what its actor found (own choice).
use Rattle.std.specs.Prelude.{◌≡◌, ℕ, ◌<◌, IsTrue, List, [], All}
use Rattle.law_ends_agree.specs.Histories.{IdealGuest, CanOpen}
use Rattle.law_ends_agree.specs.Core.{Entry, Made, actor_count, Seen, IsRun, opening, opening_local_of, own_steps, CoreMoment, entries_of, has_registers, own_acts, opening_progress, IsProper, IsProperRun}
use Rattle.pe_place.specs.Parts.{AreCalls, Part, acts_in, steps_in}

-- an actor did these parts since its guest opened, one after the other: each is its call, by what it found; they are all of its steps, and proper
pub record ActorHasDone (guest : IdealGuest) (number actor : ℕ) (own : List Made) (parts : List Part) : Type 0 where
  -- what its port told as the guest opened
  pub from : Seen
  pub guest_is : from.guest ≡ guest
  pub number_is : from.number ≡ number
  pub actor_is : from.actor ≡ actor
  pub local_is : from.local ≡ opening_local_of guest number actor
  pub own_is : from.own ≡ []
  pub steps : own ≡ steps_in parts
  pub registers : All (λ part. IsTrue (has_registers guest.shape actor part.lrs)) parts
  pub calls : AreCalls from parts
  pub proper : IsProper guest.shape actor (opening_progress guest number actor) (acts_in parts)

-- so did each actor of the guest, of the steps of all of them in the order in which they came
abbrev pub HaveDone : IdealGuest → ℕ → List Entry → (ℕ → List Part) → Type 0
HaveDone guest number world parts = (actor : ℕ) → actor < actor_count guest.shape → ActorHasDone guest number actor (own_steps actor world) (parts actor)

-- moments of a run that have these steps in their order, and of each actor its parts
pub record AreWoven (guest : IdealGuest) (world : List Entry) (parts : ℕ → List Part) (moments : List CoreMoment) : Type 0 where
  pub entries : entries_of moments ≡ world
  pub own : (actor : ℕ) → actor < actor_count guest.shape → own_acts actor moments ≡ acts_in (parts actor)

-- there are such moments, and they are a proper run
pub record Weaves (guest : IdealGuest) (number : ℕ) (world : List Entry) (parts : ℕ → List Part) : Type 0 where
  pub moments : List CoreMoment
  pub woven : AreWoven guest world parts moments
  pub proper : IsProperRun guest number moments

-- so it is in whatever order the steps of the actors came
abbrev pub ThreadsWeave : Type 0
ThreadsWeave =
    (guest : IdealGuest) (number : ℕ) (world : List Entry) (parts : ℕ → List Part) → CanOpen guest → IsRun guest.shape (opening guest number) world → HaveDone guest number world parts → Weaves guest number world parts
