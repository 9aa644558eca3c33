-- Runs of the core with their parts: the steps that an actor makes for one call.
use Rattle.std.specs.Prelude.{ℕ, ◌<◌, ◌==◌, ◌&&◌, not, Bool, true, false, IsTrue, List, [], ◌∷◌, ◌++◌, map, filter, filter_map, All, nat_le, if◌then◌else◌, Option, Some, None}
use Rattle.std.specs.Option.{option_map}
use Rattle.floor_histories.specs.Words.{GuestShape}
use Rattle.floor_histories.specs.Calls.{Operation}
use Rattle.floor_histories.specs.Histories.{IdealGuest}
use Rattle.port_core.specs.declared.run.Entry.{Entry}
use Rattle.port_core.specs.declared.run.Made.{Made}
use Rattle.port_core.specs.Local.{is_vcpu}
use Rattle.port_core.specs.Run.{opening, IsRun}
use Rattle.port_core.specs.Actor.{actor_count}

-- what an actor does at a moment: a part of it begins, of a call for this, where the actor is a vCPU on a PE with so many list registers
-- (0 for a device); it makes a step; or the part ends, with the call's answer
pub data Act : Type 0 where
  begins : Operation → ℕ → Act
  makes : Made → Act
  ends : Option ℕ → Act

-- a whole part: for a call, with these steps and this answer
abbrev pub part_of : Operation → ℕ → List Made → Option ℕ → List Act
part_of operation lrs steps answer = begins operation lrs ∷ map makes steps ++ ends answer ∷ []

-- a moment of a run: an actor does something
pub record CoreMoment : Type 0 where
  pub actor : ℕ
  pub act : Act

-- what an actor does in a run
abbrev pub own_acts : ℕ → List CoreMoment → List Act
own_acts actor moments = map (λ moment. moment.act) (filter (λ moment. moment.actor == actor) moments)

-- the step of a moment, if it is one
abbrev pub step_of : Act → Option Made
step_of (makes made) = Some made
step_of act = None

abbrev pub entry_by : ℕ → Made → Entry
entry_by actor made = record { actor = actor; made = made }

-- the steps of a run
abbrev pub entries_of : List CoreMoment → List Entry
entries_of moments = filter_map (λ moment. option_map (entry_by moment.actor) (step_of moment.act)) moments

-- a PE has 1 to 16 list registers, and a device has none
abbrev pub has_registers : GuestShape → ℕ → ℕ → Bool
has_registers shape actor lrs = if is_vcpu shape actor then nat_le 1 lrs && nat_le lrs 16 else lrs == 0

-- an actor's parts stand one after the other, and each of its steps in one; the first bit says whether it is in one already
abbrev pub are_parts : GuestShape → ℕ → Bool → List Act → Bool
are_parts shape actor within [] = true
are_parts shape actor within (begins operation lrs ∷ acts) = not within && has_registers shape actor lrs && are_parts shape actor true acts
are_parts shape actor within (makes made ∷ acts) = within && are_parts shape actor within acts
are_parts shape actor within (ends answer ∷ acts) = within && are_parts shape actor false acts

-- a run of a guest from its opening, with its parts
pub record IsPartedRun (guest : IdealGuest) (number : ℕ) (moments : List CoreMoment) : Type 0 where
  pub run : IsRun guest.shape (opening guest number) (entries_of moments)
  pub actors : All (λ moment. moment.actor < actor_count guest.shape) moments
  pub parts : (actor : ℕ) → actor < actor_count guest.shape → IsTrue (are_parts guest.shape actor false (own_acts actor moments))
