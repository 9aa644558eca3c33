-- Parts of an actor, one after the other: each is what the actor did for one call (own choice).
use Rattle.std.specs.Prelude.{◌≡◌, ℕ, ◌<◌, ◌⊎◌, ◌==◌, false, if◌then◌else◌, List, [], ◌∷◌, ◌++◌, All, filter, map, Option, None}
use Rattle.std.specs.List.{flat_map}
use Rattle.gic_msi.specs.Calls.{Operation, Device, Residence}
use Rattle.gic_msi.specs.Words.{DeviceOp, GuestShape, Msi}
use Rattle.gic_msi.specs.Core.{Entry, Made, actor_count, is_vcpu, Seen, seen_after, MakesCall, MakesPost, Act, part_of, entry_by, Progress, progress_of}
use Rattle.gic_msi.specs.Send.{IsMessage}
use Rattle.pe_op.specs.PeMem.Found.{IsCallAsFound}
use Rattle.law_serial_is_eager.specs.Serial.{WholePart}

-- what an actor did for one call: the call, the list registers of its PE (0 for a device), the steps, and the answer
pub record Part : Type 0 where
  pub operation : Operation
  pub lrs : ℕ
  pub steps : List Made
  pub answer : Option ℕ

-- a part of a vCPU that enters a PE, leaves one, or looks whether it was kicked
abbrev pub residence : ℕ → List Made → Part
residence lrs steps = record { operation = Residence; lrs = lrs; steps = steps; answer = None }

-- the steps of some parts, and what the actor did with their beginnings and ends
abbrev pub steps_in : List Part → List Made
steps_in parts = flat_map (λ part. part.steps) parts

abbrev pub acts_of : Part → List Act
acts_of part = part_of part.operation part.lrs part.steps part.answer

abbrev pub acts_in : List Part → List Act
acts_in parts = flat_map acts_of parts

-- one is its call, with its answer, and that by what it found of the vCPUs that LPIs are for
pub record IsCallFound (seen : Seen) (part : Part) : Type 0 where
  pub made : MakesCall seen part.steps part.operation part.answer
  pub found : IsCallAsFound seen part.steps part.operation part.answer

-- or it is a message's, whose device found in a translation line which LPI that becomes
abbrev pub IsPartFound : Seen → Part → Type 0
IsPartFound seen part = IsCallFound seen part ⊎ MakesPost seen part.steps part.operation part.answer

-- the part of a message to the ITS goes one of its ways: through its translation line, or by the ITS
abbrev pub IsSentBy : GuestShape → DeviceOp → List Made → Type 0
IsSentBy shape (Msi device event) steps = IsMessage shape device event steps
IsSentBy shape op steps = Unit {0}

-- of other operations this is not asked
abbrev pub IsSent : GuestShape → Operation → List Made → Type 0
IsSent shape (Device op) steps = IsSentBy shape op steps
IsSent shape operation steps = Unit {0}

-- some parts, one after the other, are each found to be its call
abbrev pub AreCalls : Seen → List Part → Type 0
AreCalls seen [] = Unit {0}
AreCalls seen (part ∷ parts) = IsPartFound seen part × AreCalls (seen_after seen part.steps) parts

-- what an actor has for itself after some parts of it
pub record IsSeatAfter (before after : Seen) (parts : List Part) : Type 0 where
  pub local : after.local ≡ (seen_after before (steps_in parts)).local
  pub own : after.own ≡ (seen_after before (steps_in parts)).own

-- Parts of several actors of a guest, one after the other.

-- a part with its actor, and without it
abbrev pub by_actor : ℕ → Part → WholePart
by_actor actor part = record { actor = actor; operation = part.operation; lrs = part.lrs; steps = part.steps; answer = part.answer }

abbrev pub part_in : WholePart → Part
part_in one = record { operation = one.operation; lrs = one.lrs; steps = one.steps; answer = one.answer }

-- what they add to the steps of all actors
abbrev pub entries_in : List WholePart → List Entry
entries_in parts = flat_map (λ one. map (entry_by one.actor) one.steps) parts

-- those of an actor
abbrev pub parts_by : ℕ → List WholePart → List Part
parts_by actor parts = map part_in (filter (λ one. one.actor == actor) parts)

-- one is of an actor of the guest; a vCPU is on a PE with so many list registers, and a device has none; a device's message to the ITS goes one of its ways
pub record IsOfGuest (shape : GuestShape) (lrs : ℕ) (one : WholePart) : Type 0 where
  pub there : one.actor < actor_count shape
  pub lrs_is : one.lrs ≡ (if is_vcpu shape one.actor then lrs else 0)
  pub sent : is_vcpu shape one.actor ≡ false → IsSent shape one.operation one.steps

-- all of them enter a PE, leave one, or look for a kick
pub record AreResidences (parts : List WholePart) : Type 0 where
  pub each : All (λ one. one.operation ≡ Residence) parts

-- they are this call of an actor, with this answer, and nothing else
pub record AreOneCall (actor : ℕ) (operation : Operation) (answer : Option ℕ) (parts : List WholePart) : Type 0 where
  pub call : Part
  pub alone : parts ≡ by_actor actor call ∷ []
  pub operation_is : call.operation ≡ operation
  pub answer_is : call.answer ≡ answer

-- one of them is this call of an actor, with this answer, and all others are residences
pub record HaveCall (actor : ℕ) (operation : Operation) (answer : Option ℕ) (parts : List WholePart) : Type 0 where
  pub early : List WholePart
  pub call : Part
  pub late : List WholePart
  pub split : parts ≡ early ++ by_actor actor call ∷ late
  pub operation_is : call.operation ≡ operation
  pub answer_is : call.answer ≡ answer
  pub before : AreResidences early
  pub after : AreResidences late

-- the protocol of each actor after them
abbrev pub progress_after : GuestShape → List WholePart → (ℕ → Progress) → ℕ → Progress
progress_after shape parts progress actor = progress_of shape actor (progress actor) (acts_in (parts_by actor parts))
