-- What the steps of a scenario answered, by what each vCPU heard (own choice).
use Rattle.std.specs.Prelude.{◌≡◌, ℕ, ◌+◌, ◌<◌, ◌==◌, ◌&&◌, Bool, List, [], ◌∷◌, length, slice_get, slice_index_or, Option, Some, if◌then◌else◌}
use Rattle.thr_trip.specs.LawEagerIsHistory.Calls.{own_steps}
use Rattle.guest_end.specs.Words.{PeOp, GuestShape}
use Rattle.guest_end.specs.GicGuest.declared.outcome.Answer.{Answer}
use Rattle.guest_end.specs.GicGuest.declared.outcome.Answer.TheVariants.{Nothing}
use Rattle.guest_end.specs.ScnBase.declared.step.Step.{Step}
use Rattle.guest_end.specs.ScnBase.declared.step.Step.TheVariants.{Pe as PeStep}
use Rattle.thr_trip.specs.Script.{calls_answered, calls_received, device_ops, vcpu_ops}
use Rattle.thr_cast.specs.declared.answers.Heard.{Heard}

-- an entry is of this vCPU
abbrev pub is_of : ℕ → ℕ → Heard → Bool
is_of guest vcpu one = one.name.guest == guest && one.name.vcpu == vcpu

-- the place of a vCPU's first entry, or past all of them where it has none
abbrev pub place_by : ℕ → ℕ → List Heard → ℕ
place_by guest vcpu [] = 0
place_by guest vcpu (one ∷ heard) = if is_of guest vcpu one then 0 else place_by guest vcpu heard + 1

-- what the operations of a vCPU answered, by its first entry
abbrev pub heard_by : ℕ → ℕ → List Heard → List (Option ℕ)
heard_by guest vcpu [] = []
heard_by guest vcpu (one ∷ heard) = if is_of guest vcpu one then one.answers else heard_by guest vcpu heard

-- which of them is the next, by a number for each entry
abbrev pub next_of : ℕ → ℕ → List Heard → List ℕ → ℕ
next_of guest vcpu heard next = slice_index_or next (place_by guest vcpu heard) 0

-- each operation of a vCPU among the steps was answered, and nothing else was
abbrev pub AllHeard : List Step → List Heard → Type 0
AllHeard steps heard = (guest vcpu : ℕ) → length (heard_by guest vcpu heard) ≡ length (vcpu_ops guest vcpu steps)

-- these answers give each vCPU's calls what it heard, in order, and each device's calls and each step of a PE nothing; a device's number among the actors of its guest has to be that of no vCPU with a step
pub record AnswersAre (steps : List Step) (heard : List Heard) (answers : List Answer) : Type 0 where
  pub vcpus : (shape : GuestShape) (number vcpu : ℕ) → vcpu < shape.vcpus → own_steps shape number vcpu steps answers ≡ calls_answered (vcpu_ops number vcpu steps) (heard_by number vcpu heard)
  pub devices : (shape : GuestShape) (number device : ℕ) → vcpu_ops number (shape.vcpus + device) steps ≡ [] → own_steps shape number (shape.vcpus + device) steps answers ≡ calls_received (device_ops number device steps)
  pub pes : (place pe : ℕ) (op : PeOp) → slice_get steps place ≡ Some (PeStep pe op) → slice_get answers place ≡ Some Nothing
