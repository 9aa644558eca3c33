-- A vCPU leaves its PE: what stands at its interface goes back to the distributor (own choice).
use Rattle.std.specs.Prelude.{◌≡◌, ℕ, IsTrue, List, [], ◌∷◌, fold, map, take, Option, Some, None}
use Rattle.std.specs.List.{filter_map}
use Rattle.std.specs.Option.{option_map}
use Rattle.port_call.specs.Words.{Back, HeldIrq, has_interrupt, Key}
use Rattle.port_call.specs.Core.{CanGiveBack, AtIrq, Local, Folding, Made, GiveBack, Release, no_vcpus, without_at, Seen, Adds, shape_of, part_events, MakesCall, IsProperPart}
use Rattle.port_call.specs.Calls.{Leave as LeaveEvent, Residence, Happened}
use Rattle.port_call.specs.GicCall.declared.event.Found.TheVariants.{Nothing}
use Rattle.port_call.specs.Piece.{takes_none, IsPiece}
use Rattle.vcpu_state.specs.declared.shelved.Shelved.{Shelved}
use Rattle.vcpu_state.specs.declared.loaded.Loaded.{Loaded}
use Rattle.vcpu_state.specs.Holding.{held_keys}
use Rattle.pe_loop.specs.Stay.{IsOff}

-- an interrupt left a vCPU's interface
abbrev pub left_by : ℕ → Key → Happened
left_by vcpu key = record { event = LeaveEvent key vcpu; found = Nothing }

-- an actor's own state without an interrupt at its interface, once it has sent what it owed for it
pub record IsWithout (key : Key) (before after : Local) : Type 0 where
  pub same : record after { at = before.at; phase = before.phase; marks = before.marks } ≡ before
  pub at : after.at ≡ without_at key before.at
  pub phase : after.phase ≡ Folding
  pub marks : after.marks.vcpus ≡ no_vcpus

-- an actor gave back what its interface had of an interrupt, released it, and sent what it owed for it
pub record Releases (old new : Seen) (key : Key) (back : Back) : Type 0 where
  pub give : Made
  pub release : Made
  pub sent : List Made
  pub adds : Adds old new (give ∷ release ∷ sent)
  pub give_is : give.step ≡ GiveBack key back
  pub release_is : release.step ≡ Release key
  pub local_is : IsWithout key old.local new.local
  pub none_taken : IsTrue (takes_none (give ∷ release ∷ sent))
  pub events : part_events old (give ∷ release ∷ sent) ≡ left_by old.actor key ∷ []
  pub piece : IsPiece old (give ∷ release ∷ sent)

-- a vCPU left its PE: all that it held left its interface, by the places of their list registers, and its record is that of the registers
pub record Leaves (old new : Seen) (vcpu : Loaded) (shelved : Shelved) : Type 0 where
  pub part : List Made
  pub adds : Adds old new part
  pub none_taken : IsTrue (takes_none part)
  pub events : part_events old part ≡ map (left_by old.actor) (held_keys vcpu)
  pub piece : IsPiece old part
  pub call : MakesCall old part Residence None
  pub proper : (lrs : ℕ) → IsProperPart old part Residence lrs None
  pub off : IsOff new shelved

-- what is held at a place, if anything is, may leave with what comes back of it
pub record IsReleasable (seen : Seen) (held : HeldIrq) (back : Option Back) : Type 0 where
  pub one : Back
  pub back_is : back ≡ Some one
  pub can : CanGiveBack held.key one seen.local
  pub there : IsTrue (has_interrupt (shape_of seen) held.key)

abbrev pub CanReleaseHeld : Seen → Option HeldIrq → Option Back → Type 0
CanReleaseHeld seen None back = Unit {0}
CanReleaseHeld seen (Some held) back = IsReleasable seen held back

-- and left
pub record ReleasesIt (old new : Seen) (held : HeldIrq) : Type 0 where
  pub back : Back
  pub releases : Releases old new held.key back

abbrev pub ReleasesHeld : Seen → Seen → Option HeldIrq → Type 0
ReleasesHeld old new None = new ≡ old
ReleasesHeld old new (Some held) = ReleasesIt old new held

-- what is left at an interface without some interrupts
abbrev pub without_all : List Key → List AtIrq → List AtIrq
without_all keys at = fold (λ left key. without_at key left) at keys

-- the interrupts that are held at the first places
abbrev pub keys_before : ℕ → Loaded → List Key
keys_before place vcpu = filter_map (option_map (λ held. held.key)) (take place vcpu.held)

-- a vCPU gave back and released what it held at the first places
pub record IsLeaving (old now : Seen) (vcpu : Loaded) (place : ℕ) : Type 0 where
  pub part : List Made
  pub adds : Adds old now part
  pub none_taken : IsTrue (takes_none part)
  pub events : part_events old part ≡ map (left_by old.actor) (keys_before place vcpu)
  pub piece : IsPiece old part
  pub same : record now.local { at = old.local.at; phase = old.local.phase; marks = old.local.marks } ≡ old.local
  pub at : now.local.at ≡ without_all (keys_before place vcpu) old.local.at
  pub marks : now.local.marks.vcpus ≡ no_vcpus
