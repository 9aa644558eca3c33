-- What an actor does for one part of a command.
use Rattle.std.specs.Prelude.{◌≡◌, ◌≢◌, ℕ, ◌<◌, ◌&&◌, Bool, true, false, IsTrue, nat_lt, List, [], ◌∷◌, Option, IfSome}
use Rattle.std.specs.List.{list_all}
use Rattle.std.specs.Option.{option_map_or}
use Rattle.port_call.specs.Words.{Lpi, GuestShape, has_interrupt, target_in, is_vcpu_or_none, irq_of}
use Rattle.port_call.specs.Calls.{Part, Map, Clear, Place, lpi_event, Happened, Makes, EndsWith, byte_places, View}
use Rattle.port_call.specs.GicCall.declared.command.Part.TheVariants.{Forget, Retarget, Raise, Configure}
use Rattle.port_call.specs.Core.{Made, Look, Irq, Seen, Adds, shape_of, part_events, Progress, is_end_of, may_name}
use Rattle.port_call.specs.Piece.{takes_none, IsIdle, IsGoodPiece}
use Rattle.port_call.specs.Rest.{StaysAtEase}
use Rattle.its_exec.specs.Known.{KnowsSame, IsUntouched, HasFetched, AgreeFound, are_within, are_going, is_read}
use Rattle.its_exec.specs.Config.{is_kept, Keeps}

-- the LPI of a part
abbrev pub lpi_of : Part → ℕ
lpi_of (Forget id) = id
lpi_of (Map id target) = id
lpi_of (Retarget id target) = id
lpi_of (Raise id) = id
lpi_of (Clear id) = id
lpi_of (Configure id) = id

-- the vCPU that a part names is one of the guest
abbrev pub has_vcpu_of : GuestShape → Part → Bool
has_vcpu_of shape (Map id target) = nat_lt target shape.vcpus
has_vcpu_of shape (Retarget id target) = is_vcpu_or_none shape target
has_vcpu_of shape part = true

-- the guest has what a part names
abbrev pub is_part_of : GuestShape → Part → Bool
is_part_of shape part = has_interrupt shape (Lpi (lpi_of part)) && has_vcpu_of shape part

-- the actor looked at an LPI's word, and found the vCPU that it is for
pub record LooksAtTarget (old new : Seen) (id : ℕ) (target : Option ℕ) : Type 0 where
  pub look : Made
  pub adds : Adds old new (look ∷ [])
  pub step_is : look.step ≡ Look (Irq (Lpi id))
  pub target_is : target ≡ target_in (irq_of look.found).route (shape_of old)
  pub there : IfSome target (λ vcpu. vcpu < (shape_of old).vcpus)
  pub local_is : new.local ≡ old.local
  pub none_taken : IsTrue (takes_none (look ∷ []))
  pub silent : part_events old (look ∷ []) ≡ []
  pub piece : (p : Progress) → IsIdle old p → is_end_of (shape_of old) old.actor p.operation (Lpi id) ≡ false → IsGoodPiece old p (look ∷ [])

-- a part that reads a configuration goes by the vCPU that the LPI is for as the command begins: no step was made on its word before
abbrev pub GoesFirst : Seen → Part → Type 0
GoesFirst seen (Configure id) = IsUntouched seen id
GoesFirst seen part = Unit {0}

-- the actor's call names an LPI, whatever its steps find, as long as it knows what it goes by while it does the command
pub record IsDue (seen : Seen) (address : ℕ) (p : Progress) (id : ℕ) : Type 0 where
  pub names_it :
      (later : Seen) (more : List Made) → Adds seen later more → IsTrue (are_within more) → IsTrue (are_going more) → ((place : Place) → IsTrue (is_kept (shape_of seen) address place) → KnowsSame seen later place)
      → IsTrue (option_map_or (λ operation. may_name (shape_of later) later.actor later.own operation (Lpi id)) p.operation false)
  pub ends_other : is_end_of (shape_of seen) seen.actor p.operation (Lpi id) ≡ false

-- steps before the change of an LPI: they leave the actor as it was, read, and are about no other LPI
pub record Prefix (old mid : Seen) (address id : ℕ) (steps : List Made) : Type 0 where
  pub adds : Adds old mid steps
  pub within : IsTrue (are_within steps)
  pub going : IsTrue (are_going steps)
  pub local : mid.local ≡ old.local
  pub keeps : Keeps old mid address steps
  pub reads : IsTrue (list_all is_read (part_events old steps))
  pub untouched : (other : ℕ) → IsTrue (has_interrupt (shape_of old) (Lpi other)) → other ≢ id → IsUntouched old other → IsUntouched mid other
  pub piece : (p : Progress) → IsIdle old p → is_end_of (shape_of old) old.actor p.operation (Lpi id) ≡ false → IsGoodPiece old p steps

-- the events of a part, which ends with its own, after what was read before it
pub record MakesPart (actor : Option ℕ) (shape : GuestShape) (targets : ℕ → Option ℕ) (part : Part) (before own : List Happened) : Type 0 where
  pub view : View
  pub made : Makes actor view (lpi_event shape view targets part ∷ []) (byte_places shape view targets part) before own
  pub ends : EndsWith (lpi_event shape view targets part) own

-- the actor did a part of the command at an address: its event is to be seen, with the reads that it asks for; and the vCPUs that it concerns were told
pub record DoesPart (old new : Seen) (address : ℕ) (part : Part) : Type 0 where
  pub steps : List Made
  pub adds : Adds old new steps
  pub within : IsTrue (are_within steps)
  pub going : IsTrue (are_going steps)
  pub local_is : StaysAtEase old.local new.local
  pub keeps : Keeps old new address steps
  pub untouched : (id : ℕ) → IsTrue (has_interrupt (shape_of old) (Lpi id)) → id ≢ lpi_of part → IsUntouched old id → IsUntouched new id
  pub makes :
      (actor : Option ℕ) (targets : ℕ → Option ℕ) → AgreeFound new targets → GoesFirst old part
      → (before : List Happened) → HasFetched old address before → MakesPart actor (shape_of old) targets part before (part_events old steps)
  pub piece : (p : Progress) → IsIdle old p → IsDue old address p (lpi_of part) → p.wants ≡ [] → IsGoodPiece old p steps
