-- A memory-mapped access of a vCPU that has nothing at its interface: the whole call, and the pieces that it is made of.
use Rattle.std.specs.Prelude.{◌≡◌, ℕ, false, IsTrue, List, [], Option, Some}
use Rattle.std.specs.List.{list_any}
use Rattle.std.specs.Option.{option_map_or}
use Rattle.its_exec.specs.Words.{Key, Frame, Mem, GuestShape, Lpi, has_interrupt, is_same_key}
use Rattle.its_exec.specs.Calls.{Event, Operation, Access, Place, access_events, access_value, Makes, access_places, read_answer, View, MakesPlain, enabled_by}
use Rattle.its_exec.specs.Histories.{key_in, named_by, named_by_access, names, takes_commands}
use Rattle.its_exec.specs.Core.{Made, is_vcpu, Seen, Adds, shape_of, part_events, MakesCall, IsProperPart, Progress, is_end_of, is_settled}
use Rattle.its_exec.specs.PortCall.Piece.{IsIdle, IsGoodPiece, IsPiece, takes_none}
use Rattle.its_exec.specs.PortCall.Rest.{StaysAtEase}
use Rattle.pe_mem.specs.Found.{IsCallAsFound, goes_by_target}
use Rattle.pe_mem.specs.Looked.{IsLookedAt}

-- a vCPU can make one: it has nothing at its interface, owes nothing, and has neither the ITS nor the mark of GICD_CTLR
pub record CanAccess (seen : Seen) : Type 0 where
  pub vcpu : IsTrue (is_vcpu (shape_of seen) seen.actor)
  pub empty : seen.local.at ≡ []
  pub settled : IsTrue (is_settled seen.local)

-- a piece is proper in a call for this, and leaves the actor as far in its protocol as before
abbrev pub IsPieceOf : Seen → Operation → List Made → Type 0
IsPieceOf seen operation part = (p : Progress) → IsIdle seen p → p.operation ≡ Some operation → p.wants ≡ [] → IsGoodPiece seen p part

-- the call
abbrev pub access_of : Frame → ℕ → ℕ → Option ℕ → Operation
access_of frame offset size write = Access (Mem frame offset size write)

-- a part that makes the events of the call with this answer, also with each other vCPUs that agree with what it found LPIs to be for, and is proper on a PE with any
-- number of list registers; the vCPU has for itself what it
-- had, and can make another one
pub record MakesAccess (old new : Seen) (frame : Frame) (offset size : ℕ) (write answer : Option ℕ) : Type 0 where
  pub part : List Made
  pub adds : Adds old new part
  pub call : MakesCall old part (access_of frame offset size write) answer
  pub found : IsCallAsFound old part (access_of frame offset size write) answer
  pub piece : IsPieceOf old (access_of frame offset size write) part
  pub proper : (lrs : ℕ) → IsProperPart old part (access_of frame offset size write) lrs answer
  pub stays : StaysAtEase old.local new.local
  pub tables : new.taken ≡ false
  pub after : CanAccess new

-- Pieces.

-- one of some events is of the interrupt
abbrev pub is_key_of : List Event → Key → Type 0
is_key_of events key = IsTrue (list_any (λ event. option_map_or (is_same_key key) (key_in event) false) events)

-- a call ends no interrupt, takes no commands, and names all that some events are of, whatever its actor knows of the guest
pub record NamesAll (shape : GuestShape) (actor : ℕ) (operation : Operation) (events : List Event) : Type 0 where
  pub commands : takes_commands shape operation ≡ false
  pub ends_none : (key : Key) → is_end_of shape actor (Some operation) key ≡ false
  pub names_each : (view : View) (key : Key) → is_key_of events key → IsTrue (names shape view actor operation key)

-- a call ends no interrupt, takes no commands, and names those that these events are of, with what its actor knows of the guest
pub record NamesBy (shape : GuestShape) (actor : ℕ) (operation : Operation) (named : View → List Event) : Type 0 where
  pub commands : takes_commands shape operation ≡ false
  pub ends_none : (key : Key) → is_end_of shape actor (Some operation) key ≡ false
  pub named_are : (view : View) → named_by shape view actor operation ≡ named view

-- a piece makes these events of the guest as it is in some view, and the reads of these places; it is proper in each call that names the interrupts so
pub record Serves (old new : Seen) (events : View → List Event) (places : View → List Place) (named : View → List Event) : Type 0 where
  pub view : View
  pub part : List Made
  pub adds : Adds old new part
  pub made : Makes (Some old.actor) view (events view) (places view) [] (part_events old part)
  pub stays : StaysAtEase old.local new.local
  pub none_taken : IsTrue (takes_none part)
  pub piece : (operation : Operation) → NamesBy (shape_of old) old.actor operation named → IsPieceOf old operation part

-- the same of a piece that is proper in every call
pub record ServesFreely (old new : Seen) (events : View → List Event) (places : View → List Place) : Type 0 where
  pub view : View
  pub part : List Made
  pub adds : Adds old new part
  pub made : Makes (Some old.actor) view (events view) (places view) [] (part_events old part)
  pub stays : StaysAtEase old.local new.local
  pub none_taken : IsTrue (takes_none part)
  pub piece : IsPiece old part

-- a memory-mapped access that does not take the ITS, and what it reads
pub record ServesAccess (old new : Seen) (frame : Frame) (offset size : ℕ) (write : Option ℕ) (value : ℕ) : Type 0 where
  pub serves :
      Serves old new (λ view. access_events (shape_of old) view frame offset size write) (λ view. access_places (shape_of old) view frame offset size write)
      (λ view. named_by_access (shape_of old) view frame offset size write)
  pub reads : read_answer write value ≡ read_answer write (access_value (shape_of old) serves.view frame offset size)
  pub found : (id : ℕ) → IsTrue (has_interrupt (shape_of old) (Lpi id)) → IsTrue (goes_by_target (shape_of old) serves.view frame offset size write id) → IsLookedAt old serves.part id (serves.view.targets id)
  pub made : MakesPlain (enabled_by (shape_of old) frame offset size write) (shape_of old) serves.view old.actor frame offset size write (part_events old serves.part)
