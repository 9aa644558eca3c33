-- The calls of a device over its port: what each makes.
use Rattle.std.specs.Prelude.{◌≡◌, ℕ, ◌++◌, not, Bool, false, IsTrue, List, [], ◌∷◌, if◌then◌else◌, Option, Some, None}
use Rattle.std.specs.List.{list_all}
use Rattle.its_exec.specs.Words.{Key, Lpi, DeviceOp, Msi, GuestShape}
use Rattle.its_exec.specs.GicCall.declared.event.Event.TheVariants.{Raise as RaiseEvent}
use Rattle.its_exec.specs.Calls.{Device, ItsCtlr, place_of_plain}
use Rattle.its_exec.specs.Registers.{enabled_in, Maps, translated}
use Rattle.its_exec.specs.Core.{Made, CoreStep, Raise, WireUp, WireDown, RamLook, TurnTake, TurnRelease, known_maps, is_vcpu, no_vcpus, Seen, Adds, shape_of, part_events, MakesCall, IsProperPart, is_settled}
use Rattle.its_exec.specs.PortCall.Piece.{IsPiece, takes_none}
use Rattle.its_exec.specs.PortCall.Plain.{ReadsPlain}
use Rattle.its_exec.specs.PortCall.Tell.{TellsOf, Tells}
use Rattle.its_exec.specs.PortCall.Turn.{is_miss}
use Rattle.dev_port.specs.declared.wire.Wire.{Wire}

-- an actor can make a call of a device: it is one, owes nothing, has neither the ITS nor the mark of GICD_CTLR, and is in no translation line
pub record CanCall (seen : Seen) : Type 0 where
  pub device : is_vcpu (shape_of seen) seen.actor ≡ false
  pub settled : IsTrue (is_settled seen.local)

-- a part that is a call of a device, and proper; after it the device can make another one
pub record IsDevicePart (old new : Seen) (op : DeviceOp) (part : List Made) : Type 0 where
  pub adds : Adds old new part
  pub call : MakesCall old part (Device op) None
  pub proper : IsProperPart old part (Device op) 0 None
  pub tables : new.taken ≡ false
  pub after : CanCall new

-- a device made its call by one step that changes a cause of an interrupt, and told the vCPUs that this concerns
pub record Changes (old new : Seen) (op : DeviceOp) (step : CoreStep) (key : Key) : Type 0 where
  pub part : List Made
  pub form : TellsOf (shape_of old) no_vcpus step key part
  pub done : IsDevicePart old new op part

-- an actor made some steps, none of which takes the ITS: nothing is to be seen of them, and they are proper where no scan is in progress
pub record GoesUnseen (old new : Seen) (part : List Made) : Type 0 where
  pub adds : Adds old new part
  pub none_taken : IsTrue (takes_none part)
  pub silent : part_events old part ≡ []
  pub piece : IsPiece old part

-- Wires.

-- a wire has a level
abbrev pub has_level : Wire → Bool → Bool
has_level wire up = if up then wire.up else not wire.up

-- the step that moves the wire of an interrupt to a level
abbrev pub wire_step : Key → Bool → CoreStep
wire_step key up = if up then WireUp key else WireDown key

-- Message-signalled interrupts.

-- what the ITS makes of a message: it raises an LPI and tells the vCPUs, or nothing
abbrev pub RaisesLpi : GuestShape → Option ℕ → List Made → Type 0
RaisesLpi shape None part = part ≡ []
RaisesLpi shape (Some id) part = TellsOf shape no_vcpus (Raise (Lpi id)) (Lpi id) part

-- the part of a message: looks at the ITS's word and tries that missed, the step that takes the ITS, a look at GITS_CTLR, what the ITS makes of the
-- message by its maps, some steps of which nothing is to be seen, and the step that gives the ITS back
pub record IsMsiPart (shape : GuestShape) (device event : ℕ) (unseen part : List Made) : Type 0 where
  pub misses : List Made
  pub take : Made
  pub look : Made
  pub raise : List Made
  pub give : Made
  pub maps : Maps
  pub part_is : part ≡ misses ++ take ∷ [] ++ look ∷ [] ++ raise ++ unseen ++ give ∷ []
  pub missed : IsTrue (list_all is_miss misses)
  pub take_is : take.step ≡ TurnTake take.found
  pub handed : take.tables ≡ Some maps
  pub look_is : look.step ≡ RamLook (place_of_plain shape ItsCtlr)
  pub raises : RaisesLpi shape (translated maps (enabled_in look.found) device event) raise
  pub give_is : give.step ≡ TurnRelease

-- a device sent a message to the ITS, with such steps before it gave the ITS back
pub record SendsMsiBeside (old new : Seen) (device event : ℕ) (unseen : List Made) : Type 0 where
  pub part : List Made
  pub form : IsMsiPart (shape_of old) device event unseen part
  pub done : IsDevicePart old new (Msi device event) part
  pub piece : IsPiece old part

-- a device sent a message to the ITS
abbrev pub SendsMsi : Seen → Seen → ℕ → ℕ → Type 0
SendsMsi old new device event = SendsMsiBeside old new device event []

-- the actor that has the ITS looked at GITS_CTLR, and translated a message by the maps as it knows them
pub record Translates (old new : Seen) (device event : ℕ) (id : Option ℕ) : Type 0 where
  pub ctlr : ℕ
  pub reads : ReadsPlain old new ItsCtlr ctlr
  pub id_is : id ≡ translated (known_maps new.own) (enabled_in ctlr) device event

-- an LPI is raised, if there is one
abbrev pub TellsLpi : Seen → Seen → Option ℕ → Type 0
TellsLpi old new None = new ≡ old
TellsLpi old new (Some id) = Tells old new (Raise (Lpi id)) (Lpi id) (RaiseEvent (Lpi id))
