-- A device sends a message through its translation line (own choice).
use Rattle.std.specs.Prelude.{◌≡◌, ℕ, ◌++◌, ◌==◌, Bool, true, false, IsTrue, List, [], ◌∷◌, None, Result, Ok, Err}
use Rattle.std.specs.List.{list_all}
use Rattle.dev_port.specs.Words.{GuestShape, Lpi, Msi}
use Rattle.dev_port.specs.Calls.{Device}
use Rattle.dev_port.specs.Core.{Made, Look, LineEnter, LineLeave, Raise, Line, line_of, no_vcpus, Seen, Adds, shape_of, MakesPost, IsProperPart}
use Rattle.dev_port.specs.PortCall.Tell.{TellsOf}
use Rattle.dev_port.specs.Device.{CanCall, GoesUnseen}
use Rattle.gic_msi.specs.declared.posts.MsiMiss.{MsiMiss}
use Rattle.gic_msi.specs.declared.posts.MsiMiss.TheVariants.{NoLine, Changed}
use Rattle.gic_msi.specs.Message.{line_of_message, has_message}

-- Parts.

-- the message's line has it not, as a look at it found
pub record IsNoLine (device event found : ℕ) (part : List Made) : Type 0 where
  pub look : Made
  pub part_is : part ≡ look ∷ []
  pub look_is : look.step ≡ Look (Line (line_of_message device event))
  pub found_is : look.found ≡ found
  pub not_there : has_message device event found ≡ false

-- the message's line had it, and its word was another one when the device was to enter it
pub record IsChanged (device event found : ℕ) (part : List Made) : Type 0 where
  pub look : Made
  pub enter : Made
  pub part_is : part ≡ look ∷ enter ∷ []
  pub look_is : look.step ≡ Look (Line (line_of_message device event))
  pub there : has_message device event look.found ≡ true
  pub enter_is : enter.step ≡ LineEnter (line_of_message device event) look.found
  pub found_is : enter.found ≡ found
  pub other : (found == look.found) ≡ false

-- the message's line has it: the device enters the line, raises the line's LPI, marks and kicks the vCPUs that this concerns, and leaves the line
pub record IsPost (shape : GuestShape) (device event : ℕ) (part : List Made) : Type 0 where
  pub look : Made
  pub enter : Made
  pub tells : List Made
  pub leave : Made
  pub part_is : part ≡ look ∷ enter ∷ tells ++ leave ∷ []
  pub look_is : look.step ≡ Look (Line (line_of_message device event))
  pub there : has_message device event look.found ≡ true
  pub enter_is : enter.step ≡ LineEnter (line_of_message device event) look.found
  pub same : enter.found ≡ look.found
  pub raises : TellsOf shape no_vcpus (Raise (Lpi (line_of look.found).lpi)) (Lpi (line_of look.found).lpi) tells
  pub leave_is : leave.step ≡ LineLeave (line_of_message device event)

-- What a device did.

-- a step left the word as it found it
abbrev pub leaves_word : Made → Bool
leaves_word made = made.left == made.found

-- steps that changed no word and nothing that the device has for itself, and of which nothing is to be seen
pub record ChangesNothing (old new : Seen) (part : List Made) : Type 0 where
  pub unseen : GoesUnseen old new part
  pub words : IsTrue (list_all leaves_word part)
  pub local_is : new.local ≡ old.local

pub record FindsNoLine (old new : Seen) (device event found : ℕ) : Type 0 where
  pub part : List Made
  pub form : IsNoLine device event found part
  pub nothing : ChangesNothing old new part

pub record FindsChanged (old new : Seen) (device event found : ℕ) : Type 0 where
  pub part : List Made
  pub form : IsChanged device event found part
  pub nothing : ChangesNothing old new part

-- a part that is the call of a message by the LPI that its line has, and proper; after it the device can make another call
pub record IsPostPart (old new : Seen) (device event : ℕ) (part : List Made) : Type 0 where
  pub adds : Adds old new part
  pub call : MakesPost old part (Device (Msi device event)) None
  pub proper : IsProperPart old part (Device (Msi device event)) 0 None
  pub tables : new.taken ≡ false
  pub after : CanCall new

pub record Posts (old new : Seen) (device event : ℕ) : Type 0 where
  pub part : List Made
  pub form : IsPost (shape_of old) device event part
  pub done : IsPostPart old new device event part

-- by what is answered
abbrev pub PostsAs : Seen → Seen → ℕ → ℕ → Result Unit MsiMiss → Type 0
PostsAs old new device event (Ok done) = Posts old new device event
PostsAs old new device event (Err (NoLine found)) = FindsNoLine old new device event found
PostsAs old new device event (Err (Changed found)) = FindsChanged old new device event found
