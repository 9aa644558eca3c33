-- How a machine is saved in room of C's, and restored.
use Rattle.std.specs.Prelude.{◌≡◌, ⊤, ℕ, nat_le, if◌then◌else◌, List, length, drop, ◌++◌, Option, Some, None, Result, Ok, Err, MatchResult, ℤ, pos}
use Rattle.serde_json.specs.Data.{Data}
use Rattle.vm_saved.specs.GicVm.GuestMemory.declared.base.Bases.{Bases}
use Rattle.vm_saved.specs.GicVm.IdealGuest.Words.{GuestShape}
use Rattle.vm_saved.specs.GicVm.IdealGuest.declared.guest.IdealGuest.{IdealGuest}
use Rattle.vm_saved.specs.GicVm.Keep.{put_in}
use Rattle.vm_saved.specs.GicVm.State.{MachineState}
use Rattle.vm_saved.specs.Image.{CanBeSaved, IsSaved, Spells}
use Rattle.vm_saved.specs.Reading.{Tells}
use Rattle.vm_saved.specs.Calls.{Refuses, IsRestored}
use Rattle.vm_saved.specs.declared.restoring.NotRestored.{NotRestored}
use Rattle.vm_saved.specs.declared.restoring.NotRestored.TheVariants.{NoJson, NoImage, Other, NoMemory as NoRoom}
use Rattle.gic_c.specs.declared.answer.Refusal.{Refusal}
use Rattle.gic_c.specs.declared.answer.Refusal.TheVariants.{NoMemory, Invalid, TooSmall, Untold}
use Rattle.gic_c.specs.declared.answer.Reply.{Reply}
use Rattle.gic_c.specs.declared.answer.Reply.TheVariants.{Done as Finished, Fetch}
use Rattle.gic_c.specs.declared.answer.RvDone.{RvDone}
use Rattle.gic_c.specs.declared.board.Board.{Board}
use Rattle.gic_c.specs.Answer.{errno_of, status_of, shown}
use Rattle.gic_c.specs.Board.{forgotten, with_machine}

-- Saving.

-- the image of a machine, or why there is none: where memory is refused nothing is said
abbrev pub IsImageOf : MachineState → Result (List ℕ) Refusal → Type 0
IsImageOf machine (Ok bytes) = IsSaved machine bytes
IsImageOf machine (Err NoMemory) = ⊤
IsImageOf machine (Err Untold) = CanBeSaved machine → ⊥
IsImageOf machine (Err refusal) = ⊥

-- the same of a handle
abbrev pub IsImageIn : Option Board → Result (List ℕ) Refusal → Type 0
IsImageIn (Some board) image = IsImageOf board.machine image
IsImageIn None image = image ≡ Err Invalid

-- what is returned where there is room for so many bytes, how many bytes are told, and what stands in the room then: an image is written whole or not at all
abbrev pub save_status : Result (List ℕ) Refusal → ℕ → ℤ
save_status (Ok bytes) room = if nat_le (length bytes) room then pos 0 else errno_of TooSmall
save_status (Err refusal) room = errno_of refusal

abbrev pub needed_for : Result (List ℕ) Refusal → ℕ
needed_for (Ok bytes) = length bytes
needed_for (Err refusal) = 0

abbrev pub after_save : Result (List ℕ) Refusal → List ℕ → List ℕ
after_save (Ok bytes) room = if nat_le (length bytes) (length room) then bytes ++ drop (length bytes) room else room
after_save (Err refusal) room = room

-- so it is answered
pub record IsSave (board : Option Board) (before after : List ℕ) (needed : ℕ) (status : ℤ) : Type 0 where
  pub image : Result (List ℕ) Refusal
  pub is_image : IsImageIn board image
  pub status_is : status ≡ save_status image (length before)
  pub needed_is : needed ≡ needed_for image
  pub room_is : after ≡ after_save image before

-- Restoring.

-- how a refusal is told: there is no memory, or the bytes are no image of the machine
abbrev pub refusal_of : NotRestored → Refusal
refusal_of NoRoom = NoMemory
refusal_of NoJson = Invalid
refusal_of (NoImage fault) = Invalid
refusal_of Other = Invalid

-- the bytes are refused, and not for memory
pub record IsNoImage (bytes : List ℕ) (shape : GuestShape) : Type 0 where
  pub refusal : NotRestored
  pub refuses : Refuses bytes shape refusal
  pub not_memory : refusal ≡ NoRoom → ⊥

-- what a call makes of a machine and answers: what was fed is dropped, and a machine that is not restored stays
abbrev pub Restores : List ℕ → Board → Board → Result Reply Refusal → Type 0
Restores bytes before after (Ok (Finished done)) = IsRestored bytes before.machine after.machine done × (after ≡ with_machine before after.machine)
Restores bytes before after (Ok (Fetch span)) = ⊥
Restores bytes before after (Err NoMemory) = after ≡ forgotten before
Restores bytes before after (Err Invalid) = IsNoImage bytes before.machine.guest.shape × (after ≡ forgotten before)
Restores bytes before after (Err refusal) = ⊥

-- bytes that tell a machine are refused for memory alone
abbrev pub RestoresOnly : List ℕ → Board → Board → Result Reply Refusal → Type 0
RestoresOnly bytes before after answer =
    (d : Data) (guest : IdealGuest) (bases : Bases) → Spells bytes d → Tells d before.machine.guest.shape guest bases
    → MatchResult answer (λ reply. after.machine ≡ put_in guest bases before.machine) (λ refusal. refusal ≡ NoMemory)

-- the same of a handle
abbrev pub RestoresIn : List ℕ → Option Board → Option Board → Result Reply Refusal → Type 0
RestoresIn bytes (Some before) (Some after) answer = Restores bytes before after answer × RestoresOnly bytes before after answer
RestoresIn bytes None after answer = (after ≡ None) × (answer ≡ Err Invalid)
RestoresIn bytes (Some before) None answer = ⊥

-- so it is answered
pub record IsRestore (bytes : List ℕ) (before after : Option Board) (status : ℤ) (done : RvDone) : Type 0 where
  pub answer : Result Reply Refusal
  pub status_is : status ≡ status_of answer
  pub done_is : done ≡ shown answer
  pub call : RestoresIn bytes before after answer
