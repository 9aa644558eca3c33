-- What restoring makes of a machine with what was fed, and of a handle.
use Rattle.std.proofs.Common.{◌≡◌, ℕ, List, Option, Some, None, Result, Ok, Err, to_z, of_z, w32, refl, sym, ap, subst, ◌∙◌}
use Rattle.serde_json.specs.Data.{Data}
use Rattle.vm_saved.specs.GicVm.GuestMemory.declared.base.Bases.{Bases}
use Rattle.vm_saved.specs.GicVm.IdealGuest.declared.guest.IdealGuest.{IdealGuest}
use Rattle.vm_saved.specs.GicVm.Keep.{put_in}
use Rattle.vm_saved.specs.GicVm.State.{MachineState}
use Rattle.vm_saved.specs.Image.{Spells}
use Rattle.vm_saved.specs.Reading.{Tells}
use Rattle.vm_saved.specs.declared.restoring.NotRestored.{NotRestored}
use Rattle.vm_saved.specs.declared.restoring.NotRestored.TheVariants.{NoMemory as NoRoom}
use Rattle.gic_c.specs.declared.answer.Refusal.{Refusal}
use Rattle.gic_c.specs.declared.answer.Refusal.TheVariants.{NotFound, NoMemory, NoAccess, Invalid, TooSmall, Untold}
use Rattle.gic_c.specs.declared.answer.Reply.{Reply}
use Rattle.gic_c.specs.declared.answer.Reply.TheVariants.{Done as Finished, Fetch}
use Rattle.gic_c.specs.declared.board.Board.{Board}
use Rattle.gic_c.specs.Answer.{status_of}
use Rattle.gic_c.specs.Save.{refusal_of, Restores, RestoresOnly, RestoresIn}

-- what is told of the machine as it was once what was fed was dropped holds of it as it was before
pub only_ok : (bytes : List ℕ) (before now after : MachineState) → now ≡ before → ((d : Data) (guest : IdealGuest) (bases : Bases) → Spells bytes d → Tells d now.guest.shape guest bases → after ≡ put_in guest bases now)
    → (d : Data) (guest : IdealGuest) (bases : Bases) → Spells bytes d → Tells d before.guest.shape guest bases → after ≡ put_in guest bases before
only_ok bytes before now after same only =
    subst (λ (machine : MachineState). (d : Data) (guest : IdealGuest) (bases : Bases) → Spells bytes d → Tells d machine.guest.shape guest bases → after ≡ put_in guest bases machine) same only

pub only_err : (bytes : List ℕ) (before now : MachineState) (refusal : NotRestored) → now ≡ before → ((d : Data) (guest : IdealGuest) (bases : Bases) → Spells bytes d → Tells d now.guest.shape guest bases → refusal ≡ NoRoom)
    → (d : Data) (guest : IdealGuest) (bases : Bases) → Spells bytes d → Tells d before.guest.shape guest bases → refusal_of refusal ≡ NoMemory
only_err bytes before now refusal same only d guest bases spells tells = ap refusal_of (only d guest bases spells (subst (λ (machine : MachineState). Tells d machine.guest.shape guest bases) (sym same) tells))

-- a handle without a machine
pub of_closed : (bytes : List ℕ) (before after : Option Board) → None ≡ before → after ≡ None → RestoresIn bytes before after (Err Invalid)
of_closed bytes before after closed left = subst (λ (before : Option Board). RestoresIn bytes before after (Err Invalid)) closed (left, refl)

-- and one with a machine
pub of_open : (bytes : List ℕ) (before after : Option Board) (taken now made put : Board) (answer : Result Reply Refusal) → Some taken ≡ before → now ≡ taken → after ≡ Some put → put ≡ made → Restores bytes now made answer → RestoresOnly bytes now made answer
    → RestoresIn bytes before after answer
of_open bytes before after taken now made put answer opened same left is restores only =
    subst (λ (before : Option Board). RestoresIn bytes before after answer) (ap Some same ∙ opened)
    (subst (λ (after : Option Board). RestoresIn bytes (Some now) after answer) (sym (left ∙ ap Some is)) (restores, only))

-- each status fits a C int
pub status_fits : (answer : Result Reply Refusal) → to_z w32 (of_z w32 (status_of answer)) ≡ status_of answer
status_fits (Ok (Finished done)) = refl
status_fits (Ok (Fetch span)) = refl
status_fits (Err NotFound) = refl
status_fits (Err NoMemory) = refl
status_fits (Err NoAccess) = refl
status_fits (Err Invalid) = refl
status_fits (Err Untold) = refl
status_fits (Err TooSmall) = refl
