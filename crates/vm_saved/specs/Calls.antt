-- What saving and restoring answer.
use Rattle.std.specs.Prelude.{◌≡◌, ⊤, ℕ, List, Result, MatchResult}
use Rattle.serde_json.specs.Data.{Data}
use Rattle.gic_vm.specs.GuestMemory.declared.base.Bases.{Bases}
use Rattle.gic_vm.specs.State.{MachineState}
use Rattle.gic_vm.specs.Calls.{done_by}
use Rattle.gic_vm.specs.Keep.{put_in}
use Rattle.gic_vm.specs.declared.done.Done.{Done}
use Rattle.saved_take.specs.SavedGuest.IdealGuests.Words.{GuestShape}
use Rattle.saved_take.specs.SavedGuest.IdealGuests.declared.guest.IdealGuest.{IdealGuest}
use Rattle.vm_saved.specs.declared.restoring.NotRestored.{NotRestored}
use Rattle.vm_saved.specs.declared.restoring.NotRestored.TheVariants.{NoJson, NoImage, Other, NoMemory}
use Rattle.vm_saved.specs.Image.{Spells}
use Rattle.image_read.specs.GicResume.Reading.{IsImage, IsNoImage}
use Rattle.saved_take.specs.SavedGuest.ScnSaved.declared.saved.Saved.{Saved}
use Rattle.vm_saved.specs.Reading.{IsAlone, Tells, IsNoMachine, IsOfAnother}

-- why the image of a guest restores nothing: where memory is refused nothing is said of it
abbrev pub RefusesImage : Data → GuestShape → NotRestored → Type 0
RefusesImage image shape NoJson = ⊥
RefusesImage image shape (NoImage fault) = IsNoImage image fault
RefusesImage image shape Other = (saved : Saved) × IsImage image saved × (IsAlone shape saved → ⊥)
RefusesImage image shape NoMemory = ⊤

-- why a value restores nothing
abbrev pub RefusesValue : Data → GuestShape → NotRestored → Type 0
RefusesValue d shape NoJson = ⊥
RefusesValue d shape (NoImage fault) = IsNoMachine d fault
RefusesValue d shape Other = IsOfAnother d shape
RefusesValue d shape NoMemory = ⊤

-- the same of bytes
abbrev pub Refuses : List ℕ → GuestShape → NotRestored → Type 0
Refuses bytes shape NoJson = (d : Data) → Spells bytes d → ⊥
Refuses bytes shape (NoImage fault) = (d : Data) × Spells bytes d × IsNoMachine d fault
Refuses bytes shape Other = (d : Data) × Spells bytes d × IsOfAnother d shape
Refuses bytes shape NoMemory = ⊤

-- the machine after it has the guest that the bytes tell, with its registers, and the answer tells whose lines changed
pub record IsRestored (bytes : List ℕ) (before after : MachineState) (done : Done) : Type 0 where
  pub value : Data
  pub spells : Spells bytes value
  pub guest : IdealGuest
  pub bases : Bases
  pub tells : Tells value before.guest.shape guest bases
  pub machine : after ≡ put_in guest bases before
  pub done_is : done ≡ done_by 0 before.guest guest

-- the machine gets this guest and these registers, where memory is granted
abbrev pub RestoresOnly : IdealGuest → Bases → MachineState → MachineState → Result Done NotRestored → Type 0
RestoresOnly guest bases before after result = MatchResult result (λ done. after ≡ put_in guest bases before) (λ refusal. refusal ≡ NoMemory)

-- why bytes spell no value that was found
abbrev pub IsUnread : List ℕ → NotRestored → Type 0
IsUnread bytes NoJson = (d : Data) → Spells bytes d → ⊥
IsUnread bytes (NoImage fault) = ⊥
IsUnread bytes Other = ⊥
IsUnread bytes NoMemory = ⊤
