-- What is saved of a machine is restored (own choice).
use Rattle.gic_vm.specs.State.{MachineState}
use Rattle.saved_take.specs.SavedGuest.IdealGuests.Sound.{IsSound}
use Rattle.saved_take.specs.Back.{without_past_fault}
use Rattle.vm_saved.specs.Image.{CanBeSaved, machine_image}
use Rattle.vm_saved.specs.Reading.{Tells}

-- law: the image of a machine tells its guest, but for the number of a fault by which nothing is stalled, and its registers
abbrev pub SavesReadBack : Type 0
SavesReadBack =
    (machine : MachineState) → IsSound machine.guest → CanBeSaved machine → Tells (machine_image machine) machine.guest.shape (without_past_fault machine.guest) machine.bases
