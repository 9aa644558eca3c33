-- The image of a machine has no float, and nests six deep.
use Rattle.std.proofs.Common.{◌≡◌, ◌≤◌, false, ap, ◌∙◌, arith}
use Rattle.serde_json.specs.Data.{Data, depth}
use Rattle.serde_json.specs.Read.{max_depth}
use Rattle.serde_json.specs.Written.{has_float}
use Rattle.gic_vm.specs.GuestMemory.declared.base.Bases.{Bases}
use Rattle.image_read.specs.GicResume.GicSave.Cell.{number_data, list_data, object_data}
use Rattle.image_read.proofs.GicResume.GicSave.PlainLemmas.{IsPlain, ArePlain, deeper, number_plain, list_plain, object_plain, image_plain}
use Rattle.saved_take.specs.SavedGuest.IdealGuests.declared.guest.IdealGuest.{IdealGuest}
use Rattle.vm_saved.specs.Image.{run_of, numbers_of, members_of}

members_plain : (guest : IdealGuest) (bases : Bases) → ArePlain 5 (members_of guest bases)
unfolding ArePlain
members_plain guest bases = (
  deeper 1 5 (list_data number_data (numbers_of bases)) (list_plain 0 number_data (λ n. number_plain n 0) (numbers_of bases)) (omega arith),
  (image_plain (run_of guest), tt),
)

image_plain_of : (guest : IdealGuest) (bases : Bases) → IsPlain 6 (object_data (members_of guest bases))
image_plain_of guest bases = object_plain 5 (members_of guest bases) (members_plain guest bases)

-- so a value that is the image is written as its text, which reads back
pub no_float : (guest : IdealGuest) (bases : Bases) (d : Data) → d ≡ object_data (members_of guest bases) → has_float d ≡ false
no_float guest bases d is = ap has_float is ∙ (image_plain_of guest bases).whole

pub not_deep : (guest : IdealGuest) (bases : Bases) (d : Data) → d ≡ object_data (members_of guest bases) → depth d ≤ max_depth
not_deep guest bases d is = let whole : depth d ≡ depth (object_data (members_of guest bases)) = ap depth is in omega (arith, whole, (image_plain_of guest bases).shallow)
