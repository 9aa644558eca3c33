-- What the members of a guest tell of it, each as it is written in an image (own choice).
use Rattle.std.specs.Prelude.{◌≡◌, ◌<◌, ◌^◌, [], All, Some, option_map, is_some, true, codes}
use Rattle.serde_json.specs.Data.{Data, boolean}
use Rattle.serde_json.specs.Find.{get}
use Rattle.gic_resume.specs.GicSave.Cell.{number_data, list_data}
use Rattle.gic_resume.specs.GicSave.Image.{shape_data, preset_data, cpu_data, rec_data, redist_data, dev_data, evt_data, col_data, ram_data, resident_data, guests_data}
use Rattle.saved_check.specs.SavedGuest.IdealGuests.Words.{GuestShape}
use Rattle.saved_check.specs.SavedGuest.IdealGuests.Calls.{GuestSpec}
use Rattle.saved_check.specs.SavedGuest.Valid.{IsValidCpu, IsValidRec, IsValidWord}
use Rattle.json_field.specs.Field.{list_at}
use Rattle.gic_resume.specs.Reading.{guest_heads}
use Rattle.saved_check.specs.SavedGuest.ScnSaved.declared.saved.Saved.{Saved}
use Rattle.image_read.specs.declared.head.Counts.{Counts}
use Rattle.image_read.specs.declared.guest.Registers.{Registers}
use Rattle.image_read.specs.declared.guest.Tables.{Tables}
use Rattle.image_read.specs.Fits.{its_or_null, IsShortDev, IsShortEvt, IsShortCol, IsValidItsOrNone}

-- what a guest is
pub record TellsSpec (d : Data) (guest : GuestSpec) : Type 0 where
  pub shape : get (codes "shape") d ≡ Some (shape_data guest.shape)
  pub on : get (codes "on") d ≡ Some (boolean guest.on)
  pub irqs : get (codes "irqs") d ≡ Some (list_data preset_data guest.presets)

-- its registers and interrupts
pub record TellsRegisters (d : Data) (registers : Registers) : Type 0 where
  pub gicd : get (codes "gicd") d ≡ Some (number_data registers.gicd)
  pub cpu : get (codes "cpu") d ≡ Some (list_data cpu_data registers.cpu)
  pub rec : get (codes "rec") d ≡ Some (list_data rec_data registers.rec)
  pub redist : get (codes "redist") d ≡ Some (list_data redist_data registers.redist)

-- its ITS and its memory
pub record TellsTables (d : Data) (tables : Tables) : Type 0 where
  pub its : get (codes "its") d ≡ Some (its_or_null tables.its)
  pub dev : get (codes "dev") d ≡ Some (list_data dev_data tables.dev)
  pub evt : get (codes "evt") d ≡ Some (list_data evt_data tables.evt)
  pub col : get (codes "col") d ≡ Some (list_data col_data tables.col)
  pub ram : get (codes "ram") d ≡ Some (list_data ram_data tables.ram)

-- they can stand in an image
pub record CanStand (shape : GuestShape) (registers : Registers) : Type 0 where
  pub gicd : registers.gicd < 2 ^ 32
  pub cpu : All (IsValidCpu shape) registers.cpu
  pub rec : All (IsValidRec shape) registers.rec

pub record CanBeMapped (shape : GuestShape) (tables : Tables) : Type 0 where
  pub its : IsValidItsOrNone shape tables.its
  pub dev : All (IsShortDev shape) tables.dev
  pub evt : All (IsShortEvt shape) tables.evt
  pub col : All (IsShortCol shape) tables.col
  pub ram : All (IsValidWord shape) tables.ram

-- the numbers of a run
pub record TellsCounts (d : Data) (counts : Counts) : Type 0 where
  pub pes : get (codes "pes") d ≡ Some (number_data counts.pes)
  pub lrs : get (codes "lrs") d ≡ Some (number_data counts.lrs)
  pub done : get (codes "done") d ≡ Some (number_data counts.done)
  pub reads : get (codes "reads") d ≡ Some (number_data counts.reads)

pub record AreShort (counts : Counts) : Type 0 where
  pub pes : counts.pes < 2 ^ 32
  pub lrs : counts.lrs < 2 ^ 32
  pub done : counts.done < 2 ^ 32
  pub reads : counts.reads < 2 ^ 32

abbrev pub counts_of : Saved → Counts
counts_of saved = record { pes = saved.scenario.pes; lrs = saved.scenario.lrs; done = saved.done; reads = saved.reads }

-- it is an image of the first version, with a list of steps
pub record IsVersioned (d : Data) : Type 0 where
  pub version : get (codes "version") d ≡ Some (number_data 1)
  pub listed : is_some (list_at (codes "steps") d) ≡ true

-- all of a run but its steps
pub record TellsHead (d : Data) (saved : Saved) : Type 0 where
  pub form : IsVersioned d
  pub counts : TellsCounts d (counts_of saved)
  pub on_pe : get (codes "on_pe") d ≡ Some (list_data resident_data saved.on_pe)
  pub guests : option_map guest_heads (list_at (codes "guests") d) ≡ Some (guest_heads (guests_data saved.scenario.guests saved.state))

-- the run without its steps
abbrev pub without_steps : Saved → Saved
without_steps saved = record saved { scenario = record saved.scenario { steps = [] } }
