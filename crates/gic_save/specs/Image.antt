-- The image of a saved run: one JSON value, which has the state itself and not how it was reached (own choice).
use Rattle.std.specs.Prelude.{ℕ, ◌++◌, List, [], ◌∷◌, map, Option, Some, codes}
use Rattle.serde_json.specs.Data.{Data, null, boolean, string, array, item}
use Rattle.serde_json.specs.View.{items_of}
use Rattle.std.specs.Option.{option_map_or}
use Rattle.scn_saved.specs.Words.{GuestShape}
use Rattle.scn_saved.specs.Name.{name_text}
use Rattle.scn_saved.specs.GicGuest.declared.guest.GuestSpec.{GuestSpec}
use Rattle.scn_saved.specs.GicGuest.declared.preset.Preset.{Preset}
use Rattle.scn_saved.specs.GicGuest.declared.outcome.DevEnd.{DevEnd}
use Rattle.scn_saved.specs.GicGuest.declared.outcome.EvtEnd.{EvtEnd}
use Rattle.scn_saved.specs.GicGuest.declared.outcome.ColEnd.{ColEnd}
use Rattle.scn_saved.specs.ScnBase.declared.pes.VcpuName.{VcpuName}
use Rattle.scn_saved.specs.declared.saved.Saved.{Saved}
use Rattle.scn_saved.specs.declared.state.GuestState.{GuestState}
use Rattle.scn_saved.specs.declared.state.CpuState.{CpuState}
use Rattle.scn_saved.specs.declared.state.RecState.{RecState}
use Rattle.scn_saved.specs.declared.state.RedistState.{RedistState}
use Rattle.scn_saved.specs.declared.state.ItsState.{ItsState}
use Rattle.scn_saved.specs.declared.state.RamState.{RamState}
use Rattle.gic_save.specs.Cell.{Member, number_data, cell_data, flag_cell, list_data, row_data, object_data}
use Rattle.gic_save.specs.Step.{member, pair_data, step_data}

-- ---- rows, a line for each number

-- how much a guest has of each kind
abbrev pub shape_data : GuestShape → Data
shape_data shape =
    row_data
    (Some shape.vcpus
    ∷ Some shape.spis
    ∷ Some shape.espis
    ∷ Some shape.devices
    ∷ Some shape.lpis
    ∷ Some shape.ram
    ∷ [])

-- an interrupt that opened enabled
abbrev pub preset_data : Preset → Data
preset_data preset =
    row_data
    (Some preset.id
    ∷ Some preset.prio
    ∷ flag_cell preset.edge
    ∷ Some preset.group
    ∷ preset.to
    ∷ preset.vcpu
    ∷ [])

-- a vCPU's CPU interface
abbrev pub cpu_data : CpuState → Data
cpu_data cpu =
    row_data
    (Some cpu.pmr
    ∷ Some cpu.bpr0
    ∷ Some cpu.bpr1
    ∷ flag_cell cpu.cbpr
    ∷ flag_cell cpu.eoimode
    ∷ flag_cell cpu.en0
    ∷ flag_cell cpu.en1
    ∷ flag_cell cpu.lpis
    ∷ Some cpu.ap0
    ∷ Some cpu.ap1
    ∷ [])

-- the numbers of an interrupt's record, and the device that moved its wire
abbrev pub rec_cells : RecState → List (Option ℕ)
rec_cells rec =
    flag_cell rec.enabled
    ∷ Some rec.group
    ∷ Some rec.prio
    ∷ flag_cell rec.edge
    ∷ flag_cell rec.line
    ∷ flag_cell rec.rise
    ∷ flag_cell rec.soft
    ∷ rec.act
    ∷ rec.route
    ∷ flag_cell rec.en0
    ∷ flag_cell rec.en1
    ∷ rec.mover
    ∷ []

-- an interrupt: its name, and those numbers
abbrev pub rec_data : RecState → Data
rec_data rec = array (item (string (name_text rec.key)) (items_of (map cell_data (rec_cells rec))))

-- a vCPU's redistributor
abbrev pub redist_data : RedistState → Data
redist_data redist = pair_data redist.propbaser redist.pendbaser

-- the ITS
abbrev pub its_data : ItsState → Data
its_data its =
    row_data
    (flag_cell its.enabled
    ∷ Some its.cbaser
    ∷ Some its.cwriter
    ∷ Some its.offset
    ∷ flag_cell its.stalled
    ∷ Some its.fault
    ∷ Some its.baser0
    ∷ Some its.baser1
    ∷ [])

-- what the ITS has mapped
abbrev pub dev_data : DevEnd → Data
dev_data dev = pair_data dev.device dev.bits

abbrev pub evt_data : EvtEnd → Data
evt_data evt = row_data (Some evt.device ∷ Some evt.event ∷ Some evt.id ∷ Some evt.icid ∷ [])

abbrev pub col_data : ColEnd → Data
col_data col = pair_data col.icid col.vcpu

-- a word of memory
abbrev pub ram_data : RamState → Data
ram_data ram = pair_data ram.index ram.word

-- what is there, or null for nothing
abbrev pub data_or_null : {X : Type 0} → (X → Data) → Option X → Data
data_or_null written found = option_map_or written found null

-- the vCPU on a PE, or null for none
abbrev pub resident_data : Option VcpuName → Data
resident_data resident = data_or_null (λ name. pair_data name.guest name.vcpu) resident

-- ---- objects, a line for each member

-- what a guest is
abbrev pub spec_members : GuestSpec → List Member
spec_members guest =
    member (codes "shape") (shape_data guest.shape)
    ∷ member (codes "on") (boolean guest.on)
    ∷ member (codes "irqs") (list_data preset_data guest.presets)
    ∷ []

-- its registers and interrupts
abbrev pub register_members : GuestState → List Member
register_members state =
    member (codes "gicd") (number_data state.gicd)
    ∷ member (codes "cpu") (list_data cpu_data state.cpu)
    ∷ member (codes "rec") (list_data rec_data state.rec)
    ∷ member (codes "redist") (list_data redist_data state.redist)
    ∷ []

-- its ITS and its memory
abbrev pub table_members : GuestState → List Member
table_members state =
    member (codes "its") (data_or_null its_data state.its)
    ∷ member (codes "dev") (list_data dev_data state.dev)
    ∷ member (codes "evt") (list_data evt_data state.evt)
    ∷ member (codes "col") (list_data col_data state.col)
    ∷ member (codes "ram") (list_data ram_data state.ram)
    ∷ []

-- a guest: what it is, and its state
abbrev pub guest_members : GuestSpec → GuestState → List Member
guest_members guest state = spec_members guest ++ (register_members state ++ table_members state)

abbrev pub guest_data : GuestSpec → GuestState → Data
guest_data guest state = object_data (guest_members guest state)

-- the guests, each with its state
abbrev pub guests_data : List GuestSpec → List GuestState → List Data
guests_data [] states = []
guests_data (guest ∷ guests) [] = []
guests_data (guest ∷ guests) (state ∷ states) = guest_data guest state ∷ guests_data guests states

-- the image of a saved run, of the first version
abbrev pub image_members : Saved → List Member
image_members saved =
    member (codes "version") (number_data 1)
    ∷ member (codes "pes") (number_data saved.scenario.pes)
    ∷ member (codes "lrs") (number_data saved.scenario.lrs)
    ∷ member (codes "done") (number_data saved.done)
    ∷ member (codes "reads") (number_data saved.reads)
    ∷ member (codes "on_pe") (list_data resident_data saved.on_pe)
    ∷ member (codes "steps") (list_data step_data saved.scenario.steps)
    ∷ member (codes "guests") (array (items_of (guests_data saved.scenario.guests saved.state)))
    ∷ []

abbrev pub image_of : Saved → Data
image_of saved = object_data (image_members saved)
