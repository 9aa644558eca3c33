-- How a step is written in an image: in the form in which scenarios are read, with each number as an integer, and with the size of each access
-- (own choice).
use Rattle.std.specs.Prelude.{ℕ, ◌++◌, List, [], ◌∷◌, Option, Some, None, true, codes}
use Rattle.serde_json.specs.Data.{Data, boolean, string}
use Rattle.scn_saved.specs.Words.{Key, Private, Spi, Lpi, Frame, Dist, Redist, Its, Ram, GuestOp, DeviceOp, PeOp, Icc, Mem, Message, Wire, Msi, Enter, Exit, Lrs, name_of, intid_of}
use Rattle.scn_saved.specs.ScnBase.declared.step.Step.{Step}
use Rattle.scn_saved.specs.ScnBase.declared.step.Step.TheVariants.{Vcpu, Device, Pe}
use Rattle.gic_save.specs.Cell.{Member, number_data, row_data, object_data}

-- a member of this name
abbrev pub member : List ℕ → Data → Member
member name holds = record { name = name; holds = holds }

-- a member that holds a number, where there is one
abbrev pub number_if : List ℕ → Option ℕ → List Member
number_if name None = []
number_if name (Some n) = member name (number_data n) ∷ []

-- two numbers, as of a guest and of its vCPU or device
abbrev pub pair_data : ℕ → ℕ → Data
pair_data a b = row_data (Some a ∷ Some b ∷ [])

-- the name of the field that has the offset of an access
abbrev pub frame_name : Frame → List ℕ
frame_name Dist = codes "gicd"
frame_name (Redist vcpu) = codes "gicr"
frame_name Its = codes "gits"
frame_name Ram = codes "ram"

-- the vCPU whose redistributor is accessed
abbrev pub redist_vcpu : Frame → Option ℕ
redist_vcpu Dist = None
redist_vcpu (Redist vcpu) = Some vcpu
redist_vcpu Its = None
redist_vcpu Ram = None

-- what a vCPU does
abbrev pub op_members : GuestOp → List Member
op_members (Icc reg write) = member (codes "icc") (string (name_of reg)) ∷ number_if (codes "write") write
op_members (Mem frame offset size write) =
    member (frame_name frame) (number_data offset)
    ∷ number_if (codes "of") (redist_vcpu frame)
    ++ member (codes "size") (number_data size)
    ∷ number_if (codes "write") write

-- the vCPU of a private interrupt
abbrev pub owner_of : Key → Option ℕ
owner_of (Private vcpu id) = Some vcpu
owner_of (Spi id) = None
owner_of (Lpi id) = None

-- what a device does
abbrev pub event_members : DeviceOp → List Member
event_members (Message spi) = member (codes "message") (number_data spi) ∷ []
event_members (Wire key up) =
    member (codes "wire") (number_data (intid_of key)) ∷ member (codes "up") (boolean up) ∷ number_if (codes "vcpu") (owner_of key)
event_members (Msi number event) = member (codes "msi") (pair_data number event) ∷ []

-- what is done to a PE
abbrev pub pe_members : PeOp → List Member
pe_members (Enter guest vcpu) = member (codes "enter") (pair_data guest vcpu) ∷ []
pe_members Exit = member (codes "exit") (boolean true) ∷ []
pe_members Lrs = member (codes "lrs") (boolean true) ∷ []

-- all members of a step
abbrev pub step_members : Step → List Member
step_members (Vcpu guest vcpu op) = member (codes "vcpu") (pair_data guest vcpu) ∷ op_members op
step_members (Device guest device op) = member (codes "dev") (pair_data guest device) ∷ event_members op
step_members (Pe pe op) = member (codes "pe") (number_data pe) ∷ pe_members op

-- a step
abbrev pub step_data : Step → Data
step_data step = object_data (step_members step)
