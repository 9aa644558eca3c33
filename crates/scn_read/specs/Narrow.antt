-- How the program keeps the numbers of a step in 32 bits (own choice): the greatest one stands for all that are greater, since none of
-- them names anything that is there.
use Rattle.std.specs.Prelude.{ℕ, min, Result, Ok, Err}
use Rattle.scn_base.specs.Words.{Key, Private, Spi, Lpi, Frame, Dist, Redist, Its, Ram, GuestOp, DeviceOp, PeOp, Icc, Mem, Message, Wire, Msi, Enter, Exit, Lrs}
use Rattle.scn_base.specs.declared.step.Step.{Step}
use Rattle.scn_base.specs.declared.step.Step.TheVariants.{Vcpu, Device, Pe}

-- a number in 32 bits
abbrev pub narrowed : ℕ → ℕ
narrowed n = min n 0xffff_ffff

abbrev pub narrowed_frame : Frame → Frame
narrowed_frame Dist = Dist
narrowed_frame (Redist vcpu) = Redist (narrowed vcpu)
narrowed_frame Its = Its
narrowed_frame Ram = Ram

abbrev pub narrowed_key : Key → Key
narrowed_key (Private vcpu id) = Private (narrowed vcpu) (narrowed id)
narrowed_key (Spi id) = Spi (narrowed id)
narrowed_key (Lpi id) = Lpi (narrowed id)

-- a vCPU's operation; the values that it writes have 64 bits
abbrev pub narrowed_op : GuestOp → GuestOp
narrowed_op (Icc reg write) = Icc reg write
narrowed_op (Mem frame offset size write) = Mem (narrowed_frame frame) (narrowed offset) (narrowed size) write

-- a device's operation; the numbers of an MSI have 32 bits already
abbrev pub narrowed_event : DeviceOp → DeviceOp
narrowed_event (Message spi) = Message (narrowed spi)
narrowed_event (Wire key up) = Wire (narrowed_key key) up
narrowed_event (Msi number event) = Msi number event

abbrev pub narrowed_pe_op : PeOp → PeOp
narrowed_pe_op (Enter guest vcpu) = Enter (narrowed guest) (narrowed vcpu)
narrowed_pe_op Exit = Exit
narrowed_pe_op Lrs = Lrs

abbrev pub narrowed_step : Step → Step
narrowed_step (Vcpu guest vcpu op) = Vcpu (narrowed guest) (narrowed vcpu) (narrowed_op op)
narrowed_step (Device guest device op) = Device (narrowed guest) (narrowed device) (narrowed_event op)
narrowed_step (Pe pe op) = Pe (narrowed pe) (narrowed_pe_op op)

abbrev pub narrowed_said : Result Step ℕ → Result Step ℕ
narrowed_said (Ok step) = Ok (narrowed_step step)
narrowed_said (Err code) = Err code
