-- Which operations of a vCPU other vCPUs leave their PEs for (own choice).
use Rattle.std.specs.Prelude.{Bool, true, false}
use Rattle.guest_end.specs.Words.{GuestOp, Icc, Mem, Dist, Redist, Its, Ram}

-- an access of a register of the distributor, of a redistributor or of the ITS
abbrev pub is_of_registers : GuestOp → Bool
is_of_registers (Icc reg write) = false
is_of_registers (Mem Dist offset size write) = true
is_of_registers (Mem (Redist vcpu) offset size write) = true
is_of_registers (Mem Its offset size write) = true
is_of_registers (Mem Ram offset size write) = false
