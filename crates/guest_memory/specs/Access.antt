-- Accesses of memory-mapped registers.
use Rattle.ideal_guest.specs.Words.{GuestOp, Mem}
use Rattle.guest_memory.specs.declared.access.Access.{Access}

-- the operation of the ideal controller that an access is
abbrev pub op_of : Access → GuestOp
op_of access = Mem access.frame access.offset access.size access.write
