-- What the calls answer that C makes of an open machine, but those by which it hands memory in, and what they make of it: what the machine's own call does, where
-- the arguments are good; else they are refused, and the machine stays. Each drops what was fed.
use Rattle.std.specs.Prelude.{ℕ, ◌+◌, ◌/◌, ◌%◌, ◌^◌, ◌==◌, ◌&&◌, Bool, nat_lt, if◌then◌else◌, Option, Some, None, Result, Ok, Err, ℤ, pos}
use Rattle.vm_saved.specs.GicVm.IdealGuest.Words.{Message, Msi}
use Rattle.vm_saved.specs.GicVm.IdealGuest.declared.guest.IdealGuest.{IdealGuest}
use Rattle.vm_saved.specs.GicVm.Calls.{done_by, told, left_by, received, wired, encoded_op, sysreg_answer, after_sysreg}
use Rattle.vm_saved.specs.GicVm.Lines.{lines_of}
use Rattle.vm_saved.specs.GicVm.Reset.{reset_of, reset_machine, reset_cpu_of}
use Rattle.vm_saved.specs.GicVm.declared.encoding.Encoding.{Encoding}
use Rattle.vm_saved.specs.GicVm.GicLine.declared.lines.Lines.{Lines}
use Rattle.gic_c.specs.declared.answer.Refusal.{Refusal}
use Rattle.gic_c.specs.declared.answer.Refusal.TheVariants.{NotFound, Invalid}
use Rattle.gic_c.specs.declared.answer.Reply.{Reply}
use Rattle.gic_c.specs.declared.answer.Reply.TheVariants.{Done as Finished}
use Rattle.gic_c.specs.declared.board.Board.{Board}
use Rattle.gic_c.specs.Answer.{found, accessed, errno_of}
use Rattle.gic_c.specs.Board.{with_machine}

-- a number that is yes or no
abbrev pub is_flag : ℕ → Bool
is_flag flag = nat_lt flag 2

-- what an access writes: nothing where it reads
abbrev pub written : ℕ → ℕ → Option ℕ
written is_write value = if is_write == 1 then Some value else None

-- Accesses of system registers.

-- the register that a number names: op0 at bit 14, op1 at 11, CRn at 7, CRm at 3, op2 at 0, as in the instructions MRS and MSR (DDI 0487, "MRS")
abbrev pub encoding_of : ℕ → Encoding
encoding_of number =
    record { op0 = number / 2 ^ 14; op1 = number / 2 ^ 11 % 8; crn = number / 2 ^ 7 % 16; crm = number / 2 ^ 3 % 16; op2 = number % 8 }

abbrev pub is_access : Board → ℕ → ℕ → Bool
is_access board vcpu is_write = nat_lt vcpu board.vcpus && is_flag is_write

-- a number of more than 16 bits names no register
abbrev pub is_register : ℕ → Bool
is_register number = nat_lt number (2 ^ 16)

abbrev pub sysreg_reply : ℕ → ℕ → ℕ → ℕ → Board → Result Reply Refusal
sysreg_reply vcpu number is_write value board =
    if is_access board vcpu is_write
    then (if is_register number
    then accessed (sysreg_answer (encoded_op board.machine.guest vcpu (encoding_of number) (written is_write value)) board.machine.guest vcpu) else Err NotFound)
    else Err Invalid

abbrev pub after_register : ℕ → ℕ → ℕ → ℕ → Board → Board
after_register vcpu number is_write value board =
    with_machine board
    (if is_access board vcpu is_write && is_register number
    then after_sysreg (encoded_op board.machine.guest vcpu (encoding_of number) (written is_write value)) board.machine vcpu else board.machine)

-- Devices and resets: each makes a guest of the guest, or finds nothing of that name.

abbrev pub guest_reply : Bool → (IdealGuest → Option IdealGuest) → Board → Result Reply Refusal
guest_reply good step board = if good then found (told (step board.machine.guest) board.machine.guest) else Err Invalid

abbrev pub after_guest : Bool → (IdealGuest → Option IdealGuest) → Board → Board
after_guest good step board = with_machine board (if good then left_by (step board.machine.guest) board.machine else board.machine)

-- the levels that a number is: 0 or 1
abbrev pub wire_step : ℕ → ℕ → ℕ → IdealGuest → Option IdealGuest
wire_step intid vcpu up = wired intid vcpu (up == 1)

abbrev pub message_step : ℕ → IdealGuest → Option IdealGuest
message_step spi = received (Message spi)

abbrev pub msi_step : ℕ → ℕ → IdealGuest → Option IdealGuest
msi_step device event = received (Msi device event)

-- a reset of a vCPU; one that there is not is no argument
abbrev pub vcpu_reply : ℕ → Board → Result Reply Refusal
vcpu_reply vcpu board = guest_reply (nat_lt vcpu board.vcpus) (reset_cpu_of vcpu) board

abbrev pub after_vcpu : ℕ → Board → Board
after_vcpu vcpu board = after_guest (nat_lt vcpu board.vcpus) (reset_cpu_of vcpu) board

-- a reset of the machine is never refused
abbrev pub reset_reply : Board → Result Reply Refusal
reset_reply board = Ok (Finished (done_by 0 board.machine.guest (reset_of board.machine.guest)))

abbrev pub after_reset : Board → Board
after_reset board = with_machine board (reset_machine board.machine)

-- Lines.

-- IRQ is worth 1, FIQ 2
abbrev pub line_bits : Lines → ℕ
line_bits lines = (if lines.irq then 1 else 0) + (if lines.fiq then 2 else 0)

-- the lines of a vCPU, or the refusal
abbrev pub lines_status : ℕ → Board → ℤ
lines_status vcpu board = if nat_lt vcpu board.vcpus then pos (line_bits (lines_of board.machine.guest vcpu)) else errno_of Invalid
