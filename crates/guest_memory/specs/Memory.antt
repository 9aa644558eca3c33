-- What the GIC reads of the guest's memory is copied to its own before it reads it: each doubleword by a store that a vCPU could do. While that is done the
-- guest may store too, so what two reads of one address answer may differ: a relation says what a read may answer.
use Rattle.std.specs.Prelude.{◌≡◌, ◌<◌, ◌≤◌, ℕ, zero, suc, ◌+◌, ◌-◌, ◌*◌, ◌/◌, ◌%◌, ◌==◌, ◌&&◌, ◌||◌, nat_le, nat_lt, not, Bool, false, if◌then◌else◌, List, [], ◌∷◌, map, Option, Some, unwrap_or, Result, Ok, Err}
use Rattle.std.specs.Option.{option_map_or}
use Rattle.ideal_guest.specs.Words.{GuestShape, Frame, Redist, Its, Ram, Mem}
use Rattle.ideal_guest.specs.Registers.{Half, half_written, has_lpis, enabled_in, queue_bytes, queue_offset, retries, enable_lpis_after, Command, Mapti, Mapi, Inv, Invall, Movall, BadCommand, id_of}
use Rattle.ideal_guest.specs.ItsCmd.Command.{decoded}
use Rattle.ideal_guest.specs.GicRmap.declared.map.RegRef.{RegRef as RedistRef}
use Rattle.ideal_guest.specs.GicRmap.declared.map.RegRef.TheVariants.{Plain as RedistPlain}
use Rattle.ideal_guest.specs.GicRmap.declared.map.Reg.TheVariants.{Ctlr as RedistCtlr}
use Rattle.ideal_guest.specs.GicRmap.Map.{decoded as redist_decoded}
use Rattle.ideal_guest.specs.GicImap.declared.map.Reg.{Reg as ItsReg}
use Rattle.ideal_guest.specs.GicImap.declared.map.Reg.TheVariants.{Ctlr as ItsCtlrReg, Cwriter as CwriterReg}
use Rattle.ideal_guest.specs.GicImap.declared.map.RegRef.{RegRef as ItsRef}
use Rattle.ideal_guest.specs.GicImap.declared.map.RegRef.TheVariants.{Plain as ItsPlain}
use Rattle.ideal_guest.specs.GicImap.Map.{decoded as its_decoded}
use Rattle.ideal_guest.specs.Calls.{Cbaser, Cwriter, Propbaser, Pendbaser as PendbaserWord, is_its_enabled, is_queue_valid, queue_address, is_in_queue, is_table_zero, memory_at}
use Rattle.ideal_guest.specs.declared.guest.IdealGuest.{IdealGuest}
use Rattle.ideal_guest.specs.Ideal.{cpu_at, word_at, view_of}
use Rattle.ideal_guest.specs.Sound.{IsSound}
use Rattle.ideal_guest.specs.Call.{after_op}
use Rattle.guest_memory.specs.declared.base.Base.TheVariants.{Queue, Properties, Pending}
use Rattle.guest_memory.specs.declared.base.Bases.{Bases}
use Rattle.guest_memory.specs.declared.access.Access.{Access}
use Rattle.guest_memory.specs.declared.reads.Commands.{Commands}
use Rattle.guest_memory.specs.declared.reads.Doublewords.{Doublewords}
use Rattle.guest_memory.specs.declared.reads.PendingTable.{PendingTable}
use Rattle.guest_memory.specs.Bases.{address_of, base_in}

-- so many steps are made one after the other: the first is that of 0
abbrev pub InTurn : (ℕ → IdealGuest → IdealGuest → Type 0) → ℕ → IdealGuest → IdealGuest → Type 0
InTurn Step zero before after = after ≡ before
InTurn Step (suc n) before after = (between : IdealGuest) × InTurn Step n before between × Step n between after

-- a doubleword of the guest's memory, at an address, is read, and this is made of its value; one that is not there reads 0
pub record IsRead (May : ℕ → Option ℕ → Type 0) (address : ℕ) (put : ℕ → IdealGuest → IdealGuest) (before after : IdealGuest) : Type 0 where
  pub answer : Option ℕ
  pub may : May address answer
  pub is : after ≡ put (unwrap_or answer 0) before

-- the guest after a store of a doubleword at a place of the GIC's own memory
abbrev pub put_at : ℕ → ℕ → IdealGuest → IdealGuest
put_at place value guest = after_op (Mem Ram place 8 (Some value)) guest 0

-- The queue.

-- no commands
abbrev pub no_commands : Commands
no_commands = record { offset = 0; count = 0; bytes = 4096 }

-- the commands from GITS_CREADR to the offset in a value for GITS_CWRITER, round the queue's end (GITS_CREADR is below the queue's
-- bytes, since a write of GITS_CBASER makes it 0, so that the remainder is itself; nothing here asks for that)
abbrev pub commands_to : IdealGuest → ℕ → Commands
commands_to guest value =
    let bytes = queue_bytes (word_at guest Cbaser) in
    record { offset = guest.offset % bytes; count = (queue_offset value + bytes - guest.offset) % bytes / 32; bytes = bytes }

-- the same, where the ITS takes commands: it is enabled, there is a queue, and it is not stalled
abbrev pub commands_if : Bool → Bool → ℕ → IdealGuest → Commands
commands_if is_enabled is_stalled value guest = if is_enabled && is_queue_valid (word_at guest Cbaser) && not is_stalled then commands_to guest value else no_commands

-- those that a write of GITS_CWRITER takes, unless it is ignored
abbrev pub commands_written : ℕ → IdealGuest → Commands
commands_written value guest =
    if is_in_queue (view_of guest) value then commands_if (is_its_enabled (view_of guest)) (guest.is_stalled && not (retries (word_at guest Cbaser) value)) value guest else no_commands

-- those that a write of a register takes
abbrev pub commands_after : ItsReg → Half → ℕ → IdealGuest → Commands
commands_after ItsCtlrReg half value guest = commands_if (enabled_in value) guest.is_stalled (word_at guest Cwriter) guest
commands_after CwriterReg half value guest = commands_written (half_written half (word_at guest Cwriter) value) guest
commands_after reg half value guest = no_commands

abbrev pub commands_in : ItsRef → Option ℕ → IdealGuest → Commands
commands_in (ItsPlain reg half) (Some value) guest = if has_lpis guest.shape then commands_after reg half value guest else no_commands
commands_in ref write guest = no_commands

-- those that an access takes
abbrev pub commands_of : Access → Frame → IdealGuest → Commands
commands_of access Its guest = commands_in (its_decoded access.offset access.size) access.write guest
commands_of access frame guest = no_commands

-- the commands are in a queue that there can be
pub record AreInQueue (commands : Commands) : Type 0 where
  pub place : commands.offset % 32 ≡ 0
  pub offset : commands.offset < commands.bytes
  pub few : 32 * commands.count < commands.bytes
  pub whole : commands.bytes % 32 ≡ 0
  pub some : 4096 ≤ commands.bytes
  pub most : commands.bytes ≤ 1048576

-- where the command of a number from 0 is in the queue
abbrev pub command_offset : Commands → ℕ → ℕ
command_offset commands number = (commands.offset + 32 * number) % commands.bytes

-- a doubleword of the command at an offset is copied to where the ITS reads it
abbrev pub IsFetched : (ℕ → Option ℕ → Type 0) → Bases → ℕ → ℕ → IdealGuest → IdealGuest → Type 0
IsFetched May bases offset number before after =
    let at = offset + 8 * number in IsRead May (address_of Queue bases.queue + at) (put_at (queue_address (word_at before Cbaser) + at)) before after

-- a doubleword of the command that the ITS finds at an offset, and all four
abbrev pub word_found : IdealGuest → ℕ → ℕ → ℕ
word_found guest offset number = memory_at guest.shape (view_of guest) (queue_address (word_at guest Cbaser) + (offset + 8 * number)) 8

abbrev pub words_at : IdealGuest → ℕ → List ℕ
words_at guest offset = map (word_found guest offset) (0 ∷ 1 ∷ 2 ∷ 3 ∷ [])

-- The configuration tables.

-- no doublewords
abbrev pub no_doublewords : Doublewords
no_doublewords = record { first = 0; count = 0 }

-- the doublewords are in a configuration table
abbrev pub AreInTable : Doublewords → Type 0
AreInTable doublewords = doublewords.first + doublewords.count < 8192

-- the doubleword of a configuration table that has the byte of an LPI, if there is the LPI
abbrev pub doubleword_of : GuestShape → ℕ → Doublewords
doubleword_of shape id = if nat_le 8192 id && nat_lt id (8192 + shape.lpis) then record { first = (id - 8192) / 8; count = 1 } else no_doublewords

-- those that have the bytes of all LPIs
abbrev pub all_doublewords : GuestShape → Doublewords
all_doublewords shape = record { first = 0; count = (shape.lpis + 7) / 8 }

-- those that have what a command can read: the event of an INV is mapped before, or by a command of which the byte is copied too
abbrev pub read_by : Command → IdealGuest → Doublewords
read_by (Mapti device event id icid) guest = doubleword_of guest.shape id
read_by (Mapi device event icid) guest = doubleword_of guest.shape event
read_by (Inv device event) guest = option_map_or (doubleword_of guest.shape) (id_of guest.tables (device, event)) no_doublewords
read_by (Invall icid) guest = all_doublewords guest.shape
read_by (Movall rdbase second) guest = all_doublewords guest.shape
read_by command guest = no_doublewords

-- the same of four doublewords
abbrev pub read_by_words : Result Command BadCommand → IdealGuest → Doublewords
read_by_words (Ok command) guest = read_by command guest
read_by_words (Err bad) guest = no_doublewords

-- the guest's address of the configuration table of a vCPU
abbrev pub table_of : Bases → ℕ → ℕ
table_of bases vcpu = address_of (Properties vcpu) (base_in bases (Properties vcpu))

-- one of the first vCPUs, so many, has this table
abbrev pub has_table : Bases → ℕ → ℕ → Bool
has_table bases table zero = false
has_table bases table (suc vcpu) = has_table bases table vcpu || table_of bases vcpu == table

-- no vCPU before this one has the same table
abbrev pub is_first : Bases → ℕ → Bool
is_first bases vcpu = not (has_table bases (table_of bases vcpu) vcpu)

-- where the ITS finds the configuration table of a vCPU
abbrev pub table_place : IdealGuest → ℕ → ℕ
table_place guest vcpu = address_of (Properties vcpu) (word_at guest (Propbaser vcpu))

-- the guest after a store of a doubleword in the place of a vCPU, if that stands for this table
abbrev pub put_one : Bases → ℕ → ℕ → ℕ → ℕ → IdealGuest → IdealGuest
put_one bases table at value vcpu guest = if table_of bases vcpu == table then put_at (table_place guest vcpu + at) value guest else guest

-- the same of the first vCPUs, so many, and of all
abbrev pub put_some : Bases → ℕ → ℕ → ℕ → ℕ → IdealGuest → IdealGuest
put_some bases table at value zero guest = guest
put_some bases table at value (suc vcpu) guest = put_one bases table at value vcpu (put_some bases table at value vcpu guest)

abbrev pub put_all : Bases → ℕ → ℕ → ℕ → IdealGuest → IdealGuest
put_all bases table at value guest = put_some bases table at value guest.shape.vcpus guest

-- doublewords of a table are copied to all places that stand for it
abbrev pub AreCopied : (ℕ → Option ℕ → Type 0) → Bases → Doublewords → ℕ → IdealGuest → IdealGuest → Type 0
AreCopied May bases doublewords table before after =
    InTurn (λ number between. let at = 8 * (doublewords.first + number) in IsRead May (table + at) (put_all bases table at) between) doublewords.count before after

-- those that are copied by a vCPU: all, or none where a vCPU before it has the same table
abbrev pub for_first : Bases → Doublewords → ℕ → Doublewords
for_first bases doublewords vcpu = if is_first bases vcpu then doublewords else no_doublewords

-- doublewords of the table of a vCPU are copied, if no vCPU before it has the same
abbrev pub IsTableCopied : (ℕ → Option ℕ → Type 0) → Bases → Doublewords → ℕ → IdealGuest → IdealGuest → Type 0
IsTableCopied May bases doublewords vcpu before after = AreCopied May bases (for_first bases doublewords vcpu) (table_of bases vcpu) before after

-- a command is copied, and then what it can read
pub record IsCommandCopied (May : ℕ → Option ℕ → Type 0) (bases : Bases) (offset : ℕ) (before after : IdealGuest) : Type 0 where
  pub fetched : IdealGuest
  pub words : InTurn (IsFetched May bases offset) 4 before fetched
  pub tables : InTurn (IsTableCopied May bases (read_by_words (decoded (words_at fetched offset)) fetched)) fetched.shape.vcpus fetched after

-- The pending table.

-- the doublewords of a pending table that have the bits of LPIs
abbrev pub pending_count : GuestShape → ℕ
pending_count shape = (shape.lpis + 63) / 64

-- the pending table of a vCPU is read as EnableLPIs is set: it was 0, and PTZ is 0
abbrev pub is_read_as_set : ℕ → IdealGuest → Bool
is_read_as_set vcpu guest = not (cpu_at guest vcpu).lpis && not (is_table_zero (word_at guest (PendbaserWord vcpu)))

-- an access of a vCPU's redistributor makes the GIC read the vCPU's pending table
abbrev pub reads_pending : ℕ → RedistRef → Option ℕ → IdealGuest → Bool
reads_pending vcpu (RedistPlain RedistCtlr half) (Some value) guest = enable_lpis_after guest.shape false value && is_read_as_set vcpu guest
reads_pending vcpu ref write guest = false

-- the same of an access
abbrev pub reads_pending_at : ℕ → Access → IdealGuest → Bool
reads_pending_at vcpu access guest = reads_pending vcpu (redist_decoded access.offset access.size) access.write guest

-- the pending table that an access makes the GIC read; none
abbrev pub no_table : PendingTable
no_table = record { vcpu = 0; count = 0 }

abbrev pub pending_of : Access → Frame → IdealGuest → PendingTable
pending_of access (Redist vcpu) guest = if reads_pending_at vcpu access guest then record { vcpu = vcpu; count = pending_count guest.shape } else no_table
pending_of access frame guest = no_table

-- a doubleword of the pending table of a vCPU is copied
abbrev pub IsPendingCopied : (ℕ → Option ℕ → Type 0) → Bases → ℕ → ℕ → IdealGuest → IdealGuest → Type 0
IsPendingCopied May bases vcpu number before after =
    let at = 0x400 + 8 * number in
    IsRead May (address_of (Pending vcpu) (base_in bases (Pending vcpu)) + at) (put_at (address_of (Pending vcpu) (word_at before (PendbaserWord vcpu)) + at)) before after

-- The copies before an access.

-- all but the GIC's own memory is as it was, and the guest is one that the ideal controller reaches
pub record IsKeptBut (before after : IdealGuest) : Type 0 where
  pub sound : IsSound after
  pub shape : after.shape ≡ before.shape
  pub irqs : after.irqs ≡ before.irqs
  pub cpus : after.cpus ≡ before.cpus

-- commands are copied, each with what it can read
abbrev pub AreCommandsCopied : (ℕ → Option ℕ → Type 0) → Bases → Commands → IdealGuest → IdealGuest → Type 0
AreCommandsCopied May bases commands before after = InTurn (λ number. IsCommandCopied May bases (command_offset commands number)) commands.count before after

-- so many doublewords of a pending table are copied
abbrev pub IsPending : (ℕ → Option ℕ → Type 0) → Bases → PendingTable → IdealGuest → IdealGuest → Type 0
IsPending May bases table before after = InTurn (IsPendingCopied May bases table.vcpu) table.count before after

-- what an access makes the GIC read is copied
pub record IsCopied (May : ℕ → Option ℕ → Type 0) (bases : Bases) (access : Access) (before after : IdealGuest) : Type 0 where
  pub queued : IdealGuest
  pub commands : AreCommandsCopied May bases (commands_of access access.frame before) before queued
  pub pending : IsPending May bases (pending_of access access.frame before) queued after
