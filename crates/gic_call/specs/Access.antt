-- What the accesses of a guest's memory-mapped registers and of its memory do, and what they read (IHI 0069, "The GIC memory-mapped
-- register map"). An access that names nothing here does nothing, and reads 0.
use Rattle.std.specs.Prelude.{ℕ, ◌+◌, ◌&&◌, ◌||◌, List, [], ◌∷◌, ◌++◌, map, Bool, true, false, nat_lt, if◌then◌else◌, Option, Some, None, option_map}
use Rattle.std.specs.Option.{option_map_or}
use Rattle.std.specs.List.{range_with_len, filter_map}
use Rattle.floor_registers.specs.Words.{has_bit, bit_of, GuestShape, Key, Private, Spi, Lpi, Kind, SetPending, ClearPending, Routing, Frame, Dist, Redist, Its, Ram as Memory, has_interrupt, interrupt_count, key_at, is_number}
use Rattle.floor_registers.specs.Registers.{part_read, has_part, has_lpis, half_read, half_written, iidr, pidr2, part_in, joined, Half, Enables, SetSpi, ClrSpi, Router, enables_in, message_intid, Propbaser as PropbaserReg, Pendbaser as PendbaserReg, enable_lpis_after, propbaser_bits, pendbaser_bits, pendbaser_read, Cbaser as CbaserReg, Cwriter as CwriterReg, Creadr, Baser0 as Baser0Reg, Baser1 as Baser1Reg, Devices, Collections, enabled_in, cbaser_bits, queue_bytes, queue_offset, retries, creadr_of, baser_bits, baser_of, pending_address, part_of, inserted}
use Rattle.floor_registers.specs.GicDmap.declared.map.Reg.{Reg as DistReg}
use Rattle.floor_registers.specs.GicDmap.declared.map.Reg.TheVariants.{Ctlr as DistCtlr, Typer as DistTyper, Iidr as DistIidr, Pidr2 as DistPidr2}
use Rattle.floor_registers.specs.GicDmap.declared.map.RegRef.{RegRef as DistRef}
use Rattle.floor_registers.specs.GicDmap.declared.map.RegRef.TheVariants.{Bits as DistBits, Plain as DistPlain, Reserved as DistReserved}
use Rattle.floor_registers.specs.GicDmap.Contents.{ctlr_of as dist_ctlr_of, typer_of as dist_typer_of}
use Rattle.floor_registers.specs.GicRmap.declared.map.Reg.{Reg as RedistReg}
use Rattle.floor_registers.specs.GicRmap.declared.map.Reg.TheVariants.{Ctlr as RedistCtlr, Iidr as RedistIidr, Typer as RedistTyper, Pidr2 as RedistPidr2}
use Rattle.floor_registers.specs.GicRmap.declared.map.RegRef.{RegRef as RedistRef}
use Rattle.floor_registers.specs.GicRmap.declared.map.RegRef.TheVariants.{Bits as RedistBits, Plain as RedistPlain, Reserved as RedistReserved}
use Rattle.floor_registers.specs.GicRmap.Contents.{ctlr_of as redist_ctlr_of, typer_of as redist_typer_of}
use Rattle.floor_registers.specs.GicImap.declared.map.Reg.{Reg as ItsReg}
use Rattle.floor_registers.specs.GicImap.declared.map.Reg.TheVariants.{Ctlr as ItsCtlrReg, Iidr as ItsIidr, Typer as ItsTyper, Pidr2 as ItsPidr2}
use Rattle.floor_registers.specs.GicImap.declared.map.RegRef.{RegRef as ItsRef}
use Rattle.floor_registers.specs.GicImap.declared.map.RegRef.TheVariants.{Plain as ItsPlain, Reserved as ItsReserved}
use Rattle.floor_registers.specs.GicImap.Contents.{ctlr_of as its_ctlr_of, typer_of as its_typer_of}
use Rattle.gic_open.specs.declared.plain.PlainWord.{PlainWord}
use Rattle.gic_open.specs.declared.plain.PlainWord.TheVariants.{Ram, Propbaser, Pendbaser, ItsCtlr, Cbaser, Cwriter, Baser0, Baser1}
use Rattle.gic_call.specs.declared.event.Event.{Event}
use Rattle.gic_call.specs.declared.event.Event.TheVariants.{Raise, Enable, Touch, Put, CtlrBegin, CtlrEnd, Queue}
use Rattle.gic_call.specs.declared.event.QueueChange.TheVariants.{Runs}
use Rattle.gic_call.specs.declared.touch.Touching.{Touching}
use Rattle.gic_call.specs.declared.touch.Touching.TheVariants.{Read, Register, Enables as CopyEnables}
use Rattle.gic_call.specs.View.{View, memory_at, is_its_enabled}

-- Registers that have a part for each interrupt.

-- an interrupt, where the guest has it and it has a part in the registers of a kind
abbrev pub with_part : GuestShape → Kind → Key → Option Key
with_part shape kind key = if has_interrupt shape key && has_part kind key then Some key else None

-- the interrupt with an INTID that has its part in a frame: in the distributor an SPI, in a redistributor a private one of its vCPU
abbrev pub part_key : GuestShape → Frame → Kind → ℕ → Option Key
part_key shape Dist kind id = with_part shape kind (Spi id)
part_key shape (Redist vcpu) kind id = with_part shape kind (Private vcpu id)
part_key shape Its kind id = None
part_key shape Memory kind id = None

-- what an access does to the interrupt of the part of this number: a read, or a write of its part of the value
abbrev pub part_touch : Kind → Option ℕ → ℕ → Touching
part_touch kind None number = Read kind
part_touch kind (Some value) number = Register kind (part_in kind value number)

-- the touch of the interrupt of the part of this number, from a first INTID on, if there is such an interrupt
abbrev pub part_event : GuestShape → Frame → Kind → ℕ → Option ℕ → ℕ → Option Event
part_event shape frame kind first write number = option_map (λ key. Touch key (part_touch kind write number)) (part_key shape frame kind (first + number))

-- the touches of so many parts, in rising INTID
abbrev pub part_events : GuestShape → Frame → Kind → ℕ → ℕ → Option ℕ → List Event
part_events shape frame kind first count write = filter_map (part_event shape frame kind first write) (range_with_len 0 count)

-- what the part of this number reads: 0 where there is no such interrupt
abbrev pub part_at : GuestShape → View → Frame → Kind → ℕ → ℕ → ℕ
part_at shape view frame kind first number = option_map_or (λ key. part_read kind (view.irqs key)) (part_key shape frame kind (first + number)) 0

-- what a read of so many parts answers
abbrev pub part_value : GuestShape → View → Frame → Kind → ℕ → ℕ → ℕ
part_value shape view frame kind first count = joined kind (part_at shape view frame kind first) count

-- an event of the SPI with an INTID, if there is one
abbrev pub of_spi : GuestShape → ℕ → (Key → Event) → List Event
of_spi shape id event = if has_interrupt shape (Spi id) then event (Spi id) ∷ [] else []

-- an access of a half of an IROUTER
abbrev pub router_touch : Half → Option ℕ → ℕ → Touching
router_touch half None stored = Read Routing
router_touch half (Some value) stored = Register Routing (half_written half stored value)

-- The distributor.

-- the copy of the enables that the interrupt at a place in key order gets
abbrev pub copy_at : GuestShape → Enables → ℕ → Event
copy_at shape enables place = Touch (key_at shape place) (CopyEnables enables.group0 enables.group1)

-- a write of GICD_CTLR: the enables are stored, and each interrupt gets a copy, in key order (own choice)
abbrev pub ctlr_events : GuestShape → Enables → List Event
ctlr_events shape enables = CtlrBegin enables ∷ map (copy_at shape enables) (range_with_len 0 (interrupt_count shape)) ++ CtlrEnd ∷ []

-- the events of a write of a register
abbrev pub dist_written : GuestShape → DistReg → ℕ → List Event
dist_written shape DistCtlr value = ctlr_events shape (enables_in value)
dist_written shape SetSpi value = of_spi shape (message_intid value) Raise
dist_written shape ClrSpi value = of_spi shape (message_intid value) (λ key. Touch key (Register ClearPending 1))
dist_written shape reg value = []

-- the events of an access of a register
abbrev pub dist_plain : GuestShape → View → DistReg → Half → Option ℕ → List Event
dist_plain shape view (Router id) half write = of_spi shape id (λ key. Touch key (router_touch half write (part_at shape view Dist Routing id 0)))
dist_plain shape view reg half None = []
dist_plain shape view reg half (Some value) = dist_written shape reg value

-- the events of an access
abbrev pub dist_events : GuestShape → View → DistRef → Option ℕ → List Event
dist_events shape view (DistBits kind first count) write = part_events shape Dist kind first count write
dist_events shape view (DistPlain reg half) write = dist_plain shape view reg half write
dist_events shape view DistReserved write = []

-- what a register holds; SETSPI_NSR and CLRSPI_NSR are written only
abbrev pub dist_held : GuestShape → View → DistReg → ℕ
dist_held shape view DistCtlr = dist_ctlr_of view.enables view.is_spreading
dist_held shape view DistTyper = dist_typer_of shape
dist_held shape view DistIidr = iidr
dist_held shape view (Router id) = part_at shape view Dist Routing id 0
dist_held shape view DistPidr2 = pidr2
dist_held shape view reg = 0

-- what a read answers
abbrev pub dist_value : GuestShape → View → DistRef → ℕ
dist_value shape view (DistBits kind first count) = part_value shape view Dist kind first count
dist_value shape view (DistPlain reg half) = half_read half (dist_held shape view reg)
dist_value shape view DistReserved = 0

-- A redistributor.

-- PTZ, bit 62 of what GICR_PENDBASER stores: the pending table has only zeros
abbrev pub is_table_zero : ℕ → Bool
is_table_zero pendbaser = has_bit pendbaser 62

-- the LPIs of the guest, in rising order
abbrev pub lpis_of : GuestShape → List ℕ
lpis_of shape = range_with_len 8192 shape.lpis

-- an LPI's bit in the pending table of a vCPU is 1
abbrev pub is_in_table : GuestShape → View → ℕ → ℕ → Bool
is_in_table shape view vcpu id = let at = pending_address (view.words (Pendbaser vcpu)) id in has_bit (memory_at shape view at.0 1) at.1

-- the event of an LPI as EnableLPIs of a vCPU rises: it becomes pending where it is for the vCPU and has its bit in the pending table
abbrev pub pended_at : GuestShape → View → ℕ → ℕ → Option Event
pended_at shape view vcpu id = if is_number vcpu (view.targets id) && is_in_table shape view vcpu id then Some (Touch (Lpi id) (Register SetPending 1)) else None

-- those that follow as it rises
abbrev pub pended_events : GuestShape → View → ℕ → List Event
pended_events shape view vcpu =
    if view.lpis vcpu || is_table_zero (view.words (Pendbaser vcpu)) then []
    else filter_map (λ number. pended_at shape view vcpu (8192 + number)) (range_with_len 0 shape.lpis)

-- EnableLPIs becomes 1: as it rises, those of the LPIs that are for the vCPU become pending that have their bit in the pending table
-- (IHI 0069, "LPI Pending tables"; own choice: the table is read then alone)
abbrev pub enable_events : GuestShape → View → ℕ → List Event
enable_events shape view vcpu = Enable vcpu ∷ pended_events shape view vcpu

-- a write that stores EnableLPIs
abbrev pub sets_lpis : GuestShape → RedistRef → Option ℕ → Bool
sets_lpis shape (RedistPlain RedistCtlr half) (Some value) = enable_lpis_after shape false value
sets_lpis shape ref write = false

-- the events of a write of a register; those of the tables' addresses are ignored once EnableLPIs is 1
abbrev pub redist_written : GuestShape → View → ℕ → RedistReg → Half → ℕ → List Event
redist_written shape view vcpu RedistCtlr half value = if enable_lpis_after shape false value then enable_events shape view vcpu else []
redist_written shape view vcpu PropbaserReg half value =
    if view.lpis vcpu then [] else Put (Propbaser vcpu) (propbaser_bits (half_written half (view.words (Propbaser vcpu)) value)) ∷ []
redist_written shape view vcpu PendbaserReg half value =
    if view.lpis vcpu then [] else Put (Pendbaser vcpu) (pendbaser_bits (half_written half (view.words (Pendbaser vcpu)) value)) ∷ []
redist_written shape view vcpu reg half value = []

-- the events of an access
abbrev pub redist_events : GuestShape → View → ℕ → RedistRef → Option ℕ → List Event
redist_events shape view vcpu (RedistBits kind first count) write = part_events shape (Redist vcpu) kind first count write
redist_events shape view vcpu (RedistPlain reg half) (Some value) = redist_written shape view vcpu reg half value
redist_events shape view vcpu (RedistPlain reg half) None = []
redist_events shape view vcpu RedistReserved write = []

-- what a register holds
abbrev pub redist_held : GuestShape → View → ℕ → RedistReg → ℕ
redist_held shape view vcpu RedistCtlr = redist_ctlr_of shape (view.lpis vcpu)
redist_held shape view vcpu RedistIidr = iidr
redist_held shape view vcpu RedistTyper = redist_typer_of shape vcpu
redist_held shape view vcpu PropbaserReg = view.words (Propbaser vcpu)
redist_held shape view vcpu PendbaserReg = pendbaser_read (view.words (Pendbaser vcpu))
redist_held shape view vcpu RedistPidr2 = pidr2

-- what a read answers
abbrev pub redist_value : GuestShape → View → ℕ → RedistRef → ℕ
redist_value shape view vcpu (RedistBits kind first count) = part_value shape view (Redist vcpu) kind first count
redist_value shape view vcpu (RedistPlain reg half) = half_read half (redist_held shape view vcpu reg)
redist_value shape view vcpu RedistReserved = 0

-- The ITS, which a guest without LPIs does not have.

-- an event that is ignored while the ITS is enabled
abbrev pub unless_enabled : View → List Event → List Event
unless_enabled view events = if is_its_enabled view then [] else events

-- the offset in a value for GITS_CWRITER is below the queue's bytes
abbrev pub is_in_queue : View → ℕ → Bool
is_in_queue view value = nat_lt (queue_offset value) (queue_bytes (view.words Cbaser))

-- a write of GITS_CWRITER, unless its offset is not below the queue's bytes: the offset is stored, and Retry ends a stall
abbrev pub cwriter_events : View → ℕ → List Event
cwriter_events view value =
    if is_in_queue view value
    then Put Cwriter (queue_offset value) ∷ (if view.is_stalled && retries (view.words Cbaser) value then Queue view.offset Runs ∷ [] else [])
    else []

-- a write of GITS_BASER0 or GITS_BASER1, in its plain word
abbrev pub baser_written : View → PlainWord → Half → ℕ → List Event
baser_written view word half value = unless_enabled view (Put word (baser_bits (half_written half (view.words word) value)) ∷ [])

-- the events of a write of a register, before any command; a write of GITS_CBASER starts the queue anew (own choice)
abbrev pub its_written : View → ItsReg → Half → ℕ → List Event
its_written view ItsCtlrReg half value = Put ItsCtlr (bit_of (enabled_in value)) ∷ []
its_written view CbaserReg half value =
    unless_enabled view (Put Cwriter 0 ∷ Queue 0 Runs ∷ Put Cbaser (cbaser_bits (half_written half (view.words Cbaser) value)) ∷ [])
its_written view CwriterReg half value = cwriter_events view (half_written half (view.words Cwriter) value)
its_written view Baser0Reg half value = baser_written view Baser0 half value
its_written view Baser1Reg half value = baser_written view Baser1 half value
its_written view reg half value = []

-- a write of the register takes the ITS
abbrev pub takes_its : ItsReg → Bool
takes_its ItsCtlrReg = true
takes_its CbaserReg = true
takes_its CwriterReg = true
takes_its Baser0Reg = true
takes_its Baser1Reg = true
takes_its reg = false

-- a write of the register starts commands: of GITS_CTLR, and of GITS_CWRITER where it is not ignored
abbrev pub starts_commands : View → ItsReg → Half → ℕ → Bool
starts_commands view ItsCtlrReg half value = true
starts_commands view CwriterReg half value = is_in_queue view (half_written half (view.words Cwriter) value)
starts_commands view reg half value = false

-- what a register holds
abbrev pub its_held : GuestShape → View → ItsReg → ℕ
its_held shape view ItsCtlrReg = its_ctlr_of (is_its_enabled view)
its_held shape view ItsIidr = iidr
its_held shape view ItsTyper = its_typer_of shape
its_held shape view CbaserReg = view.words Cbaser
its_held shape view CwriterReg = view.words Cwriter
its_held shape view Creadr = creadr_of view.is_stalled view.offset
its_held shape view Baser0Reg = baser_of Devices (view.words Baser0)
its_held shape view Baser1Reg = baser_of Collections (view.words Baser1)
its_held shape view ItsPidr2 = pidr2

-- what a read answers
abbrev pub its_value : GuestShape → View → ItsRef → ℕ
its_value shape view (ItsPlain reg half) = if has_lpis shape then half_read half (its_held shape view reg) else 0
its_value shape view ItsReserved = 0

-- The guest's memory.

-- a write: the bytes that are not written stay
abbrev pub memory_written : GuestShape → View → ℕ → ℕ → ℕ → List Event
memory_written shape view address size value = option_map_or (λ part. Put (Ram part.index) (inserted (view.words (Ram part.index)) part value) ∷ []) (part_of address size shape.ram) []
