-- The events of the calls of vCPUs and devices can happen.
use Rattle.std.proofs.Common.{◌≡◌, ℕ, ◌+◌, ◌*◌, ◌<◌, ◌≤◌, ◌%◌, ◌/◌, ◌^◌, ◌==◌, ◌&&◌, ◌||◌, Bool, true, false, cond, IsTrue, IfSome, nat_lt, List, [], ◌∷◌, ◌++◌, All, Option, Some, None, option_map, refl, arith}
use Rattle.std.specs.Option.{option_map_or}
use Rattle.std.specs.List.{range_with_len, filter_map}
use Rattle.std.proofs.Math.Pow.{pow_mono}
use Rattle.std.proofs.lemmas.Grind.{common_steps}
use Rattle.std.proofs.lemmas.List.Elements.{All-nil, All-cons, All-push}
use Rattle.floor_registers.specs.Words.{GuestShape, Key, Private, Spi, Lpi, IccReg, Sgi1r, SetPending, ClearPending, Routing, Frame, Dist, Redist, Its, Ram as Memory, Mem, DeviceOp, Message, Wire, Msi, IsShape, has_interrupt, Route, Affinity, Target, is_number, IsRoute, IsRecordOf}
use Rattle.floor_registers.specs.Registers.{Half, Low, High, Whole, Found, InRegister, InParts, half_limit, half_written, found_at, has_lpis, part_read, route_read, intid_of, is_target, Part, is_size, is_within, inserted, SetSpi, ClrSpi, Router, enables_in, message_intid, Propbaser as PropbaserReg, Pendbaser as PendbaserReg, enable_lpis_after, propbaser_bits, pendbaser_bits, Cbaser as CbaserReg, Cwriter as CwriterReg, Creadr, Baser0 as Baser0Reg, Baser1 as Baser1Reg, cbaser_bits, baser_bits, queue_offset, retries, Maps, pair_of, id_of, passes, IsValid}
use Rattle.floor_registers.proofs.GicFrame.TestLemmas.{left, right, both, under, is_under, at_most}
use Rattle.gic_open.specs.GicGuest.Good.{fits, is_usable, has_frame, is_good_op, is_good_event}
use Rattle.floor_registers.specs.GicDmap.declared.map.Reg.{Reg as DistReg}
use Rattle.floor_registers.specs.GicDmap.declared.map.Reg.TheVariants.{Ctlr as DistCtlr, Typer as DistTyper, Iidr as DistIidr, Pidr2 as DistPidr2}
use Rattle.floor_registers.specs.GicDmap.declared.map.RegRef.{RegRef as DistRef}
use Rattle.floor_registers.specs.GicDmap.declared.map.RegRef.TheVariants.{Bits as DistBits, Plain as DistPlain, Reserved as DistReserved}
use Rattle.floor_registers.specs.GicDmap.Map.{lines as dist_lines, decoded as dist_decoded, NamesIntids}
use Rattle.floor_registers.proofs.GicDmap.MapLemmas.{intids_named}
use Rattle.floor_registers.specs.GicRmap.declared.map.Reg.{Reg as RedistReg}
use Rattle.floor_registers.specs.GicRmap.declared.map.Reg.TheVariants.{Ctlr as RedistCtlr, Iidr as RedistIidr, Typer as RedistTyper, Pidr2 as RedistPidr2}
use Rattle.floor_registers.specs.GicRmap.declared.map.RegRef.{RegRef as RedistRef}
use Rattle.floor_registers.specs.GicRmap.declared.map.RegRef.TheVariants.{Bits as RedistBits, Plain as RedistPlain, Reserved as RedistReserved}
use Rattle.floor_registers.specs.GicRmap.Map.{decoded as redist_decoded}
use Rattle.floor_registers.specs.GicImap.declared.map.Reg.{Reg as ItsReg}
use Rattle.floor_registers.specs.GicImap.declared.map.Reg.TheVariants.{Ctlr as ItsCtlrReg, Iidr as ItsIidr, Typer as ItsTyper, Pidr2 as ItsPidr2}
use Rattle.floor_registers.specs.GicImap.declared.map.RegRef.{RegRef as ItsRef}
use Rattle.floor_registers.specs.GicImap.declared.map.RegRef.TheVariants.{Plain as ItsPlain, Reserved as ItsReserved}
use Rattle.floor_registers.specs.GicImap.Map.{decoded as its_decoded}
use Rattle.gic_open.specs.declared.plain.PlainWord.TheVariants.{Ram, Propbaser, Pendbaser, Cbaser, Cwriter, Baser0, Baser1}
use Rattle.gic_call.specs.declared.event.Event.{Event}
use Rattle.gic_call.specs.declared.event.Event.TheVariants.{Raise, Up, Down, Cpu, Enable, Touch, Put, ItsBegin, ItsEnd, Queue}
use Rattle.gic_call.specs.declared.event.QueueChange.TheVariants.{Runs}
use Rattle.gic_call.specs.declared.touch.Touching.TheVariants.{Register}
use Rattle.gic_call.specs.Touch.{CanTouch}
use Rattle.gic_call.specs.Fit.{FitsHalf, FitsDist}
use Rattle.gic_call.specs.View.{View, is_its_enabled}
use Rattle.gic_call.specs.Valid.{IsOffset, HappensFreely}
use Rattle.gic_call.specs.Access.{part_key, part_at, of_spi, router_touch, dist_written, dist_plain, dist_events, is_table_zero, is_in_table, pended_at, enable_events, redist_written, redist_events, is_in_queue, its_written, memory_written}
use Rattle.gic_call.specs.Call.{sgi_at, icc_raises, icc_events, its_events, access_events, msi_raises, device_events}
use Rattle.gic_call.proofs.AccessLemmas.{can_read, can_write}
use Rattle.gic_call.proofs.FitLemmas.{dist_fits, size_small}
use Rattle.gic_call.proofs.PartLemmas.{IsPartKey, part_key_there, part_valid, ctlr_valid, each_found}

-- what a guest that is sound shows to a call: each of its interrupts has a record that it can have, the queue is at the place of a command, and
-- commands can have made the maps
pub record IsFineView (shape : GuestShape) (view : View) : Type 0 where
  pub records : (key : Key) → IsTrue (has_interrupt shape key) → IsRecordOf shape key (view.irqs key)
  pub offset : IsOffset view.offset
  pub maps : IsValid shape view.maps

-- one event, and events that come only where a test holds
one_valid : (shape : GuestShape) (event : Event) → HappensFreely shape event → All (HappensFreely shape) (event ∷ [])
one_valid shape event can = All-cons (HappensFreely shape) event [] can (All-nil (HappensFreely shape))

where_true : (shape : GuestShape) (b : Bool) (events : List Event) → (b ≡ true → All (HappensFreely shape) events) → All (HappensFreely shape) (cond b events [])
where_true shape true events can = can refl
where_true shape false events can = All-nil (HappensFreely shape)

where_false : (shape : GuestShape) (b : Bool) (events : List Event) → All (HappensFreely shape) events → All (HappensFreely shape) (cond b [] events)
where_false shape true events can = All-nil (HappensFreely shape)
where_false shape false events can = can

-- The distributor.

-- an SPI that the guest has
of_spi_valid : (shape : GuestShape) (id : ℕ) (event : Key → Event) → (IsTrue (has_interrupt shape (Spi id)) → HappensFreely shape (event (Spi id))) → All (HappensFreely shape) (of_spi shape id event)
of_spi_valid shape id event can = where_true shape (has_interrupt shape (Spi id)) (event (Spi id) ∷ []) (λ there. one_valid shape (event (Spi id)) (can there))

-- what an IROUTER reads fits 64 bits
route_fits : (route : Route) → IsRoute route → route_read route < 2 ^ 64
route_fits (Affinity affinity) is = omega (arith, is)
route_fits (Target target) is = omega arith

stored_fits : (shape : GuestShape) (view : View) (id : ℕ) → IsFineView shape view → part_at shape view Dist Routing id 0 < 2 ^ 64
stored_fits shape view id fine = of (part_key shape Dist Routing (id + 0)) (part_key_there shape Dist Routing (id + 0))
  where
    of : (o : Option Key) → IfSome o (IsPartKey shape Routing) → option_map_or (λ key. part_read Routing (view.irqs key)) o 0 < 2 ^ 64
    of None is = omega arith
    of (Some key) is = route_fits (view.irqs key).route (fine.records key is.0).packable.route

-- a half beside what is stored fits 64 bits
written_fits : (half : Half) (stored value : ℕ) → value < half_limit half → stored < 2 ^ 64 → half_written half stored value < 2 ^ 64
written_fits Low stored value fits small = omega arith
written_fits High stored value fits small = omega arith
written_fits Whole stored value fits small = fits

router_can : (shape : GuestShape) (id : ℕ) (half : Half) (write : Option ℕ) (stored : ℕ) → FitsHalf half write → stored < 2 ^ 64 → IsTrue (has_interrupt shape (Spi id)) → CanTouch shape (Spi id) (router_touch half write stored)
router_can shape id half None stored fits small there = can_read shape (Spi id) Routing there refl
router_can shape id half (Some value) stored fits small there = can_write shape (Spi id) Routing (half_written half stored value) there refl (written_fits half stored value fits small)

dist_written_valid : (shape : GuestShape) (reg : DistReg) (value : ℕ) → All (HappensFreely shape) (dist_written shape reg value)
dist_written_valid shape DistCtlr value = ctlr_valid shape (enables_in value)
dist_written_valid shape SetSpi value = of_spi_valid shape (message_intid value) Raise (λ there. there)
dist_written_valid shape ClrSpi value = of_spi_valid shape (message_intid value) (λ key. Touch key (Register ClearPending 1)) (λ there. record { there = there; fits = refl })
dist_written_valid shape DistTyper value = All-nil (HappensFreely shape)
dist_written_valid shape DistIidr value = All-nil (HappensFreely shape)
dist_written_valid shape (Router id) value = All-nil (HappensFreely shape)
dist_written_valid shape DistPidr2 value = All-nil (HappensFreely shape)

-- a register
dist_plain_valid : (shape : GuestShape) (view : View) (reg : DistReg) (half : Half) (write : Option ℕ) → IsFineView shape view → FitsHalf half write → All (HappensFreely shape) (dist_plain shape view reg half write)
dist_plain_valid shape view (Router id) half write fine fits =
    of_spi_valid shape id (λ key. Touch key (router_touch half write (part_at shape view Dist Routing id 0)))
    (λ there. router_can shape id half write (part_at shape view Dist Routing id 0) fits (stored_fits shape view id fine) there)
dist_plain_valid shape view reg half None fine fits = All-nil (HappensFreely shape)
dist_plain_valid shape view reg half (Some value) fine fits = dist_written_valid shape reg value

-- an access to the distributor
pub dist_valid : (shape : GuestShape) (view : View) (reference : DistRef) (write : Option ℕ) → IsFineView shape view → FitsDist reference write → All (HappensFreely shape) (dist_events shape view reference write)
dist_valid shape view (DistBits kind first count) write fine fits = part_valid shape Dist kind first count write
dist_valid shape view (DistPlain reg half) write fine fits = dist_plain_valid shape view reg half write fine fits
dist_valid shape view DistReserved write fine fits = All-nil (HappensFreely shape)

-- what an access to the distributor is to names INTIDs within the limits
dist_named : (offset size : ℕ) → NamesIntids (dist_decoded offset size)
dist_named offset size = of (found_at dist_lines offset size) refl
  where
    of : (o : Option (Found DistReg)) → found_at dist_lines offset size ≡ o → NamesIntids (dist_decoded offset size)
    of None e = rw e tt
    of (Some (InRegister reg half)) e = rw e (intids_named offset size (InRegister reg half) e)
    of (Some (InParts kind first count Whole)) e = rw e (intids_named offset size (InParts kind first count Whole) e)
    of (Some (InParts kind first count Low)) e = rw e (intids_named offset size (InParts kind first count Low) e)
    of (Some (InParts kind first count High)) e = rw e (intids_named offset size (InParts kind first count High) e)

-- A redistributor.

-- an LPI of a guest, by its number from 0
pub lpi_there : (shape : GuestShape) (number : ℕ) → number < shape.lpis → IsTrue (has_interrupt shape (Lpi (8192 + number)))
lpi_there shape number h = grind (arith, common_steps)

pended_valid : (shape : GuestShape) (view : View) (vcpu number : ℕ) → number < shape.lpis → IfSome (pended_at shape view vcpu (8192 + number)) (HappensFreely shape)
pended_valid shape view vcpu number h = of (is_number vcpu (view.targets (8192 + number)) && is_in_table shape view vcpu (8192 + number))
  where
    of : (b : Bool) → IfSome (cond b (Some (Touch (Lpi (8192 + number)) (Register SetPending 1))) None) (HappensFreely shape)
    of true = record { there = lpi_there shape number h; fits = refl }
    of false = tt

-- EnableLPIs becomes 1
enable_valid : (shape : GuestShape) (view : View) (vcpu : ℕ) → vcpu < shape.vcpus → All (HappensFreely shape) (enable_events shape view vcpu)
enable_valid shape view vcpu there =
    let pended : List Event = filter_map (λ number. pended_at shape view vcpu (8192 + number)) (range_with_len 0 shape.lpis) in
    let quiet : Bool = view.lpis vcpu || is_table_zero (view.words (Pendbaser vcpu)) in
    All-cons (HappensFreely shape) (Enable vcpu) (cond quiet [] pended) there
    (where_false shape quiet pended (each_found (HappensFreely shape) (λ number. pended_at shape view vcpu (8192 + number)) shape.lpis (pended_valid shape view vcpu)))

redist_written_valid : (shape : GuestShape) (view : View) (vcpu : ℕ) (reg : RedistReg) (half : Half) (value : ℕ) → vcpu < shape.vcpus → All (HappensFreely shape) (redist_written shape view vcpu reg half value)
redist_written_valid shape view vcpu RedistCtlr half value there = where_true shape (enable_lpis_after shape false value) (enable_events shape view vcpu) (λ e. enable_valid shape view vcpu there)
redist_written_valid shape view vcpu PropbaserReg half value there =
    where_false shape (view.lpis vcpu) (Put (Propbaser vcpu) (propbaser_bits (half_written half (view.words (Propbaser vcpu)) value)) ∷ []) (one_valid shape _ (is_under vcpu shape.vcpus there, refl))
redist_written_valid shape view vcpu PendbaserReg half value there =
    where_false shape (view.lpis vcpu) (Put (Pendbaser vcpu) (pendbaser_bits (half_written half (view.words (Pendbaser vcpu)) value)) ∷ []) (one_valid shape _ (is_under vcpu shape.vcpus there, refl))
redist_written_valid shape view vcpu RedistIidr half value there = All-nil (HappensFreely shape)
redist_written_valid shape view vcpu RedistTyper half value there = All-nil (HappensFreely shape)
redist_written_valid shape view vcpu RedistPidr2 half value there = All-nil (HappensFreely shape)

-- an access to a redistributor
pub redist_valid : (shape : GuestShape) (view : View) (vcpu : ℕ) (reference : RedistRef) (write : Option ℕ) → vcpu < shape.vcpus → All (HappensFreely shape) (redist_events shape view vcpu reference write)
redist_valid shape view vcpu (RedistBits kind first count) write there = part_valid shape (Redist vcpu) kind first count write
redist_valid shape view vcpu (RedistPlain reg half) (Some value) there = redist_written_valid shape view vcpu reg half value there
redist_valid shape view vcpu (RedistPlain reg half) None there = All-nil (HappensFreely shape)
redist_valid shape view vcpu RedistReserved write there = All-nil (HappensFreely shape)

-- The ITS.

its_written_valid : (shape : GuestShape) (view : View) (reg : ItsReg) (half : Half) (value : ℕ) → IsOffset view.offset → All (HappensFreely shape) (its_written view reg half value)
its_written_valid shape view ItsCtlrReg half value at = one_valid shape _ (refl, refl)
its_written_valid shape view CbaserReg half value at =
    let cbaser : Event = Put Cbaser (cbaser_bits (half_written half (view.words Cbaser) value)) in
    where_false shape (is_its_enabled view) (Put Cwriter 0 ∷ Queue 0 Runs ∷ cbaser ∷ [])
    (All-cons (HappensFreely shape) (Put Cwriter 0) (Queue 0 Runs ∷ cbaser ∷ []) (refl, refl)
    (All-cons (HappensFreely shape) (Queue 0 Runs) (cbaser ∷ []) (record { place = omega arith; within = omega arith }) (one_valid shape cbaser (refl, refl))))
its_written_valid shape view CwriterReg half value at =
    let written : ℕ = half_written half (view.words Cwriter) value in
    let again : Bool = view.is_stalled && retries (view.words Cbaser) written in
    where_true shape (is_in_queue view written) (Put Cwriter (queue_offset written) ∷ cond again (Queue view.offset Runs ∷ []) [])
    (λ e. All-cons (HappensFreely shape) (Put Cwriter (queue_offset written)) (cond again (Queue view.offset Runs ∷ []) []) (refl, refl) (where_true shape again (Queue view.offset Runs ∷ []) (λ e. one_valid shape (Queue view.offset Runs) at)))
its_written_valid shape view Baser0Reg half value at = where_false shape (is_its_enabled view) (Put Baser0 (baser_bits (half_written half (view.words Baser0) value)) ∷ []) (one_valid shape _ (refl, refl))
its_written_valid shape view Baser1Reg half value at = where_false shape (is_its_enabled view) (Put Baser1 (baser_bits (half_written half (view.words Baser1) value)) ∷ []) (one_valid shape _ (refl, refl))
its_written_valid shape view ItsIidr half value at = All-nil (HappensFreely shape)
its_written_valid shape view ItsTyper half value at = All-nil (HappensFreely shape)
its_written_valid shape view Creadr half value at = All-nil (HappensFreely shape)
its_written_valid shape view ItsPidr2 half value at = All-nil (HappensFreely shape)

-- an access to the ITS
pub its_valid : (shape : GuestShape) (view : View) (reference : ItsRef) (write : Option ℕ) → IsOffset view.offset → All (HappensFreely shape) (its_events shape view reference write)
its_valid shape view (ItsPlain reg half) (Some value) at = where_true shape (has_lpis shape) (its_written view reg half value) (λ e. its_written_valid shape view reg half value at)
its_valid shape view (ItsPlain reg half) None at = All-nil (HappensFreely shape)
its_valid shape view ItsReserved write at = All-nil (HappensFreely shape)

-- The guest's memory.

-- the word of an access is one of the memory
word_there : (address size ram : ℕ) → 1 ≤ size → ram % 8 ≡ 0 → address + size ≤ ram → address / 8 < ram / 8
word_there address size ram some whole within = omega arith

some_byte : (size : ℕ) → IsTrue (is_size size) → 1 ≤ size
some_byte size h = grind (arith, common_steps, h)

-- a write of memory
pub memory_valid : (shape : GuestShape) (view : View) (address size value : ℕ) → IsShape shape → IsTrue (is_size size) → All (HappensFreely shape) (memory_written shape view address size value)
memory_valid shape view address size value good sized = of (address % size == 0 && is_within address size shape.ram) refl
  where
    place : Part
    place = record { index = address / 8; shift = 8 * (address % 8); bits = 8 * size }

    of : (b : Bool) → (address % size == 0 && is_within address size shape.ram) ≡ b → All (HappensFreely shape) (option_map_or (λ part. Put (Ram part.index) (inserted (view.words (Ram part.index)) part value) ∷ []) (cond b (Some place) None) [])
    of true e = one_valid shape _ (is_under (address / 8) (shape.ram / 8) (word_there address size shape.ram (some_byte size sized) good.ram_words (at_most (address + size) shape.ram (right _ _ e))), refl)
    of false e = All-nil (HappensFreely shape)

-- a value that fits its size fits 64 bits
size_fits : (size : ℕ) (write : Option ℕ) → IsTrue (is_size size) → IsTrue (fits size write) → IfSome write (λ value. value < 2 ^ 64)
size_fits size None sized fit = tt
size_fits size (Some value) sized fit =
    let few : 8 * size ≤ 64 = omega (arith, size_small size sized) in
    let top : 2 ^ (8 * size) ≤ 2 ^ 64 = pow_mono {j = 64} few in
    let below : value < 2 ^ (8 * size) = under value (2 ^ (8 * size)) fit in
    omega arith

-- an access of memory or of a memory-mapped register
pub access_valid : (shape : GuestShape) (view : View) (frame : Frame) (offset size : ℕ) (write : Option ℕ) → IsShape shape → IsFineView shape view → IsTrue (is_good_op shape (Mem frame offset size write)) → All (HappensFreely shape) (access_events shape view frame offset size write)
access_valid shape view frame offset size write good fine op =
    let formed : IsTrue (is_size size && fits size write && has_frame shape frame) = left _ _ op in
    of frame write (left _ _ (left _ _ formed)) (right _ _ (left _ _ formed)) (right _ _ formed)
  where
    of : (frame : Frame) (write : Option ℕ) → IsTrue (is_size size) → IsTrue (fits size write) → IsTrue (has_frame shape frame) → All (HappensFreely shape) (access_events shape view frame offset size write)
    of Dist write sized fit there = dist_valid shape view (dist_decoded offset size) write fine (dist_fits offset size write sized fit (size_fits size write sized fit) (dist_named offset size))
    of (Redist vcpu) write sized fit there = redist_valid shape view vcpu (redist_decoded offset size) write (under vcpu shape.vcpus there)
    of Its write sized fit there = its_valid shape view (its_decoded offset size) write fine.offset
    of Memory None sized fit there = All-nil (HappensFreely shape)
    of Memory (Some value) sized fit there = memory_valid shape view offset size value good sized

-- A CPU interface register.

sgi_valid : (shape : GuestShape) (sender value : ℕ) (vcpu : ℕ) → vcpu < shape.vcpus → IfSome (sgi_at value sender vcpu) (HappensFreely shape)
sgi_valid shape sender value vcpu there = of (is_target value sender vcpu)
  where
    small : intid_of value < 32
    small = omega arith

    of : (b : Bool) → IfSome (cond b (Some (Raise (Private vcpu (intid_of value)))) None) (HappensFreely shape)
    of true = both (nat_lt vcpu shape.vcpus) (nat_lt (intid_of value) 32) (is_under vcpu shape.vcpus there) (is_under (intid_of value) 32 small)
    of false = tt

icc_raises_valid : (shape : GuestShape) (vcpu : ℕ) (reg : IccReg) (write : Option ℕ) → All (HappensFreely shape) (icc_raises shape vcpu reg write)
icc_raises_valid shape vcpu Sgi1r (Some value) = each_found (HappensFreely shape) (sgi_at value vcpu) shape.vcpus (sgi_valid shape vcpu value)
icc_raises_valid shape vcpu reg write = All-nil (HappensFreely shape)

-- an access of a CPU interface register
pub icc_valid : (shape : GuestShape) (vcpu : ℕ) (reg : IccReg) (write : Option ℕ) → vcpu < shape.vcpus → IsTrue (is_usable reg write) → All (HappensFreely shape) (icc_events shape vcpu reg write)
icc_valid shape vcpu reg write there usable = All-cons (HappensFreely shape) (Cpu vcpu reg write) (icc_raises shape vcpu reg write) (there, usable) (icc_raises_valid shape vcpu reg write)

-- A device.

-- the LPI of a mapped event
pub mapped_there : (shape : GuestShape) (maps : Maps) (event : ℕ × ℕ) → IsValid shape maps → IfSome (id_of maps event) (λ id. IsTrue (has_interrupt shape (Lpi id)))
mapped_there shape maps event valid = of (pair_of maps event) refl
  where
    of : (o : Option (ℕ × ℕ)) → pair_of maps event ≡ o → IfSome (option_map (λ pair. pair.0) o) (λ id. IsTrue (has_interrupt shape (Lpi id)))
    of None e = tt
    of (Some pair) e = valid.interrupt event pair e

msi_raises_valid : (shape : GuestShape) (view : View) (device event : ℕ) → IsValid shape view.maps → All (HappensFreely shape) (msi_raises view device event)
msi_raises_valid shape view device event valid = of (passes view.maps (is_its_enabled view) device event) (id_of view.maps (device, event)) (mapped_there shape view.maps (device, event) valid)
  where
    of : (b : Bool) (o : Option ℕ) → IfSome o (λ id. IsTrue (has_interrupt shape (Lpi id))) → All (HappensFreely shape) (option_map_or (λ id. Raise (Lpi id) ∷ []) (cond b o None) [])
    of true None there = All-nil (HappensFreely shape)
    of true (Some id) there = one_valid shape (Raise (Lpi id)) there
    of false o there = All-nil (HappensFreely shape)

-- what a device does
pub device_valid : (shape : GuestShape) (view : View) (op : DeviceOp) → IsValid shape view.maps → IsTrue (is_good_event shape op) → All (HappensFreely shape) (device_events view op)
device_valid shape view (Message spi) valid good = one_valid shape (Raise (Spi spi)) good
device_valid shape view (Wire key true) valid good = one_valid shape (Up key) good
device_valid shape view (Wire key false) valid good = one_valid shape (Down key) good
device_valid shape view (Msi device event) valid good =
    let raises : List Event = msi_raises view device event in
    All-cons (HappensFreely shape) ItsBegin (raises ++ ItsEnd ∷ []) tt (All-push (HappensFreely shape) raises ItsEnd (msi_raises_valid shape view device event valid) tt)
