-- What the events of calls store: of each value the bits of its register alone, and of an ITS nothing in a guest without LPIs.
use Rattle.std.proofs.Common.{◌≡◌, ℕ, ◌+◌, ◌||◌, ◌&&◌, ◌++◌, not, Bool, true, false, cond, IsTrue, IfSome, Option, Some, None, option_map, List, [], ◌∷◌, All, map, refl, ap, arith}
use Rattle.std.specs.Option.{option_map_or}
use Rattle.std.specs.Prelude.{Result, Ok, Err}
use Rattle.std.specs.List.{range_with_len, filter_map}
use Rattle.std.proofs.lemmas.Bool.{and_parts}
use Rattle.std.proofs.lemmas.List.Elements.{All-nil, All-cons, All-push, All-map}
use Rattle.law_runs_split.specs.GicIdeal.IdealGuests.Words.{GuestShape, Key, Private, Spi, Lpi, SetPending, ClearPending, Routing, has_interrupt, Kind, IccReg, Sgi1r, Frame, Dist, Redist, Its, Ram as Memory, DeviceOp, Message, Wire, Msi, bit_of, has_bit, interrupt_count, is_number}
use Rattle.law_runs_split.specs.GicIdeal.IdealGuests.Registers.{Half, Part, Enables, SetSpi, ClrSpi, Router, has_lpis, enabled_in, enables_in, cbaser_bits, queue_offset, baser_bits, propbaser_bits, pendbaser_bits, half_written, retries, Maps, Command, BadCommand, CmdFault, DeviceRange, SizeRange, DeviceUnmapped, EventRange, EventUnmapped, IntIdRange, CollectionUnmapped, TargetRange, number_of, fault_of, fault_number, translated, is_target, intid_of, message_intid, part_of, inserted, Propbaser as PropbaserReg, Pendbaser as PendbaserReg, Cbaser as CbaserReg, Cwriter as CwriterReg, Baser0 as Baser0Reg, Baser1 as Baser1Reg}
use Rattle.law_runs_split.specs.GicIdeal.IdealGuests.GicDmap.declared.map.Reg.{Reg as DistReg}
use Rattle.law_runs_split.specs.GicIdeal.IdealGuests.GicDmap.declared.map.Reg.TheVariants.{Ctlr as DistCtlr}
use Rattle.law_runs_split.specs.GicIdeal.IdealGuests.GicDmap.declared.map.RegRef.{RegRef as DistRef}
use Rattle.law_runs_split.specs.GicIdeal.IdealGuests.GicDmap.declared.map.RegRef.TheVariants.{Bits as DistBits, Plain as DistPlain, Reserved as DistReserved}
use Rattle.law_runs_split.specs.GicIdeal.IdealGuests.GicDmap.Map.{decoded as dist_decoded}
use Rattle.law_runs_split.specs.GicIdeal.IdealGuests.GicRmap.declared.map.Reg.{Reg as RedistReg}
use Rattle.law_runs_split.specs.GicIdeal.IdealGuests.GicRmap.declared.map.Reg.TheVariants.{Ctlr as RedistCtlr}
use Rattle.law_runs_split.specs.GicIdeal.IdealGuests.GicRmap.declared.map.RegRef.{RegRef as RedistRef}
use Rattle.law_runs_split.specs.GicIdeal.IdealGuests.GicRmap.declared.map.RegRef.TheVariants.{Bits as RedistBits, Plain as RedistPlain, Reserved as RedistReserved}
use Rattle.law_runs_split.specs.GicIdeal.IdealGuests.GicRmap.Map.{decoded as redist_decoded}
use Rattle.law_runs_split.specs.GicIdeal.IdealGuests.GicImap.declared.map.Reg.{Reg as ItsReg}
use Rattle.law_runs_split.specs.GicIdeal.IdealGuests.GicImap.declared.map.Reg.TheVariants.{Ctlr as ItsCtlrReg}
use Rattle.law_runs_split.specs.GicIdeal.IdealGuests.GicImap.declared.map.RegRef.{RegRef as ItsRef}
use Rattle.law_runs_split.specs.GicIdeal.IdealGuests.GicImap.declared.map.RegRef.TheVariants.{Plain as ItsPlain, Reserved as ItsReserved}
use Rattle.law_runs_split.specs.GicIdeal.IdealGuests.GicImap.Map.{decoded as its_decoded}
use Rattle.law_runs_split.specs.GicIdeal.IdealGuests.ItsCmd.Command.{decoded}
use Rattle.law_runs_split.specs.GicIdeal.IdealGuests.GicCall.declared.event.Event.TheVariants.{Raise, ItsEnd, Queue}
use Rattle.law_runs_split.specs.GicIdeal.IdealGuests.GicCall.declared.command.Part.TheVariants.{Forget, Retarget, Raise as RaisePart, Configure}
use Rattle.law_runs_split.specs.GicIdeal.IdealGuests.GicCall.Call.{starts_commands}
use Rattle.law_runs_split.specs.GicIdeal.IdealGuests.GicCall.Access.{starts_commands as register_starts}
use Rattle.law_runs_split.specs.GicIdeal.IdealGuests.Calls.{PlainWord, Ram, Propbaser, Pendbaser, ItsCtlr, Cbaser, Cwriter, Baser0, Baser1, Fault, View, Event, Up, Down, Cpu, Enable, Touch, Put, CtlrBegin, CtlrEnd, ItsBegin, Runs, Done, Stalls, Register, Part as CommandPart, Map, Clear, is_its_enabled, part_key, part_touch, part_event, part_events, part_at, router_touch, copy_at, ctlr_events, dist_written, dist_plain, dist_events, is_table_zero, is_in_table, pended_at, enable_events, redist_written, redist_events, is_in_queue, its_written, its_events, its_starts, cwriter_events, memory_written, sgi_at, icc_raises, icc_events, access_events, msi_raises, device_events, lpi_event, command_words, command_parts, queue_event, command_events, next_offset}
use Rattle.law_runs_split.proofs.GicIdeal.IdealGuests.GicCall.PartLemmas.{each_found, each_made}
use Rattle.saved_take.specs.SavedGuest.Valid.{is_fault}
use Rattle.law_saves_go_on.specs.Stored.{IsHeld}

-- a word of the ITS
abbrev pub is_of_its : PlainWord → Bool
is_of_its (Ram index) = false
is_of_its (Propbaser vcpu) = false
is_of_its (Pendbaser vcpu) = false
is_of_its word = true

-- an event that stores a value stores what its word can hold, of memory one of these values; it changes an ITS, or lets a redistributor use LPIs, only where the
-- guest has one; and what stalls the queue has a number. The number of a fault is stored with the stall alone. Wires move
-- where they may
abbrev pub StoresOwn : GuestShape → (ℕ → Type 0) → Type 0 → Event → Type 0
StoresOwn shape Can Moves (Put (Ram index) value) = Can value
StoresOwn shape Can Moves (Put Fault value) = ⊥
StoresOwn shape Can Moves (Put word value) = IsHeld word value × IsTrue (has_lpis shape || not (is_of_its word))
StoresOwn shape Can Moves (Up key) = Moves
StoresOwn shape Can Moves (Down key) = Moves
StoresOwn shape Can Moves (Enable vcpu) = IsTrue (has_lpis shape)
StoresOwn shape Can Moves (Queue offset (Stalls fault)) = IsTrue (has_lpis shape) × IsTrue (is_fault true fault)
StoresOwn shape Can Moves (Queue offset change) = IsTrue (has_lpis shape)
StoresOwn shape Can Moves event = Unit {0}

-- ---- what registers store is stored whole

enabled_again : (b : Bool) → bit_of b ≡ bit_of (has_bit (bit_of b) 0)
enabled_again true = refl
enabled_again false = refl

propbaser_again : (vcpu value : ℕ) → IsHeld (Propbaser vcpu) (propbaser_bits value)
propbaser_again vcpu value = omega arith

pendbaser_again : (vcpu value : ℕ) → IsHeld (Pendbaser vcpu) (pendbaser_bits value)
pendbaser_again vcpu value = omega arith

cbaser_again : (value : ℕ) → IsHeld Cbaser (cbaser_bits value)
cbaser_again value = omega arith

cwriter_again : (value : ℕ) → IsHeld Cwriter (queue_offset value)
cwriter_again value = omega arith

baser_again : (value : ℕ) → baser_bits value ≡ baser_bits (baser_bits value)
baser_again value = omega arith

-- the fault of a command has a number
fault_is : (shape : GuestShape) (maps : Maps) (next : Result Command BadCommand) → IfSome (fault_number shape maps next) (λ fault. IsTrue (is_fault true fault))
fault_is shape maps (Err bad) = refl
fault_is shape maps (Ok command) = of (fault_of shape maps command)
  where
    number : (fault : CmdFault) → IsTrue (is_fault true (number_of fault))
    number DeviceRange = refl
    number SizeRange = refl
    number DeviceUnmapped = refl
    number EventRange = refl
    number EventUnmapped = refl
    number IntIdRange = refl
    number CollectionUnmapped = refl
    number TargetRange = refl

    of : (fault : Option CmdFault) → IfSome (option_map number_of fault) (λ fault. IsTrue (is_fault true fault))
    of None = tt
    of (Some fault) = number fault

-- a word that is not the ITS's any guest may store
pub any_guest : (b : Bool) → IsTrue (b || true)
any_guest true = refl
any_guest false = refl

module _ (shape : GuestShape) (Can : ℕ → Type 0) (Moves : Type 0) where
  abbrev Own : List Event → Type 0
  Own events = All (StoresOwn shape Can Moves) events

  none_own : Own []
  none_own = All-nil (StoresOwn shape Can Moves)

  one_own : (event : Event) → StoresOwn shape Can Moves event → Own (event ∷ [])
  one_own event own = All-cons (StoresOwn shape Can Moves) event [] own none_own

  where_true : (b : Bool) (events : List Event) → Own events → Own (cond b events [])
  where_true true events own = own
  where_true false events own = none_own

  where_false : (b : Bool) (events : List Event) → Own events → Own (cond b [] events)
  where_false true events own = none_own
  where_false false events own = own

  -- ---- the distributor

  part_own : (frame : Frame) (kind : Kind) (first count : ℕ) (write : Option ℕ) → Own (part_events shape frame kind first count write)
  part_own frame kind first count write = each_found (StoresOwn shape Can Moves) (part_event shape frame kind first write) count (λ number below. of number (part_key shape frame kind (first + number)))
    where
      of : (number : ℕ) (o : Option Key) → IfSome (option_map (λ key. Touch key (part_touch kind write number)) o) (StoresOwn shape Can Moves)
      of number None = tt
      of number (Some key) = tt

  ctlr_own : (enables : Enables) → Own (ctlr_events shape enables)
  ctlr_own enables =
      let copies : List Event = map (copy_at shape enables) (range_with_len 0 (interrupt_count shape)) in
      let each : Own copies = each_made (StoresOwn shape Can Moves) (copy_at shape enables) (interrupt_count shape) (λ place h. tt) in
      All-cons (StoresOwn shape Can Moves) (CtlrBegin enables) (copies ++ CtlrEnd ∷ []) tt (All-push (StoresOwn shape Can Moves) copies CtlrEnd each tt)

  dist_written_own : (reg : DistReg) (value : ℕ) → Own (dist_written shape reg value)
  dist_written_own DistCtlr value = ctlr_own (enables_in value)
  dist_written_own SetSpi value = where_true (has_interrupt shape (Spi (message_intid value))) (Raise (Spi (message_intid value)) ∷ []) (one_own (Raise (Spi (message_intid value))) tt)
  dist_written_own ClrSpi value = let event : Event = Touch (Spi (message_intid value)) (Register ClearPending 1) in where_true (has_interrupt shape (Spi (message_intid value))) (event ∷ []) (one_own event tt)
  dist_written_own reg value = none_own

  dist_plain_own : (view : View) (reg : DistReg) (half : Half) (write : Option ℕ) → Own (dist_plain shape view reg half write)
  dist_plain_own view (Router id) half write =
      let event : Event = Touch (Spi id) (router_touch half write (part_at shape view Dist Routing id 0)) in where_true (has_interrupt shape (Spi id)) (event ∷ []) (one_own event tt)
  dist_plain_own view reg half None = none_own
  dist_plain_own view reg half (Some value) = dist_written_own reg value

  dist_own : (view : View) (reference : DistRef) (write : Option ℕ) → Own (dist_events shape view reference write)
  dist_own view (DistBits kind first count) write = part_own Dist kind first count write
  dist_own view (DistPlain reg half) write = dist_plain_own view reg half write
  dist_own view DistReserved write = none_own

  -- ---- a redistributor

  pended_own : (view : View) (vcpu id : ℕ) → IfSome (pended_at shape view vcpu id) (StoresOwn shape Can Moves)
  pended_own view vcpu id = of (is_number vcpu (view.targets id) && is_in_table shape view vcpu id)
    where
      of : (b : Bool) → IfSome (cond b (Some (Touch (Lpi id) (Register SetPending 1))) None) (StoresOwn shape Can Moves)
      of true = tt
      of false = tt

  enable_own : has_lpis shape ≡ true → (view : View) (vcpu : ℕ) → Own (enable_events shape view vcpu)
  enable_own there view vcpu =
      let quiet : Bool = view.lpis vcpu || is_table_zero (view.words (Pendbaser vcpu)) in
      let pended : List Event = filter_map (λ number. pended_at shape view vcpu (8192 + number)) (range_with_len 0 shape.lpis) in
      All-cons (StoresOwn shape Can Moves) (Enable vcpu) (cond quiet [] pended) there
      (where_false quiet pended (each_found (StoresOwn shape Can Moves) (λ number. pended_at shape view vcpu (8192 + number)) shape.lpis (λ number below. pended_own view vcpu (8192 + number))))

  redist_written_own : (view : View) (vcpu : ℕ) (reg : RedistReg) (half : Half) (value : ℕ) → Own (redist_written shape view vcpu reg half value)
  redist_written_own view vcpu RedistCtlr half value = of (has_lpis shape) refl
    where
      of : (b : Bool) → has_lpis shape ≡ b → Own (cond (b && has_bit value 0) (enable_events shape view vcpu) [])
      of true there = where_true (has_bit value 0) (enable_events shape view vcpu) (enable_own there view vcpu)
      of false there = none_own
  redist_written_own view vcpu PropbaserReg half value =
      let written : ℕ = half_written half (view.words (Propbaser vcpu)) value in
      where_false (view.lpis vcpu) (Put (Propbaser vcpu) (propbaser_bits written) ∷ []) (one_own (Put (Propbaser vcpu) (propbaser_bits written)) (propbaser_again vcpu written, any_guest (has_lpis shape)))
  redist_written_own view vcpu PendbaserReg half value =
      let written : ℕ = half_written half (view.words (Pendbaser vcpu)) value in
      where_false (view.lpis vcpu) (Put (Pendbaser vcpu) (pendbaser_bits written) ∷ []) (one_own (Put (Pendbaser vcpu) (pendbaser_bits written)) (pendbaser_again vcpu written, any_guest (has_lpis shape)))
  redist_written_own view vcpu reg half value = none_own

  redist_own : (view : View) (vcpu : ℕ) (reference : RedistRef) (write : Option ℕ) → Own (redist_events shape view vcpu reference write)
  redist_own view vcpu (RedistBits kind first count) write = part_own (Redist vcpu) kind first count write
  redist_own view vcpu (RedistPlain reg half) (Some value) = redist_written_own view vcpu reg half value
  redist_own view vcpu (RedistPlain reg half) None = none_own
  redist_own view vcpu RedistReserved write = none_own

  -- ---- the ITS, where the guest has one

  in_its : has_lpis shape ≡ true → (word : PlainWord) → IsTrue (has_lpis shape || not (is_of_its word))
  in_its there word = ap (λ b. b || not (is_of_its word)) there

  put_own : has_lpis shape ≡ true → (word : PlainWord) (value : ℕ) → IsHeld word value → IsHeld word value × IsTrue (has_lpis shape || not (is_of_its word))
  put_own there word value held = (held, in_its there word)

  cbaser_own : has_lpis shape ≡ true → (view : View) (value : ℕ) → Own (cond (is_its_enabled view) [] (Put Cwriter 0 ∷ Queue 0 Runs ∷ Put Cbaser (cbaser_bits value) ∷ []))
  cbaser_own there view value =
      let cbaser : Event = Put Cbaser (cbaser_bits value) in
      where_false (is_its_enabled view) (Put Cwriter 0 ∷ Queue 0 Runs ∷ cbaser ∷ [])
      (All-cons (StoresOwn shape Can Moves) (Put Cwriter 0) (Queue 0 Runs ∷ cbaser ∷ []) (put_own there Cwriter 0 refl)
      (All-cons (StoresOwn shape Can Moves) (Queue 0 Runs) (cbaser ∷ []) there (one_own cbaser (put_own there Cbaser (cbaser_bits value) (cbaser_again value)))))

  cwriter_own : has_lpis shape ≡ true → (view : View) (value : ℕ) → Own (cwriter_events view value)
  cwriter_own there view value =
      let again : Bool = view.is_stalled && retries (view.words Cbaser) value in
      where_true (is_in_queue view value) (Put Cwriter (queue_offset value) ∷ cond again (Queue view.offset Runs ∷ []) [])
      (All-cons (StoresOwn shape Can Moves) (Put Cwriter (queue_offset value)) (cond again (Queue view.offset Runs ∷ []) []) (put_own there Cwriter (queue_offset value) (cwriter_again value))
      (where_true again (Queue view.offset Runs ∷ []) (one_own (Queue view.offset Runs) there)))

  its_written_own : has_lpis shape ≡ true → (view : View) (reg : ItsReg) (half : Half) (value : ℕ) → Own (its_written view reg half value)
  its_written_own there view ItsCtlrReg half value = one_own (Put ItsCtlr (bit_of (enabled_in value))) (put_own there ItsCtlr (bit_of (enabled_in value)) (enabled_again (enabled_in value)))
  its_written_own there view CbaserReg half value = cbaser_own there view (half_written half (view.words Cbaser) value)
  its_written_own there view CwriterReg half value = cwriter_own there view (half_written half (view.words Cwriter) value)
  its_written_own there view Baser0Reg half value =
      let written : ℕ = half_written half (view.words Baser0) value in
      where_false (is_its_enabled view) (Put Baser0 (baser_bits written) ∷ []) (one_own (Put Baser0 (baser_bits written)) (put_own there Baser0 (baser_bits written) (baser_again written)))
  its_written_own there view Baser1Reg half value =
      let written : ℕ = half_written half (view.words Baser1) value in
      where_false (is_its_enabled view) (Put Baser1 (baser_bits written) ∷ []) (one_own (Put Baser1 (baser_bits written)) (put_own there Baser1 (baser_bits written) (baser_again written)))
  its_written_own there view reg half value = none_own

  its_own : (view : View) (reference : ItsRef) (write : Option ℕ) → Own (its_events shape view reference write)
  its_own view (ItsPlain reg half) (Some value) = of (has_lpis shape) refl
    where
      of : (b : Bool) → has_lpis shape ≡ b → Own (cond b (its_written view reg half value) [])
      of true there = its_written_own there view reg half value
      of false there = none_own
  its_own view (ItsPlain reg half) None = none_own
  its_own view ItsReserved write = none_own

  -- ---- memory, and all accesses of it

  -- what a write of a part of a word of memory leaves in it
  abbrev pub CanWrite : View → ℕ → ℕ → Option ℕ → Type 0
  CanWrite view address size write = IfSome write (λ value. (part : Part) → part_of address size shape.ram ≡ Some part → Can (inserted (view.words (Ram part.index)) part value))

  memory_own : (view : View) (address size value : ℕ) → CanWrite view address size (Some value) → Own (memory_written shape view address size value)
  memory_own view address size value can = of (part_of address size shape.ram) refl
    where
      of : (o : Option Part) → part_of address size shape.ram ≡ o → Own (option_map_or (λ part. Put (Ram part.index) (inserted (view.words (Ram part.index)) part value) ∷ []) o [])
      of None e = none_own
      of (Some part) e = one_own (Put (Ram part.index) (inserted (view.words (Ram part.index)) part value)) (can part e)

  pub access_own : (view : View) (frame : Frame) (offset size : ℕ) (write : Option ℕ) → CanWrite view offset size write → Own (access_events shape view frame offset size write)
  access_own view Dist offset size write can = dist_own view (dist_decoded offset size) write
  access_own view (Redist vcpu) offset size write can = redist_own view vcpu (redist_decoded offset size) write
  access_own view Its offset size write can = its_own view (its_decoded offset size) write
  access_own view Memory offset size None can = none_own
  access_own view Memory offset size (Some value) can = memory_own view offset size value can

  -- commands are started in a guest with LPIs alone
  pub starts_in_its : (view : View) (frame : Frame) (offset size : ℕ) (write : Option ℕ) → starts_commands shape view frame offset size write ≡ true → has_lpis shape ≡ true
  starts_in_its view Its offset size write starts = of (its_decoded offset size) write starts
    where
      of : (reference : ItsRef) (write : Option ℕ) → its_starts shape view reference write ≡ true → has_lpis shape ≡ true
      of (ItsPlain reg half) (Some value) starts = (and_parts (has_lpis shape) (register_starts view reg half value) starts).0
      of (ItsPlain reg half) None starts = absurd (cc)
      of ItsReserved write starts = absurd (cc)
  starts_in_its view frame offset size write starts = absurd (cc)

  -- ---- commands

  part_events_own : (view : View) (targets : ℕ → Option ℕ) (part : CommandPart) → StoresOwn shape Can Moves (lpi_event shape view targets part)
  part_events_own view targets (Forget id) = tt
  part_events_own view targets (Map id target) = tt
  part_events_own view targets (Retarget id target) = tt
  part_events_own view targets (RaisePart id) = tt
  part_events_own view targets (Clear id) = tt
  part_events_own view targets (Configure id) = tt

  queue_own : has_lpis shape ≡ true → (view : View) → StoresOwn shape Can Moves (queue_event shape view)
  queue_own there view = of (fault_number shape view.maps (decoded (command_words shape view))) (fault_is shape view.maps (decoded (command_words shape view)))
    where
      of : (o : Option ℕ) → IfSome o (λ fault. IsTrue (is_fault true fault)) → StoresOwn shape Can Moves (option_map_or (λ fault. Queue view.offset (Stalls fault)) o (Queue (next_offset view) (Done (command_words shape view))))
      of None is = there
      of (Some fault) is = (there, is)

  pub command_own : has_lpis shape ≡ true → (view : View) → Own (command_events shape view)
  command_own there view =
      let made : List Event = map (lpi_event shape view view.targets) (command_parts shape view) in
      All-push (StoresOwn shape Can Moves) made (queue_event shape view) (All-map (StoresOwn shape Can Moves) (lpi_event shape view view.targets) (command_parts shape view) (λ k d h. part_events_own view view.targets _)) (queue_own there view)

  -- ---- CPU interfaces and devices

  raises_own : (vcpu : ℕ) (reg : IccReg) (write : Option ℕ) → Own (icc_raises shape vcpu reg write)
  raises_own vcpu Sgi1r (Some value) = each_found (StoresOwn shape Can Moves) (sgi_at value vcpu) shape.vcpus (λ k below. of k (is_target value vcpu k))
    where
      of : (k : ℕ) (b : Bool) → IfSome (cond b (Some (Raise (Private k (intid_of value)))) None) (StoresOwn shape Can Moves)
      of k true = tt
      of k false = tt
  raises_own vcpu reg write = none_own

  pub icc_own : (vcpu : ℕ) (reg : IccReg) (write : Option ℕ) → Own (icc_events shape vcpu reg write)
  icc_own vcpu reg write = All-cons (StoresOwn shape Can Moves) (Cpu vcpu reg write) (icc_raises shape vcpu reg write) tt (raises_own vcpu reg write)

  -- a device moves a wire, or none
  abbrev pub CanMove : DeviceOp → Type 0
  CanMove (Message spi) = Unit {0}
  CanMove (Wire key up) = Moves
  CanMove (Msi device event) = Unit {0}

  pub device_own : (view : View) (op : DeviceOp) → CanMove op → Own (device_events view op)
  device_own view (Message spi) can = one_own (Raise (Spi spi)) tt
  device_own view (Wire key true) can = one_own (Up key) can
  device_own view (Wire key false) can = one_own (Down key) can
  device_own view (Msi device event) can = All-cons (StoresOwn shape Can Moves) ItsBegin (msi_raises view device event ++ ItsEnd ∷ []) tt (All-push (StoresOwn shape Can Moves) (msi_raises view device event) ItsEnd (of (translated view.maps (is_its_enabled view) device event)) tt)
    where
      of : (o : Option ℕ) → Own (option_map_or (λ id. Raise (Lpi id) ∷ []) o [])
      of None = none_own
      of (Some id) = one_own (Raise (Lpi id)) tt

-- a device moves a wire where any may
pub may_move : (shape : GuestShape) (Can : ℕ → Type 0) (op : DeviceOp) → CanMove shape Can (Unit {0}) op
may_move shape Can (Message spi) = tt
may_move shape Can (Wire key up) = tt
may_move shape Can (Msi device event) = tt
