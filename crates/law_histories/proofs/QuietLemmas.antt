-- Which events the accesses make that take no mark.
use Rattle.std.proofs.Common.{◌≡◌, ℕ, ◌+◌, ◌||◌, ◌&&◌, not, Bool, true, false, cond, List, [], ◌∷◌, ◌++◌, filter, Option, option_map, Some, None, refl, ap, ◌∙◌}
use Rattle.std.specs.List.{list_all, filter_map, cons_option, range_with_len}
use Rattle.std.specs.Option.{option_map_or}
use Rattle.std.proofs.lemmas.Bool.{and_parts, and_from}
use Rattle.floor_histories.specs.Words.{IccReg, Sgi1r, Key, Private, Spi, Lpi, Frame, Dist, Redist, Kind, SetPending, ClearPending, Routing, GuestShape, has_interrupt, is_number}
use Rattle.floor_histories.specs.Registers.{intid_of, is_target, Half, enables_in, message_intid, Enables, SetSpi, ClrSpi, Router, Propbaser as PropbaserReg, Pendbaser as PendbaserReg, enable_lpis_after, part_of, inserted}
use Rattle.floor_histories.specs.GicDmap.declared.map.Reg.{Reg as DistReg}
use Rattle.floor_histories.specs.GicDmap.declared.map.Reg.TheVariants.{Ctlr as DistCtlr}
use Rattle.floor_histories.specs.GicDmap.declared.map.RegRef.{RegRef as DistRef}
use Rattle.floor_histories.specs.GicDmap.declared.map.RegRef.TheVariants.{Bits as DistBits, Plain as DistPlain, Reserved as DistReserved}
use Rattle.floor_histories.specs.GicRmap.declared.map.Reg.{Reg as RedistReg}
use Rattle.floor_histories.specs.GicRmap.declared.map.Reg.TheVariants.{Ctlr as RedistCtlr}
use Rattle.floor_histories.specs.GicRmap.declared.map.RegRef.{RegRef as RedistRef}
use Rattle.floor_histories.specs.GicRmap.declared.map.RegRef.TheVariants.{Bits as RedistBits, Plain as RedistPlain, Reserved as RedistReserved}
use Rattle.floor_histories.specs.Calls.{Event, Touch, Put, CtlrBegin, CtlrEnd, ItsBegin, Touching, Register, Enables as CopyEnables, part_key, part_touch, part_event, of_spi, router_touch, dist_written, dist_plain, dist_events, ctlr_events, is_table_zero, is_in_table, part_events, pended_at, enable_events, redist_written, redist_events, memory_written, part_at, sgi_at, icc_raises, icc_events, View, PlainWord, Ram, Pendbaser, Cbaser}
use Rattle.floor_histories.specs.GicCall.declared.event.Event.TheVariants.{Raise, ItsEnd, Queue}
use Rattle.law_histories.specs.Held.{moves_target}

-- Events under a mark.

-- a touch that copies the enables of GICD_CTLR
abbrev pub is_copy : Touching → Bool
is_copy (CopyEnables en0 en1) = true
is_copy touching = false

-- an event of a write of GICD_CTLR
abbrev pub is_spread : Event → Bool
is_spread (CtlrBegin enables) = true
is_spread CtlrEnd = true
is_spread (Touch key touching) = is_copy touching
is_spread event = false

-- an event of an actor that takes the ITS, or has it; of the stores those of the register that says where the queue is
abbrev pub is_base : PlainWord → Bool
is_base Cbaser = true
is_base word = false

abbrev pub is_its : Event → Bool
is_its ItsBegin = true
is_its ItsEnd = true
is_its (Queue offset change) = true
is_its (Put word value) = is_base word
is_its event = false

-- a touch that changes for which vCPU its LPI is
abbrev pub is_moving : Event → Bool
is_moving (Touch key touching) = moves_target touching
is_moving event = false

abbrev pub is_quiet : Event → Bool
is_quiet event = not (is_spread event) && not (is_its event) && not (is_moving event)

-- Lists of events, all of which pass a test.

pub all_both : {X : Type 0} (p : X → Bool) (xs ys : List X) → list_all p xs ≡ true → list_all p ys ≡ true → list_all p (xs ++ ys) ≡ true
all_both p [] ys h k = k
all_both p (x ∷ xs) ys h k = let parts = and_parts (p x) (list_all p xs) h in and_from (p x) (list_all p (xs ++ ys)) parts.0 (all_both p xs ys parts.1 k)

pub all_found : {X Y : Type 0} (p : Y → Bool) (f : X → Option Y) → ((x : X) → option_map_or p (f x) true ≡ true) → (xs : List X) → list_all p (filter_map f xs) ≡ true
all_found p f each [] = refl
all_found {Y = Y} p f each (x ∷ xs) = of (f x) (each x) (all_found p f each xs)
  where
    of : (o : Option Y) → option_map_or p o true ≡ true → list_all p (filter_map f xs) ≡ true → list_all p (cons_option o (filter_map f xs)) ≡ true
    of None h later = later
    of (Some y) h later = and_from (p y) (list_all p (filter_map f xs)) h later

-- and of all of which none is kept by another
pub none_kept : {X : Type 0} (p q : X → Bool) → ((x : X) → q x ≡ true → p x ≡ false) → (xs : List X) → list_all q xs ≡ true → filter p xs ≡ []
none_kept p q unlike [] h = refl
none_kept p q unlike (x ∷ xs) h = let parts = and_parts (q x) (list_all q xs) h in ap (λ b. cond b (x ∷ filter p xs) (filter p xs)) (unlike x parts.0) ∙ none_kept p q unlike xs parts.1

either : (b : Bool) (xs ys : List Event) → list_all is_quiet xs ≡ true → list_all is_quiet ys ≡ true → list_all is_quiet (cond b xs ys) ≡ true
either true xs ys h k = h
either false xs ys h k = k

-- Registers.

part_quiet : (shape : GuestShape) (frame : Frame) (kind : Kind) (first : ℕ) (write : Option ℕ) (number : ℕ) → option_map_or is_quiet (part_event shape frame kind first write number) true ≡ true
part_quiet shape frame kind first write number = of (part_key shape frame kind (first + number)) write
  where
    of : (o : Option Key) (write : Option ℕ) → option_map_or is_quiet (option_map (λ key. Touch key (part_touch kind write number)) o) true ≡ true
    of None write = refl
    of (Some key) None = refl
    of (Some key) (Some value) = refl

parts_quiet : (shape : GuestShape) (frame : Frame) (kind : Kind) (first count : ℕ) (write : Option ℕ) → list_all is_quiet (part_events shape frame kind first count write) ≡ true
parts_quiet shape frame kind first count write = all_found is_quiet (part_event shape frame kind first write) (part_quiet shape frame kind first write) (range_with_len 0 count)

spi_quiet : (shape : GuestShape) (id : ℕ) (event : Key → Event) → is_quiet (event (Spi id)) ≡ true → list_all is_quiet (of_spi shape id event) ≡ true
spi_quiet shape id event h = either (has_interrupt shape (Spi id)) (event (Spi id) ∷ []) [] (ap (λ b. b && true) h) refl

router_quiet : (half : Half) (write : Option ℕ) (stored : ℕ) (key : Key) → is_quiet (Touch key (router_touch half write stored)) ≡ true
router_quiet half None stored key = refl
router_quiet half (Some value) stored key = refl

-- events that are all quiet, or those of a write of GICD_CTLR
pub data AreSpreadBy (shape : GuestShape) : List Event → Type 0 where
  quiet : (events : List Event) → list_all is_quiet events ≡ true → AreSpreadBy shape events
  spread : (enables : Enables) → AreSpreadBy shape (ctlr_events shape enables)

dist_written_by : (shape : GuestShape) (reg : DistReg) (value : ℕ) → AreSpreadBy shape (dist_written shape reg value)
dist_written_by shape DistCtlr value = spread (enables_in value)
dist_written_by shape SetSpi value = quiet _ (spi_quiet shape (message_intid value) Raise refl)
dist_written_by shape ClrSpi value = quiet _ (spi_quiet shape (message_intid value) (λ key. Touch key (Register ClearPending 1)) refl)
dist_written_by shape reg value = quiet _ refl

dist_plain_by : (shape : GuestShape) (view : View) (reg : DistReg) (half : Half) (write : Option ℕ) → AreSpreadBy shape (dist_plain shape view reg half write)
dist_plain_by shape view (Router id) half write = quiet _ (spi_quiet shape id (λ key. Touch key (router_touch half write (part_at shape view Dist Routing id 0))) (router_quiet half write (part_at shape view Dist Routing id 0) (Spi id)))
dist_plain_by shape view reg half None = quiet _ refl
dist_plain_by shape view reg half (Some value) = dist_written_by shape reg value

pub dist_by : (shape : GuestShape) (view : View) (ref : DistRef) (write : Option ℕ) → AreSpreadBy shape (dist_events shape view ref write)
dist_by shape view (DistBits kind first count) write = quiet _ (parts_quiet shape Dist kind first count write)
dist_by shape view (DistPlain reg half) write = dist_plain_by shape view reg half write
dist_by shape view DistReserved write = quiet _ refl

pended_quiet : (shape : GuestShape) (view : View) (vcpu id : ℕ) → option_map_or is_quiet (pended_at shape view vcpu id) true ≡ true
pended_quiet shape view vcpu id = of (is_number vcpu (view.targets id) && is_in_table shape view vcpu id)
  where
    of : (b : Bool) → option_map_or is_quiet (cond b (Some (Touch (Lpi id) (Register SetPending 1))) None) true ≡ true
    of true = refl
    of false = refl

redist_written_quiet : (shape : GuestShape) (view : View) (vcpu : ℕ) (reg : RedistReg) (half : Half) (value : ℕ) → list_all is_quiet (redist_written shape view vcpu reg half value) ≡ true
redist_written_quiet shape view vcpu RedistCtlr half value =
    either (enable_lpis_after shape false value) (enable_events shape view vcpu) []
    (either (view.lpis vcpu || is_table_zero (view.words (Pendbaser vcpu))) [] (filter_map (λ number. pended_at shape view vcpu (8192 + number)) (range_with_len 0 shape.lpis)) refl
    (all_found is_quiet (λ number. pended_at shape view vcpu (8192 + number)) (λ number. pended_quiet shape view vcpu (8192 + number)) (range_with_len 0 shape.lpis)))
    refl
redist_written_quiet shape view vcpu PropbaserReg half value = either (view.lpis vcpu) [] _ refl refl
redist_written_quiet shape view vcpu PendbaserReg half value = either (view.lpis vcpu) [] _ refl refl
redist_written_quiet shape view vcpu reg half value = refl

pub redist_quiet : (shape : GuestShape) (view : View) (vcpu : ℕ) (ref : RedistRef) (write : Option ℕ) → list_all is_quiet (redist_events shape view vcpu ref write) ≡ true
redist_quiet shape view vcpu (RedistBits kind first count) write = parts_quiet shape (Redist vcpu) kind first count write
redist_quiet shape view vcpu (RedistPlain reg half) (Some value) = redist_written_quiet shape view vcpu reg half value
redist_quiet shape view vcpu (RedistPlain reg half) None = refl
redist_quiet shape view vcpu RedistReserved write = refl

pub memory_quiet : (shape : GuestShape) (view : View) (address size value : ℕ) → list_all is_quiet (memory_written shape view address size value) ≡ true
memory_quiet shape view address size value = of (part_of address size shape.ram)
  where
    of : (o : Option _) → list_all is_quiet (option_map_or (λ part. Put (Ram part.index) (inserted (view.words (Ram part.index)) part value) ∷ []) o []) ≡ true
    of None = refl
    of (Some part) = refl

-- Accesses of a CPU interface.

sgi_quiet : (value sender vcpu : ℕ) → option_map_or is_quiet (sgi_at value sender vcpu) true ≡ true
sgi_quiet value sender vcpu = of (is_target value sender vcpu)
  where
    of : (b : Bool) → option_map_or is_quiet (cond b (Some (Raise (Private vcpu (intid_of value)))) None) true ≡ true
    of true = refl
    of false = refl

raises_quiet : (shape : GuestShape) (vcpu : ℕ) (reg : IccReg) (write : Option ℕ) → list_all is_quiet (icc_raises shape vcpu reg write) ≡ true
raises_quiet shape vcpu Sgi1r (Some value) = all_found is_quiet (sgi_at value vcpu) (sgi_quiet value vcpu) (range_with_len 0 shape.vcpus)
raises_quiet shape vcpu reg write = refl

pub icc_quiet : (shape : GuestShape) (vcpu : ℕ) (reg : IccReg) (write : Option ℕ) → list_all is_quiet (icc_events shape vcpu reg write) ≡ true
icc_quiet shape vcpu reg write = raises_quiet shape vcpu reg write
