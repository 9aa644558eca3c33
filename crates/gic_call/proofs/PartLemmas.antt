-- The events of accesses to the parts of interrupts, and of a write of GICD_CTLR, can happen.
use Rattle.std.proofs.Common.{◌≡◌, ℕ, ◌+◌, ◌<◌, ◌^◌, ◌&&◌, Bool, true, false, cond, IsTrue, IfSome, List, [], ◌∷◌, ◌++◌, All, map, Option, Some, None, option_map, refl, sym, subst, arith}
use Rattle.std.specs.List.{range_with_len, filter_map, cons_option}
use Rattle.std.proofs.lemmas.Grind.{common_steps}
use Rattle.std.proofs.lemmas.Nat.{pow_pos}
use Rattle.std.proofs.lemmas.List.FromFn.{length-range_with_len, get_or-range_with_len, length-map-range_with_len, get_or-map-range_with_len}
use Rattle.std.proofs.lemmas.List.Elements.{All-nil, All-cons, All-head, All-tail, All-push}
use Rattle.floor_registers.specs.Words.{field_at, GuestShape, Key, Private, Spi, Kind, Frame, Dist, Redist, Its, Ram as Memory, has_interrupt, interrupt_count, key_at}
use Rattle.floor_registers.specs.Registers.{part_bits, has_part, Enables}
use Rattle.floor_registers.proofs.GicFrame.TestLemmas.{left, right}
use Rattle.gic_call.specs.declared.event.Event.{Event}
use Rattle.gic_call.specs.declared.event.Event.TheVariants.{Touch, CtlrBegin, CtlrEnd}
use Rattle.gic_call.specs.Touch.{CanTouch}
use Rattle.gic_call.specs.Valid.{HappensFreely}
use Rattle.gic_call.specs.Access.{with_part, part_key, part_touch, part_event, part_events, copy_at, ctlr_events}
use Rattle.gic_call.proofs.AccessLemmas.{can_read, can_write}

-- what holds of each that is found holds of all
pub All-filter_map : {X Y : Type 0} (P : X → Type 0) (f : Y → Option X) (ys : List Y) → All (λ y. IfSome (f y) P) ys → All P (filter_map f ys)
All-filter_map P f [] h = All-nil P
All-filter_map {X} P f (y ∷ ys) h = found (f y) (filter_map f ys) (All-head (λ y. IfSome (f y) P) y ys h) (All-filter_map P f ys (All-tail (λ y. IfSome (f y) P) y ys h))
  where
    found : (o : Option X) (rest : List X) → IfSome o P → All P rest → All P (cons_option o rest)
    found None rest here all = all
    found (Some x) rest here all = All-cons P x rest here all

-- of what is found at the numbers below one
pub each_found : {X : Type 0} (P : X → Type 0) (f : ℕ → Option X) (n : ℕ) → ((k : ℕ) → k < n → IfSome (f k) P) → All P (filter_map f (range_with_len 0 n))
each_found P f n each =
    All-filter_map P f (range_with_len 0 n) (λ k d h. let below : k < n = omega (arith, length-range_with_len 0 n) in
    subst (λ j. IfSome (f j) P) (sym (get_or-range_with_len 0 n k d below)) (each (0 + k) (omega arith)))

-- of what stands at the numbers below one
pub each_made : {X : Type 0} (P : X → Type 0) (f : ℕ → X) (n : ℕ) → ((k : ℕ) → k < n → P (f k)) → All P (map f (range_with_len 0 n))
each_made P f n each = λ k d h. let below : k < n = omega (arith, length-map-range_with_len f 0 n) in
    subst P (sym (get_or-map-range_with_len f 0 n k k d below (omega arith))) (each k below)

-- a field fits its bits
pub field_fits : (value place width : ℕ) → field_at value place width < 2 ^ width
field_fits value place width = let some : 0 < 2 ^ width = pow_pos width in omega arith

-- the interrupt of a part is there, and has the part
abbrev pub IsPartKey : GuestShape → Kind → Key → Type 0
IsPartKey shape kind key = IsTrue (has_interrupt shape key) × IsTrue (has_part kind key)

with_part_there : (shape : GuestShape) (kind : Kind) (key : Key) → IfSome (with_part shape kind key) (IsPartKey shape kind)
with_part_there shape kind key = of (has_interrupt shape key && has_part kind key) refl
  where
    of : (b : Bool) → (has_interrupt shape key && has_part kind key) ≡ b → IfSome (cond b (Some key) None) (IsPartKey shape kind)
    of true e = (left _ _ e, right _ _ e)
    of false e = tt

pub part_key_there : (shape : GuestShape) (frame : Frame) (kind : Kind) (id : ℕ) → IfSome (part_key shape frame kind id) (IsPartKey shape kind)
part_key_there shape Dist kind id = with_part_there shape kind (Spi id)
part_key_there shape (Redist vcpu) kind id = with_part_there shape kind (Private vcpu id)
part_key_there shape Its kind id = tt
part_key_there shape Memory kind id = tt

-- an access of a part
part_touch_can : (shape : GuestShape) (key : Key) (kind : Kind) (write : Option ℕ) (number : ℕ) → IsPartKey shape kind key → CanTouch shape key (part_touch kind write number)
part_touch_can shape key kind None number is = can_read shape key kind is.0 is.1
part_touch_can shape key kind (Some value) number is = can_write shape key kind (field_at value _ (part_bits kind)) is.0 is.1 (field_fits value _ (part_bits kind))

part_event_valid : (shape : GuestShape) (frame : Frame) (kind : Kind) (first : ℕ) (write : Option ℕ) (number : ℕ) → IfSome (part_event shape frame kind first write number) (HappensFreely shape)
part_event_valid shape frame kind first write number = of (part_key shape frame kind (first + number)) (part_key_there shape frame kind (first + number))
  where
    of : (o : Option Key) → IfSome o (IsPartKey shape kind) → IfSome (option_map (λ key. Touch key (part_touch kind write number)) o) (HappensFreely shape)
    of None is = tt
    of (Some key) is = part_touch_can shape key kind write number is

-- an access of so many parts
pub part_valid : (shape : GuestShape) (frame : Frame) (kind : Kind) (first count : ℕ) (write : Option ℕ) → All (HappensFreely shape) (part_events shape frame kind first count write)
part_valid shape frame kind first count write = each_found (HappensFreely shape) (part_event shape frame kind first write) count (λ number below. part_event_valid shape frame kind first write number)

-- an interrupt stands at each place
pub key_at_there : (shape : GuestShape) (place : ℕ) → place < interrupt_count shape → IsTrue (has_interrupt shape (key_at shape place))
key_at_there shape place h = grind (arith, common_steps)

-- a write of GICD_CTLR
pub ctlr_valid : (shape : GuestShape) (enables : Enables) → All (HappensFreely shape) (ctlr_events shape enables)
ctlr_valid shape enables =
    let copies : List Event = map (copy_at shape enables) (range_with_len 0 (interrupt_count shape)) in
    let each : All (HappensFreely shape) copies = each_made (HappensFreely shape) (copy_at shape enables) (interrupt_count shape) (λ place h. record { there = key_at_there shape place h; fits = refl }) in
    All-cons (HappensFreely shape) (CtlrBegin enables) (copies ++ CtlrEnd ∷ []) tt (All-push (HappensFreely shape) copies CtlrEnd each tt)
