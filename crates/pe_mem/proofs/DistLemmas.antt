-- Accesses of the distributor.
use Rattle.std.proofs.Common.{◌≡◌, ◌⊎◌, inl, inr, ℕ, ◌+◌, ◌%◌, ◌^◌, ◌<◌, ◌&&◌, Bool, true, false, if◌then◌else◌, IsTrue, List, [], ◌∷◌, Option, Some, None, refl, sym, ap, subst, ◌∙◌, arith}
use Rattle.std.specs.Option.{option_map_or}
use Rattle.its_exec.specs.Words.{Key, Spi, Dist, Kind, SetPending, ClearPending, Routing, GuestShape, has_interrupt, Irq, Route, Affinity, Target, is_routed_as, IsRoute, irq_of}
use Rattle.its_exec.specs.GicDmap.declared.map.Reg.{Reg}
use Rattle.its_exec.specs.Registers.{SetSpi, ClrSpi, Router, message_intid, Half, Low, High, Whole, half_limit, half_read, half_written, has_part, part_read, route_read}
use Rattle.its_exec.specs.GicDmap.declared.map.Reg.TheVariants.{Ctlr, Typer, Iidr, Pidr2}
use Rattle.its_exec.specs.GicDmap.declared.map.RegRef.{RegRef}
use Rattle.its_exec.specs.GicDmap.declared.map.RegRef.TheVariants.{Bits, Plain, Reserved}
use Rattle.its_exec.specs.Calls.{Event, Touch, Register, part_key, part_at, part_events as parts_events, of_spi, router_touch, dist_plain, dist_held, dist_places, View}
use Rattle.its_exec.specs.GicCall.declared.event.Event.TheVariants.{Raise as RaiseEvent}
use Rattle.its_exec.specs.GicCall.declared.touch.Touching.TheVariants.{Read}
use Rattle.its_exec.proofs.GicFrame.TestLemmas.{is_under}
use Rattle.its_exec.specs.Core.{Raise, Seen, shape_of}
use Rattle.its_exec.specs.PortCall.Rest.{IsAtEase}
use Rattle.its_exec.specs.PortCall.Tell.{Tells}
use Rattle.its_exec.specs.PortCall.Touch.{Touches}
use Rattle.pe_mem.specs.declared.attempt.PartAccess.TheVariants.{WritesHalf}
use Rattle.pe_mem.specs.Call.{is_key_of}
use Rattle.pe_mem.specs.Dist.{ServesDist, ReadsDist, WritesDist}
use Rattle.pe_mem.specs.Each.{AccessesNumber, AccessesParts}
use Rattle.pe_mem.specs.Part.{touching_by, CanAttempt, Attempts}
use Rattle.pe_mem.proofs.EachLemmas.{key_late}
use Rattle.pe_mem.proofs.ServeLemmas.{nothing_known, touched_view, serves_nothing, serves_touch, serves_raise, serves_each, serves_parts, parts_read}

-- The SPI of an INTID.

record IsSpi (shape : GuestShape) (id : ℕ) (key : Key) : Type 0 where
  is : key ≡ Spi id
  there : has_interrupt shape (Spi id) ≡ true

spi_found : (shape : GuestShape) (kind : Kind) (id : ℕ) (key : Key) → has_part kind (Spi id) ≡ true → part_key shape Dist kind id ≡ Some key → IsSpi shape id key
spi_found shape kind id key part e = of (has_interrupt shape (Spi id)) refl
  where
    keyed : Bool → Option Key
    keyed b = if b && has_part kind (Spi id) then Some (Spi id) else None

    of : (b : Bool) → has_interrupt shape (Spi id) ≡ b → IsSpi shape id key
    of true there =
        let found : Some (Spi id) ≡ Some key = ap (λ (b : Bool). if b then Some (Spi id) else None) (sym part) ∙ ap keyed (sym there) ∙ e in
        record { is = cc; there = there }
    of false there = let found : None ≡ Some key = ap keyed (sym there) ∙ e in absurd (cc)

spi_missing : (shape : GuestShape) (kind : Kind) (id : ℕ) → has_part kind (Spi id) ≡ true → part_key shape Dist kind id ≡ None → has_interrupt shape (Spi id) ≡ false
spi_missing shape kind id part e = of (has_interrupt shape (Spi id)) refl
  where
    keyed : Bool → Option Key
    keyed b = if b && has_part kind (Spi id) then Some (Spi id) else None

    of : (b : Bool) → has_interrupt shape (Spi id) ≡ b → has_interrupt shape (Spi id) ≡ false
    of true there = let found : Some (Spi id) ≡ None = ap (λ (b : Bool). if b then Some (Spi id) else None) (sym part) ∙ ap keyed (sym there) ∙ e in absurd (cc)
    of false there = there

-- an event of it
spi_event : (shape : GuestShape) (id : ℕ) (key : Key) (event : Key → Event) → IsSpi shape id key → of_spi shape id event ≡ event key ∷ []
spi_event shape id key event spi = ap (λ (b : Bool). if b then event (Spi id) ∷ [] else []) spi.there ∙ ap (λ key. event key ∷ []) (sym spi.is)

no_event : (shape : GuestShape) (id : ℕ) (event : Key → Event) → has_interrupt shape (Spi id) ≡ false → of_spi shape id event ≡ []
no_event shape id event missing = ap (λ (b : Bool). if b then event (Spi id) ∷ [] else []) missing

-- Messages.

pub low_intid : (value : ℕ) → message_intid (value % 2 ^ 32) ≡ message_intid value
low_intid value = omega arith

pub sets_spi : (old new : Seen) (value id : ℕ) (key : Key) → IsAtEase old.local → id ≡ message_intid value → part_key (shape_of old) Dist SetPending id ≡ Some key → Tells old new (Raise key) key (RaiseEvent key) → WritesDist old new SetSpi Whole value
sets_spi old new value id key ease is here tells =
    let events : View → List Event = λ view. dist_plain (shape_of old) view SetSpi Whole (Some value) in
    let of : of_spi (shape_of old) (message_intid value) RaiseEvent ≡ RaiseEvent key ∷ []
    = ap (λ id. of_spi (shape_of old) id RaiseEvent) (sym is) ∙ spi_event (shape_of old) id key RaiseEvent (spi_found (shape_of old) SetPending id key refl here) in
    serves_raise old new key events events ease (λ view. of) tells

pub sets_none : (old : Seen) (value id : ℕ) → IsAtEase old.local → id ≡ message_intid value → part_key (shape_of old) Dist SetPending id ≡ None → WritesDist old old SetSpi Whole value
sets_none old value id ease is here =
    let events : View → List Event = λ view. dist_plain (shape_of old) view SetSpi Whole (Some value) in
    let of : of_spi (shape_of old) (message_intid value) RaiseEvent ≡ []
    = ap (λ id. of_spi (shape_of old) id RaiseEvent) (sym is) ∙ no_event (shape_of old) id RaiseEvent (spi_missing (shape_of old) SetPending id refl here) in
    serves_nothing old events (λ view. []) events ease (λ view. of) (λ view. refl)

clear_of : Key → Event
clear_of key = Touch key (Register ClearPending 1)

pub clears_spi : (old new : Seen) (value id : ℕ) (key : Key) (found : ℕ) → id ≡ message_intid value → part_key (shape_of old) Dist ClearPending id ≡ Some key → Touches old new key (Register ClearPending 1) found → WritesDist old new ClrSpi Whole value
unfolding clear_of
clears_spi old new value id key found is here made =
    let events : View → List Event = λ view. dist_plain (shape_of old) view ClrSpi Whole (Some value) in
    let of : of_spi (shape_of old) (message_intid value) clear_of ≡ clear_of key ∷ []
    = ap (λ id. of_spi (shape_of old) id clear_of) (sym is) ∙ spi_event (shape_of old) id key clear_of (spi_found (shape_of old) ClearPending id key refl here) in
    let By : List Event → Type 0 = λ events. is_key_of events key in
    serves_touch old new key (Register ClearPending 1) found events events of (λ view. subst By (sym of) (key_late [] key (Register ClearPending 1))) made

pub clears_none : (old : Seen) (value id : ℕ) → IsAtEase old.local → id ≡ message_intid value → part_key (shape_of old) Dist ClearPending id ≡ None → WritesDist old old ClrSpi Whole value
unfolding clear_of
clears_none old value id ease is here =
    let events : View → List Event = λ view. dist_plain (shape_of old) view ClrSpi Whole (Some value) in
    let of : of_spi (shape_of old) (message_intid value) clear_of ≡ []
    = ap (λ id. of_spi (shape_of old) id clear_of) (sym is) ∙ no_event (shape_of old) id clear_of (spi_missing (shape_of old) ClearPending id refl here) in
    serves_nothing old events (λ view. []) events ease (λ view. of) (λ view. refl)

-- An IROUTER.

-- what it holds, of an SPI that is there, and of another
router_held : (shape : GuestShape) (view : View) (id : ℕ) (o : Option Key) → part_key shape Dist Routing id ≡ o → part_at shape view Dist Routing id 0 ≡ option_map_or (λ key. part_read Routing (view.irqs key)) o 0
router_held shape view id o here =
    let number : id + 0 ≡ id = omega arith in
    ap (λ id. option_map_or (λ key. part_read Routing (view.irqs key)) (part_key shape Dist Routing id) 0) number ∙ ap (λ o. option_map_or (λ key. part_read Routing (view.irqs key)) o 0) here

-- the value after a write of a half is one of 64 bits
half_in : (half : Half) (stored value : ℕ) → stored < 2 ^ 64 → value < half_limit half → half_written half stored value < 2 ^ 64
half_in Low stored value small fits = omega arith
half_in High stored value small fits = omega arith
half_in Whole stored value small fits = fits

routed_small : (shape : GuestShape) (id : ℕ) (route : Route) → IsTrue (is_routed_as shape (Spi id) route) → IsRoute route → route_read route < 2 ^ 64
routed_small shape id (Affinity affinity) h small = omega arith
routed_small shape id (Target target) h small = absurd (cc)

pub can_write_half : (shape : GuestShape) (id : ℕ) (half : Half) (value : ℕ) (key : Key) → value < half_limit half → part_key shape Dist Routing id ≡ Some key → CanAttempt shape key Routing (WritesHalf half value)
can_write_half shape id half value key fits here =
    let spi = spi_found shape Routing id key refl here in
    let Can : Key → Type 0 = λ key. CanAttempt shape key Routing (WritesHalf half value) in
    subst Can (sym spi.is)
    (record {
      there = spi.there;
      part = refl;
      can = λ irq is. record { there = spi.there; fits = is_under (half_written half (part_read Routing irq) value) (2 ^ 64) (half_in half (part_read Routing irq) value (routed_small shape id irq.route is.route is.packable.route) fits) };
      fits = fits;
    })

pub writes_router : (old new : Seen) (id : ℕ) (half : Half) (value : ℕ) (key : Key) (irq : Irq) → part_key (shape_of old) Dist Routing id ≡ Some key → Attempts old new key Routing (WritesHalf half value) irq → WritesDist old new (Router id) half value
unfolding touched_view
writes_router old new id half value key irq here made =
    let shape = shape_of old in
    let spi = spi_found shape Routing id key refl here in
    let events : View → List Event = λ view. dist_plain shape view (Router id) half (Some value) in
    let touch : View → Key → Event = λ view key. Touch key (router_touch half (Some value) (part_at shape view Dist Routing id 0)) in
    let view = touched_view old made.found in
    let held : part_at shape view Dist Routing id 0 ≡ part_read Routing (irq_of made.found) = router_held shape view id (Some key) here in
    let By : Key → List Event → Type 0 = λ key events. is_key_of events key in
    serves_touch old new key (touching_by (WritesHalf half value) Routing (irq_of made.found)) made.found events events
    (spi_event shape id key (touch view) spi ∙ ap (λ stored. Touch key (Register Routing (half_written half stored value)) ∷ []) held)
    (λ view. subst (By key) (sym (spi_event shape id key (touch view) spi)) (key_late [] key (router_touch half (Some value) (part_at shape view Dist Routing id 0)))) made.touches

pub writes_no_router : (old : Seen) (id : ℕ) (half : Half) (value : ℕ) → IsAtEase old.local → part_key (shape_of old) Dist Routing id ≡ None → WritesDist old old (Router id) half value
writes_no_router old id half value ease here =
    let shape = shape_of old in
    let events : View → List Event = λ view. dist_plain shape view (Router id) half (Some value) in
    serves_nothing old events (λ view. []) events ease
    (λ view. no_event shape id (λ key. Touch key (router_touch half (Some value) (part_at shape view Dist Routing id 0))) (spi_missing shape Routing id refl here)) (λ view. refl)

pub reads_router : (old new : Seen) (id value : ℕ) (o : Option Key) → IsAtEase old.local → part_key (shape_of old) Dist Routing id ≡ o → AccessesNumber old new o Routing None value → ReadsDist old new (Router id) value
unfolding serves_nothing serves_touch touched_view
reads_router old new id value None ease here made =
    let shape = shape_of old in
    let events : View → List Event = λ view. dist_plain shape view (Router id) Whole None in
    let Read : Seen → Type 0 = λ new. ReadsDist old new (Router id) value in
    subst Read (sym made.0)
    (record {
      serves = serves_nothing old events (λ view. []) events ease (λ view. no_event shape id (λ key. Touch key (router_touch Whole None (part_at shape view Dist Routing id 0))) (spi_missing shape Routing id refl here)) (λ view. refl);
      value_is = made.1 ∙ sym (router_held shape (nothing_known old) id None here);
    })
reads_router old new id value (Some key) ease here made =
    let shape = shape_of old in
    let spi = spi_found shape Routing id key refl here in
    let events : View → List Event = λ view. dist_plain shape view (Router id) Whole None in
    let touch : View → Key → Event = λ view key. Touch key (router_touch Whole None (part_at shape view Dist Routing id 0)) in
    let view = touched_view old made.found in
    let By : Key → List Event → Type 0 = λ key events. is_key_of events key in
    record {
      serves =
          serves_touch old new key (Read Routing) made.found events events (spi_event shape id key (touch view) spi)
          (λ view. subst (By key) (sym (spi_event shape id key (touch view) spi)) (key_late [] key (Read Routing))) made.touches;
      value_is = made.answer_is ∙ sym (router_held shape view id (Some key) here);
    }

-- Reads.

-- a register that always reads the same
pub reads_fixed : (old : Seen) (reg : Reg) (value : ℕ) → IsAtEase old.local → ((view : View) → dist_plain (shape_of old) view reg Whole None ≡ []) → dist_places (Plain reg Whole) ≡ [] → ((view : View) → value ≡ dist_held (shape_of old) view reg) → ReadsDist old old reg value
unfolding serves_nothing
reads_fixed old reg value ease no_events no_places is =
    let events : View → List Event = λ view. dist_plain (shape_of old) view reg Whole None in
    record { serves = serves_nothing old events (λ view. dist_places (Plain reg Whole)) events ease no_events (λ view. no_places); value_is = is (nothing_known old) }

-- Whole accesses.

pub served_bits : (old new : Seen) (kind : Kind) (first count : ℕ) (write : Option ℕ) (value : ℕ) → AccessesParts old new Dist kind first count write value → ServesDist old new (Bits kind first count) write value
unfolding serves_parts serves_each
served_bits old new kind first count None value made =
    record { serves = serves_parts old new Dist kind first count None value (λ view. parts_events (shape_of old) Dist kind first count None) (λ view. parts_events (shape_of old) Dist kind first count None) (λ view. refl) (λ view. refl) made; reads = parts_read old new Dist kind first count None value made }
served_bits old new kind first count (Some written) value made =
    record { serves = serves_parts old new Dist kind first count (Some written) value (λ view. parts_events (shape_of old) Dist kind first count (Some written)) (λ view. parts_events (shape_of old) Dist kind first count (Some written)) (λ view. refl) (λ view. refl) made; reads = refl }

pub served_read : (old new : Seen) (reg : Reg) (half : Half) (held value : ℕ) → value ≡ half_read half held → ReadsDist old new reg held → ServesDist old new (Plain reg half) None value
served_read old new Ctlr half held value is read = record { serves = read.serves; reads = ap Some (is ∙ ap (half_read half) read.value_is) }
served_read old new Typer half held value is read = record { serves = read.serves; reads = ap Some (is ∙ ap (half_read half) read.value_is) }
served_read old new Iidr half held value is read = record { serves = read.serves; reads = ap Some (is ∙ ap (half_read half) read.value_is) }
served_read old new SetSpi half held value is read = record { serves = read.serves; reads = ap Some (is ∙ ap (half_read half) read.value_is) }
served_read old new ClrSpi half held value is read = record { serves = read.serves; reads = ap Some (is ∙ ap (half_read half) read.value_is) }
served_read old new (Router id) half held value is read = record { serves = read.serves; reads = ap Some (is ∙ ap (half_read half) read.value_is) }
served_read old new Pidr2 half held value is read = record { serves = read.serves; reads = ap Some (is ∙ ap (half_read half) read.value_is) }

pub served_write : (old new : Seen) (reg : Reg) (half : Half) (value : ℕ) → WritesDist old new reg half value → ServesDist old new (Plain reg half) (Some value) 0
served_write old new reg half value writes = record { serves = writes; reads = refl }

pub served_none : (old : Seen) (write : Option ℕ) → IsAtEase old.local → ServesDist old old Reserved write 0
served_none old None ease = record { serves = serves_nothing old (λ view. []) (λ view. []) (λ view. []) ease (λ view. refl) (λ view. refl); reads = refl }
served_none old (Some value) ease = record { serves = serves_nothing old (λ view. []) (λ view. []) (λ view. []) ease (λ view. refl) (λ view. refl); reads = refl }

-- By the register.

pub reads_zero : (old : Seen) (reg : Reg) → IsAtEase old.local → (reg ≡ SetSpi) ⊎ (reg ≡ ClrSpi) → ReadsDist old old reg 0
reads_zero old reg ease (inl e) = let Of : Reg → Type 0 = λ reg. ReadsDist old old reg 0 in subst Of (sym e) (reads_fixed old SetSpi 0 ease (λ view. refl) refl (λ view. refl))
reads_zero old reg ease (inr e) = let Of : Reg → Type 0 = λ reg. ReadsDist old old reg 0 in subst Of (sym e) (reads_fixed old ClrSpi 0 ease (λ view. refl) refl (λ view. refl))

writes_fixed : (old : Seen) (reg : Reg) (half : Half) (value : ℕ) → IsAtEase old.local → ((view : View) → dist_plain (shape_of old) view reg half (Some value) ≡ []) → WritesDist old old reg half value
writes_fixed old reg half value ease none = let events : View → List Event = λ view. dist_plain (shape_of old) view reg half (Some value) in serves_nothing old events (λ view. []) events ease none (λ view. refl)

pub writes_nothing : (old : Seen) (reg : Reg) (half : Half) (value : ℕ) → IsAtEase old.local → (reg ≡ Typer) ⊎ ((reg ≡ Iidr) ⊎ (reg ≡ Pidr2)) → WritesDist old old reg half value
writes_nothing old reg half value ease (inl e) = let Of : Reg → Type 0 = λ reg. WritesDist old old reg half value in subst Of (sym e) (writes_fixed old Typer half value ease (λ view. refl))
writes_nothing old reg half value ease (inr (inl e)) = let Of : Reg → Type 0 = λ reg. WritesDist old old reg half value in subst Of (sym e) (writes_fixed old Iidr half value ease (λ view. refl))
writes_nothing old reg half value ease (inr (inr e)) = let Of : Reg → Type 0 = λ reg. WritesDist old old reg half value in subst Of (sym e) (writes_fixed old Pidr2 half value ease (λ view. refl))

pub served_by : (old new : Seen) (reference other : RegRef) (write its : Option ℕ) (value : ℕ) → reference ≡ other → write ≡ its → ServesDist old new other its value → ServesDist old new reference write value
served_by old new reference other write its value e f serves =
    let Of : RegRef → Type 0 = λ reference. ServesDist old new reference write value in
    let By : Option ℕ → Type 0 = λ write. ServesDist old new other write value in
    subst Of (sym e) (subst By (sym f) serves)
