-- What a call makes, where its reads count from an event of its own on, as one piece.
use Rattle.std.proofs.Common.{◌≡◌, ◌⊎◌, inl, inr, ℕ, not, Bool, true, false, cond, List, [], ◌∷◌, ◌++◌, map, All, Option, Some, None, refl, sym, ap, subst, ◌∙◌}
use Rattle.std.proofs.lemmas.List.{append_assoc, map-append}
use Rattle.std.proofs.lemmas.List.Elements.{All-nil, All-cons, All-head, All-tail, All-append, filter-append}
use Rattle.floor_registers.specs.Words.{GuestShape, Frame, Dist, Redist, Its, Ram as Memory, DeviceOp, Message, Wire, Msi}
use Rattle.floor_registers.specs.Registers.{Propbaser as PropbaserReg, Pendbaser as PendbaserReg}
use Rattle.floor_registers.specs.GicRmap.declared.map.RegRef.{RegRef as RedistRef}
use Rattle.floor_registers.specs.GicRmap.declared.map.RegRef.TheVariants.{Bits as RedistBits, Plain as RedistPlain, Reserved as RedistReserved}
use Rattle.floor_registers.specs.GicRmap.declared.map.Reg.TheVariants.{Ctlr as RedistCtlr, Iidr as RedistIidr, Typer as RedistTyper, Pidr2 as RedistPidr2}
use Rattle.floor_registers.specs.GicRmap.Map.{decoded as redist_decoded}
use Rattle.gic_call.specs.declared.event.Event.{Event}
use Rattle.gic_call.specs.declared.event.Event.TheVariants.{Read, Enable, ItsBegin, ItsEnd}
use Rattle.gic_call.specs.declared.event.Place.{Place}
use Rattle.gic_call.specs.declared.event.Found.{Found}
use Rattle.gic_call.specs.View.{View}
use Rattle.gic_call.specs.Access.{redist_events, enable_events, pended_events, sets_lpis}
use Rattle.gic_call.specs.Call.{access_events, msi_raises, device_events}
use Rattle.gic_call.specs.Trace.{Happened, HandsOut, held_at, named_of, is_beside, IsLastRead, Makes, MakesAfter, access_places, device_places, enabled_by, MakesPlain, MakesMsi, RaisesAlone, MakesDevice, Beside, IsItsCall, IsPlainCall, IsDeviceCall}

-- Pieces one after the other.

abbrev pub Hands : View → Happened → Type 0
Hands view happened = HandsOut view happened.event happened.found

-- the last read in what comes later is the last of all
pub read_later : (place : Place) (found : Found) (early late : List Happened) → IsLastRead place found late → IsLastRead place found (early ++ late)
read_later place found early late is = record {
  before = early ++ is.before;
  after = is.after;
  split = ap (λ xs. early ++ xs) is.split ∙ sym (append_assoc early is.before ((record { event = Read place; found = found }) ∷ is.after));
  last = is.last;
}

pub reads_later : (view : View) (early late : List Happened) (places : List Place) → All (λ place. IsLastRead place (held_at view place) late) places → All (λ place. IsLastRead place (held_at view place) (early ++ late)) places
reads_later view early late [] all = All-nil (λ place. IsLastRead place (held_at view place) (early ++ late))
reads_later view early late (place ∷ places) all =
    let Was : Place → Type 0 = λ place. IsLastRead place (held_at view place) late in
    let Is : Place → Type 0 = λ place. IsLastRead place (held_at view place) (early ++ late) in
    All-cons Is place places (read_later place (held_at view place) early late (All-head Was place places all)) (reads_later view early late places (All-tail Was place places all))

-- a piece without its reads
pub unread : {actor : Option ℕ} {view : View} {events : List Event} {places : List Place} {before piece : List Happened} → Makes actor view events places before piece → Makes actor view events [] [] piece
unread {actor} {view} {events} {places} {before} {piece} is = record { events_are = is.events_are; found = is.found; reads = All-nil (λ place. IsLastRead place (held_at view place) piece) }

-- a piece, and one that reads after it
pub makes_then : (actor : Option ℕ) (view : View) (one two : List Event) (places : List Place) (early late : List Happened) → Makes actor view one [] [] early → Makes actor view two places [] late → Makes actor view (one ++ two) places [] (early ++ late)
makes_then actor view one two places early late first second =
    let named : named_of actor (early ++ late) ≡ named_of actor early ++ named_of actor late = filter-append (λ (h : Happened). not (is_beside actor h.event)) early late in
    record {
      events_are =
          ap (map (λ (h : Happened). h.event)) named ∙ map-append (λ (h : Happened). h.event) (named_of actor early) (named_of actor late)
          ∙ ap (λ events. events ++ map (λ (h : Happened). h.event) (named_of actor late)) first.events_are ∙ ap (λ events. one ++ events) second.events_are;
      found = subst (All (Hands view)) (sym named) (All-append (Hands view) (named_of actor early) (named_of actor late) first.found second.found);
      reads = reads_later view early late places second.reads;
    }

-- Calls.

-- an event first, and the reads after it
pub after_made : (actor : Option ℕ) (view : View) (first : Event) (events : List Event) (places : List Place) (piece : List Happened) → MakesAfter actor view first events places piece → Makes actor view (first ∷ events) places [] piece
after_made actor view first events places piece is = subst (Makes actor view (first ∷ events) places []) (sym is.split) (makes_then actor view (first ∷ []) events places is.begin is.rest is.begun is.made)

-- a write that sets EnableLPIs
pub sets_events : (shape : GuestShape) (view : View) (vcpu : ℕ) (ref : RedistRef) (write : Option ℕ) → sets_lpis shape ref write ≡ true → redist_events shape view vcpu ref write ≡ enable_events shape view vcpu
sets_events shape view vcpu (RedistPlain RedistCtlr half) (Some value) h = ap (λ b. cond b (enable_events shape view vcpu) []) h
sets_events shape view vcpu (RedistPlain RedistCtlr half) None h = absurd (cc)
sets_events shape view vcpu (RedistPlain RedistIidr half) write h = absurd (cc)
sets_events shape view vcpu (RedistPlain RedistTyper half) write h = absurd (cc)
sets_events shape view vcpu (RedistPlain PropbaserReg half) write h = absurd (cc)
sets_events shape view vcpu (RedistPlain PendbaserReg half) write h = absurd (cc)
sets_events shape view vcpu (RedistPlain RedistPidr2 half) write h = absurd (cc)
sets_events shape view vcpu (RedistBits kind first count) write h = absurd (cc)
sets_events shape view vcpu RedistReserved write h = absurd (cc)

-- an access that does not take the ITS
pub plain_made : (shape : GuestShape) (view : View) (actor : ℕ) (frame : Frame) (offset size : ℕ) (write : Option ℕ) (piece : List Happened) → MakesPlain (enabled_by shape frame offset size write) shape view actor frame offset size write piece
    → Makes (Some actor) view (access_events shape view frame offset size write) (access_places shape view frame offset size write) [] piece
plain_made shape view actor Dist offset size write piece is = is
plain_made shape view actor Its offset size write piece is = is
plain_made shape view actor Memory offset size write piece is = is
plain_made shape view actor (Redist vcpu) offset size write piece is = of (sets_lpis shape (redist_decoded offset size) write) refl is
  where
    places : List Place
    places = access_places shape view (Redist vcpu) offset size write

    of : (b : Bool) → sets_lpis shape (redist_decoded offset size) write ≡ b → MakesPlain (cond b (Some vcpu) None) shape view actor (Redist vcpu) offset size write piece
        → Makes (Some actor) view (access_events shape view (Redist vcpu) offset size write) places [] piece
    of true h is =
        subst (λ events. Makes (Some actor) view events places [] piece) (sym (sets_events shape view vcpu (redist_decoded offset size) write h))
        (after_made (Some actor) view (Enable vcpu) (pended_events shape view vcpu) places piece is)
    of false h is = is

-- a message that takes the ITS, without its reads
pub msi_made : (view : View) (device event : ℕ) (piece : List Happened) → MakesMsi view device event piece → Makes None view (device_events view (Msi device event)) [] [] piece
msi_made view device event piece is =
    let raising = after_made None view ItsBegin (msi_raises view device event) (device_places (Msi device event)) is.raising is.raised in
    subst (Makes None view (device_events view (Msi device event)) [] []) (sym is.split)
    (makes_then None view (ItsBegin ∷ msi_raises view device event) (ItsEnd ∷ []) [] is.raising is.last (unread raising) is.ended)

-- what a device does, without its reads, or the LPI that it raises alone
pub device_made : (signals : Bool) (view : View) (op : DeviceOp) (piece : List Happened) → MakesDevice signals view op piece → Makes None view (device_events view op) [] [] piece ⊎ RaisesAlone signals view piece
device_made signals view (Message spi) piece is = inl is
device_made signals view (Wire key up) piece is = inl is
device_made signals view (Msi device event) piece (inl is) = inl (msi_made view device event piece is)
device_made signals view (Msi device event) piece (inr is) = inr is

-- the same of the calls as they are defined
pub its_made : {shape : GuestShape} {beside : Beside} {vcpu offset size value : ℕ} {piece : List Happened} {answer : Option ℕ} (is : IsItsCall shape beside vcpu offset size value piece answer)
    → Makes (Some vcpu) is.view (ItsBegin ∷ access_events shape is.view Its offset size (Some value)) (access_places shape is.view Its offset size (Some value)) [] is.register
its_made {shape} {beside} {vcpu} {offset} {size} {value} is =
    after_made (Some vcpu) is.view ItsBegin (access_events shape is.view Its offset size (Some value)) (access_places shape is.view Its offset size (Some value)) is.register is.written

pub access_made : {shape : GuestShape} {beside : Beside} {vcpu : ℕ} {frame : Frame} {offset size : ℕ} {write : Option ℕ} {piece : List Happened} {answer : Option ℕ} (is : IsPlainCall shape beside vcpu frame offset size write piece answer)
    → Makes (Some vcpu) is.view (access_events shape is.view frame offset size write) (access_places shape is.view frame offset size write) [] piece
access_made {shape} {beside} {vcpu} {frame} {offset} {size} {write} {piece} is = plain_made shape is.view vcpu frame offset size write piece is.made

pub op_made : {beside : Beside} {op : DeviceOp} {piece : List Happened} {answer : Option ℕ} (is : IsDeviceCall beside op piece answer) → Makes None is.view (device_events is.view op) [] [] piece ⊎ RaisesAlone beside.signals is.view piece
op_made {beside} {op} {piece} is = device_made beside.signals is.view op piece is.made
