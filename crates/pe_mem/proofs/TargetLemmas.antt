-- What an access does goes by the vCPUs that LPIs are for only as it found them.
use Rattle.std.proofs.Common.{◌≡◌, ℕ, ◌+◌, ◌&&◌, ◌||◌, not, Bool, true, false, if◌then◌else◌, IsTrue, List, [], ◌∷◌, ◌++◌, Option, Some, None, refl, sym, ap, ◌∙◌, subst}
use Rattle.std.specs.List.{range_with_len, filter_map}
use Rattle.std.proofs.lemmas.Bool.{and_from}
use Rattle.std.proofs.lemmas.List.Elements.{All-weaker}
use Rattle.its_exec.specs.Words.{Lpi, Frame, Dist, Redist, Its, Ram as Memory, GuestShape, has_interrupt, is_number, SetPending}
use Rattle.its_exec.specs.Registers.{Router, Propbaser as PropbaserReg, Pendbaser as PendbaserReg, enable_lpis_after, has_lpis, half_read}
use Rattle.its_exec.specs.GicDmap.declared.map.RegRef.{RegRef as DistRef}
use Rattle.its_exec.specs.GicDmap.declared.map.RegRef.TheVariants.{Bits as DistBits, Plain as DistPlain, Reserved as DistReserved}
use Rattle.its_exec.specs.GicDmap.Map.{decoded as dist_decoded}
use Rattle.its_exec.specs.GicRmap.declared.map.Reg.TheVariants.{Ctlr as RedistCtlr}
use Rattle.its_exec.specs.GicRmap.declared.map.RegRef.{RegRef as RedistRef}
use Rattle.its_exec.specs.GicRmap.declared.map.RegRef.TheVariants.{Bits as RedistBits, Plain as RedistPlain, Reserved as RedistReserved}
use Rattle.its_exec.specs.GicRmap.Map.{decoded as redist_decoded}
use Rattle.its_exec.specs.GicImap.declared.map.RegRef.{RegRef as ItsRef}
use Rattle.its_exec.specs.GicImap.declared.map.RegRef.TheVariants.{Plain as ItsPlain, Reserved as ItsReserved}
use Rattle.its_exec.specs.GicImap.Map.{decoded as its_decoded}
use Rattle.its_exec.specs.Calls.{Pendbaser, Event, Touch, Put, Enable, Cpu, Found, Place, dist_events, dist_value, enable_events, is_in_table, is_table_zero, its_value, pended_at, redist_events, redist_value, access_events, access_value, its_events, Happened, HandsOut, IsLastRead, Makes, access_places, held_at, named_of, redist_places, View, Register, its_held, its_written, MakesPlain, enabled_by, sets_lpis, pended_events}
use Rattle.its_exec.specs.GicCall.declared.event.Event.TheVariants.{Read}
use Rattle.its_exec.specs.GicCall.declared.event.Place.TheVariants.{Word, Queue as QueuePlace, Ctlr, Lpis}
use Rattle.its_exec.proofs.GicCall.TraceLemmas.{sets_events}
use Rattle.its_exec.specs.GicImap.declared.map.Reg.{Reg as ItsReg}
use Rattle.pe_mem.specs.Found.{goes_by, goes_by_target, reads_bit}
use Rattle.pe_mem.proofs.EachLemmas.{found_below}
use Rattle.pe_mem.proofs.TableLemmas.{lpi_there}

-- the same guest with its LPIs for these vCPUs
abbrev pub with_targets : (ℕ → Option ℕ) → View → View
with_targets targets view = record view { targets = targets }

-- What is handed out does not tell.

hands_with : (t : ℕ → Option ℕ) (view : View) (event : Event) (found : Found) → HandsOut view event found → HandsOut (with_targets t view) event found
hands_with t view (Touch key touching) found h = h
hands_with t view (Put word value) found h = h
hands_with t view (Read (Word word)) found h = h
hands_with t view (Read QueuePlace) found h = h
hands_with t view (Read Ctlr) found h = h
hands_with t view (Read (Lpis vcpu)) found h = h
hands_with t view (Enable vcpu) found h = h
hands_with t view (Cpu vcpu reg write) found h = h
hands_with t view event found h = h

held_with : (t : ℕ → Option ℕ) (view : View) (place : Place) → held_at view place ≡ held_at (with_targets t view) place
held_with t view (Word word) = refl
held_with t view QueuePlace = refl
held_with t view Ctlr = refl
held_with t view (Lpis vcpu) = refl

pub makes_targeted : (actor : Option ℕ) (view : View) (t : ℕ → Option ℕ) (events : List Event) (places : List Place) (before piece : List Happened) → Makes actor view events places before piece → Makes actor (with_targets t view) events places before piece
makes_targeted actor view t events places before piece made = record {
  events_are = made.events_are;
  found = All-weaker (λ (h : Happened). HandsOut view h.event h.found) (λ (h : Happened). HandsOut (with_targets t view) h.event h.found) (λ h hands. hands_with t view h.event h.found hands) (named_of actor piece) made.found;
  reads =
      All-weaker (λ place. IsLastRead place (held_at view place) (before ++ piece)) (λ place. IsLastRead place (held_at (with_targets t view) place) (before ++ piece))
      (λ place last. subst (λ found. IsLastRead place found (before ++ piece)) (held_with t view place) last) places made.reads;
}

-- Nor does what is read and answered.

dist_valued : (shape : GuestShape) (t : ℕ → Option ℕ) (view : View) (ref : DistRef) → dist_value shape (with_targets t view) ref ≡ dist_value shape view ref
dist_valued shape t view (DistBits kind first count) = refl
dist_valued shape t view (DistPlain (Router id) half) = refl
dist_valued shape t view (DistPlain reg half) = refl
dist_valued shape t view DistReserved = refl

redist_valued : (shape : GuestShape) (t : ℕ → Option ℕ) (view : View) (vcpu : ℕ) (ref : RedistRef) → redist_value shape (with_targets t view) vcpu ref ≡ redist_value shape view vcpu ref
redist_valued shape t view vcpu (RedistBits kind first count) = refl
redist_valued shape t view vcpu (RedistPlain RedistCtlr half) = refl
redist_valued shape t view vcpu (RedistPlain reg half) = refl
redist_valued shape t view vcpu RedistReserved = refl

its_valued : (shape : GuestShape) (t : ℕ → Option ℕ) (view : View) (ref : ItsRef) → its_value shape (with_targets t view) ref ≡ its_value shape view ref
its_valued shape t view (ItsPlain reg half) = ap (λ x. if has_lpis shape then half_read half x else 0) (held reg)
  where
    held : (reg : ItsReg) → its_held shape (with_targets t view) reg ≡ its_held shape view reg
    held reg = refl
its_valued shape t view ItsReserved = refl

pub value_with : (shape : GuestShape) (t : ℕ → Option ℕ) (view : View) (frame : Frame) (offset size : ℕ) → access_value shape (with_targets t view) frame offset size ≡ access_value shape view frame offset size
value_with shape t view Dist offset size = dist_valued shape t view (dist_decoded offset size)
value_with shape t view (Redist vcpu) offset size = redist_valued shape t view vcpu (redist_decoded offset size)
value_with shape t view Its offset size = its_valued shape t view (its_decoded offset size)
value_with shape t view Memory offset size = refl

redist_placed : (shape : GuestShape) (t : ℕ → Option ℕ) (view : View) (vcpu : ℕ) (ref : RedistRef) (write : Option ℕ) → redist_places shape (with_targets t view) vcpu ref write ≡ redist_places shape view vcpu ref write
redist_placed shape t view vcpu (RedistPlain RedistCtlr half) None = refl
redist_placed shape t view vcpu (RedistPlain RedistCtlr half) (Some value) = refl
redist_placed shape t view vcpu (RedistPlain PropbaserReg half) None = refl
redist_placed shape t view vcpu (RedistPlain PendbaserReg half) None = refl
redist_placed shape t view vcpu (RedistPlain PropbaserReg half) (Some value) = refl
redist_placed shape t view vcpu (RedistPlain PendbaserReg half) (Some value) = refl
redist_placed shape t view vcpu ref write = refl

pub places_with : (shape : GuestShape) (t : ℕ → Option ℕ) (view : View) (frame : Frame) (offset size : ℕ) (write : Option ℕ) → access_places shape (with_targets t view) frame offset size write ≡ access_places shape view frame offset size write
places_with shape t view Dist offset size write = refl
places_with shape t view (Redist vcpu) offset size write = redist_placed shape t view vcpu (redist_decoded offset size) write
places_with shape t view Its offset size write = refl
places_with shape t view Memory offset size write = refl

-- What it does.

dist_same : (shape : GuestShape) (t : ℕ → Option ℕ) (view : View) (ref : DistRef) (write : Option ℕ) → dist_events shape (with_targets t view) ref write ≡ dist_events shape view ref write
dist_same shape t view (DistBits kind first count) write = refl
dist_same shape t view (DistPlain (Router id) half) write = refl
dist_same shape t view (DistPlain reg half) None = refl
dist_same shape t view (DistPlain reg half) (Some value) = refl
dist_same shape t view DistReserved write = refl

its_same : (shape : GuestShape) (t : ℕ → Option ℕ) (view : View) (ref : ItsRef) (write : Option ℕ) → its_events shape (with_targets t view) ref write ≡ its_events shape view ref write
its_same shape t view (ItsPlain reg half) None = refl
its_same shape t view (ItsPlain reg half) (Some value) = ap (λ es. if has_lpis shape then es else []) (of reg)
  where
    of : (reg : ItsReg) → its_written (with_targets t view) reg half value ≡ its_written view reg half value
    of reg = refl
its_same shape t view ItsReserved write = refl

-- the LPIs of the pending table, of which those agree that are read
pended_same : (shape : GuestShape) (t : ℕ → Option ℕ) (view : View) (vcpu id : ℕ) → (IsTrue (is_in_table shape view vcpu id) → t id ≡ view.targets id) → pended_at shape (with_targets t view) vcpu id ≡ pended_at shape view vcpu id
pended_same shape t view vcpu id agrees = of (is_in_table shape view vcpu id) refl
  where
    of : (b : Bool) → is_in_table shape view vcpu id ≡ b → pended_at shape (with_targets t view) vcpu id ≡ pended_at shape view vcpu id
    of true e = ap (λ o. if is_number vcpu o && is_in_table shape view vcpu id then Some (Touch (Lpi id) (Register SetPending 1)) else None) (agrees e)
    of false e = none (is_number vcpu (t id)) ∙ sym (none (is_number vcpu (view.targets id)))
      where
        none : (a : Bool) → (if a && is_in_table shape view vcpu id then Some (Touch (Lpi id) (Register SetPending 1)) else None) ≡ None
        none a = ap (λ b. if a && b then Some (Touch (Lpi id) (Register SetPending 1)) else None) e ∙ over a
          where
            over : (a : Bool) → (if a && false then Some (Touch (Lpi id) (Register SetPending 1)) else None) ≡ None
            over true = refl
            over false = refl

enables_same : (shape : GuestShape) (t : ℕ → Option ℕ) (view : View) (vcpu : ℕ) → ((id : ℕ) → IsTrue (has_interrupt shape (Lpi id)) → IsTrue (reads_bit shape view vcpu id) → t id ≡ view.targets id)
    → enable_events shape (with_targets t view) vcpu ≡ enable_events shape view vcpu
enables_same shape t view vcpu agrees = ap (λ es. Enable vcpu ∷ es) (of (view.lpis vcpu || is_table_zero (view.words (Pendbaser vcpu))) refl)
  where
    table : View → List Event
    table v = filter_map (λ number. pended_at shape v vcpu (8192 + number)) (range_with_len 0 shape.lpis)

    of : (b : Bool) → (view.lpis vcpu || is_table_zero (view.words (Pendbaser vcpu))) ≡ b → (if b then [] else table (with_targets t view)) ≡ (if b then [] else table view)
    of true e = refl
    of false e =
        found_below (λ number. pended_at shape (with_targets t view) vcpu (8192 + number)) (λ number. pended_at shape view vcpu (8192 + number)) shape.lpis
        (λ m h. pended_same shape t view vcpu (8192 + m) (λ bit. agrees (8192 + m) (lpi_there shape m h) (and_from (not (view.lpis vcpu || is_table_zero (view.words (Pendbaser vcpu)))) (is_in_table shape view vcpu (8192 + m)) (ap not e) bit)))

redist_same : (shape : GuestShape) (t : ℕ → Option ℕ) (view : View) (vcpu : ℕ) (ref : RedistRef) (write : Option ℕ) → ((id : ℕ) → IsTrue (has_interrupt shape (Lpi id)) → IsTrue (goes_by shape view vcpu ref write id) → t id ≡ view.targets id)
    → redist_events shape (with_targets t view) vcpu ref write ≡ redist_events shape view vcpu ref write
redist_same shape t view vcpu (RedistBits kind first count) write agrees = refl
redist_same shape t view vcpu (RedistPlain reg half) None agrees = refl
redist_same shape t view vcpu (RedistPlain RedistCtlr half) (Some value) agrees = of (enable_lpis_after shape false value) agrees
  where
    of : (b : Bool) → ((id : ℕ) → IsTrue (has_interrupt shape (Lpi id)) → IsTrue (b && reads_bit shape view vcpu id) → t id ≡ view.targets id)
        → (if b then enable_events shape (with_targets t view) vcpu else []) ≡ (if b then enable_events shape view vcpu else [])
    of true agrees = enables_same shape t view vcpu agrees
    of false agrees = refl
redist_same shape t view vcpu (RedistPlain reg half) (Some value) agrees = refl
redist_same shape t view vcpu RedistReserved write agrees = refl

pub events_with :
    (shape : GuestShape) (t : ℕ → Option ℕ) (view : View) (frame : Frame) (offset size : ℕ) (write : Option ℕ) → ((id : ℕ) → IsTrue (has_interrupt shape (Lpi id)) → IsTrue (goes_by_target shape view frame offset size write id) → t id ≡ view.targets id)
    → access_events shape (with_targets t view) frame offset size write ≡ access_events shape view frame offset size write
events_with shape t view Dist offset size write agrees = dist_same shape t view (dist_decoded offset size) write
events_with shape t view (Redist vcpu) offset size write agrees = redist_same shape t view vcpu (redist_decoded offset size) write agrees
events_with shape t view Its offset size write agrees = its_same shape t view (its_decoded offset size) write
events_with shape t view Memory offset size None agrees = refl
events_with shape t view Memory offset size (Some value) agrees = refl

-- so it is with the events of an access
pub plain_with :
    (shape : GuestShape) (actor : ℕ) (t : ℕ → Option ℕ) (view : View) (frame : Frame) (offset size : ℕ) (write : Option ℕ) (piece : List Happened)
    → ((id : ℕ) → IsTrue (has_interrupt shape (Lpi id)) → IsTrue (goes_by_target shape view frame offset size write id) → t id ≡ view.targets id)
    → MakesPlain (enabled_by shape frame offset size write) shape view actor frame offset size write piece → MakesPlain (enabled_by shape frame offset size write) shape (with_targets t view) actor frame offset size write piece
plain_with shape actor t view frame offset size write piece agrees made = by frame agrees made
  where
    Plain : Frame → View → Type 0
    Plain frame view = Makes (Some actor) view (access_events shape view frame offset size write) (access_places shape view frame offset size write) [] piece

    over : (frame : Frame) → access_events shape (with_targets t view) frame offset size write ≡ access_events shape view frame offset size write → Plain frame view → Plain frame (with_targets t view)
    over frame same made =
        let places = access_places shape view frame offset size write in
        subst (λ events. Makes (Some actor) (with_targets t view) events (access_places shape (with_targets t view) frame offset size write) [] piece) (sym same)
        (subst (λ places. Makes (Some actor) (with_targets t view) (access_events shape view frame offset size write) places [] piece) (sym (places_with shape t view frame offset size write))
        (makes_targeted (Some actor) view t (access_events shape view frame offset size write) places [] piece made))

    tail : (event : Event) (some more : List Event) → event ∷ some ≡ event ∷ more → some ≡ more
    tail event some more e = cc

    by : (frame : Frame) → ((id : ℕ) → IsTrue (has_interrupt shape (Lpi id)) → IsTrue (goes_by_target shape view frame offset size write id) → t id ≡ view.targets id)
        → MakesPlain (enabled_by shape frame offset size write) shape view actor frame offset size write piece → MakesPlain (enabled_by shape frame offset size write) shape (with_targets t view) actor frame offset size write piece
    by Dist agrees made = over Dist (events_with shape t view Dist offset size write agrees) made
    by Its agrees made = over Its (events_with shape t view Its offset size write agrees) made
    by Memory agrees made = over Memory (events_with shape t view Memory offset size write agrees) made
    by (Redist vcpu) agrees made = of (sets_lpis shape (redist_decoded offset size) write) refl made
      where
        ref : RedistRef
        ref = redist_decoded offset size

        same : redist_events shape (with_targets t view) vcpu ref write ≡ redist_events shape view vcpu ref write
        same = events_with shape t view (Redist vcpu) offset size write agrees

        of : (b : Bool) → sets_lpis shape ref write ≡ b → MakesPlain (if b then Some vcpu else None) shape view actor (Redist vcpu) offset size write piece → MakesPlain (if b then Some vcpu else None) shape (with_targets t view) actor (Redist vcpu) offset size write piece
        of false h made = over (Redist vcpu) same made
        of true h made =
            let pended : pended_events shape (with_targets t view) vcpu ≡ pended_events shape view vcpu
            = tail (Enable vcpu) (pended_events shape (with_targets t view) vcpu) (pended_events shape view vcpu) (sym (sets_events shape (with_targets t view) vcpu ref write h) ∙ same ∙ sets_events shape view vcpu ref write h) in
            let places = redist_places shape view vcpu ref write in
            record {
              begin = made.begin;
              rest = made.rest;
              split = made.split;
              begun = makes_targeted (Some actor) view t (Enable vcpu ∷ []) [] [] made.begin made.begun;
              made =
                  subst (λ events. Makes (Some actor) (with_targets t view) events (redist_places shape (with_targets t view) vcpu ref write) [] made.rest) (sym pended)
                  (subst (λ places. Makes (Some actor) (with_targets t view) (pended_events shape view vcpu) places [] made.rest) (sym (redist_placed shape t view vcpu ref write))
                  (makes_targeted (Some actor) view t (pended_events shape view vcpu) places [] made.rest made.made));
            }
