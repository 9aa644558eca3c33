-- Calls that neither take the ITS nor set EnableLPIs: what they do by views that agree in what the calls find.
use Rattle.std.proofs.Common.{◌≡◌, ◌⊎◌, ℕ, zero, suc, ◌+◌, ◌<◌, ◌≤◌, ◌&&◌, ◌||◌, not, Bool, true, false, cond, List, [], ◌∷◌, ◌++◌, map, filter_map, All, Option, option_map, Some, None, is_none, refl, sym, ap, ap₂, ◌∙◌, arith, inl, inr}
use Rattle.std.specs.List.{list_all, list_any, cons_option, range_with_len}
use Rattle.std.specs.Option.{option_map_or}
use Rattle.std.proofs.lemmas.Bool.{and_from, or_left, or_right}
use Rattle.std.proofs.lemmas.Bool.{cases_eq}
use Rattle.std.proofs.lemmas.List.Elements.{All-head}
use Rattle.history_calls.specs.Words.{Key, Private, Spi, Kind, Routing, Frame, Dist, Redist, Its, Ram as Memory, Icc, Mem, Message, Wire, Msi, GuestShape, IccReg, Sgi1r, has_interrupt, interrupt_count, has_bit, bit_of}
use Rattle.history_calls.specs.Registers.{Enables, has_lpis, half_read, half_written, pendbaser_read, propbaser_bits, pendbaser_bits, part_read, joined, part_at as placed, Part as MemoryPart, part_of, extracted, inserted, enables_in, message_intid, SetSpi, ClrSpi, Router, Propbaser as PropbaserReg, Pendbaser as PendbaserReg, Cbaser as CbaserReg, Cwriter as CwriterReg, Creadr, Baser0 as Baser0Reg, Baser1 as Baser1Reg, creadr_of, intid_of, is_target}
use Rattle.legal_lists.specs.GicDmap.declared.map.Reg.TheVariants.{Ctlr as DistCtlr}
use Rattle.legal_lists.specs.GicDmap.declared.map.RegRef.{RegRef as DistRef}
use Rattle.legal_lists.specs.GicDmap.declared.map.RegRef.TheVariants.{Bits as DistBits, Plain as DistPlain, Reserved as DistReserved}
use Rattle.legal_lists.specs.GicDmap.Contents.{ctlr_of as dist_ctlr_of}
use Rattle.legal_lists.specs.GicDmap.Map.{decoded as dist_decoded}
use Rattle.legal_lists.specs.GicRmap.declared.map.Reg.TheVariants.{Ctlr as RedistCtlr}
use Rattle.legal_lists.specs.GicRmap.declared.map.RegRef.{RegRef as RedistRef}
use Rattle.legal_lists.specs.GicRmap.declared.map.RegRef.TheVariants.{Bits as RedistBits, Plain as RedistPlain, Reserved as RedistReserved}
use Rattle.legal_lists.specs.GicRmap.Map.{decoded as redist_decoded}
use Rattle.legal_lists.specs.GicImap.declared.map.Reg.{Reg as ItsReg}
use Rattle.legal_lists.specs.GicImap.declared.map.Reg.TheVariants.{Ctlr as ItsCtlrReg}
use Rattle.legal_lists.specs.GicImap.declared.map.RegRef.{RegRef as ItsRef}
use Rattle.legal_lists.specs.GicImap.declared.map.RegRef.TheVariants.{Plain as ItsPlain, Reserved as ItsReserved}
use Rattle.legal_lists.specs.GicImap.Contents.{ctlr_of as its_ctlr_of}
use Rattle.legal_lists.specs.GicImap.Map.{decoded as its_decoded}
use Rattle.history_calls.specs.Calls.{Event, Touch, Put, CtlrEnd, Register, Operation, Access, Device, Residence, Happened, View, Place, PlainWord, access_events, Ram, Propbaser, Pendbaser, ItsCtlr, Cbaser, Cwriter, Baser0, Baser1, copy_at, dist_events, dist_places, dist_value, enable_events, icc_raises, its_events, its_held, its_places, its_read_places, its_value, of_spi, part_at, part_event, part_events, part_key, part_touch, read_answer, redist_events, redist_places, redist_value, sets_lpis, sgi_at, table_places, takes_turn, with_part}
use Rattle.legal_lists.specs.GicCall.declared.event.Event.TheVariants.{Raise}
use Rattle.legal_lists.specs.GicCall.declared.event.Place.TheVariants.{Word, Queue as QueuePlace, Ctlr, Lpis}
use Rattle.legal_lists.proofs.KeyLemmas.{own_key}
use Rattle.history_calls.specs.Found.{touches, stores}
use Rattle.history_calls.specs.Exact.{is_plain, is_told, events_by, places_by, Answers}
use Rattle.history_calls.proofs.FoundLemmas.{own_word}

-- Views that agree.

-- another view has what a place holds
abbrev pub Holds : View → View → Place → Type 0
Holds view other (Word word) = other.words word ≡ view.words word
Holds view other QueuePlace = (other.offset ≡ view.offset) × (other.is_stalled ≡ view.is_stalled)
Holds view other Ctlr = (other.enables ≡ view.enables) × (other.is_spreading ≡ view.is_spreading)
Holds view other (Lpis vcpu) = other.lpis vcpu ≡ view.lpis vcpu

-- it has what these events and places tell
pub record Agrees (view other : View) (events : List Event) (places : List Place) : Type 0 where
  pub irqs : (key : Key) → list_any (touches key) events ≡ true → other.irqs key ≡ view.irqs key
  pub words : (word : PlainWord) → list_any (stores word) events ≡ true → other.words word ≡ view.words word
  pub held : All (Holds view other) places

-- Parts.

joined_same : (kind : Kind) (one other : ℕ → ℕ) (count : ℕ) → ((number : ℕ) → number < count → one number ≡ other number) → joined kind one count ≡ joined kind other count
joined_same kind one other zero h = refl
joined_same kind one other (suc count) h = ap₂ (λ low part. low + placed kind part count) (joined_same kind one other count (λ number lt. h number (omega (arith, lt)))) (h count (omega arith))

any_option : (is : Event → Bool) (o : Option Event) (events : List Event) → list_any is events ≡ true → list_any is (cons_option o events) ≡ true
any_option is None events h = h
any_option is (Some event) events h = or_right (is event) (list_any is events) h

part_touched : (shape : GuestShape) (frame : Frame) (kind : Kind) (first : ℕ) (write : Option ℕ) (key : Key) (start count number : ℕ) → start ≤ number → number < start + count → part_key shape frame kind (first + number) ≡ Some key
    → list_any (touches key) (filter_map (part_event shape frame kind first write) (range_with_len start count)) ≡ true
part_touched shape frame kind first write key start zero number low high e = absurd (omega (arith, low, high))
part_touched shape frame kind first write key start (suc count) number low high e =
    of (cases_eq number start) (λ differ. part_touched shape frame kind first write key (start + 1) count number (omega (arith, low, differ)) (omega (arith, high)) e)
  where
    rest : List Event
    rest = filter_map (part_event shape frame kind first write) (range_with_len (start + 1) count)

    of : (number ≡ start) ⊎ (number ≡ start → ⊥) → ((number ≡ start → ⊥) → list_any (touches key) rest ≡ true) → list_any (touches key) (cons_option (part_event shape frame kind first write start) rest) ≡ true
    of (inl same) later =
        ap (λ o. list_any (touches key) (cons_option (option_map (λ (k : Key). Touch k (part_touch kind write start)) o) rest)) (ap (λ n. part_key shape frame kind (first + n)) (sym same) ∙ e)
        ∙ or_left (touches key (Touch key (part_touch kind write start))) (list_any (touches key) rest) (own_key key)
    of (inr differ) later = any_option (touches key) (part_event shape frame kind first write start) rest (later differ)

key_same : (kind : Kind) (view other : View) (o : Option Key) → ((key : Key) → o ≡ Some key → other.irqs key ≡ view.irqs key) → option_map_or (λ key. part_read kind (other.irqs key)) o 0 ≡ option_map_or (λ key. part_read kind (view.irqs key)) o 0
key_same kind view other None h = refl
key_same kind view other (Some key) h = ap (part_read kind) (h key refl)

parts_same : (shape : GuestShape) (view other : View) (frame : Frame) (kind : Kind) (first count : ℕ) (write : Option ℕ) → ((key : Key) → list_any (touches key) (part_events shape frame kind first count write) ≡ true → other.irqs key ≡ view.irqs key)
    → joined kind (part_at shape other frame kind first) count ≡ joined kind (part_at shape view frame kind first) count
parts_same shape view other frame kind first count write agree =
    joined_same kind (part_at shape other frame kind first) (part_at shape view frame kind first) count
    (λ number lt. key_same kind view other (part_key shape frame kind (first + number)) (λ key e. agree key (part_touched shape frame kind first write key 0 count number (omega arith) (omega (arith, lt)) e)))

-- an IROUTER
router_same : (shape : GuestShape) (view other : View) (id : ℕ) (event : Event) → touches (Spi id) event ≡ true → ((key : Key) → list_any (touches key) (cond (has_interrupt shape (Spi id)) (event ∷ []) []) ≡ true → other.irqs key ≡ view.irqs key)
    → part_at shape other Dist Routing id 0 ≡ part_at shape view Dist Routing id 0
router_same shape view other id event h agree = key_same Routing view other (with_part shape Routing (Spi (id + 0))) (λ key e. agree key (of (has_interrupt shape (Spi id)) key (ap (λ n. with_part shape Routing (Spi n)) (sym at) ∙ e)))
  where
    at : id + 0 ≡ id
    at = omega arith

    of : (b : Bool) (key : Key) → cond (b && true) (Some (Spi id)) None ≡ Some key → list_any (touches key) (cond b (event ∷ []) []) ≡ true
    of true key e = or_left (touches key event) false (ap (λ k. touches k event) (sym (some_key (Spi id) key e)) ∙ h)
      where
        some_key : (one other : Key) → ◌≡◌ {A = Option Key} (Some one) (Some other) → one ≡ other
        some_key one other k = cc
    of false key e = absurd (cc)

-- a word that is stored, by what it held
put_same : (b : Bool) (word : PlainWord) (value : ℕ → ℕ) (one other : ℕ) → (list_any (stores word) (cond b [] (Put word (value one) ∷ [])) ≡ true → other ≡ one) → cond b [] (Put word (value other) ∷ []) ≡ cond b [] (Put word (value one) ∷ [])
put_same true word value one other h = refl
put_same false word value one other h = ap (λ held. Put word (value held) ∷ []) (h (or_left (stores word (Put word (value one))) false (own_word word)))

-- The frames.

held_one : (view other : View) (place : Place) → All (Holds view other) (place ∷ []) → Holds view other place
held_one view other place all = All-head (Holds view other) place [] all

dist_same : (shape : GuestShape) (view other : View) (ref : DistRef) (write : Option ℕ) → Agrees view other (dist_events shape view ref write) (cond (is_none write) (dist_places ref) [])
    → (dist_events shape other ref write ≡ dist_events shape view ref write) × (read_answer write (dist_value shape other ref) ≡ read_answer write (dist_value shape view ref))
dist_same shape view other (DistBits kind first count) None agrees = (refl, ap Some (parts_same shape view other Dist kind first count None agrees.irqs))
dist_same shape view other (DistBits kind first count) (Some value) agrees = (refl, refl)
dist_same shape view other (DistPlain (Router id) half) None agrees = (refl, ap (λ held. Some (half_read half held)) (router_same shape view other id _ (own_key (Spi id)) agrees.irqs))
dist_same shape view other (DistPlain (Router id) half) (Some value) agrees =
    (ap (λ held. of_spi shape id (λ key. Touch key (Register Routing (half_written half held value)))) (router_same shape view other id _ (own_key (Spi id)) agrees.irqs), refl)
dist_same shape view other (DistPlain DistCtlr half) None agrees = let held = held_one view other Ctlr agrees.held in (refl, ap₂ (λ enables spreads. Some (half_read half (dist_ctlr_of enables spreads))) held.0 held.1)
dist_same shape view other (DistPlain reg half) None agrees = (refl, refl)
dist_same shape view other (DistPlain reg half) (Some value) agrees = (refl, refl)
dist_same shape view other DistReserved None agrees = (refl, refl)
dist_same shape view other DistReserved (Some value) agrees = (refl, refl)

lpis_same : (view other : View) (vcpu : ℕ) (b : Bool) → All (Holds view other) (cond b (Lpis vcpu ∷ []) []) → bit_of (b && other.lpis vcpu) ≡ bit_of (b && view.lpis vcpu)
lpis_same view other vcpu true all = ap bit_of (held_one view other (Lpis vcpu) all)
lpis_same view other vcpu false all = refl

redist_same : (shape : GuestShape) (view other : View) (vcpu : ℕ) (ref : RedistRef) (write : Option ℕ) → sets_lpis shape ref write ≡ false → Agrees view other (redist_events shape view vcpu ref write) (redist_places shape view vcpu ref write)
    → (redist_events shape other vcpu ref write ≡ redist_events shape view vcpu ref write) × (redist_places shape other vcpu ref write ≡ redist_places shape view vcpu ref write)
    × (read_answer write (redist_value shape other vcpu ref) ≡ read_answer write (redist_value shape view vcpu ref))
redist_same shape view other vcpu (RedistBits kind first count) None h agrees = (refl, refl, ap Some (parts_same shape view other (Redist vcpu) kind first count None agrees.irqs))
redist_same shape view other vcpu (RedistBits kind first count) (Some value) h agrees = (refl, refl, refl)
redist_same shape view other vcpu (RedistPlain RedistCtlr half) None h agrees = (refl, refl, ap (λ held. Some (half_read half held)) (lpis_same view other vcpu (has_lpis shape) agrees.held))
redist_same shape view other vcpu (RedistPlain PropbaserReg half) None h agrees = (refl, refl, ap (λ held. Some (half_read half held)) (held_one view other (Word (Propbaser vcpu)) agrees.held))
redist_same shape view other vcpu (RedistPlain PendbaserReg half) None h agrees = (refl, refl, ap (λ held. Some (half_read half (pendbaser_read held))) (held_one view other (Word (Pendbaser vcpu)) agrees.held))
redist_same shape view other vcpu (RedistPlain reg half) None h agrees = (refl, refl, refl)
redist_same shape view other vcpu (RedistPlain RedistCtlr half) (Some value) h agrees = (
  ap (λ b. cond b (enable_events shape other vcpu) []) h ∙ sym (ap (λ b. cond b (enable_events shape view vcpu) []) h),
  ap (λ b. cond b (cond (other.lpis vcpu) [] (table_places shape other vcpu)) []) h ∙ sym (ap (λ b. cond b (cond (view.lpis vcpu) [] (table_places shape view vcpu)) []) h),
  refl,
)
redist_same shape view other vcpu (RedistPlain PropbaserReg half) (Some value) h agrees =
    let stored : ℕ → ℕ = λ held. propbaser_bits (half_written half held value) in (
      ap (λ b. cond b [] (Put (Propbaser vcpu) (stored (other.words (Propbaser vcpu))) ∷ [])) (held_one view other (Lpis vcpu) agrees.held)
          ∙ put_same (view.lpis vcpu) (Propbaser vcpu) stored (view.words (Propbaser vcpu)) (other.words (Propbaser vcpu)) (agrees.words (Propbaser vcpu)),
      refl,
      refl,
    )
redist_same shape view other vcpu (RedistPlain PendbaserReg half) (Some value) h agrees =
    let stored : ℕ → ℕ = λ held. pendbaser_bits (half_written half held value) in (
      ap (λ b. cond b [] (Put (Pendbaser vcpu) (stored (other.words (Pendbaser vcpu))) ∷ [])) (held_one view other (Lpis vcpu) agrees.held)
          ∙ put_same (view.lpis vcpu) (Pendbaser vcpu) stored (view.words (Pendbaser vcpu)) (other.words (Pendbaser vcpu)) (agrees.words (Pendbaser vcpu)),
      refl,
      refl,
    )
redist_same shape view other vcpu (RedistPlain reg half) (Some value) h agrees = (refl, refl, refl)
redist_same shape view other vcpu RedistReserved None h agrees = (refl, refl, refl)
redist_same shape view other vcpu RedistReserved (Some value) h agrees = (refl, refl, refl)

its_held_same : (shape : GuestShape) (view other : View) (reg : ItsReg) → All (Holds view other) (its_read_places reg) → its_held shape other reg ≡ its_held shape view reg
its_held_same shape view other ItsCtlrReg all = ap (λ held. its_ctlr_of (has_bit held 0)) (held_one view other (Word ItsCtlr) all)
its_held_same shape view other CbaserReg all = held_one view other (Word Cbaser) all
its_held_same shape view other CwriterReg all = held_one view other (Word Cwriter) all
its_held_same shape view other Creadr all = let held = held_one view other QueuePlace all in ap₂ (λ offset stalled. creadr_of stalled offset) held.0 held.1
its_held_same shape view other Baser0Reg all = ap (λ held. its_held shape (record view { words = λ word. held }) Baser0Reg) (held_one view other (Word Baser0) all)
its_held_same shape view other Baser1Reg all = ap (λ held. its_held shape (record view { words = λ word. held }) Baser1Reg) (held_one view other (Word Baser1) all)
its_held_same shape view other reg all = refl

its_answer : (shape : GuestShape) (view other : View) (reg : ItsReg) (read : ℕ → ℕ) (b : Bool) → All (Holds view other) (cond b (its_read_places reg) []) → cond b (read (its_held shape other reg)) 0 ≡ cond b (read (its_held shape view reg)) 0
its_answer shape view other reg read true all = ap read (its_held_same shape view other reg all)
its_answer shape view other reg read false all = refl

-- an access of the ITS that does not take it makes no event
none_taken : (b : Bool) (events : List Event) → (b && true) ≡ false → cond b events [] ≡ []
none_taken true events h = absurd (cc)
none_taken false events h = refl

none_either : (b : Bool) → cond {A = List Event} b [] [] ≡ []
none_either true = refl
none_either false = refl

pub its_none : (shape : GuestShape) (view : View) (ref : ItsRef) (write : Option ℕ) → takes_turn shape ref write ≡ false → its_events shape view ref write ≡ []
its_none shape view (ItsPlain reg half) None h = refl
its_none shape view (ItsPlain ItsCtlrReg half) (Some value) h = none_taken (has_lpis shape) _ h
its_none shape view (ItsPlain CbaserReg half) (Some value) h = none_taken (has_lpis shape) _ h
its_none shape view (ItsPlain CwriterReg half) (Some value) h = none_taken (has_lpis shape) _ h
its_none shape view (ItsPlain Baser0Reg half) (Some value) h = none_taken (has_lpis shape) _ h
its_none shape view (ItsPlain Baser1Reg half) (Some value) h = none_taken (has_lpis shape) _ h
its_none shape view (ItsPlain reg half) (Some value) h = none_either (has_lpis shape)
its_none shape view ItsReserved write h = refl

-- and a write that does not take it reads no place
none_read : (b : Bool) (places : List Place) → (b && true) ≡ false → cond b places [] ≡ []
none_read true places h = absurd (cc)
none_read false places h = refl

none_there : (b : Bool) → cond {A = List Place} b [] [] ≡ []
none_there true = refl
none_there false = refl

pub its_reads_none : (shape : GuestShape) (ref : ItsRef) (value : ℕ) → takes_turn shape ref (Some value) ≡ false → its_places shape ref (Some value) ≡ []
its_reads_none shape (ItsPlain ItsCtlrReg half) value h = none_read (has_lpis shape) _ h
its_reads_none shape (ItsPlain CbaserReg half) value h = none_read (has_lpis shape) _ h
its_reads_none shape (ItsPlain CwriterReg half) value h = none_read (has_lpis shape) _ h
its_reads_none shape (ItsPlain Baser0Reg half) value h = none_read (has_lpis shape) _ h
its_reads_none shape (ItsPlain Baser1Reg half) value h = none_read (has_lpis shape) _ h
its_reads_none shape (ItsPlain reg half) value h = none_there (has_lpis shape)
its_reads_none shape ItsReserved value h = refl

its_answers : (shape : GuestShape) (view other : View) (ref : ItsRef) (write : Option ℕ) → All (Holds view other) (its_places shape ref write) → read_answer write (its_value shape other ref) ≡ read_answer write (its_value shape view ref)
its_answers shape view other (ItsPlain reg half) None all = ap Some (its_answer shape view other reg (half_read half) (has_lpis shape) all)
its_answers shape view other (ItsPlain reg half) (Some value) all = refl
its_answers shape view other ItsReserved None all = refl
its_answers shape view other ItsReserved (Some value) all = refl

word_read : (view other : View) (o : Option MemoryPart) → All (Holds view other) (option_map_or (λ part. Word (Ram part.index) ∷ []) o []) → option_map_or (λ part. extracted (other.words (Ram part.index)) part) o 0 ≡ option_map_or (λ part. extracted (view.words (Ram part.index)) part) o 0
word_read view other None all = refl
word_read view other (Some part) all = ap (λ held. extracted held part) (held_one view other (Word (Ram part.index)) all)

word_written : (view other : View) (value : ℕ) (o : Option MemoryPart)
    → ((word : PlainWord) → list_any (stores word) (option_map_or (λ part. Put (Ram part.index) (inserted (view.words (Ram part.index)) part value) ∷ []) o []) ≡ true → other.words word ≡ view.words word)
    → option_map_or (λ part. Put (Ram part.index) (inserted (other.words (Ram part.index)) part value) ∷ []) o [] ≡ option_map_or (λ part. Put (Ram part.index) (inserted (view.words (Ram part.index)) part value) ∷ []) o []
word_written view other value None agree = refl
word_written view other value (Some part) agree =
    put_same false (Ram part.index) (λ held. inserted held part value) (view.words (Ram part.index)) (other.words (Ram part.index)) (agree (Ram part.index))

-- Any such call.

pub not_from : (b : Bool) → not b ≡ true → b ≡ false
not_from true h = absurd (cc)
not_from false h = refl

pub record AreAlike (shape : GuestShape) (actor : ℕ) (view other : View) (operation : Operation) : Type 0 where
  pub events : events_by shape actor other operation ≡ events_by shape actor view operation
  pub places : places_by shape other operation ≡ places_by shape view operation
  pub answers : (piece : List Happened) (answer : Option ℕ) → Answers shape actor view operation piece answer → Answers shape actor other operation piece answer

pub alike : (shape : GuestShape) (actor : ℕ) (view other : View) (operation : Operation) → is_plain shape operation ≡ true → Agrees view other (events_by shape actor view operation) (places_by shape view operation) → AreAlike shape actor view other operation
alike shape actor view other (Access (Icc reg write)) h agrees = record { events = refl; places = refl; answers = λ piece answer is. is }
alike shape actor view other (Access (Mem Dist offset size write)) h agrees =
    let same = dist_same shape view other (dist_decoded offset size) write agrees in
    record { events = same.0; places = refl; answers = λ piece answer is. is ∙ sym same.1 }
alike shape actor view other (Access (Mem (Redist vcpu) offset size write)) h agrees =
    let same = redist_same shape view other vcpu (redist_decoded offset size) write (not_from (sets_lpis shape (redist_decoded offset size) write) h) agrees in
    record { events = same.0; places = same.1; answers = λ piece answer is. is ∙ sym same.2 }
alike shape actor view other (Access (Mem Its offset size write)) h agrees =
    let plain = not_from (takes_turn shape (its_decoded offset size) write) h in
    record {
      events = its_none shape other (its_decoded offset size) write plain ∙ sym (its_none shape view (its_decoded offset size) write plain);
      places = refl;
      answers = λ piece answer is. is ∙ sym (its_answers shape view other (its_decoded offset size) write agrees.held);
    }
alike shape actor view other (Access (Mem Memory offset size None)) h agrees =
    record { events = refl; places = refl; answers = λ piece answer is. is ∙ sym (ap Some (word_read view other (part_of offset size shape.ram) agrees.held)) }
alike shape actor view other (Access (Mem Memory offset size (Some value))) h agrees =
    record { events = word_written view other value (part_of offset size shape.ram) agrees.words; places = refl; answers = λ piece answer is. is }
alike shape actor view other (Device (Message spi)) h agrees = record { events = refl; places = refl; answers = λ piece answer is. is }
alike shape actor view other (Device (Wire key up)) h agrees = record { events = refl; places = refl; answers = λ piece answer is. is }
alike shape actor view other (Device (Msi device event)) h agrees = absurd (cc)
alike shape actor view other Residence h agrees = record { events = refl; places = refl; answers = λ piece answer is. is }

-- an access of the ITS that does not take it
pub its_makes_none : (shape : GuestShape) (view : View) (frame : Frame) (offset size : ℕ) (write : Option ℕ) → frame ≡ Its → is_plain shape (Access (Mem frame offset size write)) ≡ true → access_events shape view frame offset size write ≡ []
its_makes_none shape view frame offset size write e h =
    ap (λ f. access_events shape view f offset size write) e
    ∙ its_none shape view (its_decoded offset size) write (not_from (takes_turn shape (its_decoded offset size) write) (ap (λ f. is_plain shape (Access (Mem f offset size write))) (sym e) ∙ h))

-- Events that such calls have.

sgis_told : (value sender : ℕ) (places : List ℕ) → list_all is_told (filter_map (sgi_at value sender) places) ≡ true
sgis_told value sender [] = refl
sgis_told value sender (vcpu ∷ places) = of (is_target value sender vcpu) (sgis_told value sender places)
  where
    of : (b : Bool) → list_all is_told (filter_map (sgi_at value sender) places) ≡ true → list_all is_told (cons_option (cond b (Some (Raise (Private vcpu (intid_of value)))) None) (filter_map (sgi_at value sender) places)) ≡ true
    of true h = h
    of false h = h

raises_told : (shape : GuestShape) (vcpu : ℕ) (reg : IccReg) (write : Option ℕ) → list_all is_told (icc_raises shape vcpu reg write) ≡ true
raises_told shape vcpu Sgi1r (Some value) = sgis_told value vcpu (range_with_len 0 shape.vcpus)
raises_told shape vcpu reg write = refl

parts_told : (shape : GuestShape) (frame : Frame) (kind : Kind) (first : ℕ) (write : Option ℕ) (numbers : List ℕ) → list_all is_told (filter_map (part_event shape frame kind first write) numbers) ≡ true
parts_told shape frame kind first write [] = refl
parts_told shape frame kind first write (number ∷ numbers) = of (part_key shape frame kind (first + number)) (parts_told shape frame kind first write numbers)
  where
    of : (o : Option Key) → list_all is_told (filter_map (part_event shape frame kind first write) numbers) ≡ true
        → list_all is_told (cons_option (option_map (λ (key : Key). Touch key (part_touch kind write number)) o) (filter_map (part_event shape frame kind first write) numbers)) ≡ true
    of None h = h
    of (Some key) h = h

one_told : (b : Bool) (event : Event) → is_told event ≡ true → list_all is_told (cond b (event ∷ []) []) ≡ true
one_told true event h = and_from (is_told event) true h refl
one_told false event h = refl

put_told : (b : Bool) (word : PlainWord) (value : ℕ) → list_all is_told (cond b [] (Put word value ∷ [])) ≡ true
put_told true word value = refl
put_told false word value = refl

copies_told : (shape : GuestShape) (enables : Enables) (places : List ℕ) → list_all is_told (map (copy_at shape enables) places ++ CtlrEnd ∷ []) ≡ true
copies_told shape enables [] = refl
copies_told shape enables (place ∷ places) = copies_told shape enables places

dist_told : (shape : GuestShape) (view : View) (ref : DistRef) (write : Option ℕ) → list_all is_told (dist_events shape view ref write) ≡ true
dist_told shape view (DistBits kind first count) write = parts_told shape Dist kind first write (range_with_len 0 count)
dist_told shape view (DistPlain (Router id) half) write = one_told (has_interrupt shape (Spi id)) _ refl
dist_told shape view (DistPlain DistCtlr half) (Some value) = copies_told shape (enables_in value) (range_with_len 0 (interrupt_count shape))
dist_told shape view (DistPlain SetSpi half) (Some value) = one_told (has_interrupt shape (Spi (message_intid value))) _ refl
dist_told shape view (DistPlain ClrSpi half) (Some value) = one_told (has_interrupt shape (Spi (message_intid value))) _ refl
dist_told shape view (DistPlain reg half) None = refl
dist_told shape view (DistPlain reg half) (Some value) = refl
dist_told shape view DistReserved write = refl

redist_told : (shape : GuestShape) (view : View) (vcpu : ℕ) (ref : RedistRef) (write : Option ℕ) → sets_lpis shape ref write ≡ false → list_all is_told (redist_events shape view vcpu ref write) ≡ true
redist_told shape view vcpu (RedistBits kind first count) write h = parts_told shape (Redist vcpu) kind first write (range_with_len 0 count)
redist_told shape view vcpu (RedistPlain RedistCtlr half) (Some value) h = ap (λ b. list_all is_told (cond b (enable_events shape view vcpu) [])) h
redist_told shape view vcpu (RedistPlain PropbaserReg half) (Some value) h = put_told (view.lpis vcpu) _ _
redist_told shape view vcpu (RedistPlain PendbaserReg half) (Some value) h = put_told (view.lpis vcpu) _ _
redist_told shape view vcpu (RedistPlain reg half) (Some value) h = refl
redist_told shape view vcpu (RedistPlain reg half) None h = refl
redist_told shape view vcpu RedistReserved write h = refl

memory_told : (view : View) (value : ℕ) (o : Option MemoryPart) → list_all is_told (option_map_or (λ part. Put (Ram part.index) (inserted (view.words (Ram part.index)) part value) ∷ []) o []) ≡ true
memory_told view value None = refl
memory_told view value (Some part) = refl

pub events_told : (shape : GuestShape) (actor : ℕ) (view : View) (operation : Operation) → is_plain shape operation ≡ true → list_all is_told (events_by shape actor view operation) ≡ true
events_told shape actor view (Access (Icc reg write)) h = raises_told shape actor reg write
events_told shape actor view (Access (Mem Dist offset size write)) h = dist_told shape view (dist_decoded offset size) write
events_told shape actor view (Access (Mem (Redist vcpu) offset size write)) h = redist_told shape view vcpu (redist_decoded offset size) write (not_from (sets_lpis shape (redist_decoded offset size) write) h)
events_told shape actor view (Access (Mem Its offset size write)) h = ap (list_all is_told) (its_none shape view (its_decoded offset size) write (not_from (takes_turn shape (its_decoded offset size) write) h))
events_told shape actor view (Access (Mem Memory offset size None)) h = refl
events_told shape actor view (Access (Mem Memory offset size (Some value))) h = memory_told view value (part_of offset size shape.ram)
events_told shape actor view (Device (Message spi)) h = refl
events_told shape actor view (Device (Wire key true)) h = refl
events_told shape actor view (Device (Wire key false)) h = refl
events_told shape actor view (Device (Msi device event)) h = absurd (cc)
events_told shape actor view Residence h = refl

-- The first event of such a call, where a view has what that found, and EnableLPIs as 0 of every vCPU.

pub record AgreesFirst (view other : View) (first : Event) : Type 0 where
  pub irqs : (key : Key) → touches key first ≡ true → other.irqs key ≡ view.irqs key
  pub words : (word : PlainWord) → stores word first ≡ true → other.words word ≡ view.words word
  pub lpis : (vcpu : ℕ) → other.lpis vcpu ≡ false

same_first : (x y : Event) (xs ys : List Event) → x ∷ xs ≡ y ∷ ys → x ≡ y
same_first x y xs ys h = cc

router_first : (shape : GuestShape) (view other : View) (id : ℕ) (event first : Event) (later : List Event) → touches (Spi id) event ≡ true → AgreesFirst view other first → cond (has_interrupt shape (Spi id)) (event ∷ []) [] ≡ first ∷ later
    → part_at shape other Dist Routing id 0 ≡ part_at shape view Dist Routing id 0
router_first shape view other id event first later h agrees are = router_same shape view other id event h (λ key k. agrees.irqs key (of (has_interrupt shape (Spi id)) key are k))
  where
    of : (b : Bool) (key : Key) → cond b (event ∷ []) [] ≡ first ∷ later → list_any (touches key) (cond b (event ∷ []) []) ≡ true → touches key first ≡ true
    of true key e k = ap (touches key) (sym (same_first event first [] later e)) ∙ one (touches key event) k
      where
        one : (c : Bool) → (c || false) ≡ true → c ≡ true
        one true f = refl
        one false f = f
    of false key e k = absurd (cc)

put_first : (b c : Bool) (word : PlainWord) (value : ℕ → ℕ) (one other : ℕ) (first : Event) (later : List Event) → c ≡ false → (stores word first ≡ true → other ≡ one) → cond b [] (Put word (value one) ∷ []) ≡ first ∷ later → cond c [] (Put word (value other) ∷ []) ≡ cond b [] (Put word (value one) ∷ [])
put_first true c word value one other first later off h are = absurd (cc)
put_first false c word value one other first later off h are =
    ap (λ b. cond b [] (Put word (value other) ∷ [])) off ∙ ap (λ held. Put word (value held) ∷ []) (h (ap (stores word) (sym (same_first (Put word (value one)) first [] later are)) ∙ own_word word))

dist_first : (shape : GuestShape) (view other : View) (ref : DistRef) (write : Option ℕ) (first : Event) (later : List Event) → AgreesFirst view other first → dist_events shape view ref write ≡ first ∷ later → dist_events shape other ref write ≡ dist_events shape view ref write
dist_first shape view other (DistBits kind first count) write event later agrees are = refl
dist_first shape view other (DistPlain (Router id) half) None event later agrees are = refl
dist_first shape view other (DistPlain (Router id) half) (Some value) event later agrees are =
    ap (λ held. of_spi shape id (λ key. Touch key (Register Routing (half_written half held value)))) (router_first shape view other id _ event later (own_key (Spi id)) agrees are)
dist_first shape view other (DistPlain reg half) None event later agrees are = refl
dist_first shape view other (DistPlain reg half) (Some value) event later agrees are = refl
dist_first shape view other DistReserved write event later agrees are = refl

redist_first : (shape : GuestShape) (view other : View) (vcpu : ℕ) (ref : RedistRef) (write : Option ℕ) (first : Event) (later : List Event) → sets_lpis shape ref write ≡ false → AgreesFirst view other first → redist_events shape view vcpu ref write ≡ first ∷ later
    → redist_events shape other vcpu ref write ≡ redist_events shape view vcpu ref write
redist_first shape view other vcpu (RedistBits kind first count) write event later h agrees are = refl
redist_first shape view other vcpu (RedistPlain reg half) None event later h agrees are = refl
redist_first shape view other vcpu (RedistPlain RedistCtlr half) (Some value) event later h agrees are = ap (λ b. cond b (enable_events shape other vcpu) []) h ∙ sym (ap (λ b. cond b (enable_events shape view vcpu) []) h)
redist_first shape view other vcpu (RedistPlain PropbaserReg half) (Some value) event later h agrees are =
    put_first (view.lpis vcpu) (other.lpis vcpu) (Propbaser vcpu) (λ held. propbaser_bits (half_written half held value)) (view.words (Propbaser vcpu)) (other.words (Propbaser vcpu)) event later (agrees.lpis vcpu) (agrees.words (Propbaser vcpu)) are
redist_first shape view other vcpu (RedistPlain PendbaserReg half) (Some value) event later h agrees are =
    put_first (view.lpis vcpu) (other.lpis vcpu) (Pendbaser vcpu) (λ held. pendbaser_bits (half_written half held value)) (view.words (Pendbaser vcpu)) (other.words (Pendbaser vcpu)) event later (agrees.lpis vcpu) (agrees.words (Pendbaser vcpu)) are
redist_first shape view other vcpu (RedistPlain reg half) (Some value) event later h agrees are = refl
redist_first shape view other vcpu RedistReserved write event later h agrees are = refl

memory_first : (view other : View) (value : ℕ) (o : Option MemoryPart) (first : Event) (later : List Event) → AgreesFirst view other first → option_map_or (λ part. Put (Ram part.index) (inserted (view.words (Ram part.index)) part value) ∷ []) o [] ≡ first ∷ later
    → option_map_or (λ part. Put (Ram part.index) (inserted (other.words (Ram part.index)) part value) ∷ []) o [] ≡ option_map_or (λ part. Put (Ram part.index) (inserted (view.words (Ram part.index)) part value) ∷ []) o []
memory_first view other value None first later agrees are = refl
memory_first view other value (Some part) first later agrees are =
    put_first false false (Ram part.index) (λ held. inserted held part value) (view.words (Ram part.index)) (other.words (Ram part.index)) first later refl (agrees.words (Ram part.index)) are

pub alike_first : (shape : GuestShape) (actor : ℕ) (view other : View) (operation : Operation) (first : Event) (later : List Event) → is_plain shape operation ≡ true → AgreesFirst view other first → events_by shape actor view operation ≡ first ∷ later
    → events_by shape actor other operation ≡ events_by shape actor view operation
alike_first shape actor view other (Access (Icc reg write)) first later h agrees are = refl
alike_first shape actor view other (Access (Mem Dist offset size write)) first later h agrees are = dist_first shape view other (dist_decoded offset size) write first later agrees are
alike_first shape actor view other (Access (Mem (Redist vcpu) offset size write)) first later h agrees are =
    redist_first shape view other vcpu (redist_decoded offset size) write first later (not_from (sets_lpis shape (redist_decoded offset size) write) h) agrees are
alike_first shape actor view other (Access (Mem Its offset size write)) first later h agrees are =
    let plain = not_from (takes_turn shape (its_decoded offset size) write) h in its_none shape other (its_decoded offset size) write plain ∙ sym (its_none shape view (its_decoded offset size) write plain)
alike_first shape actor view other (Access (Mem Memory offset size None)) first later h agrees are = refl
alike_first shape actor view other (Access (Mem Memory offset size (Some value))) first later h agrees are = memory_first view other value (part_of offset size shape.ram) first later agrees are
alike_first shape actor view other (Device (Message spi)) first later h agrees are = refl
alike_first shape actor view other (Device (Wire key up)) first later h agrees are = refl
alike_first shape actor view other (Device (Msi device event)) first later h agrees are = absurd (cc)
alike_first shape actor view other Residence first later h agrees are = refl
