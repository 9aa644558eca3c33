-- GICD_CTLR: its write and its read.
use Rattle.its_exec.specs.Words.{has_bit, Key, GuestShape, IsShape, interrupt_count, key_at, place_of, Irq}
use Rattle.std.proofs.Common.{◌≡◌, ℕ, ◌%◌, ◌^◌, ◌==◌, ◌<◌, ◌&&◌, not, Bool, true, false, cond, IsTrue, IfSome, List, [], ◌∷◌, ◌++◌, map, All, Option, Some, is_none, is_some, refl, sym, ap, subst, ◌∙◌, arith}
use Rattle.std.specs.List.{range_with_len, filter_map, list_all}
use Rattle.std.proofs.lemmas.Bool.{and_parts}
use Rattle.std.proofs.lemmas.Grind.{common_steps}
use Rattle.std.proofs.lemmas.List.{map-append}
use Rattle.std.proofs.lemmas.List.Elements.{All-cons, All-nil, All-append, filter-append}
use Rattle.its_exec.specs.Registers.{Enables, enables_in, Whole}
use Rattle.its_exec.specs.GicDmap.Contents.{ctlr_of as dist_ctlr_of}
use Rattle.its_exec.specs.GicDmap.declared.map.Reg.TheVariants.{Ctlr as DistCtlr}
use Rattle.its_exec.specs.Calls.{Event, CtlrBegin, CtlrEnd as CtlrEndEvent, Record, copy_at, ctlr_events, Happened, HandsOut, IsLastRead, is_beside, named_of, held_at, View}
use Rattle.its_exec.specs.GicCall.declared.event.Event.TheVariants.{Read}
use Rattle.its_exec.specs.GicCall.declared.event.Found.TheVariants.{Nothing}
use Rattle.its_exec.specs.GicCall.declared.event.Place.TheVariants.{Ctlr as CtlrPlace}
use Rattle.its_exec.specs.Core.{Local, Made, Look, CtlrEnd, Ctlr, ctlr_of, owes_nothing, Seen, AddsStep, shape_of, made_by, part_events}
use Rattle.its_exec.proofs.PortCore.PortLemmas.{adds_join}
use Rattle.its_exec.specs.PortCall.Rest.{IsAtEase}
use Rattle.its_exec.proofs.PortCall.PieceLemmas.{piece_one}
use Rattle.its_exec.proofs.PortCall.SettleLemmas.{handed_none}
use Rattle.its_exec.proofs.PortCall.TryLemmas.{none_append}
use Rattle.its_exec.proofs.PortCall.TurnLemmas.{events_then}
use Rattle.pe_mem.specs.Call.{NamesAll, is_key_of}
use Rattle.pe_mem.specs.Ctlr.{is_ctlr_read, is_ctlr_read_event, TakesMark, CopiesEnables}
use Rattle.pe_mem.specs.Dist.{ReadsDist, WritesDist}
use Rattle.pe_mem.specs.Each.{touched_at, TouchesEach}
use Rattle.pe_mem.proofs.EachLemmas.{all_below, all_named, events_of_touched, key_early, own_joins, own_of_piece}
use Rattle.pe_mem.proofs.ServeLemmas.{nothing_known, names_all_by, serves_read}

and_true : (a : Bool) → IsTrue a → IsTrue (a && true)
and_true true h = refl
and_true false h = absurd (cc)

-- The read.

-- the guest with what a look at GICD_CTLR found
pub ctlr_view : Seen → ℕ → View
ctlr_view seen word = record (nothing_known seen) { enables = (ctlr_of word).enables; is_spreading = is_some (ctlr_of word).mark }

pub reads_ctlr : (old new : Seen) (found value : ℕ) → IsAtEase old.local → AddsStep old new (Look Ctlr) found → value ≡ dist_ctlr_of (ctlr_of found).enables (is_some (ctlr_of found).mark) → ReadsDist old new DistCtlr value
unfolding ctlr_view serves_read
reads_ctlr old new found value ease add is =
    let made = made_by old (Look Ctlr) found add.tables in
    record {
      serves =
          serves_read old new (ctlr_view old found) CtlrPlace (made ∷ []) (λ view. []) (λ view. CtlrPlace ∷ []) (λ view. []) ease add.adds (ap (λ seen. seen.local) add.adds.new_is)
          (and_true (is_none add.tables) (handed_none (Look Ctlr) found old add.tables refl add.handed)) refl (piece_one old made refl refl) refl refl;
      value_is = is;
    }

-- The write.

reads_beside : (actor : Option ℕ) (reads : List Happened) → IsTrue (list_all is_ctlr_read reads) → named_of actor reads ≡ []
reads_beside actor [] h = refl
reads_beside actor (happened ∷ reads) h =
    let parts = and_parts (is_ctlr_read happened) (list_all is_ctlr_read reads) h in
    ap (λ b. cond (not b) (happened ∷ named_of actor reads) (named_of actor reads)) (of happened.event parts.0) ∙ reads_beside actor reads parts.1
  where
    of : (event : Event) → IsTrue (is_ctlr_read_event event) → is_beside actor event ≡ true
    of (Read place) h = refl
    of _ h = absurd (cc)

-- the interrupt at a place has that place
place_at : (shape : GuestShape) (place : ℕ) → IsShape shape → place < interrupt_count shape → place_of shape (key_at shape place) ≡ place
place_at shape place is h = grind (arith, common_steps)

-- one for each number
map_is : (f : ℕ → Event) (numbers : List ℕ) → filter_map (λ n. Some (f n)) numbers ≡ map f numbers
map_is f [] = refl
map_is f (n ∷ numbers) = ap (λ rest. f n ∷ rest) (map_is f numbers)

-- an actor with the mark is at ease as before
pub ease_marked : (old new : Local) → new ≡ record old { ctlr = true } → IsAtEase old → IsAtEase new
ease_marked old new e ease = record { owes = ap owes_nothing e ∙ ease.owes; empty = ap (λ l. l.at) e ∙ ease.empty }

-- the guest with these records, by the places of the interrupts
pub places_view : Seen → (ℕ → Irq) → View
places_view seen irqs = record (nothing_known seen) { irqs = λ key. irqs (place_of (shape_of seen) key) }

pub writes_ctlr :
    (old a b new : Seen) (value found : ℕ) (enables : Enables) → IsShape (shape_of old) → old.local.ctlr ≡ false → enables ≡ enables_in value → TakesMark old a enables → CopiesEnables a b enables → AddsStep b new CtlrEnd found
    → WritesDist old new DistCtlr Whole value
unfolding places_view
writes_ctlr old a b new value found enables shaped free is takes copies ends =
    record {
      view = view;
      part = takes.part ++ (each.part ++ last);
      adds = adds_join old a new takes.part (each.part ++ last) takes.adds (adds_join a b new each.part last each.adds ends.adds);
      made = record { events_are = events_are; found = subst (All Hands) (sym named) hands; reads = All-nil (λ place. IsLastRead place (held_at view place) (part_events old (takes.part ++ (each.part ++ last)))) };
      stays = record {
        same = ap (λ (l : Local). record l { marks = old.local.marks }) end_local ∙ ap back each.stays.same ∙ ap back takes.local_is ∙ ap (λ (b : Bool). record old.local { ctlr = b }) (sym free);
        marks = ap (λ (l : Local). l.marks.vcpus) end_local ∙ each.stays.marks;
      };
      none_taken =
          none_append takes.part (each.part ++ last) takes.none_taken
          (none_append each.part last each.none_taken (and_true (is_none ends.tables) (handed_none CtlrEnd found b ends.tables refl ends.handed)));
      piece = λ operation by.
          let all = names_all_by shape old.actor operation (λ view. ctlr_events shape (enables_in value)) copied by covers in
          let Names : Seen → Type 0 = λ seen. NamesAll (shape_of seen) seen.actor operation (filter_map (λ place. Some (copy_at (shape_of seen) enables place)) (range_with_len 0 (interrupt_count (shape_of seen)))) in
          let here : NamesAll (shape_of a) a.actor operation (filter_map (λ place. Some (copy_at (shape_of a) enables place)) (range_with_len 0 (interrupt_count (shape_of a)))) = subst Names (sym takes.adds.new_is) all in
          own_joins old a operation takes.part (each.part ++ last) takes.adds (own_of_piece old operation takes.part takes.piece)
          (own_joins a b operation each.part last each.adds (each.piece operation here) (own_of_piece b operation last (piece_one b end refl refl)));
    }
  where
    shape : GuestShape
    shape = shape_of old

    each : TouchesEach a b (λ place. Some (copy_at (shape_of a) enables place)) (interrupt_count (shape_of a)) copies.irqs
    each = copies.touches

    end : Made
    end = made_by b CtlrEnd found ends.tables

    last : List Made
    last = end ∷ []

    at : ℕ → Option Event
    at place = Some (copy_at shape enables place)

    count : ℕ
    count = interrupt_count shape

    copied : List Event
    copied = filter_map at (range_with_len 0 count)

    touched : List Happened
    touched = filter_map (touched_at at copies.irqs) (range_with_len 0 count)

    view : View
    view = places_view old copies.irqs

    begin : Happened
    begin = record { event = CtlrBegin enables; found = Nothing }

    over : Happened
    over = record { event = CtlrEndEvent; found = Nothing }

    Hands : Happened → Type 0
    Hands h = HandsOut view h.event h.found

    back : Local → Local
    back l = record l { ctlr = false; marks = old.local.marks }

    end_local : new.local ≡ record b.local { ctlr = false }
    end_local = ap (λ seen. seen.local) ends.adds.new_is

    each_events : part_events a each.part ≡ touched
    each_events =
        each.events ∙ ap (λ shape. filter_map (touched_at (λ place. Some (copy_at shape enables place)) copies.irqs) (range_with_len 0 (interrupt_count shape))) (ap shape_of takes.adds.new_is)

    events : part_events old (takes.part ++ (each.part ++ last)) ≡ (takes.reads ++ begin ∷ []) ++ (touched ++ over ∷ [])
    events =
        events_then old a takes.part (each.part ++ last) takes.adds
        ∙ ap (λ early. early ++ part_events a (each.part ++ last)) takes.events
        ∙ ap (λ late. (takes.reads ++ begin ∷ []) ++ late) (events_then a b each.part last each.adds ∙ ap (λ early. early ++ over ∷ []) each_events)

    is_named : (m : ℕ) → m < count → IfSome {T = Happened} (touched_at at copies.irqs m) (λ h. is_beside (Some old.actor) h.event ≡ false)
    is_named m h = refl

    named : named_of (Some old.actor) (part_events old (takes.part ++ (each.part ++ last))) ≡ begin ∷ (touched ++ over ∷ [])
    named =
        ap (named_of (Some old.actor)) events
        ∙ filter-append (λ h. not (is_beside (Some old.actor) h.event)) (takes.reads ++ begin ∷ []) (touched ++ over ∷ [])
        ∙ ap (λ early. early ++ named_of (Some old.actor) (touched ++ over ∷ []))
        (filter-append (λ h. not (is_beside (Some old.actor) h.event)) takes.reads (begin ∷ []) ∙ ap (λ reads. reads ++ begin ∷ []) (reads_beside (Some old.actor) takes.reads takes.are_reads))
        ∙ ap (λ late. begin ∷ late)
        (filter-append (λ h. not (is_beside (Some old.actor) h.event)) touched (over ∷ [])
        ∙ ap (λ early. early ++ over ∷ []) (all_named (Some old.actor) touched (all_below (λ h. is_beside (Some old.actor) h.event ≡ false) (touched_at at copies.irqs) count is_named)))

    events_are : map (λ h. h.event) (named_of (Some old.actor) (part_events old (takes.part ++ (each.part ++ last)))) ≡ ctlr_events shape (enables_in value)
    events_are =
        ap (map (λ h. h.event)) named
        ∙ ap (λ rest. CtlrBegin enables ∷ rest)
        (map-append (λ h. h.event) touched (over ∷ []) ∙ ap (λ early. early ++ CtlrEndEvent ∷ []) (events_of_touched at copies.irqs (range_with_len 0 count) ∙ map_is (copy_at shape enables) (range_with_len 0 count)))
        ∙ ap (ctlr_events shape) is

    hands : All Hands (begin ∷ (touched ++ over ∷ []))
    hands =
        All-cons Hands begin (touched ++ over ∷ []) refl
        (All-append Hands touched (over ∷ []) (all_below Hands (touched_at at copies.irqs) count (λ m h. ap (λ n. Record (copies.irqs n)) (sym (place_at shape m shaped h)))) (All-cons Hands over [] refl (All-nil Hands)))

    covers : (view : View) (key : Key) → is_key_of copied key → is_key_of (ctlr_events shape (enables_in value)) key
    covers view key h =
        let By : List Event → Type 0 = λ events. is_key_of events key in
        let Of : Enables → Type 0 = λ enables. is_key_of (ctlr_events shape enables) key in
        subst Of is (key_early (map (copy_at shape enables) (range_with_len 0 count)) (CtlrEndEvent ∷ []) key (subst By (map_is (copy_at shape enables) (range_with_len 0 count)) h))

-- the enables are in the low half
pub low_enables : (value : ℕ) → enables_in (value % 2 ^ 32) ≡ enables_in value
low_enables value =
    let make : Bool → Bool → Enables = λ one two. record { group0 = one; group1 = two } in
    let one : has_bit (value % 2 ^ 32) 0 ≡ has_bit value 0 = ap (λ n. n == 1) (omega arith) in
    let two : has_bit (value % 2 ^ 32) 1 ≡ has_bit value 1 = ap (λ n. n == 1) (omega arith) in
    ap (λ b. make b (has_bit (value % 2 ^ 32) 1)) one ∙ ap (make (has_bit value 0)) two
