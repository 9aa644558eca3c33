-- Pieces of a memory-mapped access, with their events.
use Rattle.std.proofs.Common.{◌≡◌, ℕ, ◌+◌, ◌-◌, ◌<◌, not, Bool, false, cond, IsTrue, IfSome, List, [], ◌∷◌, ◌++◌, map, All, Option, Some, None, option_map, refl, sym, ap, subst, ◌∙◌, arith}
use Rattle.std.specs.List.{range_with_len, filter_map}
use Rattle.std.specs.Option.{option_map_or}
use Rattle.std.proofs.lemmas.List.Elements.{All-cons, All-nil}
use Rattle.its_exec.specs.Words.{Key, Frame, Kind, GuestShape, intid_of, Irq, irq_of}
use Rattle.its_exec.specs.Registers.{part_read}
use Rattle.its_exec.specs.Calls.{Event, Touch, Record, Operation, Place, Touching, part_key, part_touch, part_event, part_events as parts_events, part_at as part_read_at, part_value, Happened, Makes, HandsOut, IsLastRead, is_beside, named_of, held_at, read_answer, View}
use Rattle.its_exec.specs.GicCall.declared.event.Event.TheVariants.{Read, Raise as RaiseEvent}
use Rattle.its_exec.specs.GicCall.declared.event.Found.TheVariants.{Nothing}
use Rattle.its_exec.specs.Core.{Made, Raise, concerned, known_view, Seen, Adds, shape_of, part_events}
use Rattle.its_exec.specs.PortCall.Piece.{IsPiece, takes_none}
use Rattle.its_exec.specs.PortCall.Rest.{IsAtEase, StaysAtEase}
use Rattle.its_exec.specs.PortCall.Tell.{Tells}
use Rattle.its_exec.specs.PortCall.Touch.{Touches}
use Rattle.its_exec.proofs.PortCall.PieceLemmas.{seen_nil, piece_nil}
use Rattle.its_exec.proofs.PortCall.RestLemmas.{told_at_ease}
use Rattle.pe_mem.specs.Call.{NamesAll, NamesBy, Serves, ServesFreely, is_key_of}
use Rattle.pe_mem.specs.Each.{number_answer, AccessesParts, TouchesEach}
use Rattle.pe_mem.specs.Part.{part_answer}
use Rattle.pe_mem.proofs.EachLemmas.{IsTouchOf, each_made, joined_below, own_nil, own_of_piece, own_of_named, stays_self, found_irq}
use Rattle.pe_mem.proofs.PartsLemmas.{part_intid}

-- a view in which nothing is known
unfoldable pub nothing_known : Seen → View
nothing_known seen = known_view (shape_of seen) seen.actor []

-- a call that names some events' interrupts names those of fewer
pub names_all_by : (shape : GuestShape) (actor : ℕ) (operation : Operation) (named : View → List Event) (events : List Event) → NamesBy shape actor operation named → ((view : View) (key : Key) → is_key_of events key → is_key_of (named view) key)
    → NamesAll shape actor operation events
names_all_by shape actor operation named events by covers =
    record { commands = by.commands; ends_none = by.ends_none; names_each = λ view key h. subst (λ events. is_key_of events key) (sym (by.named_are view)) (covers view key h) }

-- No event.

pub none_made : (actor : Option ℕ) (view : View) → Makes actor view [] [] [] []
none_made actor view = record { events_are = refl; found = All-nil (λ h. HandsOut view h.event h.found); reads = All-nil (λ place. IsLastRead place (held_at view place) []) }

unfoldable pub serves_nothing : (seen : Seen) (events : View → List Event) (places : View → List Place) (named : View → List Event) → IsAtEase seen.local → ((view : View) → events view ≡ []) → ((view : View) → places view ≡ []) → Serves seen seen events places named
unfolding nothing_known
serves_nothing seen events places named ease no_events no_places =
    let view = nothing_known seen in
    let ByEvents : List Event → Type 0 = λ events. Makes (Some seen.actor) view events (places view) [] [] in
    let ByPlaces : List Place → Type 0 = λ places. Makes (Some seen.actor) view [] places [] [] in
    record {
      view = view;
      part = [];
      adds = record { new_is = sym (seen_nil seen) };
      made = subst ByEvents (sym (no_events view)) (subst ByPlaces (sym (no_places view)) (none_made (Some seen.actor) view));
      stays = stays_self seen.local ease;
      none_taken = refl;
      piece = λ operation by. own_nil seen operation;
    }

-- One event.

pub one_made : (actor : Option ℕ) (view : View) (happened : Happened) → is_beside actor happened.event ≡ false → HandsOut view happened.event happened.found → Makes actor view (happened.event ∷ []) [] [] (happened ∷ [])
one_made actor view happened named hands =
    let Hands : Happened → Type 0 = λ h. HandsOut view h.event h.found in
    let keep : Bool → List Happened = λ b. cond (not b) (happened ∷ []) [] in
    let only : named_of actor (happened ∷ []) ≡ happened ∷ [] = ap keep named in
    record {
      events_are = ap (map (λ h. h.event)) only;
      found = subst (All Hands) (sym only) (All-cons Hands happened [] hands (All-nil Hands));
      reads = All-nil (λ place. IsLastRead place (held_at view place) (happened ∷ []));
    }

-- a touch of an interrupt that the call names
unfoldable pub touched_view : Seen → ℕ → View
touched_view seen found = record (nothing_known seen) { irqs = λ key. found_irq found }

unfoldable pub serves_touch : (old new : Seen) (key : Key) (touching : Touching) (found : ℕ) (events named : View → List Event) → events (touched_view old found) ≡ Touch key touching ∷ [] → ((view : View) → is_key_of (named view) key) → Touches old new key touching found
    → Serves old new events (λ view. []) named
unfolding touched_view
serves_touch old new key touching found events named is names_it made =
    let part = made.misses ++ made.touch ∷ made.sent in
    let view = touched_view old found in
    let happened : Happened = record { event = Touch key touching; found = Record (found_irq found) } in
    let By : List Event → Type 0 = λ events. Makes (Some old.actor) view events [] [] (part_events old part) in
    let Of : List Happened → Type 0 = λ piece. Makes (Some old.actor) view (Touch key touching ∷ []) [] [] piece in
    record {
      view = view;
      part = part;
      adds = made.adds;
      made = subst By (sym is) (subst Of (sym made.events) (one_made (Some old.actor) view happened refl refl));
      stays = made.local_is;
      none_taken = made.none_taken;
      piece = λ operation by. own_of_named old operation key part by.commands by.ends_none (λ view. subst (λ events. is_key_of events key) (sym (by.named_are view)) (names_it view)) made.piece;
    }

-- a raise
unfoldable pub serves_raise : (old new : Seen) (key : Key) (events named : View → List Event) → IsAtEase old.local → ((view : View) → events view ≡ RaiseEvent key ∷ []) → Tells old new (Raise key) key (RaiseEvent key) → Serves old new events (λ view. []) named
unfolding nothing_known
serves_raise old new key events named ease is tells =
    let view = nothing_known old in
    let happened : Happened = record { event = RaiseEvent key; found = Nothing } in
    let By : List Event → Type 0 = λ events. Makes (Some old.actor) view events [] [] (part_events old tells.part) in
    let Of : List Happened → Type 0 = λ piece. Makes (Some old.actor) view (RaiseEvent key ∷ []) [] [] piece in
    record {
      view = view;
      part = tells.part;
      adds = tells.adds;
      made = subst By (sym (is view)) (subst Of (sym tells.events) (one_made (Some old.actor) view happened refl refl));
      stays = subst (StaysAtEase old.local) (sym tells.local_is) (told_at_ease (shape_of old) old.actor key (concerned (shape_of old) (irq_of tells.form.change.found)) old.local ease.owes);
      none_taken = tells.none_taken;
      piece = λ operation by. own_of_piece old operation tells.part tells.piece;
    }

-- a read of a place
pub read_made : (actor : Option ℕ) (view : View) (place : Place) → Makes actor view [] (place ∷ []) [] (record { event = Read place; found = held_at view place } ∷ [])
read_made actor view place =
    let happened : Happened = record { event = Read place; found = held_at view place } in
    let Last : Place → Type 0 = λ place. IsLastRead place (held_at view place) (happened ∷ []) in
    let last : Last place = record { before = []; after = []; split = refl; last = All-nil (λ h. h.event ≡ Read place → ⊥) } in
    record { events_are = refl; found = All-nil (λ h. HandsOut view h.event h.found); reads = All-cons Last place [] last (All-nil Last) }

unfoldable pub serves_read : (old new : Seen) (view : View) (place : Place) (part : List Made) (events : View → List Event) (places : View → List Place) (named : View → List Event) → IsAtEase old.local → Adds old new part → new.local ≡ old.local → IsTrue (takes_none part)
    → part_events old part ≡ (record { event = Read place; found = held_at view place }) ∷ [] → IsPiece old part → events view ≡ [] → places view ≡ place ∷ [] → Serves old new events places named
serves_read old new view place part events places named ease adds same none happens piece no_events one_place =
    let ByEvents : List Event → Type 0 = λ events. Makes (Some old.actor) view events (places view) [] (part_events old part) in
    let ByPlaces : List Place → Type 0 = λ places. Makes (Some old.actor) view [] places [] (part_events old part) in
    let Of : List Happened → Type 0 = λ piece. Makes (Some old.actor) view [] (place ∷ []) [] piece in
    record {
      view = view;
      part = part;
      adds = adds;
      made = subst ByEvents (sym no_events) (subst ByPlaces (sym one_place) (subst Of (sym happens) (read_made (Some old.actor) view place)));
      stays = subst (StaysAtEase old.local) (sym same) (stays_self old.local ease);
      none_taken = none;
      piece = λ operation by. own_of_piece old operation part piece;
    }

-- Pieces that are proper in every call.

unfoldable pub serves_freely : (old new : Seen) (events : View → List Event) (places : View → List Place) (named : View → List Event) → ServesFreely old new events places → Serves old new events places named
serves_freely old new events places named made =
    record { view = made.view; part = made.part; adds = made.adds; made = made.made; stays = made.stays; none_taken = made.none_taken; piece = λ operation by. own_of_piece old operation made.part made.piece }

-- no event
unfoldable pub freely_nothing : (seen : Seen) → IsAtEase seen.local → ServesFreely seen seen (λ view. []) (λ view. [])
unfolding nothing_known
freely_nothing seen ease =
    record { view = nothing_known seen; part = []; adds = record { new_is = sym (seen_nil seen) }; made = none_made (Some seen.actor) (nothing_known seen); stays = stays_self seen.local ease; none_taken = refl; piece = piece_nil seen }

-- one read
unfoldable pub freely_read : (old new : Seen) (view : View) (place : Place) (part : List Made) → IsAtEase old.local → Adds old new part → new.local ≡ old.local → IsTrue (takes_none part) → part_events old part ≡ (record { event = Read place; found = held_at view place }) ∷ []
    → IsPiece old part → ServesFreely old new (λ view. []) (λ view. place ∷ [])
freely_read old new view place part ease adds same none happens piece =
    let Of : List Happened → Type 0 = λ piece. Makes (Some old.actor) view [] (place ∷ []) [] piece in
    record { view = view; part = part; adds = adds; made = subst Of (sym happens) (read_made (Some old.actor) view place); stays = subst (StaysAtEase old.local) (sym same) (stays_self old.local ease); none_taken = none; piece = piece }

-- Touches of numbers.

unfoldable pub serves_each :
    (old new : Seen) (view : View) (at : ℕ → Option Event) (count : ℕ) (irqs : ℕ → Irq) (events named : View → List Event) → events view ≡ filter_map at (range_with_len 0 count)
    → ((m : ℕ) → m < count → IfSome (at m) (IsTouchOf (Some old.actor) view (irqs m))) → ((view : View) (key : Key) → is_key_of (filter_map at (range_with_len 0 count)) key → is_key_of (named view) key) → TouchesEach old new at count irqs
    → Serves old new events (λ view. []) named
serves_each old new view at count irqs events named is each covers touches =
    let By : List Event → Type 0 = λ events. Makes (Some old.actor) view events [] [] (part_events old touches.part) in
    let Of : List Happened → Type 0 = λ piece. Makes (Some old.actor) view (filter_map at (range_with_len 0 count)) [] [] piece in
    record {
      view = view;
      part = touches.part;
      adds = touches.adds;
      made = subst By (sym is) (subst Of (sym touches.events) (each_made (Some old.actor) view at irqs count each));
      stays = touches.stays;
      none_taken = touches.none_taken;
      piece = λ operation by. touches.piece operation (names_all_by (shape_of old) old.actor operation named (filter_map at (range_with_len 0 count)) by covers);
    }

-- Registers that have a part for each interrupt.

-- the guest with these records, by the number from a first INTID on
unfoldable pub parts_view : Seen → ℕ → (ℕ → Irq) → View
parts_view seen first irqs = record (nothing_known seen) { irqs = λ key. irqs (intid_of key - first) }

pub part_touched : (seen : Seen) (frame : Frame) (kind : Kind) (first : ℕ) (write : Option ℕ) (irqs : ℕ → Irq) (actor : Option ℕ) (m : ℕ) → IfSome (part_event (shape_of seen) frame kind first write m) (IsTouchOf actor (parts_view seen first irqs) (irqs m))
unfolding parts_view
part_touched seen frame kind first write irqs actor m = of (part_key (shape_of seen) frame kind (first + m)) (part_intid (shape_of seen) frame kind (first + m))
  where
    of : (o : Option Key) → IfSome o (λ key. intid_of key ≡ first + m) → IfSome (option_map (λ key. Touch key (part_touch kind write m)) o) (IsTouchOf actor (parts_view seen first irqs) (irqs m))
    of None is = tt
    of (Some key) is = let number : m ≡ intid_of key - first = omega (arith, is) in record { named = refl; hands = ap (λ n. Record (irqs n)) number }

-- what a read answers of them
part_shown : (seen : Seen) (frame : Frame) (kind : Kind) (first : ℕ) (irqs : ℕ → Irq) (m : ℕ) → number_answer (shape_of seen) frame kind first None irqs m ≡ part_read_at (shape_of seen) (parts_view seen first irqs) frame kind first m
unfolding parts_view
part_shown seen frame kind first irqs m = of (part_key (shape_of seen) frame kind (first + m)) (part_intid (shape_of seen) frame kind (first + m))
  where
    of : (o : Option Key) → IfSome o (λ key. intid_of key ≡ first + m) → option_map_or (λ (key : Key). part_answer None (part_read kind (irqs m))) o 0 ≡ option_map_or (λ key. part_read kind ((parts_view seen first irqs).irqs key)) o 0
    of None is = refl
    of (Some key) is = let number : m ≡ intid_of key - first = omega (arith, is) in ap (λ n. part_read kind (irqs n)) number

pub parts_read : (old new : Seen) (frame : Frame) (kind : Kind) (first count : ℕ) (write : Option ℕ) (value : ℕ) (made : AccessesParts old new frame kind first count write value)
    → read_answer write value ≡ read_answer write (part_value (shape_of old) (parts_view old first made.irqs) frame kind first count)
parts_read old new frame kind first count None value made =
    ap Some
    (made.answer_is
    ∙ joined_below kind (number_answer (shape_of old) frame kind first None made.irqs) (part_read_at (shape_of old) (parts_view old first made.irqs) frame kind first) count (λ m h. part_shown old frame kind first made.irqs m))
parts_read old new frame kind first count (Some written) value made = refl

unfoldable pub serves_parts : (old new : Seen) (frame : Frame) (kind : Kind) (first count : ℕ) (write : Option ℕ) (value : ℕ) (events named : View → List Event) → ((view : View) → events view ≡ parts_events (shape_of old) frame kind first count write)
    → ((view : View) → named view ≡ parts_events (shape_of old) frame kind first count write) → (made : AccessesParts old new frame kind first count write value) → Serves old new events (λ view. []) named
serves_parts old new frame kind first count write value events named is named_is made =
    serves_each old new (parts_view old first made.irqs) (part_event (shape_of old) frame kind first write) count made.irqs events named (is (parts_view old first made.irqs))
    (λ m h. part_touched old frame kind first write made.irqs (Some old.actor) m) (λ view key h. subst (λ events. is_key_of events key) (sym (named_is view)) h) made.touches
