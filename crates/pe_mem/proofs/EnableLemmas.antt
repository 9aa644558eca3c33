-- EnableLPIs becomes 1.
use Rattle.std.proofs.Common.{zero, suc, ◌≡◌, ℕ, ◌+◌, ◌-◌, ◌<◌, ◌≤◌, ◌&&◌, not, nat_le, nat_lt, true≢false, Bool, true, false, if◌then◌else◌, IsTrue, IfSome, List, [], ◌∷◌, ◌++◌, map, All, Option, Some, None, is_none, refl, sym, ap, subst, ◌∙◌, arith}
use Rattle.std.specs.List.{range_with_len, filter_map, flat_map}
use Rattle.std.specs.Option.{option_map_or}
use Rattle.std.proofs.lemmas.List.Elements.{All-cons, All-nil, All-append}
use Rattle.its_exec.specs.Words.{Lpi, GuestShape, intid_of, Irq, is_number, has_interrupt}
use Rattle.its_exec.specs.Registers.{pending_address, Part}
use Rattle.its_exec.specs.Calls.{PlainWord, Ram, Pendbaser, Event, Touch, Enable, Record, Place, is_table_zero, pended_at, pended_events, enable_events, lpis_of, is_in_table, Happened, Makes, MakesAfter, HandsOut, IsLastRead, named_of, held_at, memory_places, table_places, View}
use Rattle.its_exec.specs.GicCall.declared.event.Event.TheVariants.{Read}
use Rattle.its_exec.specs.GicCall.declared.event.Found.TheVariants.{Word as FoundWord, Lpis as FoundLpis}
use Rattle.its_exec.specs.GicCall.declared.event.Place.TheVariants.{Word}
use Rattle.its_exec.specs.Histories.{before_enabling}
use Rattle.its_exec.specs.Core.{Made, EnableLpis, vcpu_of, Seen, Adds, AddsStep, shape_of, made_by, part_events}
use Rattle.its_exec.proofs.GicCall.TraceLemmas.{after_made}
use Rattle.its_exec.proofs.PortCore.PortLemmas.{adds_join}
use Rattle.its_exec.specs.PortCall.Piece.{takes_none, IsPiece}
use Rattle.its_exec.specs.PortCall.Plain.{ReadsPlain}
use Rattle.its_exec.specs.PortCall.Rest.{IsAtEase, StaysAtEase}
use Rattle.its_exec.proofs.PortCall.PieceLemmas.{piece_one}
use Rattle.its_exec.proofs.PortCall.SettleLemmas.{handed_none}
use Rattle.its_exec.proofs.PortCall.TryLemmas.{none_append}
use Rattle.its_exec.proofs.PortCall.TurnLemmas.{piece_then, events_then}
use Rattle.pe_mem.specs.Call.{NamesBy}
use Rattle.pe_mem.specs.Each.{touched_at}
use Rattle.pe_mem.specs.Pending.{part_of_number, pend}
use Rattle.pe_mem.specs.Redist.{EnablesLpis}
use Rattle.pe_mem.specs.declared.pending.Fetched.{Fetched}
use Rattle.pe_mem.proofs.EachLemmas.{found_below, all_below, events_of_touched, own_joins, own_of_piece, stays_self}
use Rattle.pe_mem.proofs.ServeLemmas.{nothing_known, none_made, one_made}
use Rattle.pe_mem.proofs.TableLemmas.{TableBase, TableSoFar, is_pended, pend_at, last_read_before, unread_of}
use Rattle.std.proofs.lemmas.Bool.{and_parts, leb-true, ltb-true}
use Rattle.pe_mem.specs.Found.{reads_bit}
use Rattle.pe_mem.specs.Looked.{IsLookedAt, all_events, comes_before}
use Rattle.pe_mem.proofs.LookedLemmas.{looked_after}

and_true : (a : Bool) → IsTrue a → IsTrue (a && true)
and_true true h = refl
and_true false h = absurd (cc)

-- The step.

record Enabled (old new : Seen) (vcpu : ℕ) (lpis : Bool) : Type 0 where
  step : Made
  adds : Adds old new (step ∷ [])
  local_is : new.local ≡ old.local
  none_taken : IsTrue (takes_none (step ∷ []))
  events : part_events old (step ∷ []) ≡ (record { event = Enable vcpu; found = FoundLpis lpis }) ∷ []
  piece : IsPiece old (step ∷ [])

enabled : (old new : Seen) (vcpu found : ℕ) → AddsStep old new (EnableLpis vcpu) found → Enabled old new vcpu (vcpu_of found).lpis
enabled old new vcpu found add =
    let made = made_by old (EnableLpis vcpu) found add.tables in
    record {
      step = made;
      adds = add.adds;
      local_is = ap (λ seen. seen.local) add.adds.new_is;
      none_taken = and_true (is_none add.tables) (handed_none (EnableLpis vcpu) found old add.tables refl add.handed);
      events = refl;
      piece = piece_one old made refl refl;
    }

-- the guest where EnableLPIs is this, with this in each plain word
enable_view : Seen → Bool → ℕ → View
enable_view seen lpis found = record (nothing_known seen) { lpis = λ vcpu. lpis; words = λ word. found }

-- It was 1 before.

pub enables_again : (old new : Seen) (vcpu found : ℕ) → IsAtEase old.local → (vcpu_of found).lpis ≡ true → AddsStep old new (EnableLpis vcpu) found → EnablesLpis old new vcpu
unfolding enable_view
enables_again old new vcpu found ease was add =
    let By : Bool → Type 0 = λ lpis. Enabled old new vcpu lpis in
    let one : By true = subst By was (enabled old new vcpu found add) in
    let view = enable_view old true 0 in
    let happened : Happened = record { event = Enable vcpu; found = FoundLpis true } in
    let after : MakesAfter (Some old.actor) view (Enable vcpu) [] [] (part_events old (one.step ∷ []))
    = record { begin = happened ∷ []; rest = []; split = one.events; begun = one_made (Some old.actor) view happened refl refl; made = none_made (Some old.actor) view } in
    record {
      serves =
          record {
            view = view;
            part = one.step ∷ [];
            adds = one.adds;
            made = after_made (Some old.actor) view (Enable vcpu) [] [] (part_events old (one.step ∷ [])) after;
            stays = subst (StaysAtEase old.local) (sym one.local_is) (stays_self old.local ease);
            none_taken = one.none_taken;
            piece = λ operation by. own_of_piece old operation (one.step ∷ []) one.piece;
          };
      found = λ id there bit. absurd (cc);
      after = after;
    }

-- The table has only zeros.

pub enables_none : (old mid new : Seen) (vcpu found pendbaser : ℕ) → IsAtEase old.local → (vcpu_of found).lpis ≡ false → is_table_zero pendbaser ≡ true → AddsStep old mid (EnableLpis vcpu) found → ReadsPlain mid new (Pendbaser vcpu) pendbaser → EnablesLpis old new vcpu
unfolding enable_view
enables_none old mid new vcpu found pendbaser ease was only add reads =
    let By : Bool → Type 0 = λ lpis. Enabled old mid vcpu lpis in
    let one : By false = subst By was (enabled old mid vcpu found add) in
    let view = enable_view old false pendbaser in
    let happened : Happened = record { event = Enable vcpu; found = FoundLpis false } in
    let read : Happened = record { event = Read (Word (Pendbaser vcpu)); found = FoundWord pendbaser } in
    let part = one.step ∷ [] ++ reads.look ∷ [] in
    let events : part_events old part ≡ happened ∷ read ∷ []
    = events_then old mid (one.step ∷ []) (reads.look ∷ []) one.adds ∙ ap (λ early. early ++ part_events mid (reads.look ∷ [])) one.events ∙ ap (λ late. happened ∷ late) reads.events in
    let Hands : Happened → Type 0 = λ h. HandsOut view h.event h.found in
    let Last : Place → Type 0 = λ place. IsLastRead place (held_at view place) (read ∷ []) in
    let last : Last (Word (Pendbaser vcpu)) = record { before = []; after = []; split = refl; last = All-nil (λ h. h.event ≡ Read (Word (Pendbaser vcpu)) → ⊥) } in
    let zeros : (if is_table_zero pendbaser then [] else filter_map (λ number. pended_at (shape_of old) view vcpu (8192 + number)) (range_with_len 0 (shape_of old).lpis)) ≡ []
    = ap (λ b. if b then [] else filter_map (λ number. pended_at (shape_of old) view vcpu (8192 + number)) (range_with_len 0 (shape_of old).lpis)) only in
    let nowhere : table_places (shape_of old) view vcpu ≡ Word (Pendbaser vcpu) ∷ []
    = ap (λ b. Word (Pendbaser vcpu) ∷ (if b then [] else flat_map (λ id. memory_places (shape_of old) (pending_address pendbaser id).0 1) (lpis_of (shape_of old)))) only in
    let made : Makes (Some old.actor) view [] (Word (Pendbaser vcpu) ∷ []) [] (read ∷ []) = record { events_are = refl; found = All-nil Hands; reads = All-cons Last (Word (Pendbaser vcpu)) [] last (All-nil Last) } in
    let ByEvents : List Event → Type 0 = λ events. Makes (Some old.actor) view events (Word (Pendbaser vcpu) ∷ []) [] (read ∷ []) in
    let ByPlaces : List Place → Type 0 = λ places. Makes (Some old.actor) view (pended_events (shape_of old) view vcpu) places [] (read ∷ []) in
    let after : MakesAfter (Some old.actor) view (Enable vcpu) (pended_events (shape_of old) view vcpu) (table_places (shape_of old) view vcpu) (part_events old part)
    = record { begin = happened ∷ []; rest = read ∷ []; split = events; begun = one_made (Some old.actor) view happened refl refl; made = subst ByPlaces (sym nowhere) (subst ByEvents (sym zeros) made) } in
    record {
      serves =
          record {
            view = view;
            part = part;
            adds = adds_join old mid new (one.step ∷ []) (reads.look ∷ []) one.adds reads.adds;
            made = after_made (Some old.actor) view (Enable vcpu) (pended_events (shape_of old) view vcpu) (table_places (shape_of old) view vcpu) (part_events old part) after;
            stays = subst (StaysAtEase old.local) (sym (reads.local_is ∙ one.local_is)) (stays_self old.local ease);
            none_taken = none_append (one.step ∷ []) (reads.look ∷ []) one.none_taken reads.none_taken;
            piece = λ operation by. own_of_piece old operation part (piece_then old mid (one.step ∷ []) (reads.look ∷ []) one.adds one.piece reads.piece);
          };
      found = λ id there bit. absurd (true≢false (sym bit ∙ ap (λ b. not b && is_in_table (shape_of old) view vcpu id) only));
      after = after;
    }

-- The table.

table_words : ℕ → (ℕ → ℕ) → PlainWord → ℕ
table_words pendbaser words (Ram index) = words index
table_words pendbaser words word = pendbaser

table_view : Seen → ℕ → (ℕ → Irq) → (ℕ → Option ℕ) → (ℕ → ℕ) → View
table_view seen pendbaser irqs targets words =
    record (nothing_known seen) { lpis = λ vcpu. false; irqs = λ key. irqs (intid_of key - 8192); targets = λ id. targets (id - 8192); words = table_words pendbaser words }

all_flat : {Y : Type 0} (P : Y → Type 0) (f : ℕ → List Y) (a n : ℕ) → ((m : ℕ) → m < n → All P (f (a + m))) → All P (flat_map f (range_with_len a n))
all_flat P f a zero each = All-nil P
all_flat P f a (suc n) each =
    let first : All P (f a) = subst (λ k. All P (f k)) (omega arith) (each 0 (omega arith)) in
    All-append P (f a) (flat_map f (range_with_len (a + 1) n)) first
    (all_flat P f (a + 1) n (λ m h. let same : a + (m + 1) ≡ a + 1 + m = omega arith in subst (λ k. All P (f k)) same (each (m + 1) (omega (arith, h)))))

pub enables_table :
    (old mid start new : Seen) (vcpu found pendbaser : ℕ) (last : Option Fetched) → (vcpu_of found).lpis ≡ false → is_table_zero pendbaser ≡ false → AddsStep old mid (EnableLpis vcpu) found → ReadsPlain mid start (Pendbaser vcpu) pendbaser
    → TableSoFar start new vcpu pendbaser (shape_of start).lpis last → EnablesLpis old new vcpu
unfolding table_view table_words
enables_table old mid start new vcpu found pendbaser last was some add reads so =
    record {
      serves =
          record {
            view = view;
            part = part;
            adds = adds_join old mid new (one.step ∷ []) (reads.look ∷ [] ++ base.part) one.adds (adds_join mid start new (reads.look ∷ []) base.part reads.adds base.adds);
            made = after_made (Some old.actor) view (Enable vcpu) (pended_events shape view vcpu) (table_places shape view vcpu) (part_events old part) after;
            stays = subst (λ local. StaysAtEase local new.local) (reads.local_is ∙ one.local_is) base.stays;
            none_taken = none_append (one.step ∷ []) (reads.look ∷ [] ++ base.part) one.none_taken (none_append (reads.look ∷ []) base.part reads.none_taken base.none_taken);
            piece = λ operation by.
                let By : Seen → Type 0 = λ seen. NamesBy (shape_of seen) seen.actor operation (λ view. enable_events (shape_of seen) (before_enabling vcpu view) vcpu) in
                let there : By start = subst By (sym reads.adds.new_is) (subst By (sym one.adds.new_is) by) in
                own_joins old mid operation (one.step ∷ []) (reads.look ∷ [] ++ base.part) one.adds (own_of_piece old operation (one.step ∷ []) one.piece)
                (own_joins mid start operation (reads.look ∷ []) base.part reads.adds (own_of_piece mid operation (reads.look ∷ []) reads.piece) (base.piece operation there));
          };
      found = found_so;
      after = after;
    }
  where
    shape : GuestShape
    shape = shape_of old

    one : Enabled old mid vcpu false
    one = let By : Bool → Type 0 = λ lpis. Enabled old mid vcpu lpis in subst By was (enabled old mid vcpu found add)

    base : TableBase start new vcpu pendbaser (shape_of start).lpis
    base = so.base

    same : shape_of start ≡ shape_of old
    same = ap shape_of reads.adds.new_is ∙ ap shape_of one.adds.new_is

    actor : start.actor ≡ old.actor
    actor = ap (λ seen. seen.actor) reads.adds.new_is ∙ ap (λ seen. seen.actor) one.adds.new_is

    count : ℕ
    count = (shape_of old).lpis

    below : (m : ℕ) → m < count → m < (shape_of start).lpis
    below m h = subst (λ shape. m < shape.lpis) (sym same) h

    view : View
    view = table_view old pendbaser base.irqs base.targets base.words

    happened : Happened
    happened = record { event = Enable vcpu; found = FoundLpis false }

    read : Happened
    read = record { event = Read (Word (Pendbaser vcpu)); found = FoundWord pendbaser }

    rest : List Happened
    rest = part_events start base.part

    touched : List Happened
    touched = filter_map (touched_at (pend_at base.pended) base.irqs) (range_with_len 0 count)

    part : List Made
    part = one.step ∷ [] ++ (reads.look ∷ [] ++ base.part)

    events : part_events old part ≡ happened ∷ read ∷ rest
    events =
        events_then old mid (one.step ∷ []) (reads.look ∷ [] ++ base.part) one.adds
        ∙ ap (λ early. early ++ part_events mid (reads.look ∷ [] ++ base.part)) one.events
        ∙ ap (λ late. happened ∷ late) (events_then mid start (reads.look ∷ []) base.part reads.adds ∙ ap (λ early. early ++ rest) reads.events)

    named : named_of (Some old.actor) (read ∷ rest) ≡ touched
    named = ap (λ actor. named_of (Some actor) rest) (sym actor) ∙ base.named ∙ ap (λ shape. filter_map (touched_at (pend_at base.pended) base.irqs) (range_with_len 0 shape.lpis)) same

    pended_is : (m : ℕ) → m < count → pend_at base.pended m ≡ pended_at shape view vcpu (8192 + m)
    pended_is m h =
        let number : m ≡ 8192 + m - 8192 = omega arith in
        ap (λ (b : Bool). if b then Some (Touch (Lpi (8192 + m)) pend) else None)
        (base.flags m (below m h)
        ∙ ap (λ shape. is_number vcpu (base.targets m) && is_pended shape pendbaser base.words m) same
        ∙ ap (λ k. is_number vcpu (base.targets k) && is_pended shape pendbaser base.words m) number)

    pending : List Event
    pending = filter_map (λ number. pended_at shape view vcpu (8192 + number)) (range_with_len 0 count)

    list_is : filter_map (pend_at base.pended) (range_with_len 0 count) ≡ pending
    list_is = found_below (pend_at base.pended) (λ number. pended_at shape view vcpu (8192 + number)) count pended_is

    events_so : pended_events shape view vcpu ≡ filter_map (pend_at base.pended) (range_with_len 0 count)
    events_so = ap (λ (b : Bool). if b then [] else pending) some ∙ sym list_is

    bits : ℕ → List Place
    bits id = memory_places shape (pending_address pendbaser id).0 1

    places_so : table_places shape view vcpu ≡ Word (Pendbaser vcpu) ∷ flat_map bits (lpis_of shape)
    places_so = ap (λ (b : Bool). Word (Pendbaser vcpu) ∷ (if b then [] else flat_map bits (lpis_of shape))) some

    Hands : Happened → Type 0
    Hands h = HandsOut view h.event h.found

    Last : Place → Type 0
    Last place = IsLastRead place (held_at view place) (read ∷ rest)

    hands : (m : ℕ) → m < count → IfSome (touched_at (pend_at base.pended) base.irqs m) Hands
    hands m h = of (base.pended m)
      where
        of : (b : Bool) → IfSome (touched_at (λ k. if b then Some (Touch (Lpi (8192 + k)) pend) else None) base.irqs m) Hands
        of true = let number : m ≡ 8192 + m - 8192 = omega arith in ap (λ k. Record (base.irqs k)) number
        of false = tt

    bit_read : (m : ℕ) → m < count → All Last (bits (8192 + m))
    bit_read m h = of (part_of_number shape pendbaser m) (subst Reads same (base.reads m (below m h)))
      where
        Reads : GuestShape → Type 0
        Reads shape = IfSome (part_of_number shape pendbaser m) (λ p. IsLastRead (Word (Ram p.index)) (FoundWord (base.words p.index)) rest)

        of : (o : Option Part) → IfSome o (λ p. IsLastRead (Word (Ram p.index)) (FoundWord (base.words p.index)) rest) → All Last (option_map_or (λ part. Word (Ram part.index) ∷ []) o [])
        of None is = All-nil Last
        of (Some p) is = All-cons Last (Word (Ram p.index)) [] (last_read_before (Word (Ram p.index)) (FoundWord (base.words p.index)) (read ∷ []) rest is) (All-nil Last)

    base_read : Last (Word (Pendbaser vcpu))
    base_read = record { before = []; after = rest; split = refl; last = unread_of (Word (Pendbaser vcpu)) rest base.other }

    made : Makes (Some old.actor) view (filter_map (pend_at base.pended) (range_with_len 0 count)) (Word (Pendbaser vcpu) ∷ flat_map bits (lpis_of shape)) [] (read ∷ rest)
    made =
        record {
          events_are = ap (map (λ h. h.event)) named ∙ events_of_touched (pend_at base.pended) base.irqs (range_with_len 0 count);
          found = subst (All Hands) (sym named) (all_below Hands (touched_at (pend_at base.pended) base.irqs) count hands);
          reads = All-cons Last (Word (Pendbaser vcpu)) (flat_map bits (lpis_of shape)) base_read (all_flat Last bits 8192 count bit_read);
        }

    ByEvents : List Event → Type 0
    ByEvents events = Makes (Some old.actor) view events (table_places shape view vcpu) [] (read ∷ rest)

    ByPlaces : List Place → Type 0
    ByPlaces places = Makes (Some old.actor) view (filter_map (pend_at base.pended) (range_with_len 0 count)) places [] (read ∷ rest)

    after : MakesAfter (Some old.actor) view (Enable vcpu) (pended_events shape view vcpu) (table_places shape view vcpu) (part_events old part)
    after = record { begin = happened ∷ []; rest = read ∷ rest; split = events; begun = one_made (Some old.actor) view happened refl refl; made = subst ByEvents (sym events_so) (subst ByPlaces (sym places_so) made) }

    lpi_range : (id : ℕ) → IsTrue (has_interrupt shape (Lpi id)) → (8192 ≤ id) × (id < 8192 + shape.lpis)
    lpi_range id there = let both = and_parts (nat_le 8192 id) (nat_lt id (8192 + shape.lpis)) there in (leb-true 8192 id both.0, ltb-true id (8192 + shape.lpis) both.1)

    found_so : (id : ℕ) → IsTrue (has_interrupt shape (Lpi id)) → IsTrue (reads_bit shape view vcpu id) → IsLookedAt old part id (view.targets id)
    found_so id there bit =
        let range = lpi_range id there in
        let number : 8192 + (id - 8192) ≡ id = omega (arith, range.0) in
        let few : id - 8192 < (shape_of start).lpis = below (id - 8192) (omega (arith, range.0, range.1)) in
        let target = base.targets (id - 8192) in
        let its = 8192 + (id - 8192) in
        let is : IsLookedAt start base.part its target
        = base.found (id - 8192) few (subst (λ s. IsTrue (is_pended s pendbaser base.words (id - 8192))) (sym same) (in_table id number (and_parts (not (is_table_zero pendbaser)) (is_in_table shape view vcpu id) bit).1)) in
        let from : IsLookedAt mid (reads.look ∷ [] ++ base.part) its target = looked_after mid start (reads.look ∷ []) base.part its target reads.adds (ap (all_events (comes_before its)) reads.events) is in
        let By : ℕ → Type 0 = λ n. IsLookedAt old part n target in
        subst By number (looked_after old mid (one.step ∷ []) (reads.look ∷ [] ++ base.part) its target one.adds (ap (all_events (comes_before its)) one.events) from)
      where
        in_table : (id : ℕ) → 8192 + (id - 8192) ≡ id → IsTrue (is_in_table shape view vcpu id) → IsTrue (is_pended shape pendbaser base.words (id - 8192))
        in_table id number h = subst (λ n. IsTrue (is_in_table shape view vcpu n)) (sym number) h

-- Before the table.

pub ease_after : (old mid start : Seen) (vcpu found pendbaser : ℕ) → IsAtEase old.local → AddsStep old mid (EnableLpis vcpu) found → ReadsPlain mid start (Pendbaser vcpu) pendbaser → IsAtEase start.local
ease_after old mid start vcpu found pendbaser ease add reads = subst IsAtEase (sym (reads.local_is ∙ ap (λ seen. seen.local) add.adds.new_is)) ease

pub shape_after : (old mid start : Seen) (vcpu found pendbaser : ℕ) → AddsStep old mid (EnableLpis vcpu) found → ReadsPlain mid start (Pendbaser vcpu) pendbaser → shape_of start ≡ shape_of old
shape_after old mid start vcpu found pendbaser add reads = ap shape_of reads.adds.new_is ∙ ap shape_of add.adds.new_is
