-- A command that was taken: its events.
use Rattle.std.proofs.Common.{◌≡◌, ℕ, ◌+◌, ◌*◌, ◌/◌, ◌≤◌, inl, inr, Bool, ◌%◌, true, false, if◌then◌else◌, IsTrue, is_some, List, [], ◌∷◌, ◌++◌, map, All, Option, Some, None, Result, Ok, is_none, append-nil, not, nat_lt, ◌<◌, option_map, refl, sym, ap, subst, ◌∙◌, arith}
use Rattle.std.specs.Option.{option_map_or}
use Rattle.std.proofs.lemmas.Bool.{cases_lt, le-ltb, lt-ltb}
use Rattle.std.proofs.lemmas.List.{append_assoc}
use Rattle.std.proofs.lemmas.List.Elements.{All-nil, All-cons, All-append, filter-append}
use Rattle.std.proofs.lemmas.List.Sums.{fold-append}
use Rattle.port_call.specs.Words.{GuestShape}
use Rattle.port_call.specs.Calls.{ItsCtlr, Cbaser, Cwriter, Fault as FaultWord, Part, Event, Place, QueueChange, Done, Stalls, parts, decoded_parts, command_parts, command_words, queue_event, maps_by, left_by, Happened, HandsOut, Makes, IsLastRead, IsCommand, HaveSameIts, ArePartsThen, words_read, begins_named, is_beside, named_of, held_at, command_places, View, memory_at, word_address, Ram}
use Rattle.port_call.specs.Registers.{extracted, queue_bytes, Command, BadCommand, advanced, maps_after, fault_of, fault_number, number_of, Maps}
use Rattle.port_call.specs.GicCall.declared.event.Event.TheVariants.{Read, Queue as QueueEvent}
use Rattle.port_call.specs.GicCall.declared.event.Place.TheVariants.{Word}
use Rattle.port_call.proofs.GicCall.ReadLemmas.{NoRead, all_early, all_read, last_kept}
use Rattle.port_call.specs.GicCall.declared.event.Found.TheVariants.{Nothing}
use Rattle.port_call.specs.ItsCmd.Command.{decoded}
use Rattle.port_call.specs.Core.{Made, Progress, Local, CommandDone, known_maps, reading_of, Seen, made_by, shape_of, part_events}
use Rattle.port_call.proofs.PortCore.PortLemmas.{adds_join}
use Rattle.port_call.specs.Memory.{view_by}
use Rattle.port_call.proofs.PieceLemmas.{command_done}
use Rattle.port_call.proofs.TurnLemmas.{events_then}
use Rattle.its_exec.specs.declared.fetch.Fetched.{Fetched}
use Rattle.its_exec.specs.declared.known.KnownQueue.{KnownQueue}
use Rattle.its_exec.specs.Command.{HasCommand, DoesCommand}
use Rattle.its_exec.specs.Config.{IsUnread, HoldsCommand}
use Rattle.its_exec.specs.Known.{KnowsQueue, Fetches, AgreeWith, HasBegun, HasFetched, is_fetched, takes_next}
use Rattle.its_exec.specs.Plan.{IsFresh}
use Rattle.its_exec.specs.Queue.{HoldsNext, Taken, AreTaken, TakesAll, IsReady, MakesStep, StallsAt, TakesCommand}
use Rattle.its_exec.proofs.FetchLemmas.{address_even, doubleword_part, whole_word}
use Rattle.its_exec.proofs.FrameLemmas.{both, within_joins, reading_on, looks_late}
use Rattle.its_exec.proofs.LookLemmas.{word_held, offset_held, stalled_held, takes_by}
use Rattle.its_exec.proofs.PartLemmas.{reads_beside, good_then}
use Rattle.its_exec.proofs.OpenLemmas.{Opens, opened, none_over}
use Rattle.its_exec.proofs.CommandLemmas.{parts_of, parts_then, write_stays}
use Rattle.its_exec.proofs.QueueLemmas.{command_all, command_each, next_address, holds_next, good_event, bad_event, known_stored, fetched_ready, ended_same, stored_within}

-- the view as the command was fetched, with the vCPUs that the LPIs are for
abbrev as_of : Seen → (ℕ → Option ℕ) → View
as_of seen targets = record (view_by seen) { targets = targets }

same_its : (old mid : Seen) (queue : KnownQueue) (targets : ℕ → Option ℕ) → KnowsQueue old queue → KnowsQueue mid queue → known_maps old.own ≡ known_maps mid.own → HaveSameIts (view_by old) (as_of mid targets)
same_its old mid queue targets was now maps =
    record {
      ctlr = word_held old ItsCtlr queue.ctlr was.ctlr ∙ sym (word_held mid ItsCtlr queue.ctlr now.ctlr);
      cbaser = word_held old Cbaser queue.cbaser was.cbaser ∙ sym (word_held mid Cbaser queue.cbaser now.cbaser);
      cwriter = word_held old Cwriter queue.cwriter was.cwriter ∙ sym (word_held mid Cwriter queue.cwriter now.cwriter);
      offset = offset_held old queue.offset queue.stalled was.place ∙ sym (offset_held mid queue.offset queue.stalled now.place);
      stalled = stalled_held old queue.offset queue.stalled was.place ∙ sym (stalled_held mid queue.offset queue.stalled now.place);
      maps = maps;
    }

-- what the end of the command leaves
left_its :
    (mid new : Seen) (queue after : KnownQueue) (targets : ℕ → Option ℕ) (offset : ℕ) (stalled : Bool) (maps : Maps) → KnowsQueue mid queue → KnowsQueue new after → after.ctlr ≡ queue.ctlr → after.cbaser ≡ queue.cbaser → after.cwriter ≡ queue.cwriter
    → after.offset ≡ offset → after.stalled ≡ stalled → known_maps new.own ≡ maps → HaveSameIts (record (as_of mid targets) { offset = offset; is_stalled = stalled; maps = maps }) (view_by new)
left_its mid new queue after targets offset stalled maps was now ctlr cbaser cwriter to stall is =
    record {
      ctlr = word_held mid ItsCtlr queue.ctlr was.ctlr ∙ sym ctlr ∙ sym (word_held new ItsCtlr after.ctlr now.ctlr);
      cbaser = word_held mid Cbaser queue.cbaser was.cbaser ∙ sym cbaser ∙ sym (word_held new Cbaser after.cbaser now.cbaser);
      cwriter = word_held mid Cwriter queue.cwriter was.cwriter ∙ sym cwriter ∙ sym (word_held new Cwriter after.cwriter now.cwriter);
      offset = sym (offset_held new after.offset after.stalled now.place ∙ to);
      stalled = sym (stalled_held new after.offset after.stalled now.place ∙ stall);
      maps = sym is;
    }

-- the reads of the fetch, and those after it that are of none of its places
makes_fetch : (actor : Option ℕ) (old mid : Seen) (queue : KnownQueue) (fetched : Fetched) (targets : ℕ → Option ℕ) (reads : List Happened) → (shape_of mid).ram % 8 ≡ 0 → (fetches : Fetches old mid queue fetched)
    → named_of actor reads ≡ [] → ((index : ℕ) → IsTrue (is_fetched fetched.address index) → index < (shape_of mid).ram / 8 → IsUnread (Word (Ram index)) reads)
    → Makes actor (as_of mid targets) [] (command_places (shape_of mid) (as_of mid targets)) [] (part_events old fetches.part ++ reads)
makes_fetch actor old mid queue fetched targets reads whole fetches silent unread =
    let view = as_of mid targets in
    let first = part_events old fetches.part in
    let none : named_of actor (first ++ reads) ≡ []
    = filter-append (λ (h : Happened). not (is_beside actor h.event)) first reads ∙ ap (λ events. events ++ named_of actor reads) (reads_beside actor first fetches.reading.reads) ∙ silent in
    let Hands : Happened → Type 0 = λ h. HandsOut view h.event h.found in
    let Last : Place → Type 0 = λ place. IsLastRead place (held_at view place) (first ++ reads) in
    record {
      events_are = ap (map (λ h. h.event)) none;
      found = subst (All Hands) (sym none) (All-nil Hands);
      reads =
          command_all Last mid queue fetched.address whole fetches.knows fetches.address_is
          (λ index at inside. last_kept (Word (Ram index)) (held_at view (Word (Ram index))) first reads (fetches.has.each index at inside).last (unread index at inside));
    }

-- the doublewords, as they were fetched
words_has : (old mid : Seen) (queue : KnownQueue) (fetched : Fetched) (targets : ℕ → Option ℕ) → (shape_of mid).ram % 8 ≡ 0 → (fetches : Fetches old mid queue fetched) → HasFetched mid fetched.address (words_read (shape_of mid) (as_of mid targets))
words_has old mid queue fetched targets whole fetches =
    let view = as_of mid targets in
    let places = command_places (shape_of mid) view in
    let Last : Place → Type 0 = λ place. IsLastRead place (held_at view place) (words_read (shape_of mid) view) in
    let Last_in : List Happened → Type 0 = λ events. All (λ place. IsLastRead place (held_at view place) events) places in
    let all : All Last places = subst Last_in (append-nil (words_read (shape_of mid) view)) (all_read view places [] [] (λ place. All-nil (NoRead place))) in
    record {
      each = λ index at inside.
          record { known = (fetches.has.each index at inside).known; last = command_each Last mid queue fetched.address whole fetches.knows fetches.address_is all index at inside };
    }

-- the end of the command
makes_end : (actor : Option ℕ) (view : View) (event : Event) (offset : ℕ) (change : QueueChange) → event ≡ QueueEvent offset change → Makes actor view (event ∷ []) [] [] ((record { event = QueueEvent offset change; found = Nothing }) ∷ [])
makes_end actor view event offset change e =
    let happened : Happened = record { event = QueueEvent offset change; found = Nothing } in
    let Hands : Happened → Type 0 = λ h. HandsOut view h.event h.found in
    record {
      events_are = ap (λ e. e ∷ []) (sym e);
      found = All-cons Hands happened [] refl (All-nil Hands);
      reads = All-nil (λ place. IsLastRead place (held_at view place) (happened ∷ []));
    }

-- it was read: a command stands in the memory
some_of : {X : Type 0} (o : Option X) → IsTrue (is_some o) → (x : X) × (o ≡ Some x)
some_of None h = absurd (cc)
some_of (Some x) h = (x, refl)

no_command : (a b c : ℕ) (command : Command) → decoded (0 ∷ a ∷ b ∷ c ∷ []) ≡ Ok command → ⊥
no_command a b c command e = absurd (cc)

begun_now : (old mid : Seen) (queue : KnownQueue) (fetched : Fetched) (command : Command) → (shape_of mid).ram % 8 ≡ 0 → IsFresh old → (fetches : Fetches old mid queue fetched) → HoldsNext mid queue fetched → decoded (command_words (shape_of mid) (view_by mid)) ≡ Ok command
    → HasBegun mid fetched.address
begun_now old mid queue fetched command whole fresh fetches next is = elim (cases_lt (address / 8) ((shape_of mid).ram / 8)) [
  | inl inside ↦
      record {
        read = before.0 ++ fetches.part;
        reading = ap (λ seen. reading_of seen.own) fetches.reading.adds.new_is ∙ reading_on old.own fetches.part before.0 before.1 fetches.reading.going;
        looked = looks_late (address / 8) before.0 fetches.part (fetches.looked (omega (arith, inside, ap (λ shape. shape.ram / 8) (ap shape_of fetches.reading.adds.new_is))));
        inside = inside;
        queue = next.knows.cbaser.known;
      }
  | inr outside ↦ absurd (no_command (at 1) (at 2) (at 3) command (ap (λ n. decoded (n ∷ at 1 ∷ at 2 ∷ at 3 ∷ [])) (sym (none outside)) ∙ is))
]
  where
    address : ℕ
    address = fetched.address

    before : (read : List Made) × (reading_of old.own ≡ Some read)
    before = some_of (reading_of old.own) fresh.reading

    at : ℕ → ℕ
    at number = memory_at (shape_of mid) (view_by mid) (word_address (view_by mid) number) 8

    even : address % 8 ≡ 0
    even = address_even queue.cbaser queue.offset address next.knows.in_range.place next.address_is

    none : (shape_of mid).ram / 8 ≤ address / 8 → at 0 ≡ 0
    none outside =
        ap (λ from. memory_at (shape_of mid) (view_by mid) (from + 8 * 0) 8) (next_address mid queue address next.knows next.address_is ∙ omega (arith, even))
        ∙ ap (λ o. option_map_or (λ part. extracted ((view_by mid).words (Ram part.index)) part) o 0) (doubleword_part (address / 8) 0 (shape_of mid).ram whole ∙ ap (λ b. if b then Some (whole_word (address / 8 + 0)) else None) (le-ltb (address / 8 + 0) ((shape_of mid).ram / 8) (omega (arith, outside))))

-- a good command
pub took_good :
    (old mid done new : Seen) (shape : GuestShape) (tables : Maps) (queue : KnownQueue) (offset : ℕ) (fetched : Fetched) (command : Command) (result : Result Command BadCommand) → (shape_of mid).ram % 8 ≡ 0 → IsReady old shape tables queue
    → takes_next queue ≡ true → Fetches old mid queue fetched → HoldsCommand mid fetched → DoesCommand mid done fetched.address tables command → result ≡ decoded fetched.words → result ≡ Ok command → fault_of shape tables command ≡ None
    → offset ≡ advanced queue.offset (queue_bytes queue.cbaser) → MakesStep done new (CommandDone offset false (Some fetched.words))
    → (left : Maps) (after : KnownQueue) → IsReady new shape left after → after ≡ record queue { offset = offset } → queue.stalled ≡ false → left ≡ maps_after tables command → TakesCommand old new None
took_good old mid done new shape tables queue offset fetched command result whole ready takes fetches holds does value ok good is makes left after later moved runs gone =
    let all = does.does in
    let made = made_by done (CommandDone offset false (Some fetched.words)) makes.found makes.adds.tables in
    let late = all.steps ++ made ∷ [] in
    let now = fetched_ready old mid shape tables queue fetched ready fetches in
    let next = holds_next old mid queue fetched fetches holds in
    let same : shape_of mid ≡ shape_of old = ap shape_of fetches.reading.adds.new_is in
    let decoded_is : decoded (command_words (shape_of mid) (view_by mid)) ≡ Ok command = ap decoded (sym next.words_are) ∙ sym value ∙ ok in
    let good_now : fault_of (shape_of mid) (known_maps mid.own) command ≡ None
    = ap (λ shape. fault_of shape (known_maps mid.own) command) (sym now.shape_is) ∙ ap (λ maps. fault_of shape maps command) (sym now.maps) ∙ good in
    let number : fault_number (shape_of mid) (known_maps mid.own) (decoded fetched.words) ≡ None
    = ap (fault_number (shape_of mid) (known_maps mid.own)) (sym value ∙ ok) ∙ ap (option_map number_of) good_now in
    let has : HasCommand mid fetched.address tables command
    = record {
      aligned = address_even queue.cbaser queue.offset fetched.address next.knows.in_range.place next.address_is;
      address_is = next_address mid queue fetched.address next.knows next.address_is;
      maps_are = sym now.maps;
      decoded_is = decoded_is;
      good = ap (λ shape. fault_of shape tables command) (sym now.shape_is) ∙ good;
      begun = begun_now old mid queue fetched command whole ready.fresh fetches next decoded_is;
    } in
    record {
      last = done;
      steps = fetches.part ++ late;
      adds = adds_join old mid new fetches.part late fetches.reading.adds (adds_join mid done new all.steps (made ∷ []) all.adds makes.adds.adds);
      one =
          record {
            fresh = ready.fresh;
            first = fetches.part ++ all.steps;
            adds = adds_join old mid done fetches.part all.steps fetches.reading.adds all.adds;
            within = within_joins fetches.part all.steps fetches.reading.within all.within;
            ending = made;
            ends = refl;
            split = sym (append_assoc fetches.part all.steps (made ∷ []));
          };
      local_is =
          (let back : Local → Local → Local = λ l m. record l { marks = m.marks } in
          ap (λ l. back l old.local) (ended_same done new offset false (Some fetched.words) makes) ∙ ap (back done.local) (sym fetches.reading.local) ∙ all.local_is.same ∙ fetches.reading.local);
      is = λ actor targets agree.
          (let view = as_of mid targets in
          let By : Maps → Type 0 = λ maps. AgreeWith done maps targets in
          let agreed : AgreeWith done tables targets = subst By (sym ready.maps) agree in
          let Rest : List Happened → Type 0 = λ after. Makes actor view (queue_event (shape_of mid) view ∷ []) [] [] after in
          let parts_are : command_parts (shape_of mid) view ≡ does.done
          = parts_of (shape_of mid) view command decoded_is good_now ∙ ap (λ maps. parts (shape_of mid) maps targets command) (sym now.maps) ∙ does.all targets agreed in
          let ended = makes_end actor view (queue_event (shape_of mid) view) offset (Done fetched.words)
          (good_event mid queue fetched next number ∙ ap (λ n. QueueEvent n (Done fetched.words)) (sym is)) in
          let first = part_events old fetches.part in
          let words = words_read (shape_of mid) view in
          let queue_end : Happened = record { event = QueueEvent offset (Done fetched.words); found = Nothing } in
          let own : part_events mid late ≡ part_events mid all.steps ++ queue_end ∷ [] = events_then mid done all.steps (made ∷ []) all.adds in
          let are = all.makes actor targets agreed.found words first (words_has old mid queue fetched targets whole fetches) fetches.has in
          let opens : Opens actor (shape_of mid) targets words does.done Rest first (part_events mid late)
          = opened actor (shape_of mid) targets words does.done Rest first (part_events mid late)
          (λ none. ap (begins_named actor) (own ∙ ap (λ events. events ++ queue_end ∷ []) (none_over actor (shape_of mid) targets words first (part_events mid all.steps) does.done none are)))
          (subst (ArePartsThen actor (shape_of mid) targets words does.done Rest first) (sym own) (parts_then actor (shape_of mid) targets words does.done Rest first (part_events mid all.steps) (queue_end ∷ []) are ended)) in
          let Unread : ℕ → List Happened → Type 0 = λ index events. IsUnread (Word (Ram index)) events in
          let unread : (index : ℕ) → IsTrue (is_fetched fetched.address index) → index < (shape_of mid).ram / 8 → Unread index opens.reads
          = λ index at inside.
          (let NotRead : Happened → Type 0 = λ h. h.event ≡ Read (Word (Ram index)) → ⊥ in
          all_early NotRead opens.reads opens.rest
          (subst (Unread index) (sym own ∙ opens.split)
          (All-append NotRead (part_events mid all.steps) (queue_end ∷ []) (all.keeps.each (Word (Ram index)) (both (is_fetched fetched.address index) (nat_lt index ((shape_of mid).ram / 8)) at (lt-ltb index ((shape_of mid).ram / 8) inside))).unread
          (All-cons NotRead queue_end [] (λ e. absurd (cc)) (All-nil NotRead))))) in
          let Parts : List Part → Type 0 = λ parts. ArePartsThen actor (shape_of mid) targets words parts Rest (first ++ opens.reads) opens.rest in
          let Left : Event → Type 0 = λ event. HaveSameIts (left_by (shape_of mid) view event) (view_by new) in
          let Leaves : GuestShape → Type 0 = λ shape. HaveSameIts (left_by shape view (queue_event shape view)) (view_by new) in
          let goes = good_event mid queue fetched next number ∙ ap (λ n. QueueEvent n (Done fetched.words)) (sym is) in
          let maps_are : known_maps new.own ≡ maps_by (known_maps mid.own) (decoded fetched.words)
          = sym later.maps ∙ gone ∙ ap (λ maps. maps_after maps command) now.maps ∙ sym (ap (maps_by (known_maps mid.own)) (sym value ∙ ok)) in
          let Is : GuestShape → Type 0 = λ shape. IsCommand actor shape view (part_events old (fetches.part ++ late)) in
          let Has : GuestShape → Type 0 = λ shape. fault_number shape view.maps (decoded (command_words shape view)) ≡ None in
          record {
            view = view;
            same = same_its old mid queue targets ready.knows fetches.knows (sym ready.maps ∙ now.maps);
            targets_are = refl;
            fault_is = subst Has same (ap (λ words. fault_number (shape_of mid) (known_maps mid.own) (decoded words)) (sym next.words_are) ∙ number);
            left =
                subst Leaves same
                (subst Left (sym goes)
                (left_its mid new queue after targets offset false (maps_by (known_maps mid.own) (decoded fetched.words)) fetches.knows later.knows (ap (λ q. q.ctlr) moved) (ap (λ q. q.cbaser) moved) (ap (λ q. q.cwriter) moved) (ap (λ q. q.offset) moved)
                (ap (λ q. q.stalled) moved ∙ runs) maps_are));
            command =
                subst Is same
                (record {
                  taken = takes_by mid queue fetches.knows ∙ takes;
                  fetch = first ++ opens.reads;
                  rest = opens.rest;
                  split =
                      events_then old mid fetches.part late fetches.reading.adds ∙ ap (λ events. first ++ events) opens.split ∙ sym (append_assoc first opens.reads opens.rest);
                  whole = opens.whole;
                  fetched = makes_fetch actor old mid queue fetched targets opens.reads whole fetches opens.none unread;
                  done = subst Parts (sym parts_are) opens.parts_are;
                });
          });
      piece = λ p idle write none.
          good_then old mid p fetches.part late fetches.reading.adds (fetches.reading.piece p idle)
          (λ q stays idle_mid.
          good_then mid done q all.steps (made ∷ []) all.adds (all.piece q idle_mid (write_stays p q stays write) (ap (λ r. r.wants) stays.same ∙ none) has)
          (λ r stays_too idle_done. command_done done made _ _ _ refl r idle_done (ap (λ (s : Progress). s.wants) stays_too.same ∙ ap (λ (s : Progress). s.wants) stays.same ∙ none)));
    }

-- a bad one
pub took_bad :
    (old mid new : Seen) (shape : GuestShape) (tables : Maps) (queue : KnownQueue) (fetched : Fetched) (result : Result Command BadCommand) (fault : ℕ) → (shape_of mid).ram % 8 ≡ 0 → IsReady old shape tables queue → takes_next queue ≡ true
    → Fetches old mid queue fetched → HoldsCommand mid fetched → result ≡ decoded fetched.words → fault_number shape tables result ≡ Some fault → StallsAt mid new queue.offset fault
    → (after : KnownQueue) → IsReady new shape tables after → after ≡ record queue { stalled = true } → TakesCommand old new (Some fault)
took_bad old mid new shape tables queue fetched result fault whole ready takes fetches holds value bad stalls after later moved =
    let end = stalls.mid in
    let stores = stalls.stores in
    let put = stores.misses ++ stores.last ∷ [] in
    let made = made_by end (CommandDone queue.offset true None) stalls.ends.found stalls.ends.adds.tables in
    let late = put ++ made ∷ [] in
    let now = fetched_ready old mid shape tables queue fetched ready fetches in
    let next = holds_next old mid queue fetched fetches holds in
    let same : shape_of mid ≡ shape_of old = ap shape_of fetches.reading.adds.new_is in
    let number : fault_number (shape_of mid) (known_maps mid.own) (decoded fetched.words) ≡ Some fault
    = ap (λ shape. fault_number shape (known_maps mid.own) (decoded fetched.words)) (sym now.shape_is) ∙ ap (λ maps. fault_number shape maps (decoded fetched.words)) (sym now.maps) ∙ ap (fault_number shape tables) (sym value) ∙ bad in
    record {
      last = end;
      steps = fetches.part ++ late;
      adds = adds_join old mid new fetches.part late fetches.reading.adds (adds_join mid end new put (made ∷ []) stores.adds stalls.ends.adds.adds);
      one =
          record {
            fresh = ready.fresh;
            first = fetches.part ++ put;
            adds = adds_join old mid end fetches.part put fetches.reading.adds stores.adds;
            within = within_joins fetches.part put fetches.reading.within (stored_within mid end FaultWord fault stores);
            ending = made;
            ends = refl;
            split = sym (append_assoc fetches.part put (made ∷ []));
          };
      local_is = ap (λ (l : Local). record l { marks = old.local.marks }) (ended_same end new queue.offset true None stalls.ends ∙ stores.local_is ∙ fetches.reading.local);
      is = λ actor targets agree.
          (let view = as_of mid targets in
          let Rest : List Happened → Type 0 = λ after. Makes actor view (queue_event (shape_of mid) view ∷ []) [] [] after in
          let by : List ℕ → List Part = λ words. if is_none (fault_number (shape_of mid) (known_maps mid.own) (decoded words)) then decoded_parts (shape_of mid) view (decoded words) else [] in
          let by_fault : Option ℕ → List Part = λ o. if is_none o then decoded_parts (shape_of mid) view (decoded fetched.words) else [] in
          let parts_are : command_parts (shape_of mid) view ≡ [] = ap by (sym next.words_are) ∙ ap by_fault number in
          let ended = makes_end actor view (queue_event (shape_of mid) view) queue.offset (Stalls fault) (bad_event mid queue fetched fault next number) in
          let first = part_events old fetches.part in
          let queue_end : ℕ → Happened = λ number. record { event = QueueEvent queue.offset (Stalls number); found = Nothing } in
          let own : part_events mid late ≡ queue_end fault ∷ []
          = events_then mid end put (made ∷ []) stores.adds ∙ ap (λ events. events ++ part_events end (made ∷ [])) stores.events ∙ ap (λ number. queue_end number ∷ []) (known_stored mid end fault stores) in
          let Parts : List Part → Type 0 = λ parts. ArePartsThen actor (shape_of mid) targets (words_read (shape_of mid) view) parts Rest first (part_events mid late) in
          let Fetched_by : List Happened → Type 0 = λ events. Makes actor view [] (command_places (shape_of mid) view) [] events in
          let Left : Event → Type 0 = λ event. HaveSameIts (left_by (shape_of mid) view event) (view_by new) in
          let Leaves : GuestShape → Type 0 = λ shape. HaveSameIts (left_by shape view (queue_event shape view)) (view_by new) in
          let Is : GuestShape → Type 0 = λ shape. IsCommand actor shape view (part_events old (fetches.part ++ late)) in
          let Has : GuestShape → Type 0 = λ shape. fault_number shape view.maps (decoded (command_words shape view)) ≡ Some fault in
          record {
            view = view;
            same = same_its old mid queue targets ready.knows fetches.knows (sym ready.maps ∙ now.maps);
            targets_are = refl;
            fault_is = subst Has same (ap (λ words. fault_number (shape_of mid) (known_maps mid.own) (decoded words)) (sym next.words_are) ∙ number);
            left =
                subst Leaves same
                (subst Left (sym (bad_event mid queue fetched fault next number))
                (left_its mid new queue after targets queue.offset true (known_maps mid.own) fetches.knows later.knows (ap (λ q. q.ctlr) moved) (ap (λ q. q.cbaser) moved) (ap (λ q. q.cwriter) moved) (ap (λ q. q.offset) moved) (ap (λ q. q.stalled) moved)
                (sym later.maps ∙ now.maps)));
            command =
                subst Is same
                (record {
                  taken = takes_by mid queue fetches.knows ∙ takes;
                  fetch = part_events old fetches.part;
                  rest = part_events mid late;
                  split = events_then old mid fetches.part late fetches.reading.adds;
                  whole = ap (begins_named actor) own;
                  fetched = subst Fetched_by (append-nil first) (makes_fetch actor old mid queue fetched targets [] whole fetches refl (λ index at inside. All-nil (λ h. h.event ≡ Read (Word (Ram index)) → ⊥)));
                  done = subst Parts (sym parts_are) (subst Rest (sym own) ended);
                });
          });
      piece = λ p idle write none.
          good_then old mid p fetches.part late fetches.reading.adds (fetches.reading.piece p idle)
          (λ q stays idle_mid.
          good_then mid end q put (made ∷ []) stores.adds (stores.piece q idle_mid) (λ r stays_too idle_end. command_done end made _ _ _ refl r idle_end (ap (λ (s : Progress). s.wants) stays_too.same ∙ ap (λ (s : Progress). s.wants) stays.same ∙ none)));
    }

-- Commands, one after the other.

pub taken_none : (seen : Seen) → TakesAll seen seen None
taken_none seen = record { commands = []; are = refl; fault_is = refl }

are_more : (old mid new : Seen) (commands : List Taken) (fault : Option ℕ) (takes : TakesCommand mid new fault) → AreTaken old commands mid → AreTaken old (commands ++ (record { from = mid; to = new; fault = fault; takes = takes }) ∷ []) new
are_more old mid new [] fault takes are = (are, refl)
are_more old mid new (one ∷ commands) fault takes are = (are.0, are_more one.to mid new commands fault takes are.1)

pub taken_more : (old mid new : Seen) (before fault : Option ℕ) → TakesAll old mid before → TakesCommand mid new fault → TakesAll old new fault
taken_more old mid new before fault all takes =
    let one : Taken = record { from = mid; to = new; fault = fault; takes = takes } in
    record {
      commands = all.commands ++ one ∷ [];
      are = are_more old mid new all.commands fault takes all.are;
      fault_is = fold-append (λ before one. one.fault) None all.commands (one ∷ []);
    }
