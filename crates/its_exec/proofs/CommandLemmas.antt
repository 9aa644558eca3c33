-- Parts of a command, one after the other.
use Rattle.std.proofs.Common.{◌≡◌, ℕ, ◌+◌, ◌*◌, ◌/◌, ◌%◌, ◌<◌, ◌≤◌, ◌⊎◌, inl, inr, ◌==◌, ◌||◌, not, Bool, true, false, nat_lt, nat_le, if◌then◌else◌, IsTrue, IfSome, List, [], ◌∷◌, ◌++◌, map, Option, Some, None, Result, Ok, is_none, append-nil, refl, sym, ap, subst, ◌∙◌, arith}
use Rattle.std.specs.List.{list_any, flat_map}
use Rattle.std.specs.Option.{option_map_or, option_map}
use Rattle.std.proofs.lemmas.Bool.{cases_lt, lt-ltb, le-ltb, le-leb, eq-eqb, eqb-true}
use Rattle.std.proofs.lemmas.List.{append_assoc}
use Rattle.port_call.specs.Words.{Lpi, Its, Mem, GuestShape, has_interrupt, is_same_key, target_in, irq_of}
use Rattle.port_call.specs.Calls.{Ram, Cbaser, Part, Map, Clear, Event, Operation, Access, Place, command_places, memory_places, parts, decoded_parts, command_parts, command_words, lpi_event, queue_event, queue_address, Happened, ArePartsThen, View, memory_at}
use Rattle.port_call.specs.Registers.{Part as RamPart, extracted, Command, BadCommand, fault_of, fault_number, number_of, Maps, Targets}
use Rattle.port_call.specs.GicCall.declared.command.Part.TheVariants.{Forget, Retarget, Raise, Configure}
use Rattle.port_call.specs.GicCall.declared.event.Found.TheVariants.{Word as FoundWord, Queue as FoundQueue}
use Rattle.port_call.specs.GicCall.declared.event.Place.TheVariants.{Word, Queue as QueuePlace}
use Rattle.port_call.specs.Histories.{is_memory_at, key_in, names, takes_commands}
use Rattle.port_call.specs.ItsCmd.Command.{decoded}
use Rattle.port_call.specs.Core.{Local, owes_no_mark, Made, CoreStep, RamLook, has_begun, is_known, is_look_at, may_name, reading_of, Seen, Adds, shape_of, part_events, Progress, is_end_of}
use Rattle.port_call.proofs.PortCore.PortLemmas.{adds_join}
use Rattle.port_call.specs.Memory.{view_by}
use Rattle.port_call.specs.Piece.{StaysSo}
use Rattle.port_call.specs.Rest.{StaysAtEase}
use Rattle.port_call.proofs.PieceLemmas.{piece_nil, seen_nil}
use Rattle.port_call.proofs.TurnLemmas.{events_then}
use Rattle.its_exec.specs.Known.{KnowsSame, HasFetched, AgreeFound, first_step, are_within, are_going, is_fetched, is_look_of, HasBegun}
use Rattle.its_exec.specs.Config.{is_kept, Keeps}
use Rattle.its_exec.specs.Parts.{lpi_of, GoesFirst, IsDue, MakesPart, DoesPart}
use Rattle.its_exec.specs.Command.{has_part, HasCommand, IsItsWrite, IsOver, DoesParts}
use Rattle.its_exec.proofs.FrameLemmas.{both, within_joins, going_joins, looks_early, reading_on, maps_on, first_stays}
use Rattle.its_exec.proofs.FetchLemmas.{whole_word, doubleword_part, places_are}
use Rattle.its_exec.proofs.ConfigLemmas.{has_on, has_still, keeps_on, keeps_none}
use Rattle.its_exec.proofs.PartLemmas.{good_then}

-- The command stays the same.

-- the places that the actor goes by
pub record Kept (old new : Seen) (address : ℕ) : Type 0 where
  pub each : (place : Place) → IsTrue (is_kept (shape_of old) address place) → KnowsSame old new place

pub kept_by : (old new : Seen) (address : ℕ) (steps : List Made) → Keeps old new address steps → Kept old new address
kept_by old new address steps keeps = record { each = λ place kept. (keeps.each place kept).same }

word_same : (m n : ℕ) → FoundWord m ≡ FoundWord n → m ≡ n
word_same m n e = cc

place_same : (m n : ℕ) (a b : Bool) → FoundQueue m a ≡ FoundQueue n b → m ≡ n
place_same m n a b e = cc

-- a doubleword stays as it was
memory_by : View → Option RamPart → ℕ
memory_by view part = option_map_or (λ part. extracted (view.words (Ram part.index)) part) part 0

doubleword_kept : (shape : GuestShape) (old new : Seen) (address n : ℕ) → shape_of old ≡ shape → shape.ram % 8 ≡ 0 → address % 8 ≡ 0 → n < 4 → Kept old new address
    → memory_at shape (view_by new) (address + 8 * n) 8 ≡ memory_at shape (view_by old) (address + 8 * n) 8
unfolding memory_by
doubleword_kept shape old new address n e whole aligned small kept =
    let w = address / 8 in
    let from : 8 * w ≡ address = omega (arith, aligned) in
    let At : ℕ → Type 0 = λ a. memory_at shape (view_by new) (a + 8 * n) 8 ≡ memory_at shape (view_by old) (a + 8 * n) 8 in
    subst At from
    (ap (memory_by (view_by new)) (doubleword_part w n shape.ram whole) ∙ of (cases_lt (w + n) (shape.ram / 8)) ∙ sym (ap (memory_by (view_by old)) (doubleword_part w n shape.ram whole)))
  where
    by_test : Seen → Bool → ℕ
    by_test seen b = memory_by (view_by seen) (if b then Some (whole_word (address / 8 + n)) else None)

    of : (address / 8 + n < shape.ram / 8) ⊎ (shape.ram / 8 ≤ address / 8 + n) → by_test new (nat_lt (address / 8 + n) (shape.ram / 8)) ≡ by_test old (nat_lt (address / 8 + n) (shape.ram / 8))
    of (inl inside) =
        let index = address / 8 + n in
        let yes = lt-ltb index (shape.ram / 8) inside in
        let fetched : IsTrue (is_fetched address index)
        = both (nat_le (address / 8) index) (nat_lt index (address / 8 + 4)) (le-leb (address / 8) index (omega arith)) (lt-ltb index (address / 8 + 4) (omega (arith, small))) in
        let Is : GuestShape → Type 0 = λ shape. IsTrue (is_kept shape address (Word (Ram index))) in
        let same = kept.each (Word (Ram index)) (subst Is (sym e) (both (is_fetched address index) (nat_lt index (shape.ram / 8)) fetched yes)) in
        ap (by_test new) yes ∙ ap (λ word. extracted word (whole_word index)) (word_same ((view_by new).words (Ram index)) ((view_by old).words (Ram index)) same.held) ∙ sym (ap (by_test old) yes)
    of (inr outside) = let no = le-ltb (address / 8 + n) (shape.ram / 8) outside in ap (by_test new) no ∙ sym (ap (by_test old) no)

pub cbaser_kept : (old new : Seen) (address : ℕ) → Kept old new address → (view_by new).words Cbaser ≡ (view_by old).words Cbaser
cbaser_kept old new address kept = word_same ((view_by new).words Cbaser) ((view_by old).words Cbaser) (kept.each (Word Cbaser) refl).held

pub offset_kept : (old new : Seen) (address : ℕ) → Kept old new address → (view_by new).offset ≡ (view_by old).offset
offset_kept old new address kept = place_same (view_by new).offset (view_by old).offset (view_by new).is_stalled (view_by old).is_stalled (kept.each QueuePlace refl).held

-- the four doublewords, from where they are
pub words_from : GuestShape → View → ℕ → List ℕ
words_from shape view address = map (λ n. memory_at shape view (address + 8 * n) 8) (0 ∷ 1 ∷ 2 ∷ 3 ∷ [])

pub words_at : (shape : GuestShape) (view : View) (address : ℕ) → queue_address (view.words Cbaser) + view.offset ≡ address → command_words shape view ≡ words_from shape view address
unfolding words_from
words_at shape view address e = ap (words_from shape view) e

pub words_kept : (shape : GuestShape) (old new : Seen) (address : ℕ) → shape_of old ≡ shape → shape.ram % 8 ≡ 0 → address % 8 ≡ 0 → queue_address ((view_by old).words Cbaser) + (view_by old).offset ≡ address → Kept old new address
    → command_words shape (view_by new) ≡ command_words shape (view_by old)
unfolding words_from
words_kept shape old new address e whole aligned is kept =
    let same : queue_address ((view_by new).words Cbaser) + (view_by new).offset ≡ address
    = ap (λ n. queue_address n + (view_by new).offset) (cbaser_kept old new address kept) ∙ ap (λ n. queue_address ((view_by old).words Cbaser) + n) (offset_kept old new address kept) ∙ is in
    let at : Seen → ℕ → ℕ = λ seen n. memory_at shape (view_by seen) (address + 8 * n) 8 in
    let k : (n : ℕ) → n < 4 → at new n ≡ at old n = λ n small. doubleword_kept shape old new address n e whole aligned small kept in
    words_at shape (view_by new) address same
    ∙ ap (λ a. a ∷ at new 1 ∷ at new 2 ∷ at new 3 ∷ []) (k 0 (omega arith))
    ∙ ap (λ a. at old 0 ∷ a ∷ at new 2 ∷ at new 3 ∷ []) (k 1 (omega arith))
    ∙ ap (λ a. at old 0 ∷ at old 1 ∷ a ∷ at new 3 ∷ []) (k 2 (omega arith))
    ∙ ap (λ a. at old 0 ∷ at old 1 ∷ at old 2 ∷ a ∷ []) (k 3 (omega arith))
    ∙ sym (words_at shape (view_by old) address is)

-- what was read of it

begun_kept : (old new : Seen) (address : ℕ) (steps : List Made) → Adds old new steps → IsTrue (are_going steps) → KnowsSame old new (Word Cbaser) → HasBegun old address → HasBegun new address
begun_kept old new address steps add going same begun =
    let shape : shape_of new ≡ shape_of old = ap shape_of add.new_is in
    let inside = begun.inside in
    record {
      read = begun.read ++ steps;
      reading = ap (λ seen. reading_of seen.own) add.new_is ∙ reading_on old.own steps begun.read begun.reading going;
      looked = looks_early (address / 8) begun.read steps begun.looked;
      inside = omega (arith, inside, ap (λ shape. shape.ram / 8) shape);
      queue = same.known ∙ begun.queue;
    }

any_look : (p q : CoreStep → Bool) → ((step : CoreStep) → IsTrue (p step) → IsTrue (q step)) → (part : List Made) → IsTrue (list_any (λ made. p made.step) part) → IsTrue (list_any (λ made. q made.step) part)
any_look p q more [] h = absurd (cc)
any_look p q more (made ∷ part) h = of (p made.step) refl h (any_look p q more part)
  where
    or_true : (a b : Bool) → IsTrue a → IsTrue (a || b)
    or_true true b h = refl
    or_true false b h = absurd (cc)

    or_other : (a b : Bool) → IsTrue b → IsTrue (a || b)
    or_other true b h = refl
    or_other false b h = h

    of : (b : Bool) → p made.step ≡ b → IsTrue (b || list_any (λ made. p made.step) part) → (IsTrue (list_any (λ made. p made.step) part) → IsTrue (list_any (λ made. q made.step) part)) → IsTrue (q made.step || list_any (λ made. q made.step) part)
    of true e h f = or_true (q made.step) (list_any (λ made. q made.step) part) (more made.step e)
    of false e h f = or_other (q made.step) (list_any (λ made. q made.step) part) (f h)

-- the first doubleword is one of the places of the command
first_place : (shape : GuestShape) (w : ℕ) → shape.ram % 8 ≡ 0 → w < shape.ram / 8 → IsTrue (list_any (is_memory_at w) (flat_map (λ number. memory_places shape (8 * w + 8 * number) 8) (0 ∷ 1 ∷ 2 ∷ 3 ∷ [])))
first_place shape w whole inside =
    let rest = flat_map (λ number. memory_places shape (8 * w + 8 * number) 8) (1 ∷ 2 ∷ 3 ∷ []) in
    ap (λ places. list_any (is_memory_at w) (places ++ rest)) (places_are shape w 0 whole ∙ ap (λ b. if b then Word (Ram (w + 0)) ∷ [] else []) (lt-ltb (w + 0) (shape.ram / 8) (omega (arith, inside))))
    ∙ ap (λ b. b || list_any (is_memory_at w) rest) (eq-eqb (w + 0) w (omega arith))

begun_by : (seen : Seen) (address : ℕ) → (shape_of seen).ram % 8 ≡ 0 → address % 8 ≡ 0 → queue_address ((view_by seen).words Cbaser) + (view_by seen).offset ≡ address → HasBegun seen address → IsTrue (has_begun (shape_of seen) seen.actor seen.own)
begun_by seen address whole aligned address_is begun =
    let shape = shape_of seen in
    let w = address / 8 in
    let At : ℕ → Type 0 = λ from. IsTrue (list_any (is_memory_at w) (flat_map (λ number. memory_places shape (from + 8 * number) 8) (0 ∷ 1 ∷ 2 ∷ 3 ∷ []))) in
    let eights : address ≡ 8 * w = omega (arith, aligned) in
    let here : IsTrue (list_any (is_memory_at w) (command_places shape (view_by seen))) = subst At (sym (address_is ∙ eights)) (first_place shape w whole begun.inside) in
    both (is_known shape seen.actor seen.own (Word Cbaser)) _ begun.queue
    (ap (λ o. option_map_or (λ read. list_any (λ made. is_look_at (command_places shape (view_by seen)) made.step) read) o false) begun.reading ∙ any_look (is_look_of w) (is_look_at (command_places shape (view_by seen))) (of w here) begun.read begun.looked)
  where
    of : (w : ℕ) → IsTrue (list_any (is_memory_at w) (command_places (shape_of seen) (view_by seen))) → (step : CoreStep) → IsTrue (is_look_of w step) → IsTrue (is_look_at (command_places (shape_of seen) (view_by seen)) step)
    of w here (RamLook index) h = ap (λ n. list_any (is_memory_at n) (command_places (shape_of seen) (view_by seen))) (eqb-true index w h) ∙ here
    of w here _ h = absurd (cc)

pub command_kept : (old new : Seen) (address : ℕ) (maps : Maps) (command : Command) (steps : List Made) → (shape_of old).ram % 8 ≡ 0 → Adds old new steps → IsTrue (are_within steps) → IsTrue (are_going steps) → Kept old new address → HasCommand old address maps command
    → HasCommand new address maps command
command_kept old new address maps command steps whole add within going kept has =
    let shape : shape_of new ≡ shape_of old = ap shape_of add.new_is in
    let Good : GuestShape → Type 0 = λ shape. fault_of shape maps command ≡ None in
    record {
      aligned = has.aligned;
      address_is = ap (λ n. queue_address n + (view_by new).offset) (cbaser_kept old new address kept) ∙ ap (λ n. queue_address ((view_by old).words Cbaser) + n) (offset_kept old new address kept) ∙ has.address_is;
      maps_are = maps_on old new steps add within ∙ has.maps_are;
      decoded_is =
          ap (λ shape. decoded (command_words shape (view_by new))) shape ∙ ap decoded (words_kept (shape_of old) old new address refl whole has.aligned has.address_is kept) ∙ has.decoded_is;
      good = subst Good (sym shape) has.good;
      begun = begun_kept old new address steps add going (kept.each (Word Cbaser) refl) has.begun;
    }

-- What the call names.

-- a part's event is of its LPI
part_key : (shape : GuestShape) (view : View) (targets : ℕ → Option ℕ) (part : Part) → key_in (lpi_event shape view targets part) ≡ Some (Lpi (lpi_of part))
part_key shape view targets (Forget id) = refl
part_key shape view targets (Map id target) = refl
part_key shape view targets (Retarget id target) = refl
part_key shape view targets (Raise id) = refl
part_key shape view targets (Clear id) = refl
part_key shape view targets (Configure id) = refl

named_event : ℕ → Event → Bool
named_event id event = option_map_or (is_same_key (Lpi id)) (key_in event) false

or_left : (a b : Bool) → a ≡ true → (a || b) ≡ true
or_left true b h = refl
or_left false b h = absurd (cc)

or_right : (a b : Bool) → b ≡ true → (a || b) ≡ true
or_right true b h = refl
or_right false b h = h

one_named : (shape : GuestShape) (view : View) (targets : ℕ → Option ℕ) (id : ℕ) (part : Part) → (lpi_of part == id) ≡ true → named_event id (lpi_event shape view targets part) ≡ true
unfolding named_event
one_named shape view targets id part same =
    let e : id ≡ lpi_of part = sym (eqb-true (lpi_of part) id same) in
    ap (λ k. option_map_or (is_same_key (Lpi id)) k false) (part_key shape view targets part) ∙ ap (λ n. is_same_key (Lpi n) (Lpi (lpi_of part))) e ∙ eq-eqb (lpi_of part) (lpi_of part) refl

events_name : (shape : GuestShape) (view : View) (targets : ℕ → Option ℕ) (id : ℕ) (done : List Part) (last : Event) → IsTrue (has_part id done) → IsTrue (list_any (named_event id) (map (lpi_event shape view targets) done ++ last ∷ []))
events_name shape view targets id [] last h = absurd (cc)
events_name shape view targets id (part ∷ done) last h =
    by_case (named_event id (lpi_event shape view targets part)) (list_any (named_event id) (map (lpi_event shape view targets) done ++ last ∷ [])) (lpi_of part == id) (has_part id done) h (one_named shape view targets id part)
    (events_name shape view targets id done last)
  where
    by_case : (a b x y : Bool) → (x || y) ≡ true → (x ≡ true → a ≡ true) → (y ≡ true → b ≡ true) → (a || b) ≡ true
    by_case a b true y h f g = or_left a b (f refl)
    by_case a b false y h f g = or_right a b (g h)

-- the parts of a command without a fault
pub parts_of : (shape : GuestShape) (view : View) (command : Command) → decoded (command_words shape view) ≡ Ok command → fault_of shape view.maps command ≡ None → command_parts shape view ≡ parts shape view.maps view.targets command
parts_of shape view command is good =
    let by : Result Command BadCommand → List Part = λ r. if is_none (fault_number shape view.maps r) then decoded_parts shape view r else [] in
    ap by is ∙ ap (λ o. if is_none (option_map number_of o) then parts shape view.maps view.targets command else []) good

-- the command has a part of the LPI, whatever the actor's steps find
pub record IsAmong (seen : Seen) (maps : Maps) (command : Command) (id : ℕ) : Type 0 where
  pub each : (later : Seen) (more : List Made) → Adds seen later more → IsTrue (are_within more) → IsTrue (has_part id (parts (shape_of seen) maps (view_by later).targets command))

pub due_by : (seen : Seen) (address : ℕ) (maps : Maps) (command : Command) (p : Progress) (id : ℕ) → (shape_of seen).ram % 8 ≡ 0 → IsItsWrite p → HasCommand seen address maps command → IsAmong seen maps command id → IsDue seen address p id
unfolding named_event
due_by seen address maps command p id whole write has among =
    let Ends : Option Operation → Type 0 = λ operation. is_end_of (shape_of seen) seen.actor operation (Lpi id) ≡ false in
    record {
      names_it = λ later more add within going kept.
          (let now = command_kept seen later address maps command more whole add within going (record { each = kept }) has in
          let view = view_by later in
          let shape : shape_of later ≡ shape_of seen = ap shape_of add.new_is in
          let Part_by : GuestShape → Type 0 = λ shape. IsTrue (has_part id (parts shape maps view.targets command)) in
          let Good : Maps → Type 0 = λ maps. fault_of (shape_of later) maps command ≡ None in
          let all : command_parts (shape_of later) view ≡ parts (shape_of later) maps view.targets command
          = parts_of (shape_of later) view command now.decoded_is (subst Good (sym now.maps_are) now.good) ∙ ap (λ maps. parts (shape_of later) maps view.targets command) now.maps_are in
          let Named : Option Operation → Type 0 = λ operation. IsTrue (option_map_or (λ operation. may_name (shape_of later) later.actor later.own operation (Lpi id)) operation false) in
          let Events : List Part → Type 0 = λ done. IsTrue (list_any (named_event id) (map (lpi_event (shape_of later) view view.targets) done ++ queue_event (shape_of later) view ∷ [])) in
          subst Named (sym write.is)
          (both (names (shape_of later) view later.actor (Access (Mem Its write.offset write.size (Some write.value))) (Lpi id)) _
          (subst Events (sym all)
          (events_name (shape_of later) view view.targets id (parts (shape_of later) maps view.targets command) (queue_event (shape_of later) view) (subst Part_by (sym shape) (among.each later more add within))))
          (or_right (not (takes_commands (shape_of later) (Access (Mem Its write.offset write.size (Some write.value))))) (has_begun (shape_of later) later.actor later.own)
          (begun_by later address (ap (λ shape. shape.ram % 8) shape ∙ whole) now.aligned now.address_is now.begun))));
      ends_other = subst Ends (sym write.is) refl;
    }

-- Events of parts.

module _ (actor : Option ℕ) (shape : GuestShape) (targets : ℕ → Option ℕ) (words : List Happened) where
  pub parts_then : (done : List Part) (Rest : List Happened → Type 0) (before own piece : List Happened) → ArePartsThen actor shape targets words done IsOver before own → Rest piece → ArePartsThen actor shape targets words done Rest before (own ++ piece)
  parts_then [] Rest before own piece over rest = subst Rest (sym (ap (λ own. own ++ piece) over)) rest
  parts_then (part ∷ done) Rest before own piece first rest = record {
    view = first.view;
    own = first.own;
    rest = first.rest ++ piece;
    split = ap (λ events. events ++ piece) first.split ∙ append_assoc first.own first.rest piece;
    made = first.made;
    ends = first.ends;
    later = parts_then done Rest words first.rest piece first.later rest;
  }

  parts_later : (early late : List Part) (own piece : List Happened) → ArePartsThen actor shape targets words early IsOver words own → ArePartsThen actor shape targets words late IsOver words piece → ArePartsThen actor shape targets words (early ++ late) IsOver words (own ++ piece)
  parts_later [] late own piece over rest =
      let Piece : List Happened → Type 0 = λ events. ArePartsThen actor shape targets words late IsOver words events in
      subst Piece (sym (ap (λ own. own ++ piece) over)) rest
  parts_later (part ∷ early) late own piece first rest = record {
    view = first.view;
    own = first.own;
    rest = first.rest ++ piece;
    split = ap (λ events. events ++ piece) first.split ∙ append_assoc first.own first.rest piece;
    made = first.made;
    ends = first.ends;
    later = parts_later early late first.rest piece first.later rest;
  }

  -- parts, and those after them, the first of which reads after these events or after the command's words
  pub parts_on :
      (early late : List Part) (before own piece : List Happened) → ArePartsThen actor shape targets words early IsOver before own → ((reads : List Happened) → (reads ≡ before ++ own) ⊎ (reads ≡ words) → ArePartsThen actor shape targets words late IsOver reads piece)
      → ArePartsThen actor shape targets words (early ++ late) IsOver before (own ++ piece)
  parts_on [] late before own piece over rest =
      let Piece : List Happened → Type 0 = λ events. ArePartsThen actor shape targets words late IsOver before events in
      subst Piece (sym (ap (λ own. own ++ piece) over)) (rest before (inl (sym (ap (λ own. before ++ own) over ∙ append-nil before))))
  parts_on (part ∷ early) late before own piece first rest = record {
    view = first.view;
    own = first.own;
    rest = first.rest ++ piece;
    split = ap (λ events. events ++ piece) first.split ∙ append_assoc first.own first.rest piece;
    made = first.made;
    ends = first.ends;
    later = parts_later early late first.rest piece first.later (rest words (inr refl));
  }

  -- one part
  pub one_part : (part : Part) (before own : List Happened) → MakesPart actor shape targets part before own → ArePartsThen actor shape targets words (part ∷ []) IsOver before own
  one_part part before own made = record { view = made.view; own = own; rest = []; split = sym (append-nil own); made = made.made; ends = made.ends; later = refl }

-- What is agreed.

-- whoever agrees at the end agrees before it
pub agree_back : (old new : Seen) (steps : List Made) (targets : ℕ → Option ℕ) → Adds old new steps → IsTrue (are_within steps) → AgreeFound new targets → AgreeFound old targets
agree_back old new steps targets add within agree =
    let shape : shape_of new ≡ shape_of old = ap shape_of add.new_is in
    let There : ℕ → GuestShape → Type 0 = λ id shape. IsTrue (has_interrupt shape (Lpi id)) in
    record { each = λ id there. of id (subst (There id) (sym shape) there) shape (first_step old id) refl }
  where
    of : (id : ℕ) → IsTrue (has_interrupt (shape_of new) (Lpi id)) → shape_of new ≡ shape_of old → (o : Option Made) → first_step old id ≡ o → IfSome o (λ made. targets id ≡ target_in (irq_of made.found).route (shape_of old))
    of id there shape None e = tt
    of id there shape (Some made) e =
        let If : Option Made → Type 0 = λ o. IfSome o (λ made. targets id ≡ target_in (irq_of made.found).route (shape_of new)) in
        in_some made (subst If (first_stays old new steps id made add within e) (agree.each id there)) ∙ ap (target_in (irq_of made.found).route) shape
      where
        in_some : (made : Made) → IfSome (Some made) (λ made. targets id ≡ target_in (irq_of made.found).route (shape_of new)) → targets id ≡ target_in (irq_of made.found).route (shape_of new)
        in_some made h = h

-- Parts, one after the other.

pub ease_none : (seen : Seen) → IsTrue (owes_no_mark seen.local) → StaysAtEase seen.local seen.local
ease_none seen marks = let set : ℕ → Targets = λ n. record { 0 = n } in record { same = refl; marks = ap set (eqb-true seen.local.marks.vcpus.0 0 marks) }

pub ease_on : (one two three : Local) → StaysAtEase one two → StaysAtEase two three → StaysAtEase one three
ease_on one two three a b =
    let back : Local → Local = λ local. record local { marks = one.marks } in
    record { same = ap back b.same ∙ a.same; marks = b.marks }

pub parts_none : (seen : Seen) (address : ℕ) (maps : Maps) (command : Command) (top : ℕ) → IsTrue (owes_no_mark seen.local) → DoesParts seen seen address maps command top []
parts_none seen address maps command top marks =
    record {
      steps = [];
      adds = record { new_is = sym (seen_nil seen) };
      within = refl;
      going = refl;
      local_is = ease_none seen marks;
      keeps = keeps_none seen address;
      untouched = λ id there above is. is;
      makes = λ actor targets agree words before held has. refl;
      piece = λ p idle write none has. piece_nil seen p idle;
    }

pub parts_one : (old new : Seen) (address : ℕ) (maps : Maps) (command : Command) (top : ℕ) (part : Part) → (shape_of old).ram % 8 ≡ 0 → lpi_of part < top → GoesFirst old part → IsAmong old maps command (lpi_of part) → DoesPart old new address part
    → DoesParts old new address maps command top (part ∷ [])
parts_one old new address maps command top part whole below first among does =
    record {
      steps = does.steps;
      adds = does.adds;
      within = does.within;
      going = does.going;
      local_is = does.local_is;
      keeps = does.keeps;
      untouched = λ id there above is. does.untouched id there (λ e. omega (arith, e, above, below)) is;
      makes = λ actor targets agree words before held has. one_part actor (shape_of old) targets words part before (part_events old does.steps) (does.makes actor targets agree first before has);
      piece = λ p idle write none has. does.piece p idle (due_by old address maps command p (lpi_of part) whole write has among) none;
    }

pub write_stays : (p q : Progress) → StaysSo p q → IsItsWrite p → IsItsWrite q
write_stays p q stays write = record { offset = write.offset; size = write.size; value = write.value; is = ap (λ r. r.operation) stays.same ∙ write.is }

pub parts_join :
    (old mid new : Seen) (address : ℕ) (maps : Maps) (command : Command) (low top : ℕ) (early late : List Part) → (shape_of old).ram % 8 ≡ 0 → low ≤ top → DoesParts old mid address maps command low early → DoesParts mid new address maps command top late
    → DoesParts old new address maps command top (early ++ late)
parts_join old mid new address maps command low top early late whole rises one two =
    let shape : shape_of mid ≡ shape_of old = ap shape_of one.adds.new_is in
    let There : ℕ → GuestShape → Type 0 = λ id shape. IsTrue (has_interrupt shape (Lpi id)) in
    record {
      steps = one.steps ++ two.steps;
      adds = adds_join old mid new one.steps two.steps one.adds two.adds;
      within = within_joins one.steps two.steps one.within two.within;
      going = going_joins one.steps two.steps one.going two.going;
      local_is = ease_on old.local mid.local new.local one.local_is two.local_is;
      keeps = keeps_on old mid new address one.steps two.steps one.adds one.keeps two.keeps;
      untouched = λ id there above is. two.untouched id (subst (There id) (sym shape) there) above (one.untouched id there (omega (arith, rises, above)) is);
      makes = λ actor targets agree words before held has.
          (let By : GuestShape → List Happened → Type 0 = λ shape reads. ArePartsThen actor shape targets words late IsOver reads (part_events mid two.steps) in
          let All : List Happened → Type 0 = λ events. ArePartsThen actor (shape_of old) targets words (early ++ late) IsOver before events in
          let still = has_still old mid address one.steps words one.adds one.keeps held in
          let after : (reads : List Happened) → HasFetched mid address reads → By (shape_of old) reads = λ reads here. subst (λ shape. By shape reads) shape (two.makes actor targets agree words reads still here) in
          subst All (sym (events_then old mid one.steps two.steps one.adds))
          (parts_on actor (shape_of old) targets words early late before (part_events old one.steps) (part_events mid two.steps) (one.makes actor targets (agree_back mid new two.steps targets two.adds two.within agree) words before held has)
          (λ reads from. elim from [
            | inl e ↦ after reads (subst (HasFetched mid address) (sym e) (has_on old mid address one.steps before one.adds one.keeps has))
            | inr e ↦ after reads (subst (HasFetched mid address) (sym e) still)
          ])));
      piece = λ p idle write none has.
          good_then old mid p one.steps two.steps one.adds (one.piece p idle write none has)
          (λ q stays idle_mid. two.piece q idle_mid (write_stays p q stays write) (ap (λ r. r.wants) stays.same ∙ none) (command_kept old mid address maps command one.steps whole one.adds one.within one.going (kept_by old mid address one.steps one.keeps) has));
    }
