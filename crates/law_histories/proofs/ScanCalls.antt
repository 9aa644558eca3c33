-- Each call does its commands one after the other: their parts, and then their end.
use Rattle.std.proofs.Common.{◌≡◌, ℕ, ◌+◌, ◌≤◌, ◌&&◌, not, Bool, true, false, cond, List, [], ◌∷◌, ◌++◌, map, fold, Option, Some, None, is_none, Result, Ok, Err, refl, sym, ap, ◌∙◌, subst, arith, ◌⊎◌, inl, inr}
use Rattle.std.specs.List.{list_all, range_with_len}
use Rattle.std.specs.Option.{option_map_or}
use Rattle.std.proofs.lemmas.Bool.{and_parts}
use Rattle.std.proofs.lemmas.Grind.{fold-append}
use Rattle.std.proofs.lemmas.List.{append_assoc, map-append}
use Rattle.floor_histories.specs.Words.{Lpi, Spi, Message, Wire, Msi, Frame, Dist, Redist, Its, Ram as Memory, Icc, Mem, GuestShape, interrupt_count}
use Rattle.floor_histories.specs.Registers.{Enables, Half, has_lpis, Cbaser as CbaserReg, Cwriter as CwriterReg, Baser0 as Baser0Reg, Baser1 as Baser1Reg, retries, BadCommand, Command, fault_number, Maps, translated}
use Rattle.floor_histories.specs.GicDmap.Map.{decoded as dist_decoded}
use Rattle.floor_histories.specs.GicImap.declared.map.Reg.{Reg as ItsReg}
use Rattle.floor_histories.specs.GicImap.declared.map.Reg.TheVariants.{Ctlr as ItsCtlrReg}
use Rattle.floor_histories.specs.GicImap.declared.map.RegRef.{RegRef as ItsRef}
use Rattle.floor_histories.specs.GicImap.declared.map.RegRef.TheVariants.{Plain as ItsPlain, Reserved as ItsReserved}
use Rattle.floor_histories.specs.GicImap.Map.{decoded as its_decoded}
use Rattle.floor_histories.specs.GicRmap.Map.{decoded as redist_decoded}
use Rattle.floor_histories.specs.ItsCmd.Command.{decoded}
use Rattle.floor_histories.specs.Calls.{Part, Map, Clear as ClearPart, Event, Up, Down, Touch, Reach, Take, Leave, Enable, Cpu, Put, CtlrBegin, CtlrEnd, ItsBegin, Operation, Access, Device, Residence, Place, Runs, Done, Stalls, copy_at, redist_events, its_written, is_in_queue, takes_its, memory_written, icc_events, its_events, access_events, device_events, takes_turn, lpi_event, queue_event, command_words, command_parts, decoded_parts, next_offset, parts, maps_done, Happened, is_beside, named_of, Beside, Makes, ArePartsThen, IsCommand, AreCommands, IsPlainCall, AreStarted, IsItsCall, IsItsWrite, IsCall, left_by, its_written_by, View, is_its_enabled, Cbaser, Cwriter, PlainWord, command_targets, words_read, RaisesAlone}
use Rattle.floor_histories.specs.GicCall.declared.command.Part.TheVariants.{Forget, Retarget, Raise as RaisePart, Configure}
use Rattle.floor_histories.specs.GicCall.declared.event.Event.TheVariants.{Raise, Read, ItsEnd, Queue}
use Rattle.floor_histories.specs.GicCall.Call.{starts_commands}
use Rattle.floor_histories.proofs.GicCall.TraceLemmas.{its_made, access_made, op_made}
use Rattle.law_histories.proofs.QuietLemmas.{is_spread, is_its, is_quiet, AreSpreadBy, quiet, spread, dist_by, redist_quiet, memory_quiet, icc_quiet, is_moving}
use Rattle.law_histories.proofs.ScanLemmas.{Scan, scanned, scan_of, IsDoneBy, is_open, open_ends, IsScanned, scanned_named, scanned_both}
use Rattle.law_histories.proofs.SpreadLemmas.{events_of}

-- Turns of the ITS.

-- how often a list of events takes the ITS
abbrev pub takes_one : Event → ℕ
takes_one ItsBegin = 1
takes_one event = 0

abbrev pub takes_of : List Event → ℕ
takes_of [] = 0
takes_of (event ∷ events) = takes_one event + takes_of events

-- whether the actor has it afterwards
abbrev pub holds : Bool → Event → Bool
holds b ItsBegin = true
holds b ItsEnd = false
holds b event = b

-- an event of another kind
abbrev pub is_apart : Event → Bool
is_apart event = not (is_its event)

pub record IsTurnFree (b : Bool) (event : Event) : Type 0 where
  pub takes : takes_one event ≡ 0
  pub holds_same : holds b event ≡ b
  pub opens : is_open event ≡ true

pub turn_free : (b : Bool) (event : Event) → is_apart event ≡ true → IsTurnFree b event
turn_free b ItsBegin h = absurd (cc)
turn_free b ItsEnd h = absurd (cc)
turn_free b (Queue offset change) h = absurd (cc)
turn_free b (Raise key) h = record { takes = refl; holds_same = refl; opens = refl }
turn_free b (Up key) h = record { takes = refl; holds_same = refl; opens = refl }
turn_free b (Down key) h = record { takes = refl; holds_same = refl; opens = refl }
turn_free b (Touch key touching) h = record { takes = refl; holds_same = refl; opens = refl }
turn_free b (Reach key vcpu) h = record { takes = refl; holds_same = refl; opens = refl }
turn_free b (Take key vcpu) h = record { takes = refl; holds_same = refl; opens = refl }
turn_free b (Leave key vcpu) h = record { takes = refl; holds_same = refl; opens = refl }
turn_free b (Enable vcpu) h = record { takes = refl; holds_same = refl; opens = refl }
turn_free b (Cpu vcpu reg write) h = record { takes = refl; holds_same = refl; opens = refl }
turn_free b (Read place) h = record { takes = refl; holds_same = refl; opens = refl }
turn_free b (Put word value) h = record { takes = refl; holds_same = refl; opens = refl }
turn_free b (CtlrBegin enables) h = record { takes = refl; holds_same = refl; opens = refl }
turn_free b CtlrEnd h = record { takes = refl; holds_same = refl; opens = refl }

pub takes_both : (one other : List Event) → takes_of (one ++ other) ≡ takes_of one + takes_of other
takes_both [] other = omega arith
takes_both (event ∷ one) other = let rest = takes_both one other in omega (arith, rest)

-- what a list of events does of turns
pub record TurnsAre (b : Bool) (events : List Event) (count : ℕ) (after : Bool) : Type 0 where
  pub takes : takes_of events ≡ count
  pub held : fold holds b events ≡ after

apart_turns : (b : Bool) (events : List Event) → list_all is_apart events ≡ true → TurnsAre b events 0 b
apart_turns b [] h = record { takes = refl; held = refl }
apart_turns b (event ∷ events) h =
    let both = and_parts (is_apart event) (list_all is_apart events) h in
    let free = turn_free b event both.0 in
    let rest = apart_turns b events both.1 in
    record { takes = add_none (takes_one event) (takes_of events) free.takes rest.takes; held = ap (λ c. fold holds c events) free.holds_same ∙ rest.held }
  where
    add_none : (m n : ℕ) → m ≡ 0 → n ≡ 0 → m + n ≡ 0
    add_none m n h k = omega (arith, h, k)

turns_both : (b c d : Bool) (m n : ℕ) (one other : List Event) → TurnsAre b one m c → TurnsAre c other n d → TurnsAre b (one ++ other) (m + n) d
turns_both b c d m n one other h k = record {
  takes = takes_both one other ∙ ap (λ x. x + takes_of other) h.takes ∙ ap (λ x. m + x) k.takes;
  held = fold-append holds b one other ∙ ap (λ x. fold holds x other) h.held ∙ k.held;
}

apart_open : (events : List Event) → list_all is_apart events ≡ true → list_all is_open events ≡ true
apart_open [] h = refl
apart_open (event ∷ events) h =
    let both = and_parts (is_apart event) (list_all is_apart events) h in
    ap (λ b. b && list_all is_open events) (turn_free true event both.0).opens ∙ apart_open events both.1

-- reads and moves take no turn
pub beside_apart : (actor : Option ℕ) (event : Event) → is_beside actor event ≡ true → is_apart event ≡ true
beside_apart actor ItsBegin h = absurd (cc)
beside_apart actor ItsEnd h = absurd (cc)
beside_apart actor (Queue offset change) h = absurd (cc)
beside_apart actor (Raise key) h = refl
beside_apart actor (Up key) h = refl
beside_apart actor (Down key) h = refl
beside_apart actor (Touch key touching) h = refl
beside_apart actor (Reach key vcpu) h = refl
beside_apart actor (Take key vcpu) h = refl
beside_apart actor (Leave key vcpu) h = refl
beside_apart actor (Enable vcpu) h = refl
beside_apart actor (Cpu vcpu reg write) h = refl
beside_apart actor (Read place) h = refl
beside_apart actor (Put word value) h = absurd (cc)
beside_apart actor (CtlrBegin enables) h = refl
beside_apart actor CtlrEnd h = refl

turns_named : (actor : Option ℕ) (b after : Bool) (count : ℕ) (piece : List Happened) → TurnsAre b (events_of (named_of actor piece)) count after → TurnsAre b (events_of piece) count after
turns_named actor b after count [] is = is
turns_named actor b after count (one ∷ piece) is = of (is_beside actor one.event) refl is (λ c n. turns_named actor c after n piece)
  where
    of : (s : Bool) → is_beside actor one.event ≡ s → TurnsAre b (events_of (cond (not s) (one ∷ named_of actor piece) (named_of actor piece))) count after
        → ((c : Bool) (n : ℕ) → TurnsAre c (events_of (named_of actor piece)) n after → TurnsAre c (events_of piece) n after) → TurnsAre b (events_of (one ∷ piece)) count after
    of true e is rest =
        let free = turn_free b one.event (beside_apart actor one.event e) in
        let later = rest b count is in
        record { takes = add (takes_one one.event) (takes_of (events_of piece)) free.takes ∙ later.takes; held = ap (λ c. fold holds c (events_of piece)) free.holds_same ∙ later.held }
      where
        add : (m n : ℕ) → m ≡ 0 → m + n ≡ n
        add m n h = omega (arith, h)
    of false e is rest =
        let later = rest (holds b one.event) (takes_of (events_of (named_of actor piece))) (record { takes = refl; held = is.held }) in
        record { takes = ap (λ n. takes_one one.event + n) later.takes ∙ is.takes; held = later.held }

-- What a piece does of commands and of turns.

pub record IsTurn (shape : GuestShape) (targets : ℕ → ℕ → Option ℕ) (taken : Maps) (scan later : Scan) (b : Bool) (count : ℕ) (after : Bool) (events : List Event) : Type 0 where
  pub scan_is : IsScanned shape targets taken scan later events
  pub turns : TurnsAre b events count after

-- how the queue goes on, where the fault of its next command is this
abbrev queue_if : GuestShape → View → Option ℕ → Event
queue_if shape view o = option_map_or (λ fault. Queue view.offset (Stalls fault)) o (Queue (next_offset view) (Done (command_words shape view)))

module _ (shape : GuestShape) (targets : ℕ → ℕ → Option ℕ) (taken : Maps) where
  makes_turn : (actor : Option ℕ) (view : View) (events : List Event) (places : List Place) (before piece : List Happened) (scan later : Scan) (b after : Bool) (count : ℕ)
      → Makes actor view events places before piece → IsTurn shape targets taken scan later b count after events → IsTurn shape targets taken scan later b count after (events_of piece)
  makes_turn actor view events places before piece scan later b after count makes is = record {
    scan_is = scanned_named actor shape targets taken scan later piece (subst (IsScanned shape targets taken scan later) (sym makes.events_are) is.scan_is);
    turns = turns_named actor b after count piece (subst (λ es. TurnsAre b es count after) (sym makes.events_are) is.turns);
  }

  both_turns : (scan between later : Scan) (b c d : Bool) (m n : ℕ) (one other : List Happened) → IsTurn shape targets taken scan between b m c (events_of one) → IsTurn shape targets taken between later c n d (events_of other)
      → IsTurn shape targets taken scan later b (m + n) d (events_of (one ++ other))
  both_turns scan between later b c d m n one other h k = record {
    scan_is = scanned_both shape targets taken scan between later one other h.scan_is k.scan_is;
    turns = subst (λ es. TurnsAre b es (m + n) d) (sym (map-append (λ (happened : Happened). happened.event) one other)) (turns_both b c d m n (events_of one) (events_of other) h.turns k.turns);
  }

  apart_turn : (scan : Scan) (b : Bool) (events : List Event) → list_all is_apart events ≡ true → IsTurn shape targets taken scan (scan_of taken scan events) b 0 b events
  apart_turn scan b events all = record { scan_is = record { ends = open_ends shape targets taken scan events (apart_open events all); leads = refl }; turns = apart_turns b events all }

  nothing_turn : (scan : Scan) (b : Bool) → IsTurn shape targets taken scan scan b 0 b []
  nothing_turn scan b = record { scan_is = record { ends = tt; leads = refl }; turns = record { takes = refl; held = refl } }

  -- Commands.

  part_scan : (scan : Scan) (view : View) (others : ℕ → Option ℕ) (part : Part) → scanned taken scan (lpi_event shape view others part) ≡ record scan { made = scan.made ++ part ∷ [] }
  part_scan scan view others (Forget id) = refl
  part_scan scan view others (Map id target) = refl
  part_scan scan view others (Retarget id target) = refl
  part_scan scan view others (RaisePart id) = refl
  part_scan scan view others (ClearPart id) = refl
  part_scan scan view others (Configure id) = refl

  part_apart : (view : View) (others : ℕ → Option ℕ) (part : Part) → is_apart (lpi_event shape view others part) ≡ true
  part_apart view others (Forget id) = refl
  part_apart view others (Map id target) = refl
  part_apart view others (Retarget id target) = refl
  part_apart view others (RaisePart id) = refl
  part_apart view others (ClearPart id) = refl
  part_apart view others (Configure id) = refl

  part_turn : (scan : Scan) (view : View) (others : ℕ → Option ℕ) (part : Part) → IsTurn shape targets taken scan (record scan { made = scan.made ++ part ∷ [] }) true 0 true (lpi_event shape view others part ∷ [])
  part_turn scan view others part =
      subst (λ s. IsTurn shape targets taken scan s true 0 true (lpi_event shape view others part ∷ [])) (part_scan scan view others part)
      (apart_turn scan true (lpi_event shape view others part ∷ []) (ap (λ b. b && true) (part_apart view others part)))

  none_appended : (xs : List Part) → xs ++ [] ≡ xs
  none_appended [] = refl
  none_appended (x ∷ xs) = ap (λ ys. x ∷ ys) (none_appended xs)

  parts_turn : (actor : Option ℕ) (others : ℕ → Option ℕ) (todo all : List Part) (scan later : Scan) (words : List Happened) (Rest : List Happened → Type 0) → scan.made ++ todo ≡ all
      → ((after : List Happened) → Rest after → IsTurn shape targets taken (record scan { made = all }) later true 0 true (events_of after))
      → (before piece : List Happened) → ArePartsThen actor shape others words todo Rest before piece → IsTurn shape targets taken scan later true 0 true (events_of piece)
  parts_turn actor others [] all scan later words Rest are rest before piece is =
      subst (λ made. IsTurn shape targets taken (record scan { made = made }) later true 0 true (events_of piece)) (sym are ∙ none_appended scan.made) (rest piece is)
  parts_turn actor others (part ∷ todo) all scan later words Rest are rest before piece is =
      let next : Scan = record scan { made = scan.made ++ part ∷ [] } in
      subst (λ p. IsTurn shape targets taken scan later true 0 true (events_of p)) (sym is.split)
      (both_turns scan next later true true true 0 0 is.own is.rest
      (makes_turn actor is.view (lpi_event shape is.view others part ∷ []) _ before is.own scan next true true 0 is.made (part_turn scan is.view others part))
      (parts_turn actor others todo all next later words Rest (append_assoc scan.made (part ∷ []) todo ∙ are) rest words is.rest is.later))

  -- the end of a command
  module _ (view : View) (scan : Scan) (maps_are : scan.maps ≡ view.maps) (targets_are : view.targets ≡ targets scan.number) (made_is : scan.made ≡ command_parts shape view) where
    words : List ℕ
    words = command_words shape view

    parts_when : (o : Option ℕ) → fault_number shape view.maps (decoded (command_words shape view)) ≡ o → scan.made ≡ cond (is_none o) (decoded_parts shape view (decoded (command_words shape view))) []
    parts_when o e = made_is ∙ ap (λ o. cond (is_none o) (decoded_parts shape view (decoded (command_words shape view))) []) e

    good_is : (r : Result Command BadCommand) → decoded (command_words shape view) ≡ r → fault_number shape view.maps r ≡ None → scan.made ≡ decoded_parts shape view (decoded (command_words shape view)) → IsDoneBy shape (targets scan.number) scan (command_words shape view)
    good_is (Err bad) e none made = absurd (cc)
    good_is (Ok command) e none made = record {
      command = command;
      is = e;
      good = ap (λ m. fault_number shape m (decoded (command_words shape view))) maps_are ∙ ap (fault_number shape view.maps) e ∙ none;
      done = made ∙ ap (decoded_parts shape view) e ∙ ap (λ m. parts shape m view.targets command) (sym maps_are) ∙ ap (λ t. parts shape scan.maps t command) targets_are;
    }

    -- the scan after it, and the ITS as it was left
    after_end : Scan
    after_end = record { maps = (left_by shape view (queue_event shape view)).maps; made = []; number = scan.number + 1 }

    end_turn : IsTurn shape targets taken scan (record { maps = (left_by shape view (queue_event shape view)).maps; made = []; number = scan.number + 1 }) true 0 true (queue_event shape view ∷ [])
    end_turn = of (fault_number shape view.maps (decoded (command_words shape view))) refl
      where
        of : (o : Option ℕ) → fault_number shape view.maps (decoded (command_words shape view)) ≡ o
            → IsTurn shape targets taken scan (record { maps = (left_by shape view (queue_if shape view o)).maps; made = []; number = scan.number + 1 }) true 0 true (queue_if shape view o ∷ [])
        of None e = record {
          scan_is = record {
            ends = (good_is (decoded (command_words shape view)) refl e (parts_when None e), tt);
            leads = ap (λ m. let s : Scan = record { maps = maps_done m (command_words shape view); made = []; number = scan.number + 1 } in s) maps_are;
          };
          turns = record { takes = refl; held = refl };
        }
        of (Some fault) e = record {
          scan_is = record {
            ends = (record { words = command_words shape view; is = ap (λ m. fault_number shape m (decoded (command_words shape view))) maps_are ∙ e; nothing = parts_when (Some fault) e }, tt);
            leads = ap (λ m. let s : Scan = record { maps = m; made = []; number = scan.number + 1 } in s) maps_are;
          };
          turns = record { takes = refl; held = refl };
        }

  command_turn : (actor : Option ℕ) (view : View) (scan : Scan) (piece : List Happened) → scan.maps ≡ view.maps → view.targets ≡ targets scan.number → scan.made ≡ [] → IsCommand actor shape view piece
      → IsTurn shape targets taken scan (record { maps = (left_by shape view (queue_event shape view)).maps; made = []; number = scan.number + 1 }) true 0 true (events_of piece)
  command_turn actor view scan piece maps_are targets_are none is =
      let later : Scan = record { maps = (left_by shape view (queue_event shape view)).maps; made = []; number = scan.number + 1 } in
      let done : Scan = record scan { made = command_parts shape view } in
      subst (λ p. IsTurn shape targets taken scan later true 0 true (events_of p)) (sym is.split)
      (both_turns scan scan later true true true 0 0 is.fetch is.rest
      (makes_turn actor view [] _ [] is.fetch scan scan true true 0 is.fetched (nothing_turn scan true))
      (parts_turn actor view.targets (command_parts shape view) (command_parts shape view) scan later (words_read shape view) (λ after. Makes actor view (queue_event shape view ∷ []) [] [] after) (ap (λ xs. xs ++ command_parts shape view) none)
      (λ after makes. makes_turn actor view (queue_event shape view ∷ []) [] [] after done later true true 0 makes (end_turn view done maps_are targets_are refl))
      is.fetch is.rest is.done))

-- what a piece leads to
pub record LeadsOn (shape : GuestShape) (targets : ℕ → ℕ → Option ℕ) (taken : Maps) (scan : Scan) (b : Bool) (count : ℕ) (after : Bool) (events : List Event) : Type 0 where
  pub later : Scan
  pub turn : IsTurn shape targets taken scan later b count after events

module _ (shape : GuestShape) (beside : Beside) where
  commands_turn : (actor : Option ℕ) (number : ℕ) (its : View) (views : List View) (scan : Scan) (piece : List Happened) → scan.maps ≡ its.maps → scan.number ≡ number → scan.made ≡ [] → AreCommands actor shape beside number its views piece
      → LeadsOn shape (command_targets beside) beside.maps scan true 0 true (events_of piece)
  commands_turn actor number its [] scan piece maps_are number_is none is = record { later = scan; turn = makes_turn shape (command_targets beside) beside.maps actor its [] [] [] piece scan scan true true 0 is.0 (nothing_turn shape (command_targets beside) beside.maps scan true) }
  commands_turn actor number its (view ∷ views) scan piece maps_are number_is none is =
      let next : Scan = record { maps = (left_by shape view (queue_event shape view)).maps; made = []; number = scan.number + 1 } in
      let first = command_turn shape (command_targets beside) beside.maps actor view scan is.own (maps_are ∙ is.same.maps) (is.targets_are ∙ ap (command_targets beside) (sym number_is)) none is.command in
      let rest = commands_turn actor (number + 1) (left_by shape view (queue_event shape view)) views next is.rest refl (ap (λ n. n + 1) number_is) refl is.later in
      record {
        later = rest.later;
        turn = subst (λ p. IsTurn shape (command_targets beside) beside.maps scan rest.later true 0 true (events_of p)) (sym is.split) (both_turns shape (command_targets beside) beside.maps scan next rest.later true true true 0 0 is.own is.rest first rest.turn);
      }

  pub started_turn : (b : Bool) (actor : Option ℕ) (its : View) (views : List View) (scan : Scan) (piece : List Happened) → scan.maps ≡ its.maps → scan.number ≡ 0 → scan.made ≡ [] → AreStarted b actor shape beside its views piece → LeadsOn shape (command_targets beside) beside.maps scan true 0 true (events_of piece)
  started_turn true actor its views scan piece maps_are number_is none is = commands_turn actor 0 its views scan piece maps_are number_is none is
  started_turn false actor its views scan piece maps_are number_is none is = record { later = scan; turn = makes_turn shape (command_targets beside) beside.maps actor its [] [] [] piece scan scan true true 0 is (nothing_turn shape (command_targets beside) beside.maps scan true) }

  -- before any command
  abbrev pub start : Scan
  start = record { maps = beside.maps; made = []; number = 0 }

  -- the events of a write of a register of the ITS: nothing of a command
  pub record IsWritten (view : View) (events : List Event) : Type 0 where
    pub turn : IsTurn shape (command_targets beside) beside.maps start start true 0 true events
    pub maps : (its_written_by shape view events).maps ≡ view.maps

  nothing_written : (view : View) → IsWritten view []
  nothing_written view = record { turn = nothing_turn shape (command_targets beside) beside.maps start true; maps = refl }

  unless_written : (b : Bool) (view : View) (events : List Event) → IsWritten view events → IsWritten view (cond b [] events)
  unless_written true view events is = nothing_written view
  unless_written false view events is = is

  when_written : (b : Bool) (view : View) (events : List Event) → IsWritten view events → IsWritten view (cond b events [])
  when_written true view events is = is
  when_written false view events is = nothing_written view

  cwriter_written : (b c : Bool) (view : View) (offset : ℕ) → IsWritten view (cond b (Put Cwriter offset ∷ cond c (Queue view.offset Runs ∷ []) []) [])
  cwriter_written true true view offset = record { turn = record { scan_is = record { ends = (tt, (tt, tt)); leads = refl }; turns = record { takes = refl; held = refl } }; maps = refl }
  cwriter_written true false view offset = record { turn = record { scan_is = record { ends = (tt, tt); leads = refl }; turns = record { takes = refl; held = refl } }; maps = refl }
  cwriter_written false c view offset = nothing_written view

  one_put : (view : View) (word : PlainWord) (value : ℕ) → IsWritten view (Put word value ∷ [])
  one_put view word value = record { turn = record { scan_is = record { ends = (tt, tt); leads = refl }; turns = record { takes = refl; held = refl } }; maps = refl }

  reg_written : (view : View) (reg : ItsReg) (half : Half) (value : ℕ) → IsWritten view (its_written view reg half value)
  reg_written view ItsCtlrReg half value = one_put view _ _
  reg_written view CbaserReg half value =
      unless_written (is_its_enabled view) view _ (record { turn = record { scan_is = record { ends = (tt, (tt, (tt, tt))); leads = refl }; turns = record { takes = refl; held = refl } }; maps = refl })
  reg_written view CwriterReg half value = cwriter_written (is_in_queue view _) (view.is_stalled && retries (view.words Cbaser) _) view _
  reg_written view Baser0Reg half value = unless_written (is_its_enabled view) view _ (one_put view _ _)
  reg_written view Baser1Reg half value = unless_written (is_its_enabled view) view _ (one_put view _ _)
  reg_written view reg half value = nothing_written view

  pub register_written : (view : View) (ref : ItsRef) (value : ℕ) → IsWritten view (its_events shape view ref (Some value))
  register_written view (ItsPlain reg half) value = when_written (has_lpis shape) view (its_written view reg half value) (reg_written view reg half value)
  register_written view ItsReserved value = nothing_written view

-- Calls.

pub record IsCallTurn (shape : GuestShape) (beside : Beside) (piece : List Happened) : Type 0 where
  pub count : ℕ
  pub few : count ≤ 1
  pub leads : LeadsOn shape (command_targets beside) beside.maps (record { maps = beside.maps; made = []; number = 0 }) false count false (events_of piece)

module _ (shape : GuestShape) (beside : Beside) where
  apart_call : (actor : Option ℕ) (view : View) (events : List Event) (places : List Place) (before piece : List Happened) → Makes actor view events places before piece → list_all is_apart events ≡ true → IsCallTurn shape beside piece
  apart_call actor view events places before piece makes all =
      let first : Scan = record { maps = beside.maps; made = []; number = 0 } in
      record {
        count = 0;
        few = omega arith;
        leads = record {
          later = scan_of beside.maps first events;
          turn = makes_turn shape (command_targets beside) beside.maps actor view events places before piece first (scan_of beside.maps first events) false false 0 makes (apart_turn shape (command_targets beside) beside.maps first false events all);
        };
      }

  its_call : (vcpu offset size value : ℕ) (piece : List Happened) (answer : Option ℕ) → IsItsCall shape beside vcpu offset size value piece answer → IsCallTurn shape beside piece
  its_call vcpu offset size value piece answer is =
      let first : Scan = record { maps = beside.maps; made = []; number = 0 } in
      let events = its_events shape is.view (its_decoded offset size) (Some value) in
      let written = register_written shape beside is.view (its_decoded offset size) value in
      let register = makes_turn shape (command_targets beside) beside.maps (Some vcpu) is.view (ItsBegin ∷ events) _ [] is.register first first false true 1 (its_made is)
      (record {
        scan_is = record { ends = (tt, written.turn.scan_is.ends); leads = written.turn.scan_is.leads };
        turns = record { takes = ap (λ n. 1 + n) written.turn.turns.takes; held = written.turn.turns.held };
      }) in
      let commands = started_turn shape beside (starts_commands shape is.view Its offset size (Some value)) (Some vcpu) (its_written_by shape is.view events) is.views first is.commands (sym (written.maps ∙ is.maps)) refl refl is.started in
      let last = makes_turn shape (command_targets beside) beside.maps (Some vcpu) is.view (ItsEnd ∷ []) [] [] is.last commands.later commands.later true false 0 is.ended
      (record { scan_is = record { ends = (tt, tt); leads = refl }; turns = record { takes = refl; held = refl } }) in
      record {
        count = 1;
        few = omega arith;
        leads = record {
          later = commands.later;
          turn = subst (λ p. IsTurn shape (command_targets beside) beside.maps first commands.later false 1 false (events_of p)) (sym is.split)
              (both_turns shape (command_targets beside) beside.maps first commands.later commands.later false true false 1 0 (is.register ++ is.commands) is.last
              (both_turns shape (command_targets beside) beside.maps first first commands.later false true true 1 0 is.register is.commands register commands.turn) last);
        };
      }

-- accesses that do not take the ITS
pub quiet_apart : (events : List Event) → list_all is_quiet events ≡ true → list_all is_apart events ≡ true
quiet_apart [] h = refl
quiet_apart (event ∷ events) h =
    let both = and_parts (is_quiet event) (list_all is_quiet events) h in
    let unmoved = and_parts (not (is_spread event) && not (is_its event)) (not (is_moving event)) both.0 in
    ap (λ b. b && list_all is_apart events) (and_parts (not (is_spread event)) (not (is_its event)) unmoved.0).1 ∙ quiet_apart events both.1

copies_apart : (shape : GuestShape) (enables : Enables) (places : List ℕ) → list_all is_apart (map (copy_at shape enables) places ++ CtlrEnd ∷ []) ≡ true
copies_apart shape enables [] = refl
copies_apart shape enables (place ∷ places) = copies_apart shape enables places

pub spread_apart : (shape : GuestShape) (events : List Event) → AreSpreadBy shape events → list_all is_apart events ≡ true
spread_apart shape events (quiet es all) = quiet_apart es all
spread_apart shape events (spread enables) = copies_apart shape enables (range_with_len 0 (interrupt_count shape))

untaken_reg : (view : View) (reg : ItsReg) (half : Half) (value : ℕ) → takes_its reg ≡ false → list_all is_apart (its_written view reg half value) ≡ true
untaken_reg view ItsCtlrReg half value h = absurd (cc)
untaken_reg view CbaserReg half value h = absurd (cc)
untaken_reg view CwriterReg half value h = absurd (cc)
untaken_reg view Baser0Reg half value h = absurd (cc)
untaken_reg view Baser1Reg half value h = absurd (cc)
untaken_reg view reg half value h = refl

pub untaken_apart : (shape : GuestShape) (view : View) (ref : ItsRef) (value : ℕ) → takes_turn shape ref (Some value) ≡ false → list_all is_apart (its_events shape view ref (Some value)) ≡ true
untaken_apart shape view (ItsPlain reg half) value h = of (has_lpis shape) h
  where
    of : (b : Bool) → (b && takes_its reg) ≡ false → list_all is_apart (cond b (its_written view reg half value) []) ≡ true
    of true h = untaken_reg view reg half value h
    of false h = refl
untaken_apart shape view ItsReserved value h = refl

pub its_read_apart : (shape : GuestShape) (view : View) (ref : ItsRef) → list_all is_apart (its_events shape view ref None) ≡ true
its_read_apart shape view (ItsPlain reg half) = refl
its_read_apart shape view ItsReserved = refl

module _ (shape : GuestShape) (beside : Beside) where
  plain_call : (vcpu : ℕ) (frame : Frame) (offset size : ℕ) (write : Option ℕ) (piece : List Happened) (answer : Option ℕ) → (is : IsPlainCall shape beside vcpu frame offset size write piece answer) → list_all is_apart (access_events shape is.view frame offset size write) ≡ true
      → IsCallTurn shape beside piece
  plain_call vcpu frame offset size write piece answer is all = apart_call shape beside (Some vcpu) is.view (access_events shape is.view frame offset size write) _ [] piece (access_made is) all

  write_call : (b : Bool) (vcpu offset size value : ℕ) (piece : List Happened) (answer : Option ℕ) → takes_turn shape (its_decoded offset size) (Some value) ≡ b → IsItsWrite b shape beside vcpu offset size value piece answer → IsCallTurn shape beside piece
  write_call true vcpu offset size value piece answer e is = its_call shape beside vcpu offset size value piece answer is
  write_call false vcpu offset size value piece answer e is = plain_call vcpu Its offset size (Some value) piece answer is (untaken_apart shape is.view (its_decoded offset size) value e)

  msi_turn : (view : View) (device event : ℕ) (scan : Scan) → LeadsOn shape (command_targets beside) beside.maps scan false 1 false (device_events view (Msi device event))
  msi_turn view device event scan = of (translated view.maps (is_its_enabled view) device event)
    where
      of : (o : Option ℕ) → LeadsOn shape (command_targets beside) beside.maps scan false 1 false (ItsBegin ∷ option_map_or (λ id. Raise (Lpi id) ∷ []) o [] ++ ItsEnd ∷ [])
      of None = record { later = _; turn = record { scan_is = record { ends = (tt, (tt, tt)); leads = refl }; turns = record { takes = refl; held = refl } } }
      of (Some id) = record { later = _; turn = record { scan_is = record { ends = (tt, (tt, (tt, tt))); leads = refl }; turns = record { takes = refl; held = refl } } }

  pub call_turn : (actor : Option ℕ) (operation : Operation) (piece : List Happened) (answer : Option ℕ) → IsCall shape beside actor operation piece answer → IsCallTurn shape beside piece
  call_turn (Some vcpu) (Access (Icc reg write)) piece answer is = apart_call shape beside (Some vcpu) is.view (icc_events shape vcpu reg write) _ [] piece is.made (quiet_apart (icc_events shape vcpu reg write) (icc_quiet shape vcpu reg write))
  call_turn (Some vcpu) (Access (Mem Its offset size (Some value))) piece answer is = write_call (takes_turn shape (its_decoded offset size) (Some value)) vcpu offset size value piece answer refl is
  call_turn (Some vcpu) (Access (Mem Its offset size None)) piece answer is = plain_call vcpu Its offset size None piece answer is (its_read_apart shape is.view (its_decoded offset size))
  call_turn (Some vcpu) (Access (Mem Dist offset size write)) piece answer is = plain_call vcpu Dist offset size write piece answer is (spread_apart shape _ (dist_by shape is.view (dist_decoded offset size) write))
  call_turn (Some vcpu) (Access (Mem (Redist other) offset size write)) piece answer is =
      plain_call vcpu (Redist other) offset size write piece answer is (quiet_apart (redist_events shape is.view other (redist_decoded offset size) write) (redist_quiet shape is.view other (redist_decoded offset size) write))
  call_turn (Some vcpu) (Access (Mem Memory offset size None)) piece answer is = plain_call vcpu Memory offset size None piece answer is refl
  call_turn (Some vcpu) (Access (Mem Memory offset size (Some value))) piece answer is =
      plain_call vcpu Memory offset size (Some value) piece answer is (quiet_apart (memory_written shape is.view offset size value) (memory_quiet shape is.view offset size value))
  call_turn None (Device (Message spi)) piece answer is = apart_call shape beside None is.view (Raise (Spi spi) ∷ []) _ [] piece is.made refl
  call_turn None (Device (Wire key true)) piece answer is = apart_call shape beside None is.view (Up key ∷ []) _ [] piece is.made refl
  call_turn None (Device (Wire key false)) piece answer is = apart_call shape beside None is.view (Down key ∷ []) _ [] piece is.made refl
  call_turn None (Device (Msi device event)) piece answer is = of (op_made is)
    where
      of : Makes None is.view (device_events is.view (Msi device event)) [] [] piece ⊎ RaisesAlone beside.signals is.view piece → IsCallTurn shape beside piece
      of (inl made) =
          let first : Scan = record { maps = beside.maps; made = []; number = 0 } in
          let turn = msi_turn is.view device event first in
          record {
            count = 1;
            few = omega arith;
            leads = record { later = turn.later; turn = makes_turn shape (command_targets beside) beside.maps None is.view (device_events is.view (Msi device event)) [] [] piece first turn.later false false 1 made turn.turn };
          }
      of (inr alone) = apart_call shape beside None is.view (Raise (Lpi alone.id) ∷ []) [] [] piece alone.raised refl
  call_turn (Some vcpu) Residence piece answer is =
      let first : Scan = record { maps = beside.maps; made = []; number = 0 } in
      record {
        count = 0;
        few = omega arith;
        leads = record {
          later = first;
          turn = record {
            scan_is = scanned_named (Some vcpu) shape (command_targets beside) beside.maps first first piece (subst (λ p. IsScanned shape (command_targets beside) beside.maps first first (events_of p)) (sym is.0) (record { ends = tt; leads = refl }));
            turns = turns_named (Some vcpu) false false 0 piece (subst (λ p. TurnsAre false (events_of p) 0 false) (sym is.0) (record { takes = refl; held = refl }));
          };
        };
      }
  call_turn None (Access op) piece answer is = absurd is
  call_turn (Some vcpu) (Device op) piece answer is = absurd is
  call_turn None Residence piece answer is = absurd is
