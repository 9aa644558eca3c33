-- The worked calls: what is found of each place, and where a read of it is missing.
use Rattle.std.proofs.Common.{◌≡◌, ◌⊎◌, inl, inr, ℕ, ◌^◌, not, Bool, true, false, if◌then◌else◌, List, [], ◌∷◌, ◌++◌, All, Option, Some, None, Result, Ok, slice_index_or, refl, sym, ap, subst, ◌∙◌}
use Rattle.std.proofs.lemmas.List.{append_assoc, append-nil}
use Rattle.std.proofs.lemmas.List.Elements.{All-nil, All-head, All-tail, All-from_recursion}
use Rattle.std.specs.List.{flat_map}
use Rattle.floor_histories.specs.Registers.{pending_address, BadCommand, Command, Movall, encoded}
use Rattle.floor_histories.specs.GicCall.declared.touch.Touching.TheVariants.{Retarget}
use Rattle.floor_histories.specs.GicCall.declared.command.Part.TheVariants.{Retarget as RetargetPart}
use Rattle.floor_histories.specs.Words.{Its, Redist, Lpi, SetPending, is_number}
use Rattle.floor_histories.specs.Calls.{PlainWord, Pendbaser, ItsCtlr, Cbaser, Cwriter, Put, Enable, ItsBegin, Place, access_places, table_places, pended_events, Happened, Beside, IsCall, IsItsCall, IsLastRead, held_at, takes_command, opening_irq, View, HandsOut, Touch, Register, Record, is_table_zero, memory_places, lpis_of, Ram, Done, IsCommand, command_targets, each, parts, MakesMsi, RaisesAlone}
use Rattle.floor_histories.specs.GicCall.declared.event.Event.TheVariants.{ItsEnd, Queue, Raise}
use Rattle.floor_histories.specs.GicCall.declared.event.Found.TheVariants.{Nothing, Word as FoundWord, Lpis as FoundLpis}
use Rattle.floor_histories.specs.GicCall.declared.event.Place.TheVariants.{Word, Queue as QueuePlace}
use Rattle.floor_histories.proofs.GicCall.LateLemmas.{late_reads, reads_late}
use Rattle.floor_histories.proofs.GicCall.ReadLemmas.{last_read}
use Rattle.floor_histories.proofs.GicCall.TraceLemmas.{after_made}
use Rattle.floor_histories.proofs.GicHistory.CallLemmas.{hands_one}
use Rattle.law_histories.proofs.ScanCalls.{call_turn}
use Rattle.law_histories.specs.WorkedReads.{reads_shape, begins, ends, makes, looks, looks_at_queue, writes_cwriter, writes_cbaser, sends, sets_lpis, by_old_queue, by_old_enable, base_by_old_enable, base_by_enable, message_by_old_enable, message_by_enable, lpis_by_old_table, lpis_by_table, unmapped, ReadsCount, begins_movall, moves, ends_movall}

-- What is missing.

its_reads : {beside : Beside} {vcpu offset size value : ℕ} {piece : List Happened} {answer : Option ℕ} (is : IsItsCall reads_shape beside vcpu offset size value piece answer)
    → All (λ place. reads_late (Some vcpu) place piece ≡ true) (access_places reads_shape is.view Its offset size (Some value))
its_reads {beside} {vcpu} {offset} {size} {value} is =
    subst (λ p. All (λ place. reads_late (Some vcpu) place p ≡ true) (access_places reads_shape is.view Its offset size (Some value))) (sym (is.split ∙ append_assoc is.register is.commands is.last)) (late_reads (is.commands ++ is.last) is.written)

no_queue : (beside : Beside) (answer : Option ℕ) → IsCall reads_shape beside (Some 1) writes_cwriter by_old_queue answer → ⊥
no_queue beside answer is =
    let Late : Place → Type 0 = λ place. reads_late (Some 1) place by_old_queue ≡ true in
    let late = All-head Late QueuePlace (Word Cwriter ∷ []) (All-tail Late (Word Cbaser) (QueuePlace ∷ Word Cwriter ∷ []) (All-tail Late (Word ItsCtlr) (Word Cbaser ∷ QueuePlace ∷ Word Cwriter ∷ []) (its_reads is))) in
    absurd (cc)

no_enable : (beside : Beside) (answer : Option ℕ) → IsCall reads_shape beside (Some 1) writes_cwriter by_old_enable answer → ⊥
no_enable beside answer is =
    let Late : Place → Type 0 = λ place. reads_late (Some 1) place by_old_enable ≡ true in
    let late = All-head Late (Word ItsCtlr) (Word Cbaser ∷ QueuePlace ∷ Word Cwriter ∷ []) (its_reads is) in
    absurd (cc)

no_base : (beside : Beside) (answer : Option ℕ) → IsCall reads_shape beside (Some 1) writes_cbaser base_by_old_enable answer → ⊥
no_base beside answer is =
    let Late : Place → Type 0 = λ place. reads_late (Some 1) place base_by_old_enable ≡ true in
    let late = All-head Late (Word ItsCtlr) [] (its_reads is) in
    absurd (cc)

no_message : (beside : Beside) (answer : Option ℕ) → IsCall reads_shape beside None sends message_by_old_enable answer → ⊥
no_message beside answer is = of is.made
  where
    of : MakesMsi is.view 0 0 message_by_old_enable ⊎ RaisesAlone beside.signals is.view message_by_old_enable → ⊥
    of (inl made) =
        let Late : List Happened → Place → Type 0 = λ piece place. reads_late None place piece ≡ true in
        let late = All-head (Late message_by_old_enable) (Word ItsCtlr) [] (subst (λ p. All (Late p) (Word ItsCtlr ∷ [])) (sym made.split) (late_reads made.last made.raised)) in
        absurd (cc)
    of (inr alone) = let same : ItsBegin ∷ Raise (Lpi 8192) ∷ ItsEnd ∷ [] ≡ Raise (Lpi alone.id) ∷ [] = alone.raised.events_are in absurd (cc)

found_lpis : (a b : Bool) → FoundLpis a ≡ FoundLpis b → a ≡ b
found_lpis a b e = cc

no_table : (beside : Beside) (answer : Option ℕ) → IsCall reads_shape beside (Some 0) sets_lpis lpis_by_old_table answer → ⊥
no_table beside answer is =
    let view = is.view in
    let places = access_places reads_shape view (Redist 0) 0 4 (Some 1) in
    let all = after_made (Some 0) view (Enable 0) (pended_events reads_shape view 0) places lpis_by_old_table is.made in
    let was : false ≡ view.lpis 0 = found_lpis false (view.lpis 0) (All-head (λ (h : Happened). HandsOut view h.event h.found) (makes (Enable 0) (FoundLpis false)) (makes (Touch (Lpi 8192) (Register SetPending 1)) (Record (opening_irq true (Lpi 8192))) ∷ []) all.found) in
    let Late : Place → Type 0 = λ place. reads_late (Some 0) place lpis_by_old_table ≡ true in
    let read : All Late places = subst (λ p. All (λ place. reads_late (Some 0) place p ≡ true) places) (append-nil lpis_by_old_table) (late_reads [] is.made) in
    let table : All Late (table_places reads_shape view 0) = of (view.lpis 0) (sym was) read in
    let late = All-head Late (Word (Pendbaser 0)) (if is_table_zero (view.words (Pendbaser 0)) then [] else flat_map (λ id. memory_places reads_shape (pending_address (view.words (Pendbaser 0)) id).0 1) (lpis_of reads_shape)) table in
    absurd (cc)
  where
    of : (b : Bool) → b ≡ false → All (λ place. reads_late (Some 0) place lpis_by_old_table ≡ true) (if b then [] else table_places reads_shape is.view 0)
        → All (λ place. reads_late (Some 0) place lpis_by_old_table ≡ true) (table_places reads_shape is.view 0)
    of true e all = absurd (cc)
    of false e all = all

-- What is found.

-- the guest with these words of the ITS, and its queue at this offset
abbrev words_of : ℕ → ℕ → ℕ → PlainWord → ℕ
words_of ctlr cbaser cwriter ItsCtlr = ctlr
words_of ctlr cbaser cwriter Cbaser = cbaser
words_of ctlr cbaser cwriter Cwriter = cwriter
words_of ctlr cbaser cwriter word = 2 ^ 62

abbrev view_with : ℕ → ℕ → ℕ → ℕ → View
view_with ctlr cbaser cwriter offset =
    record {
      irqs = λ key. opening_irq true key;
      enables = record { group0 = false; group1 = false };
      is_spreading = false;
      lpis = λ vcpu. false;
      words = words_of ctlr cbaser cwriter;
      offset = offset;
      is_stalled = false;
      maps = record { devices = []; events = []; collections = [] };
      targets = λ id. None;
    }

abbrev IsRead : View → List Happened → Place → Type 0
IsRead view piece place = IsLastRead place (held_at view place) piece

-- a write of GITS_CWRITER after which no command is taken
writer_is : (ctlr offset writer : ℕ) → takes_command (view_with ctlr (2 ^ 63) 64 offset) ≡ false
    → IsItsCall reads_shape (unmapped ((λ id. None) ∷ [])) 1 0x88 8 64 (begins ∷ looks ItsCtlr ctlr ∷ looks Cbaser (2 ^ 63) ∷ looks_at_queue offset ∷ looks Cwriter writer ∷ makes (Put Cwriter 64) (FoundWord writer) ∷ ends ∷ []) None
writer_is ctlr offset writer over =
    let view = view_with ctlr (2 ^ 63) writer offset in
    let a = looks ItsCtlr ctlr in
    let b = looks Cbaser (2 ^ 63) in
    let c = looks_at_queue offset in
    let d = looks Cwriter writer in
    let put = makes (Put Cwriter 64) (FoundWord writer) in
    let rest : List Happened = a ∷ b ∷ c ∷ d ∷ put ∷ [] in
    record {
      view = view;
      maps = refl;
      views = [];
      register = begins ∷ rest;
      commands = [];
      last = ends ∷ [];
      split = refl;
      written = record {
        begin = begins ∷ [];
        rest = rest;
        split = refl;
        begun = record { events_are = refl; found = hands_one view ItsBegin Nothing refl; reads = All-nil _ };
        made = record {
          events_are = refl;
          found = hands_one view (Put Cwriter 64) (FoundWord writer) refl;
          reads = All-from_recursion (IsRead view rest) (Word ItsCtlr ∷ Word Cbaser ∷ QueuePlace ∷ Word Cwriter ∷ [])
              (last_read [] (b ∷ c ∷ d ∷ put ∷ []) refl, (last_read (a ∷ []) (c ∷ d ∷ put ∷ []) refl, (last_read (a ∷ b ∷ []) (d ∷ put ∷ []) refl, (last_read (a ∷ b ∷ c ∷ []) (put ∷ []) refl, tt))));
        };
      };
      started = (record { events_are = refl; found = All-nil _; reads = All-nil _ }, ap not over);
      ended = record { events_are = refl; found = hands_one view ItsEnd Nothing refl; reads = All-nil _ };
      answers = refl;
    }

base_is : IsItsCall reads_shape (unmapped ((λ id. None) ∷ [])) 1 0x80 8 (2 ^ 63) base_by_enable None
base_is =
    let view = view_with 1 (2 ^ 63) 64 64 in
    record {
      view = view;
      maps = refl;
      views = [];
      register = begins ∷ looks ItsCtlr 1 ∷ [];
      commands = [];
      last = ends ∷ [];
      split = refl;
      written = record {
        begin = begins ∷ [];
        rest = looks ItsCtlr 1 ∷ [];
        split = refl;
        begun = record { events_are = refl; found = hands_one view ItsBegin Nothing refl; reads = All-nil _ };
        made = record { events_are = refl; found = All-nil _; reads = All-from_recursion (IsRead view (looks ItsCtlr 1 ∷ [])) (Word ItsCtlr ∷ []) (last_read [] [] refl, tt) };
      };
      started = record { events_are = refl; found = All-nil _; reads = All-nil _ };
      ended = record { events_are = refl; found = hands_one view ItsEnd Nothing refl; reads = All-nil _ };
      answers = refl;
    }

message_is : IsCall reads_shape (unmapped ((λ id. None) ∷ [])) None sends message_by_enable None
message_is =
    let view = view_with 0 0 0 0 in
    record {
      view = view;
      maps = refl;
      made = inl (record {
        raising = begins ∷ looks ItsCtlr 0 ∷ [];
        last = ends ∷ [];
        split = refl;
        raised = record {
          begin = begins ∷ [];
          rest = looks ItsCtlr 0 ∷ [];
          split = refl;
          begun = record { events_are = refl; found = hands_one view ItsBegin Nothing refl; reads = All-nil _ };
          made = record { events_are = refl; found = All-nil _; reads = All-from_recursion (IsRead view (looks ItsCtlr 0 ∷ [])) (Word ItsCtlr ∷ []) (last_read [] [] refl, tt) };
        };
        ended = record { events_are = refl; found = hands_one view ItsEnd Nothing refl; reads = All-nil _ };
      });
      answers = refl;
    }

table_is : IsCall reads_shape (unmapped []) (Some 0) sets_lpis lpis_by_table None
table_is =
    let view = view_with 0 0 0 0 in
    record {
      view = view;
      targets = refl;
      made = record {
        begin = makes (Enable 0) (FoundLpis false) ∷ [];
        rest = looks (Pendbaser 0) (2 ^ 62) ∷ [];
        split = refl;
        begun = record { events_are = refl; found = hands_one view (Enable 0) (FoundLpis false) refl; reads = All-nil _ };
        made = record { events_are = refl; found = All-nil _; reads = All-from_recursion (IsRead view (looks (Pendbaser 0) (2 ^ 62) ∷ [])) (Word (Pendbaser 0) ∷ []) (last_read [] [] refl, tt) };
      };
      answers = refl;
    }

-- A MOVALL.

abbrev movall_words : ℕ → PlainWord → ℕ
movall_words cwriter ItsCtlr = 1
movall_words cwriter Cbaser = 2 ^ 63
movall_words cwriter Cwriter = cwriter
movall_words cwriter (Ram index) = slice_index_or (0 ∷ 0 ∷ 0 ∷ 0 ∷ 14 ∷ 0 ∷ 0 ∷ (2 ^ 16) ∷ []) index 0
movall_words cwriter word = 0

abbrev movall_view : ℕ → (ℕ → Option ℕ) → View
movall_view cwriter targets = record (view_with 1 (2 ^ 63) cwriter 32) { words = movall_words cwriter; targets = targets }

abbrev registers : List Happened
registers = looks ItsCtlr 1 ∷ looks Cbaser (2 ^ 63) ∷ looks_at_queue 32 ∷ looks Cwriter 32 ∷ makes (Put Cwriter 64) (FoundWord 32) ∷ []

abbrev fetched : List Happened
fetched = looks (Ram 4) 14 ∷ looks (Ram 5) 0 ∷ looks (Ram 6) 0 ∷ looks (Ram 7) (2 ^ 16) ∷ []

abbrev goes_on : Happened
goes_on = makes (Queue 64 (Done (encoded (Movall 0 1)))) Nothing

movall_command : IsCommand (Some 1) reads_shape (movall_view 64 (λ id. Some 0)) (fetched ++ moves ∷ goes_on ∷ [])
movall_command =
    let view = movall_view 64 (λ id. Some 0) in
    record {
      taken = refl;
      fetch = fetched;
      rest = moves ∷ goes_on ∷ [];
      split = refl;
      whole = refl;
      fetched = record {
        events_are = refl;
        found = All-nil _;
        reads = All-from_recursion (IsRead view fetched) (Word (Ram 4) ∷ Word (Ram 5) ∷ Word (Ram 6) ∷ Word (Ram 7) ∷ []) (
          last_read [] (looks (Ram 5) 0 ∷ looks (Ram 6) 0 ∷ looks (Ram 7) (2 ^ 16) ∷ []) refl,
          (last_read (looks (Ram 4) 14 ∷ []) (looks (Ram 6) 0 ∷ looks (Ram 7) (2 ^ 16) ∷ []) refl, (last_read (looks (Ram 4) 14 ∷ looks (Ram 5) 0 ∷ []) (looks (Ram 7) (2 ^ 16) ∷ []) refl, (last_read (looks (Ram 4) 14 ∷ looks (Ram 5) 0 ∷ looks (Ram 6) 0 ∷ []) [] refl, tt))),
        );
      };
      done = record {
        view = view;
        own = moves ∷ [];
        rest = goes_on ∷ [];
        split = refl;
        made = record { events_are = refl; found = hands_one view (Touch (Lpi 8192) (Retarget (Some 1))) (Record (opening_irq true (Lpi 8192))) refl; reads = All-nil _ };
        ends = record { before = []; found = Record (opening_irq true (Lpi 8192)); split = refl };
        later = record { events_are = refl; found = hands_one view (Queue 64 (Done (encoded (Movall 0 1)))) Nothing refl; reads = All-nil _ };
      };
    }

movall_is : IsItsCall reads_shape (unmapped ((λ id. Some 0) ∷ (λ id. Some 1) ∷ [])) 1 0x88 8 64 (begins_movall ++ moves ∷ ends_movall) None
movall_is =
    let view = movall_view 32 (λ id. None) in
    record {
      view = view;
      maps = refl;
      views = movall_view 64 (λ id. Some 0) ∷ [];
      register = begins ∷ registers;
      commands = fetched ++ moves ∷ goes_on ∷ [];
      last = ends ∷ [];
      split = refl;
      written = record {
        begin = begins ∷ [];
        rest = registers;
        split = refl;
        begun = record { events_are = refl; found = hands_one view ItsBegin Nothing refl; reads = All-nil _ };
        made = record {
          events_are = refl;
          found = hands_one view (Put Cwriter 64) (FoundWord 32) refl;
          reads = All-from_recursion (IsRead view registers) (Word ItsCtlr ∷ Word Cbaser ∷ QueuePlace ∷ Word Cwriter ∷ []) (
            last_read [] (looks Cbaser (2 ^ 63) ∷ looks_at_queue 32 ∷ looks Cwriter 32 ∷ makes (Put Cwriter 64) (FoundWord 32) ∷ []) refl,
            (
              last_read (looks ItsCtlr 1 ∷ []) (looks_at_queue 32 ∷ looks Cwriter 32 ∷ makes (Put Cwriter 64) (FoundWord 32) ∷ []) refl,
              (
                last_read (looks ItsCtlr 1 ∷ looks Cbaser (2 ^ 63) ∷ []) (looks Cwriter 32 ∷ makes (Put Cwriter 64) (FoundWord 32) ∷ []) refl,
                (last_read (looks ItsCtlr 1 ∷ looks Cbaser (2 ^ 63) ∷ looks_at_queue 32 ∷ []) (makes (Put Cwriter 64) (FoundWord 32) ∷ []) refl, tt),
              ),
            ),
          );
        };
      };
      started = record {
        same = record { ctlr = refl; cbaser = refl; cwriter = refl; offset = refl; stalled = refl; maps = refl };
        targets_are = refl;
        own = fetched ++ moves ∷ goes_on ∷ [];
        rest = [];
        split = refl;
        command = movall_command;
        later = (record { events_are = refl; found = All-nil _; reads = All-nil _ }, refl);
      };
      ended = record { events_are = refl; found = hands_one view ItsEnd Nothing refl; reads = All-nil _ };
      answers = refl;
    }

abbrev good : Command → Result Command BadCommand
good command = Ok command

ok_same : (one other : Command) → good one ≡ good other → one ≡ other
ok_same one other e = cc

no_movall : (beside : Beside) (answer : Option ℕ) → command_targets beside 0 8192 ≡ Some 0 → IsCall reads_shape beside (Some 1) writes_cwriter (begins_movall ++ ends_movall) answer → ⊥
no_movall beside answer mine is =
    let turn = call_turn reads_shape beside (Some 1) writes_cwriter (begins_movall ++ ends_movall) answer is in
    let ends = turn.leads.turn.scan_is.ends in
    let done = ends.1.1.1.1.1.1.1.1.1.1.0 in
    let command : done.command ≡ Movall 0 1 = sym (ok_same (Movall 0 1) done.command done.is) in
    let parts_are : [] ≡ parts reads_shape beside.maps (command_targets beside 0) (Movall 0 1) = done.done ∙ ap (parts reads_shape beside.maps (command_targets beside 0)) command in
    let some : parts reads_shape beside.maps (command_targets beside 0) (Movall 0 1) ≡ RetargetPart 8192 (Some 1) ∷ []
    = ap (λ (o : Option ℕ). each (if is_number 0 o then 8192 ∷ [] else []) (λ id. RetargetPart id (Some 1))) mine in
    let none : [] ≡ RetargetPart 8192 (Some 1) ∷ [] = parts_are ∙ some in
    absurd (cc)

pub reads_count : ReadsCount
reads_count = record {
  queue = writer_is 1 64 64 refl;
  old_queue = no_queue;
  enable = writer_is 0 32 32 refl;
  old_enable = no_enable;
  base = base_is;
  old_base = no_base;
  message = message_is;
  old_message = no_message;
  table = table_is;
  old_table = no_table;
  movall = movall_is;
  no_movall = no_movall;
}
