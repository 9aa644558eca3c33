-- Commands that were taken, one after the other.
use Rattle.std.proofs.Common.{◌≡◌, ℕ, ◌+◌, ◌==◌, ◌&&◌, not, Bool, if◌then◌else◌, IsTrue, List, [], ◌∷◌, ◌++◌, map, All, Option, Some, None, append-nil, refl, sym, ap, subst, ◌∙◌}
use Rattle.std.proofs.lemmas.List.Elements.{All-nil, All-cons, All-head, All-tail}
use Rattle.std.proofs.lemmas.List.Elements.{filter-append}
use Rattle.std.proofs.lemmas.List.{append_assoc}
use Rattle.std.proofs.lemmas.Bool.{eq-eqb}
use Rattle.std.specs.List.{list_all}
use Rattle.std.specs.Option.{option_to_list}
use Rattle.port_call.specs.Words.{GuestShape}
use Rattle.port_call.specs.Calls.{ItsCtlr, Cbaser, Cwriter, plain_at, Part, Found, Place, takes_command, is_queue_valid, queue_event, command_parts, Happened, Beside, HandsOut, IsLastRead, Makes, IsCommand, ArePartsThen, HaveSameIts, AreCommands, words_read, command_targets, left_by, held_at, is_beside, named_of, byte_places, command_places, View}
use Rattle.port_call.specs.Registers.{enabled_in, Maps}
use Rattle.port_call.specs.GicCall.declared.event.Event.TheVariants.{Read}
use Rattle.port_call.specs.GicCall.declared.event.Found.TheVariants.{Word as FoundWord}
use Rattle.port_call.specs.GicCall.declared.event.Place.TheVariants.{Word}
use Rattle.port_call.specs.Core.{Made, RamLook, fault_place, Seen, Adds, made_by, shape_of, part_events}
use Rattle.port_call.proofs.PortCore.PortLemmas.{adds_join}
use Rattle.port_call.specs.Memory.{view_by}
use Rattle.port_call.specs.Piece.{IsPiece}
use Rattle.port_call.proofs.PieceLemmas.{piece_one, piece_nil, seen_nil}
use Rattle.port_call.proofs.TurnLemmas.{events_then}
use Rattle.its_exec.specs.declared.known.KnownQueue.{KnownQueue}
use Rattle.its_exec.specs.declared.queue.QueueEnd.{QueueEnd}
use Rattle.its_exec.specs.declared.queue.QueueEnd.TheVariants.{Empty, Stalled}
use Rattle.its_exec.specs.Known.{LooksAtQueue, is_read}
use Rattle.its_exec.specs.Queue.{LooksAtFault, TellsFault, EndsAt, IsOverWith, last_fault}
use Rattle.its_exec.specs.Run.{IsRun, AreListed, TakenAreRuns, RunsQueue}
use Rattle.its_exec.proofs.LookLemmas.{takes_by}
use Rattle.its_exec.proofs.CommandLemmas.{write_stays}
use Rattle.its_exec.proofs.PartLemmas.{good_then, reads_beside}

same_then : (one two three : View) → HaveSameIts one two → HaveSameIts two three → HaveSameIts one three
same_then one two three a b =
    record { ctlr = a.ctlr ∙ b.ctlr; cbaser = a.cbaser ∙ b.cbaser; cwriter = a.cwriter ∙ b.cwriter; offset = a.offset ∙ b.offset; stalled = a.stalled ∙ b.stalled; maps = a.maps ∙ b.maps }

-- the same ITS takes a further command, or does not
takes_same : (one two : View) → HaveSameIts one two → takes_command one ≡ takes_command two
takes_same one two same =
    let takes : ℕ → ℕ → Bool → ℕ → ℕ → Bool = λ ctlr cbaser stalled offset cwriter. enabled_in ctlr && is_queue_valid cbaser && not stalled && not (offset == cwriter) in
    ap (λ ctlr. takes ctlr (one.words Cbaser) one.is_stalled one.offset (one.words Cwriter)) same.ctlr
    ∙ ap (λ cbaser. takes (two.words ItsCtlr) cbaser one.is_stalled one.offset (one.words Cwriter)) same.cbaser
    ∙ ap (λ stalled. takes (two.words ItsCtlr) (two.words Cbaser) stalled one.offset (one.words Cwriter)) same.stalled
    ∙ ap (λ offset. takes (two.words ItsCtlr) (two.words Cbaser) two.is_stalled offset (one.words Cwriter)) same.offset
    ∙ ap (λ cwriter. takes (two.words ItsCtlr) (two.words Cbaser) two.is_stalled two.offset cwriter) same.cwriter

makes_none : (actor : Option ℕ) (view : View) → Makes actor view [] [] [] []
makes_none actor view = record { events_are = refl; found = All-nil (λ h. HandsOut view h.event h.found); reads = All-nil (λ place. IsLastRead place (held_at view place) []) }

pub taken_are_run : TakenAreRuns
taken_are_run old new [] e =
    record {
      steps = [];
      adds = record { new_is = e ∙ sym (seen_nil old) };
      events = λ actor beside number its agree over same. (record { views = []; are = (makes_none actor its, ap not (takes_same its (view_by old) same ∙ ap (λ seen. takes_command (view_by seen)) (sym e) ∙ over)) });
      piece = λ p idle write none. piece_nil old p idle;
    }
taken_are_run old new (one ∷ rest) are =
    let later = taken_are_run one.to new rest are.1 in
    let At : Seen → Type 0 = λ old. IsRun old new (one ∷ rest) in
    let same : shape_of one.to ≡ shape_of one.from = ap shape_of one.takes.adds.new_is in
    subst At are.0
    (record {
      steps = one.takes.steps ++ later.steps;
      adds = adds_join one.from one.to new one.takes.steps later.steps one.takes.adds later.adds;
      events = λ actor beside number its agree over its_same.
          (let is = one.takes.is actor (command_targets beside number) agree.0 in
          let left = left_by (shape_of one.from) is.view (queue_event (shape_of one.from) is.view) in
          let next = later.events actor beside (number + 1) left agree.1 over is.left in
          let Are : GuestShape → Type 0 = λ shape. AreCommands actor shape beside (number + 1) left next.views (part_events one.to later.steps) in
          record {
            views = is.view ∷ next.views;
            are =
                record {
                  same = same_then its (view_by one.from) is.view its_same is.same;
                  targets_are = is.targets_are;
                  own = part_events one.from one.takes.steps;
                  rest = part_events one.to later.steps;
                  split = events_then one.from one.to one.takes.steps later.steps one.takes.adds;
                  command = is.command;
                  later = subst Are same next.are;
                };
          });
      piece = λ p idle write none.
          good_then one.from one.to p one.takes.steps later.steps one.takes.adds (one.takes.piece p idle write none)
          (λ q stays idle_to. later.piece q idle_to (write_stays p q stays write) (ap (λ r. r.wants) stays.same ∙ none));
    })

-- Reads before a command.

last_after : (place : Place) (found : Found) (reads piece : List Happened) → IsLastRead place found piece → IsLastRead place found (reads ++ piece)
last_after place found reads piece last =
    record {
      before = reads ++ last.before;
      after = last.after;
      split = ap (λ events. reads ++ events) last.split ∙ sym (append_assoc reads last.before ((record { event = Read place; found = found }) ∷ last.after));
      last = last.last;
    }

pub all_after : (view : View) (reads piece : List Happened) (places : List Place) → All (λ place. IsLastRead place (held_at view place) piece) places → All (λ place. IsLastRead place (held_at view place) (reads ++ piece)) places
all_after view reads piece [] all = All-nil (λ place. IsLastRead place (held_at view place) (reads ++ piece))
all_after view reads piece (place ∷ places) all =
    let Was : Place → Type 0 = λ place. IsLastRead place (held_at view place) piece in
    let Now : Place → Type 0 = λ place. IsLastRead place (held_at view place) (reads ++ piece) in
    All-cons Now place places (last_after place (held_at view place) reads piece (All-head Was place places all)) (all_after view reads piece places (All-tail Was place places all))

-- they are no part of what a call names
named_after : (actor : Option ℕ) (reads piece : List Happened) → IsTrue (list_all is_read reads) → named_of actor (reads ++ piece) ≡ named_of actor piece
named_after actor reads piece are =
    filter-append (λ h. not (is_beside actor h.event)) reads piece ∙ ap (λ none. none ++ named_of actor piece) (reads_beside actor reads are)

makes_after : (actor : Option ℕ) (view : View) (places : List Place) (reads piece : List Happened) → IsTrue (list_all is_read reads) → Makes actor view [] places [] piece → Makes actor view [] places [] (reads ++ piece)
makes_after actor view places reads piece are makes =
    let Hands : Happened → Type 0 = λ h. HandsOut view h.event h.found in
    let named = named_after actor reads piece are in
    record {
      events_are = ap (map (λ h. h.event)) named ∙ makes.events_are;
      found = subst (All Hands) (sym named) makes.found;
      reads = all_after view reads piece places makes.reads;
    }

-- the end of a command
abbrev ends_by : Option ℕ → GuestShape → View → List Happened → Type 0
ends_by actor shape view after = Makes actor view (queue_event shape view ∷ []) [] [] after

parts_after :
    (actor : Option ℕ) (shape : GuestShape) (view : View) (words : List Happened) (parts : List Part) (reads before piece : List Happened) → ArePartsThen actor shape view.targets words parts (ends_by actor shape view) before piece
    → ArePartsThen actor shape view.targets words parts (ends_by actor shape view) (reads ++ before) piece
parts_after actor shape view words [] reads before piece makes = makes
parts_after actor shape view words (part ∷ parts) reads before piece is =
    let places = byte_places shape is.view view.targets part in
    let Read_in : List Happened → Type 0 = λ piece. All (λ place. IsLastRead place (held_at is.view place) piece) places in
    let joined : reads ++ (before ++ is.own) ≡ (reads ++ before) ++ is.own = sym (append_assoc reads before is.own) in
    record {
      view = is.view;
      own = is.own;
      rest = is.rest;
      split = is.split;
      made =
          record {
            events_are = is.made.events_are;
            found = is.made.found;
            reads = subst Read_in joined (all_after is.view reads (before ++ is.own) places is.made.reads);
          };
      ends = is.ends;
      later = is.later;
    }

command_after : (actor : Option ℕ) (shape : GuestShape) (view : View) (reads piece : List Happened) → IsTrue (list_all is_read reads) → IsCommand actor shape view piece → IsCommand actor shape view (reads ++ piece)
command_after actor shape view reads piece are is =
    record {
      taken = is.taken;
      fetch = reads ++ is.fetch;
      rest = is.rest;
      split = ap (λ events. reads ++ events) is.split ∙ sym (append_assoc reads is.fetch is.rest);
      whole = is.whole;
      fetched = makes_after actor view (command_places shape view) reads is.fetch are is.fetched;
      done = parts_after actor shape view (words_read shape view) (command_parts shape view) reads is.fetch is.rest is.done;
    }

listed_after : (actor : Option ℕ) (shape : GuestShape) (beside : Beside) (number : ℕ) (its : View) (reads piece : List Happened) → IsTrue (list_all is_read reads) → AreListed actor shape beside number its piece → AreListed actor shape beside number its (reads ++ piece)
listed_after actor shape beside number its reads piece are listed = record { views = listed.views; are = after listed.views listed.are }
  where
    after : (views : List View) → AreCommands actor shape beside number its views piece → AreCommands actor shape beside number its views (reads ++ piece)
    after [] none = (makes_after actor its [] reads piece are none.0, none.1)
    after (view ∷ views) is =
        record {
          same = is.same;
          targets_are = is.targets_are;
          own = reads ++ is.own;
          rest = is.rest;
          split = ap (λ events. reads ++ events) is.split ∙ sym (append_assoc reads is.own is.rest);
          command = command_after actor shape view reads is.own are is.command;
          later = is.later;
        }

-- The end of a run.

pub record Told (old new : Seen) : Type 0 where
  pub part : List Made
  pub adds : Adds old new part
  pub local_is : new.local ≡ old.local
  pub silent : part_events old part ≡ []
  pub piece : IsPiece old part

told_none : (old new : Seen) → new ≡ old → Told old new
told_none old new e =
    record { part = []; adds = record { new_is = e ∙ sym (seen_nil old) }; local_is = ap (λ seen. seen.local) e; silent = refl; piece = piece_nil old }

told_look : (old new : Seen) (fault : ℕ) → LooksAtFault old new fault → Told old new
told_look old new fault looks =
    let made = made_by old (RamLook (fault_place (shape_of old))) looks.found looks.adds.tables in
    let place = fault_place (shape_of old) in
    let event : Happened = record { event = Read (Word (plain_at (shape_of old) place)); found = FoundWord looks.found } in
    let by : Bool → List Happened = λ same. option_to_list (if same then None else Some event) ++ [] in
    record {
      part = made ∷ [];
      adds = looks.adds.adds;
      local_is = ap (λ seen. seen.local) looks.adds.adds.new_is;
      silent = ap by (eq-eqb place place refl);
      piece = piece_one old made refl refl;
    }

told_fault : (old new : Seen) (last : Option ℕ) (fault : ℕ) → TellsFault old new last fault → Told old new
told_fault old new (Some number) fault tells = told_none old new tells.0
told_fault old new None fault tells = told_look old new fault tells

pub told_end : (old new : Seen) (queue : KnownQueue) (last : Option ℕ) (end : QueueEnd) → EndsAt old new queue last end → Told old new
told_end old new queue last Empty ends = told_none old new ends.0
told_end old new queue last (Stalled offset fault) ends = told_fault old new last fault ends.fault_is

-- The queue as it is found.

pub queue_runs : (old start new : Seen) (shape : GuestShape) (tables : Maps) (end : QueueEnd) (queue : KnownQueue) → LooksAtQueue old start queue → IsOverWith start new shape tables end → RunsQueue old new shape tables end
queue_runs old start new shape tables end queue looks over =
    let run = taken_are_run start over.mid over.commands over.taken in
    let told = told_end over.mid new over.queue (last_fault over.commands) end over.ends in
    let late = run.steps ++ told.part in
    let late_adds = adds_join start over.mid new run.steps told.part run.adds told.adds in
    let same : shape_of start ≡ shape_of old = ap shape_of looks.reading.adds.new_is in
    let events_are : part_events old (looks.part ++ late) ≡ part_events old looks.part ++ part_events start run.steps
    = events_then old start looks.part late looks.reading.adds
    ∙ ap (λ events. part_events old looks.part ++ events) (events_then start over.mid run.steps told.part run.adds ∙ ap (λ events. part_events start run.steps ++ events) told.silent ∙ append-nil (part_events start run.steps)) in
    record {
      start = start;
      queue = queue;
      looks = looks;
      over = over;
      steps = looks.part ++ late;
      adds = adds_join old start new looks.part late looks.reading.adds late_adds;
      events = λ actor beside number its agree its_same.
          (let listed = run.events actor beside number its agree (takes_by over.mid over.queue over.ready.knows ∙ over.over) its_same in
          let In : GuestShape → Type 0 = λ shape. AreListed actor shape beside number its (part_events old looks.part ++ part_events start run.steps) in
          let Of : List Happened → Type 0 = λ events. AreListed actor (shape_of old) beside number its events in
          subst Of (sym events_are) (subst In same (listed_after actor (shape_of start) beside number its (part_events old looks.part) (part_events start run.steps) looks.reading.reads listed)));
      piece = λ p idle write none.
          good_then old start p looks.part late looks.reading.adds (looks.reading.piece p idle)
          (λ q stays idle_to.
          good_then start over.mid q run.steps told.part run.adds (run.piece q idle_to (write_stays p q stays write) (ap (λ r. r.wants) stays.same ∙ none)) (λ r stays_too idle_mid. told.piece r idle_mid));
    }
