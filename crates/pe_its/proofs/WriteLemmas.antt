-- A write of a register that takes the ITS: what the actor makes while it has the ITS, and the whole call.
use Rattle.std.proofs.Common.{◌≡◌, ℕ, zero, suc, ◌+◌, ◌-◌, ◌^◌, ◌&&◌, ◌||◌, Bool, true, false, IsTrue, IfSome, List, [], map, ◌∷◌, ◌++◌, slice_index_or, if◌then◌else◌, Option, Some, None, is_none, is_some, find, cond, append-nil, refl, sym, ap, subst, ◌∙◌, arith}
use Rattle.std.specs.List.{list_all, filter_map, cons_option}
use Rattle.std.specs.Option.{option_and_then}
use Rattle.std.proofs.lemmas.Bool.{and_parts, eqb-true}
use Rattle.std.proofs.lemmas.List.{append_assoc}
use Rattle.std.proofs.lemmas.List.Elements.{filter_map-append}
use Rattle.std.proofs.lemmas.List.Sums.{fold-append}
use Rattle.pe_mem.specs.Words.{Lpi, Its, GuestShape, has_interrupt, target_in, irq_of}
use Rattle.pe_mem.specs.Registers.{Targets, has_lpis, Half, IsValid, Maps}
use Rattle.pe_mem.specs.GicImap.declared.map.Reg.{Reg}
use Rattle.pe_mem.specs.GicImap.declared.map.RegRef.{RegRef}
use Rattle.pe_mem.specs.GicImap.declared.map.RegRef.TheVariants.{Plain}
use Rattle.pe_mem.specs.GicImap.Map.{decoded}
use Rattle.pe_mem.specs.Calls.{Event, ItsBegin, Place, its_written, takes_its, takes_turn, its_events, its_starts, Happened, Beside, Makes, HaveSameIts, AreStarted, IsItsCall, IsItsWrite as IsItsWriteCall, IsCall, its_written_by, its_write_places, its_places, View, command_targets}
use Rattle.pe_mem.specs.GicCall.declared.event.Event.TheVariants.{ItsEnd}
use Rattle.pe_mem.specs.GicCall.declared.event.Found.TheVariants.{Nothing}
use Rattle.pe_mem.specs.GicCall.Access.{starts_commands as register_starts}
use Rattle.pe_mem.specs.Core.{Local, Made, Irq, is_on, known_maps, no_maps, since_command, ends_command, has_all_shut, Seen, IsPort, Adds, local_by, shape_of, seen_after, part_events, vcpu_of_actor, maps_taken, Progress, reading_of, reading_after, read_after}
use Rattle.pe_mem.proofs.PortCore.PortLemmas.{adds_join}
use Rattle.pe_mem.specs.PortCall.Memory.{view_by}
use Rattle.pe_mem.specs.PortCall.Piece.{IsIdle, IsGoodPiece, IsPiece, IsRestedPiece}
use Rattle.pe_mem.specs.PortCall.Rest.{IsAtEase, StaysAtEase}
use Rattle.pe_mem.specs.PortCall.Turn.{is_miss, is_turn_step, AreReadsThen, TakesTurn, GivesTurn}
use Rattle.pe_mem.proofs.PortCall.KnownLemmas.{maps_handed}
use Rattle.pe_mem.proofs.PortCall.PieceLemmas.{seen_nil, piece_nil}
use Rattle.pe_mem.proofs.PortCall.RestLemmas.{owes_none}
use Rattle.pe_mem.proofs.PortCall.TurnLemmas.{events_then, piece_then, reads_beside, not_taken}
use Rattle.pe_mem.specs.ItsExec.Command.{IsItsWrite}
use Rattle.pe_mem.specs.ItsExec.Known.{AgreeWith, first_step, queue_reads}
use Rattle.pe_mem.specs.ItsExec.Plan.{IsFresh}
use Rattle.pe_mem.specs.ItsExec.Queue.{Taken, AreTaken, HasIts, last_fault}
use Rattle.pe_mem.specs.ItsExec.Run.{AgreeAll}
use Rattle.pe_mem.specs.ItsExec.Shut.{ShutsAll}
use Rattle.pe_mem.proofs.ItsExec.CommandLemmas.{write_stays}
use Rattle.pe_mem.proofs.ItsExec.FrameLemmas.{maps_on}
use Rattle.pe_mem.proofs.ItsExec.LookLemmas.{takes_by}
use Rattle.pe_mem.proofs.ItsExec.PartLemmas.{good_then}
use Rattle.pe_mem.proofs.ItsExec.RunLemmas.{taken_are_run, told_end}
use Rattle.pe_mem.proofs.ItsExec.ShutLemmas.{shut_fresh, shut_within}
use Rattle.pe_mem.specs.Call.{CanAccess, MakesAccess, IsPieceOf, access_of}
use Rattle.pe_mem.proofs.CallLemmas.{can_ease, can_turn, can_after, proper_of}
use Rattle.pe_mem.proofs.ServeLemmas.{one_made, none_made}
use Rattle.pe_its.specs.Write.{BeginsWrite, RunsAll, RunsIf, ServesWrite}
use Rattle.pe_mem.proofs.ItsExec.GicCall.TraceLemmas.{makes_then}
use Rattle.pe_its.proofs.MakesLemmas.{makes_reads}
use Rattle.pe_mem.specs.Found.{TookAmong, are_before, by_commands}
use Rattle.pe_mem.proofs.FoundLemmas.{among_after, among_before}
use Rattle.pe_its.proofs.BeforeLemmas.{made_before, turn_before, written_before}

-- The vCPUs that the LPIs are for, as the commands found them.

found_targets : Seen → ℕ → Option ℕ
found_targets seen id = if has_interrupt (shape_of seen) (Lpi id) then option_and_then (λ (made : Made). target_in (irq_of made.found).route (shape_of seen)) (first_step seen id) else None

agree_with : (seen : Seen) (maps : Maps) → AgreeWith seen maps (found_targets seen)
unfolding found_targets
agree_with seen maps =
    record {
      found = record { each = λ id there. found id (has_interrupt (shape_of seen) (Lpi id)) (first_step seen id) there };
      unmapped = λ id none left. unmapped id (has_interrupt (shape_of seen) (Lpi id)) (first_step seen id) (λ there. (left there).none);
    }
  where
    target : Made → Option ℕ
    target made = target_in (irq_of made.found).route (shape_of seen)

    found : (id : ℕ) (b : Bool) (o : Option Made) → IsTrue b → IfSome o (λ made. (if b then option_and_then (λ (made : Made). target_in (irq_of made.found).route (shape_of seen)) o else None) ≡ target_in (irq_of made.found).route (shape_of seen))
    found id true None h = tt
    found id true (Some made) h = refl
    found id false o h = absurd (cc)

    unmapped : (id : ℕ) (b : Bool) (o : Option Made) → (IsTrue b → o ≡ None) → (if b then option_and_then (λ (made : Made). target_in (irq_of made.found).route (shape_of seen)) o else None) ≡ None
    unmapped id true o h = ap (λ o. option_and_then (λ (made : Made). target_in (irq_of made.found).route (shape_of seen)) o) (h refl)
    unmapped id false o h = refl

targets_of : List Taken → ℕ → ℕ → Option ℕ
targets_of [] number = λ id. None
targets_of (one ∷ rest) zero = found_targets one.takes.last
targets_of (one ∷ rest) (suc number) = targets_of rest number

listed_targets : (commands : List Taken) (m : ℕ) → slice_index_or (map (λ (one : Taken). found_targets one.takes.last) commands) m (λ id. None) ≡ targets_of commands m
unfolding targets_of
listed_targets [] zero = refl
listed_targets [] (suc m) = refl
listed_targets (one ∷ rest) zero = refl
listed_targets (one ∷ rest) (suc m) = listed_targets rest m

agree_all : (beside : Beside) (n : ℕ) (commands : List Taken) → ((m : ℕ) → command_targets beside (n + m) ≡ targets_of commands m) → AgreeAll beside n commands
unfolding targets_of
agree_all beside n [] same = tt
agree_all beside n (one ∷ rest) same =
    let none : n + 0 ≡ n = omega arith in
    let first : command_targets beside n ≡ found_targets one.takes.last = ap (command_targets beside) (sym none) ∙ same 0 in
    let Agree : (ℕ → Option ℕ) → Type 0 = λ targets. AgreeWith one.takes.last (known_maps one.from.own) targets in
    let next : (m : ℕ) → command_targets beside (n + 1 + m) ≡ targets_of rest m = λ m. (let more : n + 1 + m ≡ n + suc m = omega arith in ap (command_targets beside) more ∙ same (suc m)) in
    (subst Agree (sym first) (agree_with one.takes.last (known_maps one.from.own)), agree_all beside (n + 1) rest next)

-- What the actor makes while it has the ITS.

record Inside (old new : Seen) : Type 0 where
  part : List Made
  adds : Adds old new part
  local_is : record new.local { marks = old.local.marks } ≡ old.local
  piece : (p : Progress) → IsIdle old p → IsItsWrite p → p.wants ≡ [] → IsGoodPiece old p part

inside_piece : (old new : Seen) (part : List Made) → Adds old new part → new.local ≡ old.local → IsPiece old part → Inside old new
inside_piece old new part adds same piece = record { part = part; adds = adds; local_is = ap (λ (l : Local). record l { marks = old.local.marks }) same; piece = λ p idle write none. piece p idle }

inside_rested : (old new : Seen) (part : List Made) → Adds old new part → new.local ≡ old.local → IsRestedPiece old part → Inside old new
inside_rested old new part adds same piece = record { part = part; adds = adds; local_is = ap (λ (l : Local). record l { marks = old.local.marks }) same; piece = λ p idle write none. piece p idle none }

inside_joins : (old mid new : Seen) → Inside old mid → Inside mid new → Inside old new
inside_joins old mid new one two =
    let back : Local → Local → Local = λ l m. record l { marks = m.marks } in
    record {
      part = one.part ++ two.part;
      adds = adds_join old mid new one.part two.part one.adds two.adds;
      local_is = ap (λ l. back l old.local) two.local_is ∙ one.local_is;
      piece = λ p idle write none.
          good_then old mid p one.part two.part one.adds (one.piece p idle write none)
          (λ q stays idle_mid. two.piece q idle_mid (write_stays p q stays write) (ap (λ r. r.wants) stays.same ∙ none));
    }

taken_local : (old new : Seen) (commands : List Taken) → AreTaken old commands new → record new.local { marks = old.local.marks } ≡ old.local
taken_local old new [] e = ap (λ (seen : Seen). record seen.local { marks = old.local.marks }) e
taken_local old new (one ∷ rest) are =
    let back : Local → Local → Local = λ l m. record l { marks = m.marks } in
    let At : Seen → Type 0 = λ old. record new.local { marks = old.local.marks } ≡ old.local in
    subst At are.0 (ap (λ l. back l one.from.local) (taken_local one.to new rest are.1) ∙ one.takes.local_is)

inside_run : (old new : Seen) (commands : List Taken) (are : AreTaken old commands new) → Inside old new
inside_run old new commands are =
    let run = taken_are_run old new commands are in record { part = run.steps; adds = run.adds; local_is = taken_local old new commands are; piece = run.piece }

inside_begins : (old mid : Seen) (reg : Reg) (half : Half) (value : ℕ) (starts : Bool) → BeginsWrite old mid reg half value starts → Inside old mid
inside_begins old mid reg half value starts begins =
    let looks = begins.looks in
    let writes = begins.writes in
    inside_joins old begins.start mid (inside_piece old begins.start looks.part looks.reading.adds looks.reading.local looks.reading.piece) (inside_rested begins.start mid writes.part writes.adds writes.local_is writes.piece)

inside_over : (old new : Seen) → (runs : RunsAll old new) → Inside old new
inside_over old new runs =
    let over = runs.over in
    let told = told_end over.mid new over.queue (last_fault over.commands) runs.end over.ends in
    inside_joins old over.mid new (inside_run old over.mid over.commands over.taken) (inside_piece over.mid new told.part told.adds told.local_is told.piece)

-- Commands among more steps.

-- which tables the actor took is no matter
among_home : (a b : Seen) (part : List Made) (commands : List Taken) → b ≡ record a { taken = true } → TookAmong b part commands → TookAmong a part commands
among_home a b part commands b_is among =
    let own : b.own ≡ a.own = ap (λ (seen : Seen). seen.own) b_is in
    record {
      from = among.from;
      to = among.to;
      are = among.are;
      guest = among.guest ∙ ap (λ (seen : Seen). seen.guest) b_is;
      actor = among.actor ∙ ap (λ (seen : Seen). seen.actor) b_is;
      early = among.early;
      late = among.late;
      before = subst (λ (seen : Seen). IsTrue (are_before (part_events seen among.early))) b_is among.before;
      local = among.local ∙ ap (λ (seen : Seen). local_by (shape_of seen) seen.actor seen.local among.early) b_is;
      begins = among.begins ∙ ap (λ xs. xs ++ among.early) own;
      ends = ap (λ xs. xs ++ part) (sym own) ∙ among.ends;
    }

-- What is to be seen of it.

record Started (starts : Bool) (actor : Option ℕ) (shape : GuestShape) (beside : Beside) (its : View) (commands : List Happened) : Type 0 where
  views : List View
  are : AreStarted starts actor shape beside its views commands

record InsideCall (old new : Seen) (reg : Reg) (half : Half) (value : ℕ) : Type 0 where
  inside : Inside old new
  view : View
  maps_are : view.maps ≡ known_maps old.own
  register : List Happened
  commands : List Happened
  events : part_events old inside.part ≡ register ++ commands
  written : Makes (Some old.actor) view (its_written view reg half value) (its_write_places reg) [] register
  took : List Taken
  among : TookAmong old inside.part took
  started : (beside : Beside) → AgreeAll beside 0 took → Started (register_starts view reg half value) (Some old.actor) (shape_of old) beside (its_written_by (shape_of old) view (its_written view reg half value)) commands

-- the commands, if they start
record Ran (starts : Bool) (old new : Seen) (shape : GuestShape) (its : View) : Type 0 where
  inside : Inside old new
  commands : List Happened
  events : part_events old inside.part ≡ commands
  took : List Taken
  among : TookAmong old inside.part took
  started : (actor : Option ℕ) (beside : Beside) → AgreeAll beside 0 took → Started starts actor shape beside its commands

ran : (starts : Bool) (old new : Seen) (shape : GuestShape) (its : View) → shape ≡ shape_of old → (IsTrue starts → HaveSameIts its (view_by old)) → RunsIf starts old new → Ran starts old new shape its
unfolding inside_over inside_joins inside_run inside_piece
ran true old new shape its is same runs =
    let over = runs.over in
    let run = taken_are_run old over.mid over.commands over.taken in
    let told = told_end over.mid new over.queue (last_fault over.commands) runs.end over.ends in
    record {
      inside = inside_over old new runs;
      commands = part_events old run.steps;
      events = events_then old over.mid run.steps told.part run.adds ∙ ap (λ events. part_events old run.steps ++ events) told.silent ∙ append-nil (part_events old run.steps);
      took = over.commands;
      among =
          record {
            from = old;
            to = over.mid;
            are = over.taken;
            guest = refl;
            actor = refl;
            early = [];
            late = told.part;
            before = refl;
            local = refl;
            begins = sym (append-nil old.own);
            ends = sym (append_assoc old.own run.steps told.part) ∙ ap (λ own. own ++ told.part) (sym (ap (λ (seen : Seen). seen.own) run.adds.new_is));
          };
      started = λ actor beside agrees.
          (let listed = run.events actor beside 0 its agrees (takes_by over.mid over.queue over.ready.knows ∙ over.over) (same refl) in
          let In : GuestShape → Type 0 = λ shape. Started true actor shape beside its (part_events old run.steps) in
          subst In (sym is) (record { views = listed.views; are = listed.are }));
    }
ran false old new shape its is same runs =
    record {
      inside =
          record {
            part = [];
            adds = record { new_is = runs ∙ sym (seen_nil old) };
            local_is = ap (λ (seen : Seen). record seen.local { marks = old.local.marks }) runs;
            piece = λ p idle write none. piece_nil old p idle;
          };
      commands = [];
      events = refl;
      took = [];
      among = record { from = old; to = old; are = refl; guest = refl; actor = refl; early = []; late = []; before = refl; local = refl; begins = sym (append-nil old.own); ends = refl };
      started = λ actor beside agrees. record { views = []; are = none_made actor its };
    }

inside_call : (old new : Seen) (reg : Reg) (half : Half) (value : ℕ) → ServesWrite old new reg half value → InsideCall old new reg half value
unfolding inside_begins inside_joins inside_piece inside_rested
inside_call old new reg half value serves =
    let begins = serves.begins in
    let looks = begins.looks in
    let writes = begins.writes in
    let start = begins.start in
    let mid = serves.mid in
    let view = writes.view in
    let events = its_written view reg half value in
    let same_start : shape_of start ≡ shape_of old = ap shape_of looks.reading.adds.new_is in
    let same_mid : shape_of mid ≡ shape_of start = ap shape_of writes.adds.new_is in
    let run = ran serves.starts mid new (shape_of start) (its_written_by (shape_of start) view events) (sym same_mid) writes.left serves.runs in
    let first = inside_begins old mid reg half value serves.starts begins in
    let actor_is : start.actor ≡ old.actor = ap (λ seen. seen.actor) looks.reading.adds.new_is in
    let register : List Happened = queue_reads begins.queue ++ part_events start writes.part in
    let before : IsTrue (are_before (part_events old first.part))
    = ap are_before (events_then old start looks.part writes.part looks.reading.adds ∙ ap (λ events. events ++ part_events start writes.part) looks.events)
    ∙ made_before (Some start.actor) view events (its_write_places reg) [] register writes.made (written_before view reg half value) in
    let By : ℕ → Type 0 = λ actor. Makes (Some actor) view events (its_write_places reg) [] register in
    record {
      inside = inside_joins old mid new first run.inside;
      view = view;
      maps_are = writes.maps_are ∙ maps_on old start looks.part looks.reading.adds looks.reading.within;
      register = register;
      commands = run.commands;
      events =
          events_then old mid first.part run.inside.part first.adds
          ∙ ap (λ events. events ++ part_events mid run.inside.part) (events_then old start looks.part writes.part looks.reading.adds ∙ ap (λ events. events ++ part_events start writes.part) looks.events)
          ∙ ap (λ events. register ++ events) run.events;
      written = subst By actor_is writes.made;
      took = run.took;
      among = among_after old mid first.part run.inside.part run.took first.adds before run.among;
      started = λ beside agrees.
          (let Of : Bool → Type 0 = λ b. Started b (Some old.actor) (shape_of old) beside (its_written_by (shape_of old) view events) run.commands in
          let At : GuestShape → Type 0 = λ shape. Started serves.starts (Some old.actor) shape beside (its_written_by shape view events) run.commands in
          subst Of (sym writes.starts_are) (subst At same_start (run.started (Some old.actor) beside agrees)));
    }

-- The tables are taken and put back.

-- which tables the actor took is no matter
home_adds : (a b c d : Seen) (part : List Made) → b ≡ record a { taken = true } → d ≡ record c { taken = false } → a.taken ≡ false → Adds b c part → Adds a d part
home_adds a b c d part b_is d_is home adds =
    let put : Seen → Seen = λ seen. record seen { taken = false } in
    let with : Bool → Seen = λ taken. record (seen_after a part) { taken = taken } in
    record { new_is = d_is ∙ ap put (adds.new_is ∙ ap (λ seen. seen_after seen part) b_is) ∙ ap with (sym home) }

inside_home : (a b c d : Seen) → b ≡ record a { taken = true } → d ≡ record c { taken = false } → a.taken ≡ false → Inside b c → Inside a d
inside_home a b c d b_is d_is home inside =
    let At : Seen → Type 0 = λ b. record c.local { marks = b.local.marks } ≡ b.local in
    record {
      part = inside.part;
      adds = home_adds a b c d inside.part b_is d_is home inside.adds;
      local_is = ap (λ (seen : Seen). record seen.local { marks = a.local.marks }) d_is ∙ subst At b_is inside.local_is;
      piece = λ p idle write none.
          (let Idle : Seen → Type 0 = λ b. IsIdle b p in
          let Good : Seen → Type 0 = λ b. IsGoodPiece b p inside.part in
          let good = subst Good b_is (inside.piece p (subst Idle (sym b_is) (record { local = idle.local; own = idle.own; scan = idle.scan })) write none) in
          record { proper = good.proper; stays = good.stays; ends = record { local = good.ends.local; own = good.ends.own; scan = good.ends.scan } });
    }

-- The actor takes the ITS, and shuts all translation lines.

none_is : (o : Option Maps) → IsTrue (is_none o) → o ≡ None
none_is None h = refl
none_is (Some maps) h = absurd (cc)

no_maps_missed : (misses : List Made) → IsTrue (list_all is_miss misses) → filter_map (λ made. made.tables) misses ≡ []
no_maps_missed [] h = refl
no_maps_missed (made ∷ misses) h =
    let parts = and_parts (is_miss made) (list_all is_miss misses) h in
    let none = none_is made.tables (and_parts (is_turn_step made.step) (is_none made.tables) parts.0).1 in
    ap (λ tables. cons_option tables (filter_map (λ made. made.tables) misses)) none ∙ no_maps_missed misses parts.1

-- the maps of the part are those that it took with the turn
turn_maps : (misses : List Made) (last : Made) (maps : Maps) (later : List Made) → IsTrue (list_all is_miss misses) → last.tables ≡ Some maps → maps_taken ((misses ++ last ∷ []) ++ later) ≡ maps
turn_maps misses last maps later missed handed =
    let told : List Made → List Maps = λ part. filter_map (λ (made : Made). made.tables) part in
    let turn : told (misses ++ last ∷ []) ≡ maps ∷ []
    = filter_map-append (λ (made : Made). made.tables) misses (last ∷ []) ∙ ap (λ all. all ++ cons_option last.tables []) (no_maps_missed misses missed) ∙ ap (λ tables. cons_option tables []) handed in
    ap (λ all. slice_index_or all 0 no_maps) (filter_map-append (λ (made : Made). made.tables) (misses ++ last ∷ []) later ∙ ap (λ all. all ++ told later) turn)

pub record Begins (old new : Seen) : Type 0 where
  pub turn : List Made
  pub maps : Maps
  pub adds : Adds old new turn
  pub local_is : new.local ≡ record old.local { turn = true; shut = 2 ^ 64 - 1 }
  pub tables : new.taken ≡ false
  pub events : AreReadsThen ItsBegin (part_events old turn)
  pub piece : IsPiece old turn
  pub known : known_maps new.own ≡ maps
  pub first : (later : List Made) → maps_taken (turn ++ later) ≡ maps
  pub valid : IsValid (shape_of old) maps

pub begins : (old mid new : Seen) → TakesTurn old mid → ShutsAll mid new → Begins old new
begins old mid new takes shuts =
    let lead = takes.misses ++ takes.last ∷ [] in
    let shut = shuts.on.part in
    let Reads : List Happened → Type 0 = λ events. AreReadsThen ItsBegin events in
    let with_shut : Local → Local = λ l. record l { shut = 2 ^ 64 - 1 } in
    let silent : part_events old (lead ++ shut) ≡ part_events old lead = events_then old mid lead shut takes.adds ∙ ap (λ events. part_events old lead ++ events) shuts.on.silent ∙ append-nil (part_events old lead) in
    record {
      turn = lead ++ shut;
      maps = takes.maps;
      adds = adds_join old mid new lead shut takes.adds shuts.on.adds;
      local_is = shuts.local_is ∙ ap with_shut takes.local_is;
      tables = ap (λ seen. seen.taken) shuts.on.adds.new_is ∙ takes.tables;
      events = subst Reads (sym silent) takes.events;
      piece = piece_then old mid lead shut takes.adds takes.piece shuts.on.piece;
      known =
          maps_on mid new shut shuts.on.adds (shut_within mid new shuts.on) ∙ ap (λ seen. known_maps seen.own) takes.adds.new_is ∙ maps_handed old.own takes.misses takes.last takes.maps takes.handed;
      first = λ later. ap maps_taken (append_assoc lead shut later) ∙ turn_maps takes.misses takes.last takes.maps (shut ++ later) takes.missed takes.handed;
      valid = takes.valid;
    }

-- The turn round it.

record Round (old new : Seen) (offset size value : ℕ) (turn middle give : List Made) : Type 0 where
  adds : Adds old new (turn ++ (middle ++ give))
  piece : IsPieceOf old (access_of Its offset size (Some value)) (turn ++ (middle ++ give))
  stays : StaysAtEase old.local new.local
  tables : new.taken ≡ false
  after : CanAccess new

round : (old a d new : Seen) (offset size value : ℕ) → IsPort old → IsPort new → CanAccess old → (starts : Begins old a) → (inside : Inside a d) → IsAtEase d.local → (gives : GivesTurn d new) → Round old new offset size value starts.turn inside.part (gives.last ∷ [])
round old a d new offset size value is_old is_new can starts inside ease gives =
    let turn = starts.turn in
    let give = gives.last ∷ [] in
    let part = turn ++ (inside.part ++ give) in
    let adds = adds_join old a new turn (inside.part ++ give) starts.adds (adds_join a d new inside.part give inside.adds gives.adds) in
    let Held : Local → Type 0 = λ l. record d.local { marks = l.marks } ≡ l in
    let held : record d.local { marks = old.local.marks } ≡ record old.local { turn = true; shut = 2 ^ 64 - 1 } = subst Held starts.local_is inside.local_is in
    let without : Local → Local = λ l. record l { turn = false; shut = 0 } in
    let with_turn : Bool → ℕ → Local = λ b shut. record old.local { turn = b; shut = shut } in
    let idle = can_turn old can in
    let marked : Local → Local = λ l. record l { marks = old.local.marks } in
    let set : ℕ → Targets = λ n. record { 0 = n } in
    let stays : StaysAtEase old.local new.local
    = record {
      same = ap marked gives.local_is ∙ ap without held ∙ ap (λ b. with_turn b 0) (sym idle) ∙ ap (with_turn old.local.turn) (sym (is_old.local.idle idle));
      marks = ap (λ (l : Local). l.marks.vcpus) gives.local_is ∙ ap set (eqb-true d.local.marks.vcpus.0 0 (owes_none d.local ease.owes).marks);
    } in
    let after = can_after old new part can adds stays in
    record {
      adds = adds;
      piece = λ p idle is none.
          good_then old a p turn (inside.part ++ give) starts.adds (starts.piece p idle)
          (λ q stays_q idle_a.
          good_then a d q inside.part give inside.adds
          (inside.piece q idle_a (record { offset = offset; size = size; value = value; is = ap (λ r. r.operation) stays_q.same ∙ is }) (ap (λ r. r.wants) stays_q.same ∙ none)) (λ r stays_r idle_d. gives.piece r idle_d));
      stays = stays;
      tables = not_taken new is_new (can_turn new after);
      after = after;
    }

-- The call.

-- what the register says of the access
access_events_are : (shape : GuestShape) (view : View) (ref : RegRef) (reg : Reg) (half : Half) (value : ℕ) → ref ≡ Plain reg half → has_lpis shape ≡ true → its_events shape view ref (Some value) ≡ its_written view reg half value
access_events_are shape view ref reg half value is has = ap (λ ref. its_events shape view ref (Some value)) is ∙ ap (λ b. if b then its_written view reg half value else []) has

access_places_are : (shape : GuestShape) (ref : RegRef) (reg : Reg) (half : Half) (value : ℕ) → ref ≡ Plain reg half → has_lpis shape ≡ true → its_places shape ref (Some value) ≡ its_write_places reg
access_places_are shape ref reg half value is has = ap (λ ref. its_places shape ref (Some value)) is ∙ ap (λ b. if b then its_write_places reg else []) has

access_starts_are : (shape : GuestShape) (view : View) (ref : RegRef) (reg : Reg) (half : Half) (value : ℕ) → ref ≡ Plain reg half → has_lpis shape ≡ true → its_starts shape view ref (Some value) ≡ register_starts view reg half value
access_starts_are shape view ref reg half value is has = ap (λ ref. its_starts shape view ref (Some value)) is ∙ ap (λ b. b && register_starts view reg half value) has

turn_parts : (shape : GuestShape) (ref : RegRef) (reg : Reg) (half : Half) (value : ℕ) → ref ≡ Plain reg half → takes_turn shape ref (Some value) ≡ true → (has_lpis shape ≡ true) × (takes_its reg ≡ true)
turn_parts shape ref reg half value is takes = and_parts (has_lpis shape) (takes_its reg) (sym (ap (λ ref. takes_turn shape ref (Some value)) is) ∙ takes)

pub takes_by_ref : (shape : GuestShape) (ref : RegRef) (reg : Reg) (half : Half) (value : ℕ) → ref ≡ Plain reg half → takes_turn shape ref (Some value) ≡ true → takes_its reg ≡ true
takes_by_ref shape ref reg half value is takes = (turn_parts shape ref reg half value is takes).1

its_call :
    (shape : GuestShape) (beside : Beside) (actor offset size value : ℕ) (reg : Reg) (half : Half) (view : View) (turn register commands last : List Happened) → decoded offset size ≡ Plain reg half → has_lpis shape ≡ true → view.maps ≡ beside.maps
    → Makes (Some actor) view (ItsBegin ∷ []) [] [] turn → Makes (Some actor) view (its_written view reg half value) (its_write_places reg) [] register
    → Started (register_starts view reg half value) (Some actor) shape beside (its_written_by shape view (its_written view reg half value)) commands → Makes (Some actor) view (ItsEnd ∷ []) [] [] last
    → IsItsCall shape beside actor offset size value (((turn ++ register) ++ commands) ++ last) None
its_call shape beside actor offset size value reg half view turn register commands last is has maps began written started ended =
    let events = its_written view reg half value in
    let access : List Event = its_events shape view (decoded offset size) (Some value) in
    let events_are : access ≡ events = access_events_are shape view (decoded offset size) reg half value is has in
    let ByEvents : List Event → Type 0 = λ events. Makes (Some actor) view events (its_write_places reg) [] register in
    let ByPlaces : List Place → Type 0 = λ places. Makes (Some actor) view access places [] register in
    let Runs : Bool → List Event → Type 0 = λ b events. AreStarted b (Some actor) shape beside (its_written_by shape view events) started.views commands in
    let RunsBy : Bool → Type 0 = λ b. Runs b events in
    let RunsOf : List Event → Type 0 = λ events. Runs (its_starts shape view (decoded offset size) (Some value)) events in
    record {
      view = view;
      maps = maps;
      views = started.views;
      register = turn ++ register;
      commands = commands;
      last = last;
      split = refl;
      written =
          record {
            begin = turn;
            rest = register;
            split = refl;
            begun = began;
            made = subst ByPlaces (sym (access_places_are shape (decoded offset size) reg half value is has)) (subst ByEvents (sym events_are) written);
          };
      started = subst RunsOf (sym events_are) (subst RunsBy (sym (access_starts_are shape view (decoded offset size) reg half value is has)) started.are);
      ended = ended;
      answers = refl;
    }

pub makes_write :
    (old a0 a b c d new : Seen) (offset size value : ℕ) (reg : Reg) (half : Half) → IsPort old → IsPort new → CanAccess old → decoded offset size ≡ Plain reg half → takes_turn (shape_of old) (decoded offset size) (Some value) ≡ true
    → TakesTurn old a0 → ShutsAll a0 a → b ≡ record a { taken = true } → ServesWrite b c reg half value → IsAtEase c.local → d ≡ record c { taken = false } → GivesTurn d new → MakesAccess old new Its offset size (Some value) None
unfolding inside_home targets_of
makes_write old a0 a b c d new offset size value reg half is_old is_new can is takes_so takes shuts b_is serves ease d_is gives =
    let starts = begins old a0 a takes shuts in
    let made = inside_call b c reg half value serves in
    let inside = inside_home a b c d b_is d_is starts.tables made.inside in
    let all = round old a d new offset size value is_old is_new can starts inside (subst (λ seen. IsAtEase seen.local) (sym d_is) ease) gives in
    let shape = shape_of old in
    let actor = old.actor in
    let turn = starts.turn in
    let give = gives.last ∷ [] in
    let part = turn ++ (inside.part ++ give) in
    let has = (turn_parts shape (decoded offset size) reg half value is takes_so).0 in
    let shape_b : shape_of b ≡ shape = ap shape_of b_is ∙ ap shape_of starts.adds.new_is in
    let actor_b : b.actor ≡ actor = ap (λ seen. seen.actor) b_is ∙ ap (λ seen. seen.actor) starts.adds.new_is in
    let view = made.view in
    let events = its_written view reg half value in
    let known : known_maps b.own ≡ starts.maps = ap (λ seen. known_maps seen.own) b_is ∙ starts.known in
    let maps : view.maps ≡ maps_taken part = made.maps_are ∙ known ∙ sym (starts.first (inside.part ++ give)) in
    let begin : Happened = record { event = ItsBegin; found = Nothing } in
    let end : Happened = record { event = ItsEnd; found = Nothing } in
    let Turn : List Happened → Type 0 = λ piece. Makes (Some actor) view (ItsBegin ∷ []) [] [] piece in
    let began : Turn (part_events old turn)
    = subst Turn (sym starts.events.split)
    (makes_then (Some actor) view [] (ItsBegin ∷ []) [] starts.events.reads (begin ∷ []) (makes_reads (Some actor) view starts.events.reads (reads_beside (Some actor) starts.events.reads starts.events.are_reads)) (one_made (Some actor) view begin refl refl)) in
    let Give : List Happened → Type 0 = λ piece. Makes (Some actor) view (ItsEnd ∷ []) [] [] piece in
    let ended : Give (part_events d give) = subst Give (sym gives.events) (one_made (Some actor) view end refl refl) in
    let ByActor : ℕ → Type 0 = λ actor. Makes (Some actor) view events (its_write_places reg) [] made.register in
    let middle : part_events a inside.part ≡ made.register ++ made.commands = ap (λ seen. part_events seen inside.part) (sym b_is) ∙ made.events in
    let t = part_events old turn in
    let l = part_events d give in
    let events_are : part_events old part ≡ ((t ++ made.register) ++ made.commands) ++ l
    = events_then old a turn (inside.part ++ give) starts.adds
    ∙ ap (λ events. t ++ events) (events_then a d inside.part give inside.adds ∙ ap (λ events. events ++ l) middle)
    ∙ sym (append_assoc t (made.register ++ made.commands) l)
    ∙ ap (λ events. events ++ l) (sym (append_assoc t made.register made.commands)) in
    let operation = access_of Its offset size (Some value) in
    let is_actor : vcpu_of_actor shape actor ≡ Some actor = ap (λ b. cond b (Some actor) None) can.vcpu in
    let call_of : (beside : Beside) → beside.maps ≡ maps_taken part → AgreeAll beside 0 made.took → IsCall shape beside (vcpu_of_actor shape actor) operation (part_events old part) None
    = λ beside maps_are agrees.
    (let Runs : GuestShape → ℕ → Type 0 = λ shape actor. Started (register_starts view reg half value) (Some actor) shape beside (its_written_by shape view events) made.commands in
    let RunsIn : GuestShape → Type 0 = λ shape. Runs shape b.actor in
    let RunsBy : ℕ → Type 0 = λ actor. Runs shape actor in
    let Of : List Happened → Type 0 = λ piece. IsItsCall shape beside actor offset size value piece None in
    let Write : Bool → Type 0 = λ b. IsItsWriteCall b shape beside actor offset size value (part_events old part) None in
    let By : Option ℕ → Type 0 = λ actor. IsCall shape beside actor operation (part_events old part) None in
    let call = its_call shape beside actor offset size value reg half view (part_events old turn) made.register made.commands (part_events d give) is has (maps ∙ sym maps_are) began (subst ByActor actor_b made.written)
    (subst RunsBy actor_b (subst RunsIn shape_b (made.started beside agrees))) ended in
    let whole : By (Some actor) = subst Write (sym takes_so) (subst Of (sym events_are) call) in
    subst By (sym is_actor) whole) in
    let own : Beside = record { maps = maps_taken part; targets = λ id. None; commands = map (λ (one : Taken). found_targets one.takes.last) made.took; signals = false } in
    let among : TookAmong old part made.took
    = among_after old a turn (inside.part ++ give) made.took starts.adds (turn_before (part_events old turn) starts.events) (among_before a inside.part give made.took (among_home a b inside.part made.took b_is made.among)) in
    record {
      part = part;
      adds = all.adds;
      call = record { beside = own; maps = refl; signals = refl; call = call_of own refl (agree_all own 0 made.took (λ m. (let same : 0 + m ≡ m = omega arith in ap (command_targets own) same ∙ listed_targets made.took m))) };
      found = record { finding = by_commands made.took; kind = sym takes_so; is_finding = among; call = call_of };
      piece = all.piece;
      proper = proper_of old new part operation None all.adds all.after all.piece;
      stays = all.stays;
      tables = all.tables;
      after = all.after;
    }

-- The tables as they are taken.

-- the guest has LPIs
pub turn_lpis : (old a : Seen) (reg : Reg) (half : Half) (offset size value : ℕ) → decoded offset size ≡ Plain reg half → takes_turn (shape_of old) (decoded offset size) (Some value) ≡ true → TakesTurn old a → has_lpis (shape_of a) ≡ true
turn_lpis old a reg half offset size value is takes_so takes = ap has_lpis (ap shape_of takes.adds.new_is) ∙ (turn_parts (shape_of old) (decoded offset size) reg half value is takes_so).0

pub turn_has : (old a0 a b : Seen) (tables : Maps) → CanAccess old → TakesTurn old a0 → ShutsAll a0 a → b ≡ record a { taken = true } → tables ≡ known_maps a.own → HasIts b tables
turn_has old a0 a b tables can takes shuts b_is tables_are =
    let starts = begins old a0 a takes shuts in
    let was = can_ease old can in
    let with_turn : Local = record old.local { turn = true; shut = 2 ^ 64 - 1 } in
    let busy : IsAtEase with_turn = record { owes = was.owes; empty = was.empty } in
    let local : b.local ≡ with_turn = ap (λ seen. seen.local) b_is ∙ starts.local_is in
    let shape : shape_of b ≡ shape_of old = ap shape_of b_is ∙ ap shape_of starts.adds.new_is in
    record {
      taken = ap (λ seen. seen.taken) b_is;
      ease = subst IsAtEase (sym local) busy;
      lines = ap has_all_shut local;
      maps = tables_are ∙ sym (ap (λ seen. known_maps seen.own) b_is);
      valid = subst (λ shape. IsValid shape tables) (sym shape) (subst (IsValid (shape_of old)) (sym (tables_are ∙ starts.known)) starts.valid);
    }

command_by : List Made → Made → List Made
command_by kept made = if is_some made.tables || ends_command made.step then [] else kept ++ made ∷ []

abbrev nothing_read : Option (List Made)
nothing_read = Some []

-- it has the ITS, and has read nothing yet
turn_reading : (own misses : List Made) (last : Made) (maps : Maps) (seen : Seen) → seen.own ≡ own ++ (misses ++ last ∷ []) → last.tables ≡ Some maps → IsTrue (is_some (reading_of seen.own))
turn_reading own misses last maps seen is handed =
    ap (λ own. is_some (reading_of own)) (is ∙ sym (append_assoc own misses (last ∷ []))) ∙ ap is_some (fold-append reading_after None (own ++ misses) (last ∷ [])) ∙ of (reading_of (own ++ misses)) last.tables refl handed
  where
    of : (before : Option (List Made)) (o : Option Maps) → last.tables ≡ o → o ≡ Some maps → IsTrue (is_some (reading_after before last))
    of before None e h = absurd (cc)
    of None (Some maps) e h = ap (λ o. is_some (if is_some o then nothing_read else None)) e
    of (Some read) (Some maps) e h = ap (λ o. is_some (if is_some o then nothing_read else read_after last.step last read)) e

turned_fresh : (old a : Seen) → TakesTurn old a → IsFresh a
unfolding command_by
turned_fresh old a takes =
    let before = since_command (old.own ++ takes.misses) in
    let since : since_command a.own ≡ []
    = ap (λ seen. since_command seen.own) takes.adds.new_is
    ∙ ap since_command (sym (append_assoc old.own takes.misses (takes.last ∷ [])))
    ∙ fold-append command_by [] (old.own ++ takes.misses) (takes.last ∷ [])
    ∙ ap (λ tables. if is_some tables || ends_command takes.last.step then [] else before ++ takes.last ∷ []) takes.handed in
    record { reading = turn_reading old.own takes.misses takes.last takes.maps a (ap (λ seen. seen.own) takes.adds.new_is) takes.handed; each = λ id there. record { none = ap (find (is_on (shape_of a) a.actor (Irq (Lpi id)))) since } }

pub turn_fresh : (old a0 a b : Seen) → TakesTurn old a0 → ShutsAll a0 a → b ≡ record a { taken = true } → IsFresh b
turn_fresh old a0 a b takes shuts b_is =
    let fresh = shut_fresh a0 a shuts.on (turned_fresh old a0 takes) in
    let Fresh : Seen → Type 0 = IsFresh in
    subst Fresh (sym b_is) (record { reading = fresh.reading; each = λ id there. record { none = (fresh.each id there).none } })
