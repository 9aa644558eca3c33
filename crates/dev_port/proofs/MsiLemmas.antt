-- A message to the ITS: the turn, a look at GITS_CTLR, an LPI, and the turn given back.
use Rattle.std.proofs.Common.{◌≡◌, ℕ, ◌&&◌, true, false, IsTrue, List, [], ◌∷◌, ◌++◌, map, All, slice_index_or, Option, Some, None, is_none, append-nil, refl, sym, ap, subst, ◌∙◌, inl}
use Rattle.std.specs.Option.{option_map_or}
use Rattle.std.specs.List.{list_all, filter_map, cons_option}
use Rattle.std.proofs.lemmas.Bool.{and_parts}
use Rattle.std.proofs.lemmas.List.{append_assoc}
use Rattle.std.proofs.lemmas.List.Elements.{All-cons, All-nil, filter_map-append}
use Rattle.its_exec.specs.Words.{Lpi, Msi, GuestShape}
use Rattle.its_exec.specs.Registers.{enabled_in, Maps, translated}
use Rattle.its_exec.specs.Calls.{ItsCtlr, place_of_plain, ItsBegin, Device, Place, Happened, Beside, Makes, HandsOut, held_at, IsLastRead, View, MakesMsi, Event}
use Rattle.its_exec.specs.GicCall.declared.event.Event.TheVariants.{Raise as RaiseEvent, Read, ItsEnd}
use Rattle.its_exec.specs.GicCall.declared.event.Found.TheVariants.{Nothing, Word as FoundWord}
use Rattle.its_exec.specs.GicCall.declared.event.Place.TheVariants.{Word}
use Rattle.its_exec.specs.Core.{Local, Made, Raise, RamLook, no_maps, known_maps, known_view, no_vcpus, owes_no_mark, Seen, IsPort, Adds, shape_of, part_events, MakesCall, maps_taken}
use Rattle.its_exec.proofs.GicCall.ReadLemmas.{last_read}
use Rattle.its_exec.proofs.GicCall.TraceLemmas.{makes_then}
use Rattle.its_exec.proofs.PortCore.PortLemmas.{adds_join}
use Rattle.its_exec.specs.PortCall.Piece.{IsPiece}
use Rattle.its_exec.specs.PortCall.Turn.{is_miss, is_turn_step, is_queue_read, TakesTurn, GivesTurn}
use Rattle.its_exec.proofs.PortCall.PieceLemmas.{seen_nil, piece_nil}
use Rattle.its_exec.proofs.PortCall.KnownLemmas.{ends_none, are_endless, maps_kept, maps_handed}
use Rattle.its_exec.proofs.PortCall.TurnLemmas.{piece_then, events_then, reads_beside}
use Rattle.dev_port.specs.Device.{CanCall, GoesUnseen, RaisesLpi, SendsMsiBeside, Translates, TellsLpi}
use Rattle.dev_port.proofs.CallLemmas.{clear, one_made, device_call, settled_of, part_done, form_clear}

-- The device while it has the ITS.

pub record IsBusy (local : Local) : Type 0 where
  pub kicks : local.owes ≡ no_vcpus
  pub marks : IsTrue (owes_no_mark local)
  pub turn : local.turn ≡ true
  pub ctlr : local.ctlr ≡ false
  pub line : IsTrue (is_none local.line)

busy_as : (local other : Local) → other ≡ local → IsBusy local → IsBusy other
busy_as local other e is = subst IsBusy (sym e) is

pub busy_taken : (old new : Seen) → CanCall old → TakesTurn old new → IsBusy new.local
busy_taken old new can takes =
    let is = clear old.local can.settled in
    let with_turn : Local = record old.local { turn = true } in
    busy_as with_turn new.local takes.local_is (record { kicks = is.kicks; marks = is.marks; turn = refl; ctlr = is.ctlr; line = is.line })

pub busy_read : (old new : Seen) (device event : ℕ) (id : Option ℕ) → IsBusy old.local → Translates old new device event id → IsBusy new.local
busy_read old new device event id busy translates = busy_as old.local new.local translates.reads.local_is busy

pub busy_told : (old new : Seen) (id : Option ℕ) → IsBusy old.local → TellsLpi old new id → IsBusy new.local
busy_told old new None busy tells = busy_as old.local new.local (ap (λ seen. seen.local) tells) busy
busy_told old new (Some id) busy tells =
    record { kicks = ap (λ l. l.owes) tells.local_is; marks = ap owes_no_mark tells.local_is; turn = ap (λ l. l.turn) tells.local_is ∙ busy.turn; ctlr = ap (λ l. l.ctlr) tells.local_is ∙ busy.ctlr; line = ap (λ l. is_none l.line) tells.local_is ∙ busy.line }

-- steps that only change which lines it knows to be shut
pub busy_shut : (local other : Local) → other ≡ record local { shut = other.shut } → IsBusy local → IsBusy other
busy_shut local other e is = busy_as (record local { shut = other.shut }) other e (record { kicks = is.kicks; marks = is.marks; turn = is.turn; ctlr = is.ctlr; line = is.line })

-- The tables are at home.

pub home_read : (old new : Seen) (device event : ℕ) (id : Option ℕ) → old.taken ≡ false → Translates old new device event id → new.taken ≡ false
home_read old new device event id home translates = ap (λ seen. seen.taken) translates.reads.adds.new_is ∙ home

pub home_told : (old new : Seen) (id : Option ℕ) → old.taken ≡ false → TellsLpi old new id → new.taken ≡ false
home_told old new None home tells = ap (λ seen. seen.taken) tells ∙ home
home_told old new (Some id) home tells = ap (λ seen. seen.taken) tells.adds.new_is ∙ home

-- Maps.

none_is : (o : Option Maps) → IsTrue (is_none o) → o ≡ None
none_is None h = refl
none_is (Some maps) h = absurd (cc)

-- a look ends no command
endless : (look : Made) (index : ℕ) → look.step ≡ RamLook index → IsTrue (are_endless (look ∷ []))
endless look index step = ap (λ step. ends_none step && true) step

pub maps_known : (old mid new : Seen) (device event : ℕ) (id : Option ℕ) (takes : TakesTurn old mid) → Translates mid new device event id → known_maps new.own ≡ takes.maps
maps_known old mid new device event id takes translates =
    let reads = translates.reads in
    let before = old.own ++ (takes.misses ++ takes.last ∷ []) in
    let own : new.own ≡ before ++ reads.look ∷ [] = ap (λ seen. seen.own) reads.adds.new_is ∙ ap (λ seen. seen.own ++ reads.look ∷ []) takes.adds.new_is in
    ap known_maps own ∙ maps_kept before (reads.look ∷ []) reads.none_taken (endless reads.look (place_of_plain (shape_of mid) ItsCtlr) reads.step_is) ∙ maps_handed old.own takes.misses takes.last takes.maps takes.handed

-- What the ITS makes of the message.

-- the event of an LPI that is raised
happened : Event → Happened
happened event = record { event = event; found = Nothing }

lpi_events : Option ℕ → List Happened
lpi_events id = option_map_or (λ id. happened (RaiseEvent (Lpi id)) ∷ []) id []

record IsLpiPart (old new : Seen) (id : Option ℕ) : Type 0 where
  part : List Made
  adds : Adds old new part
  form : RaisesLpi (shape_of old) id part
  events : part_events old part ≡ lpi_events id
  piece : IsPiece old part

lpi_part : (old new : Seen) (id : Option ℕ) → IsBusy old.local → TellsLpi old new id → IsLpiPart old new id
unfolding happened lpi_events
lpi_part old new None busy tells = record { part = []; adds = record { new_is = tells ∙ sym (seen_nil old) }; form = refl; events = refl; piece = piece_nil old }
lpi_part old new (Some id) busy tells =
    record {
      part = tells.part;
      adds = tells.adds;
      form = form_clear (shape_of old) old.local.owes (Raise (Lpi id)) (Lpi id) tells.part busy.kicks tells.form;
      events = tells.events;
      piece = tells.piece;
    }

-- Events.

-- all events of the part
all_events : List Happened → ℕ → Option ℕ → List Happened
all_events reads ctlr id = reads ++ happened ItsBegin ∷ [] ++ (record { event = Read (Word ItsCtlr); found = FoundWord ctlr }) ∷ [] ++ lpi_events id ++ happened ItsEnd ∷ []

-- reads, and then the event that takes the ITS
begun : (view : View) (reads : List Happened) → IsTrue (list_all is_queue_read reads) → Makes None view (ItsBegin ∷ []) [] [] (reads ++ happened ItsBegin ∷ [])
unfolding happened
begun view reads are =
    let none = reads_beside None reads are in
    let Hands : Happened → Type 0 = λ h. HandsOut view h.event h.found in
    let only : Makes None view [] [] [] reads
    = record { events_are = ap (map (λ h. h.event)) none; found = subst (All Hands) (sym none) (All-nil Hands); reads = All-nil (λ place. IsLastRead place (held_at view place) reads) } in
    makes_then None view [] (ItsBegin ∷ []) [] reads (happened ItsBegin ∷ []) only (one_made view ItsBegin refl refl)

-- the look, and the LPI that is raised
raises : (view : View) (id : Option ℕ) → Makes None view (option_map_or (λ id. RaiseEvent (Lpi id) ∷ []) id []) (Word ItsCtlr ∷ []) [] ((record { event = Read (Word ItsCtlr); found = FoundWord (view.words ItsCtlr) }) ∷ [] ++ lpi_events id)
unfolding happened lpi_events
raises view None =
    let Hands : Happened → Type 0 = λ h. HandsOut view h.event h.found in
    let piece : List Happened = (record { event = Read (Word ItsCtlr); found = FoundWord (view.words ItsCtlr) }) ∷ [] in
    let Last : Place → Type 0 = λ place. IsLastRead place (held_at view place) piece in
    record {
      events_are = refl;
      found = All-nil Hands;
      reads = All-cons Last (Word ItsCtlr) [] (last_read [] [] refl) (All-nil Last);
    }
raises view (Some n) =
    let Hands : Happened → Type 0 = λ h. HandsOut view h.event h.found in
    let raise = happened (RaiseEvent (Lpi n)) in
    let piece : List Happened = (record { event = Read (Word ItsCtlr); found = FoundWord (view.words ItsCtlr) }) ∷ raise ∷ [] in
    let Last : Place → Type 0 = λ place. IsLastRead place (held_at view place) piece in
    record {
      events_are = refl;
      found = All-cons Hands raise [] refl (All-nil Hands);
      reads = All-cons Last (Word ItsCtlr) [] (last_read [] (raise ∷ []) refl) (All-nil Last);
    }

-- the events make the call, where the guest is so
msi_makes : (reads : List Happened) (id : Option ℕ) (view : View) (device event : ℕ) → IsTrue (list_all is_queue_read reads) → translated view.maps (enabled_in (view.words ItsCtlr)) device event ≡ id
    → MakesMsi view device event (all_events reads (view.words ItsCtlr) id)
unfolding happened all_events
msi_makes reads id view device event are is =
    let look : Happened = record { event = Read (Word ItsCtlr); found = FoundWord (view.words ItsCtlr) } in
    let begin = reads ++ happened ItsBegin ∷ [] in
    let Raises : Option ℕ → Type 0 = λ o. Makes None view (option_map_or (λ id. RaiseEvent (Lpi id) ∷ []) o []) (Word ItsCtlr ∷ []) [] (look ∷ [] ++ lpi_events id) in
    record {
      raising = begin ++ look ∷ [] ++ lpi_events id;
      last = happened ItsEnd ∷ [];
      split = refl;
      raised = record { begin = begin; rest = look ∷ [] ++ lpi_events id; split = append_assoc begin (look ∷ []) (lpi_events id); begun = begun view reads are; made = subst Raises (sym is) (raises view id) };
      ended = one_made view ItsEnd refl refl;
    }

-- The part.

-- the misses took nothing, and then the maps were taken
no_maps_missed : (misses : List Made) → IsTrue (list_all is_miss misses) → filter_map (λ made. made.tables) misses ≡ []
no_maps_missed [] h = refl
no_maps_missed (made ∷ misses) h =
    let parts = and_parts (is_miss made) (list_all is_miss misses) h in
    let none = none_is made.tables (and_parts (is_turn_step made.step) (is_none made.tables) parts.0).1 in
    ap (λ tables. cons_option tables (filter_map (λ made. made.tables) misses)) none ∙ no_maps_missed misses parts.1

-- the maps of a part are those of its beginning
first_maps : (early late : List Made) (maps : Maps) (rest : List Maps) → filter_map (λ made. made.tables) early ≡ maps ∷ rest → filter_map (λ made. made.tables) (early ++ late) ≡ maps ∷ rest ++ filter_map (λ made. made.tables) late
first_maps early late maps rest e = filter_map-append (λ made. made.tables) early late ∙ ap (λ all. all ++ filter_map (λ made. made.tables) late) e

maps_of_part : (misses : List Made) (take look : Made) (raise unseen : List Made) (give : Made) (maps : Maps) → IsTrue (list_all is_miss misses) → take.tables ≡ Some maps → maps_taken (misses ++ take ∷ [] ++ look ∷ [] ++ raise ++ unseen ++ give ∷ []) ≡ maps
maps_of_part misses take look raise unseen give maps missed handed =
    let one : filter_map (λ made. made.tables) (misses ++ take ∷ []) ≡ maps ∷ []
    = filter_map-append (λ made. made.tables) misses (take ∷ []) ∙ ap (λ all. all ++ cons_option take.tables []) (no_maps_missed misses missed) ∙ ap (λ tables. cons_option tables []) handed in
    let two = first_maps (misses ++ take ∷ []) (look ∷ []) maps [] one in
    let three = first_maps (misses ++ take ∷ [] ++ look ∷ []) raise maps _ two in
    let four = first_maps (misses ++ take ∷ [] ++ look ∷ [] ++ raise) unseen maps _ three in
    let five = first_maps (misses ++ take ∷ [] ++ look ∷ [] ++ raise ++ unseen) (give ∷ []) maps _ four in
    ap (λ all. slice_index_or all 0 no_maps) five

-- what stands before in a part
record IsPrefix (old new : Seen) (part : List Made) (events : List Happened) : Type 0 where
  adds : Adds old new part
  events_are : part_events old part ≡ events
  piece : IsPiece old part

prefix_on : (old mid new : Seen) (early late : List Made) (before after : List Happened) → IsPrefix old mid early before → IsPrefix mid new late after → IsPrefix old new (early ++ late) (before ++ after)
prefix_on old mid new early late before after one two =
    record {
      adds = adds_join old mid new early late one.adds two.adds;
      events_are = events_then old mid early late one.adds ∙ ap (λ events. events ++ part_events mid late) one.events_are ∙ ap (λ events. before ++ events) two.events_are;
      piece = piece_then old mid early late one.adds one.piece two.piece;
    }

-- steps of which nothing is to be seen come after
prefix_unseen : (old mid new : Seen) (early late : List Made) (before : List Happened) → IsPrefix old mid early before → GoesUnseen mid new late → IsPrefix old new (early ++ late) before
prefix_unseen old mid new early late before one two =
    record {
      adds = adds_join old mid new early late one.adds two.adds;
      events_are = events_then old mid early late one.adds ∙ ap (λ events. events ++ part_events mid late) one.events_are ∙ ap (λ events. before ++ events) two.silent ∙ append-nil before;
      piece = piece_then old mid early late one.adds one.piece two.piece;
    }

-- no step
pub unseen_none : (seen : Seen) → GoesUnseen seen seen []
unseen_none seen = record { adds = record { new_is = sym (seen_nil seen) }; none_taken = refl; silent = refl; piece = piece_nil seen }

-- the message was sent, and the LPI that it became is the one of the maps and of GITS_CTLR
pub record MsiMade (old new : Seen) (device event : ℕ) (id : Option ℕ) (unseen : List Made) : Type 0 where
  pub sends : SendsMsiBeside old new device event unseen
  pub becomes : id ≡ translated sends.form.maps (enabled_in sends.form.look.found) device event

pub msi_made :
    (old a b c d new : Seen) (device event : ℕ) (id : Option ℕ) (unseen : List Made) → IsPort old → IsPort new → CanCall old → TakesTurn old a → Translates a b device event id → TellsLpi b c id
    → GoesUnseen c d unseen → d.local ≡ record c.local { shut = d.local.shut } → GivesTurn d new → MsiMade old new device event id unseen
unfolding happened all_events
msi_made old a b c d new device event id unseen is_old is_new can takes translates tells goes shuts gives =
    let reads = translates.reads in
    let busy_a = busy_taken old a can takes in
    let busy_b = busy_read a b device event id busy_a translates in
    let busy_c = busy_told b c id busy_b tells in
    let busy_d = busy_shut c.local d.local shuts busy_c in
    let raise = lpi_part b c id busy_b tells in
    let early = takes.misses ++ takes.last ∷ [] ++ reads.look ∷ [] ++ raise.part in
    let part = early ++ unseen ++ gives.last ∷ [] in
    let first : IsPrefix old a (takes.misses ++ takes.last ∷ []) (takes.events.reads ++ happened ItsBegin ∷ []) = record { adds = takes.adds; events_are = takes.events.split; piece = takes.piece } in
    let looks : List Happened = (record { event = Read (Word ItsCtlr); found = FoundWord translates.ctlr }) ∷ [] in
    let second : IsPrefix a b (reads.look ∷ []) looks = record { adds = reads.adds; events_are = reads.events; piece = reads.piece } in
    let third : IsPrefix b c raise.part (lpi_events id) = record { adds = raise.adds; events_are = raise.events; piece = raise.piece } in
    let last : IsPrefix d new (gives.last ∷ []) (happened ItsEnd ∷ []) = record { adds = gives.adds; events_are = gives.events; piece = gives.piece } in
    let two = prefix_on old a b (takes.misses ++ takes.last ∷ []) (reads.look ∷ []) _ _ first second in
    let three = prefix_on old b c (takes.misses ++ takes.last ∷ [] ++ reads.look ∷ []) raise.part _ _ two third in
    let four = prefix_unseen old c d early unseen _ three goes in
    let whole : IsPrefix old new part (all_events takes.events.reads translates.ctlr id) = prefix_on old d new (early ++ unseen) (gives.last ∷ []) _ _ four last in
    let is : id ≡ translated takes.maps (enabled_in translates.ctlr) device event
    = translates.id_is ∙ ap (λ maps. translated maps (enabled_in translates.ctlr) device event) (maps_known old a b device event id takes translates) in
    let shape : shape_of b ≡ shape_of old = ap shape_of reads.adds.new_is ∙ ap shape_of takes.adds.new_is in
    let ShapedBy : GuestShape → Type 0 = λ shape. RaisesLpi shape id raise.part in
    let RaisedBy : Option ℕ → Type 0 = λ id. RaisesLpi (shape_of old) id raise.part in
    let found : reads.look.found ≡ translates.ctlr = reads.found_is in
    let raised : RaisesLpi (shape_of old) (translated takes.maps (enabled_in reads.look.found) device event) raise.part
    = subst RaisedBy (is ∙ ap (λ n. translated takes.maps (enabled_in n) device event) (sym found)) (subst ShapedBy shape raise.form) in
    let looked : reads.look.step ≡ RamLook (place_of_plain (shape_of old) ItsCtlr) = reads.step_is ∙ ap (λ seen. RamLook (place_of_plain (shape_of seen) ItsCtlr)) takes.adds.new_is in
    let view : View = record (known_view (shape_of old) old.actor []) { maps = takes.maps; words = λ word. translates.ctlr } in
    let beside : Beside = record { maps = takes.maps; targets = view.targets; commands = []; signals = false } in
    let makes = subst (MakesMsi view device event) (sym whole.events_are) (msi_makes takes.events.reads id view device event takes.events.are_reads (sym is)) in
    let call : MakesCall old part (Device (Msi device event)) None
    = device_call old part (Msi device event) None can.device beside (sym (maps_of_part takes.misses takes.last reads.look raise.part unseen gives.last takes.maps takes.missed takes.handed)) refl (record { view = view; maps = refl; made = inl makes; answers = refl }) in
    let home_c = home_told b c id (home_read a b device event id takes.tables translates) tells in
    let home_d : d.taken ≡ false = ap (λ seen. seen.taken) goes.adds.new_is ∙ home_c in
    record {
      sends =
          record {
            part = part;
            form =
                record {
                  misses = takes.misses;
                  take = takes.last;
                  look = reads.look;
                  raise = raise.part;
                  give = gives.last;
                  maps = takes.maps;
                  part_is = refl;
                  missed = takes.missed;
                  take_is = takes.last_is;
                  handed = takes.handed;
                  look_is = looked;
                  raises = raised;
                  give_is = gives.last_is;
                };
            done =
                part_done old new (Msi device event) part is_old is_new can whole.adds call whole.piece
                (λ cands. settled_of new.local (ap (λ l. l.owes) gives.local_is ∙ busy_d.kicks) (ap owes_no_mark gives.local_is ∙ busy_d.marks) cands (ap (λ l. l.turn) gives.local_is) (ap (λ l. l.ctlr) gives.local_is ∙ busy_d.ctlr) (ap (λ l. is_none l.line) gives.local_is ∙ busy_d.line))
                (ap (λ seen. seen.taken) gives.adds.new_is ∙ home_d);
            piece = whole.piece;
          };
      becomes = is ∙ ap (λ n. translated takes.maps (enabled_in n) device event) (sym found);
    }
