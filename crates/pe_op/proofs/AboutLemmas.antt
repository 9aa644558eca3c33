-- The events of a call stay one between moves of the actor's own interrupts.
use Rattle.std.proofs.Common.{◌≡◌, ℕ, not, Bool, true, false, IsTrue, List, [], ◌∷◌, ◌++◌, map, filter_map, All, Option, Some, None, is_none, is_some, append-nil, refl, sym, ap, subst, ◌∙◌}
use Rattle.std.specs.List.{cons_option, slice_index_or}
use Rattle.std.proofs.lemmas.Bool.{and_parts}
use Rattle.std.proofs.lemmas.List.{append_assoc}
use Rattle.std.proofs.lemmas.List.Elements.{All-nil, All-cons, All-append, All-weaker, filter-append, filter_map-append}
use Rattle.pe_icc.specs.Words.{GuestShape, Frame, Dist, Redist, Its, Ram, Mem}
use Rattle.pe_icc.specs.GicImap.Map.{decoded}
use Rattle.pe_icc.specs.Calls.{Event, Place, takes_turn, Happened, Beside, HandsOut, IsLastRead, IsPlainCall, IsItsCall, IsItsWrite, IsAccessCall, Makes, held_at, is_beside, named_of, read_answer, View, MakesAfter, MakesPlain, enabled_by}
use Rattle.pe_icc.specs.GicCall.declared.event.Event.TheVariants.{Read}
use Rattle.pe_icc.specs.Registers.{Maps}
use Rattle.pe_icc.specs.Core.{Made, no_maps, maps_taken}
use Rattle.pe_icc.specs.PortCall.Piece.{takes_none}
use Rattle.pe_icc.specs.PeLoop.Moves.{is_move, are_moves}
use Rattle.pe_icc.proofs.PeLoop.MoveLemmas.{moves_unnamed}

-- Reads.

-- a move is no read
move_unread : (actor : ℕ) (place : Place) (event : Event) → IsTrue (is_move actor event) → event ≡ Read place → ⊥
move_unread actor place event h is = absurd (let read : IsTrue (is_move actor (Read place)) = ap (is_move actor) (sym is) ∙ h in cc)

moves_unread : (actor : ℕ) (place : Place) (events : List Happened) → IsTrue (are_moves actor events) → All (λ happened. happened.event ≡ Read place → ⊥) events
moves_unread actor place [] h = All-nil (λ happened. happened.event ≡ Read place → ⊥)
moves_unread actor place (one ∷ rest) h =
    let parts = and_parts (is_move actor one.event) (are_moves actor rest) h in
    All-cons (λ happened. happened.event ≡ Read place → ⊥) one rest (move_unread actor place one.event parts.0) (moves_unread actor place rest parts.1)

-- a last read stays the last one
last_between : (actor : ℕ) (view : View) (before piece after : List Happened) (place : Place) → IsTrue (are_moves actor after) → IsLastRead place (held_at view place) piece → IsLastRead place (held_at view place) (before ++ (piece ++ after))
last_between actor view before piece after place moves read =
    let one : Happened = record { event = Read place; found = held_at view place } in
    record {
      before = before ++ read.before;
      after = read.after ++ after;
      split =
          ap (λ piece. before ++ (piece ++ after)) read.split
          ∙ ap (λ events. before ++ events) (append_assoc read.before (one ∷ read.after) after)
          ∙ sym (append_assoc before read.before (one ∷ (read.after ++ after)));
      last = All-append (λ happened. happened.event ≡ Read place → ⊥) read.after after read.last (moves_unread actor place after moves);
    }

-- Pieces.

-- those that the definitions name are the same
named_between : (actor : Option ℕ) (before piece after : List Happened) → named_of actor before ≡ [] → named_of actor after ≡ [] → named_of actor (before ++ (piece ++ after)) ≡ named_of actor piece
named_between actor before piece after first last =
    let Named : Happened → Bool = λ happened. not (is_beside actor happened.event) in
    filter-append Named before (piece ++ after)
    ∙ ap (λ events. events ++ named_of actor (piece ++ after)) first
    ∙ filter-append Named piece after
    ∙ ap (λ events. named_of actor piece ++ events) last
    ∙ append-nil (named_of actor piece)

makes_between : (actor : ℕ) (view : View) (events : List Event) (places : List Place) (before piece after : List Happened) → IsTrue (are_moves actor before) → IsTrue (are_moves actor after) → Makes (Some actor) view events places [] piece
    → Makes (Some actor) view events places [] (before ++ (piece ++ after))
makes_between actor view events places before piece after first last makes =
    let named = named_between (Some actor) before piece after (moves_unnamed actor before first) (moves_unnamed actor after last) in
    record {
      events_are = ap (map (λ happened. happened.event)) named ∙ makes.events_are;
      found = subst (All (λ happened. HandsOut view happened.event happened.found)) (sym named) makes.found;
      reads =
          All-weaker (λ place. IsLastRead place (held_at view place) piece) (λ place. IsLastRead place (held_at view place) (before ++ (piece ++ after)))
          (λ place read. last_between actor view before piece after place last read)
          places makes.reads;
    }

-- a piece that begins with an event: moves before it are before that, and moves after it are after it
after_between : (actor : ℕ) (view : View) (event : Event) (events : List Event) (places : List Place) (before piece after : List Happened) → IsTrue (are_moves actor before) → IsTrue (are_moves actor after) → MakesAfter (Some actor) view event events places piece
    → MakesAfter (Some actor) view event events places (before ++ (piece ++ after))
after_between actor view event events places before piece after first last makes =
    record {
      begin = before ++ (makes.begin ++ []);
      rest = [] ++ (makes.rest ++ after);
      split =
          ap (λ piece. before ++ (piece ++ after)) makes.split
          ∙ ap (λ events. before ++ events) (append_assoc makes.begin makes.rest after)
          ∙ sym (append_assoc before makes.begin (makes.rest ++ after))
          ∙ ap (λ begin. (before ++ begin) ++ (makes.rest ++ after)) (sym (append-nil makes.begin));
      begun = makes_between actor view (event ∷ []) [] before makes.begin [] first refl makes.begun;
      made = makes_between actor view events places [] makes.rest after refl last makes.made;
    }

-- Calls.

plain_made_between : (enabled : Option ℕ) (shape : GuestShape) (view : View) (vcpu : ℕ) (frame : Frame) (offset size : ℕ) (write : Option ℕ) (before piece after : List Happened) → IsTrue (are_moves vcpu before) → IsTrue (are_moves vcpu after)
    → MakesPlain enabled shape view vcpu frame offset size write piece → MakesPlain enabled shape view vcpu frame offset size write (before ++ (piece ++ after))
plain_made_between None shape view vcpu frame offset size write before piece after first last made = makes_between vcpu view _ _ before piece after first last made
plain_made_between (Some enabled) shape view vcpu frame offset size write before piece after first last made = after_between vcpu view _ _ _ before piece after first last made

plain_between : (shape : GuestShape) (beside : Beside) (vcpu : ℕ) (frame : Frame) (offset size : ℕ) (write answer : Option ℕ) (before piece after : List Happened) → IsTrue (are_moves vcpu before) → IsTrue (are_moves vcpu after)
    → IsPlainCall shape beside vcpu frame offset size write piece answer → IsPlainCall shape beside vcpu frame offset size write (before ++ (piece ++ after)) answer
plain_between shape beside vcpu frame offset size write answer before piece after first last call =
    record { view = call.view; targets = call.targets; made = plain_made_between (enabled_by shape frame offset size write) shape call.view vcpu frame offset size write before piece after first last call.made; answers = call.answers }

-- of a write that takes the ITS, the moves before it are before the turn, and those after it are after the turn
its_between : (shape : GuestShape) (beside : Beside) (vcpu offset size value : ℕ) (answer : Option ℕ) (before piece after : List Happened) → IsTrue (are_moves vcpu before) → IsTrue (are_moves vcpu after)
    → IsItsCall shape beside vcpu offset size value piece answer → IsItsCall shape beside vcpu offset size value (before ++ (piece ++ after)) answer
its_between shape beside vcpu offset size value answer before piece after first last call =
    record {
      view = call.view;
      maps = call.maps;
      views = call.views;
      register = before ++ (call.register ++ []);
      commands = call.commands;
      last = [] ++ (call.last ++ after);
      split =
          ap (λ piece. before ++ (piece ++ after)) call.split
          ∙ ap (λ events. before ++ events) (append_assoc (call.register ++ call.commands) call.last after)
          ∙ sym (append_assoc before (call.register ++ call.commands) (call.last ++ after))
          ∙ ap (λ events. events ++ (call.last ++ after)) (sym (append_assoc before call.register call.commands))
          ∙ ap (λ register. ((before ++ register) ++ call.commands) ++ (call.last ++ after)) (sym (append-nil call.register));
      written = after_between vcpu call.view _ _ _ before call.register [] first refl call.written;
      started = call.started;
      ended = makes_between vcpu call.view _ _ [] call.last after refl last call.ended;
      answers = call.answers;
    }

its_write_between : (takes : Bool) (shape : GuestShape) (beside : Beside) (vcpu offset size value : ℕ) (answer : Option ℕ) (before piece after : List Happened) → IsTrue (are_moves vcpu before) → IsTrue (are_moves vcpu after)
    → IsItsWrite takes shape beside vcpu offset size value piece answer → IsItsWrite takes shape beside vcpu offset size value (before ++ (piece ++ after)) answer
its_write_between true shape beside vcpu offset size value answer before piece after first last call = its_between shape beside vcpu offset size value answer before piece after first last call
its_write_between false shape beside vcpu offset size value answer before piece after first last call = plain_between shape beside vcpu Its offset size (Some value) answer before piece after first last call

pub access_between : (shape : GuestShape) (beside : Beside) (vcpu : ℕ) (frame : Frame) (offset size : ℕ) (write answer : Option ℕ) (before piece after : List Happened) → IsTrue (are_moves vcpu before) → IsTrue (are_moves vcpu after)
    → IsAccessCall shape beside vcpu (Mem frame offset size write) piece answer → IsAccessCall shape beside vcpu (Mem frame offset size write) (before ++ (piece ++ after)) answer
access_between shape beside vcpu Dist offset size write answer before piece after first last call = plain_between shape beside vcpu Dist offset size write answer before piece after first last call
access_between shape beside vcpu (Redist of) offset size write answer before piece after first last call = plain_between shape beside vcpu (Redist of) offset size write answer before piece after first last call
access_between shape beside vcpu Ram offset size write answer before piece after first last call = plain_between shape beside vcpu Ram offset size write answer before piece after first last call
access_between shape beside vcpu Its offset size None answer before piece after first last call = plain_between shape beside vcpu Its offset size None answer before piece after first last call
access_between shape beside vcpu Its offset size (Some value) answer before piece after first last call =
    its_write_between (takes_turn shape (decoded offset size) (Some value)) shape beside vcpu offset size value answer before piece after first last call

-- Answers.

plain_answers : (write : Option ℕ) (value : ℕ) → is_some (read_answer write value) ≡ is_none write
plain_answers None value = refl
plain_answers (Some written) value = refl

its_answers : (takes : Bool) (shape : GuestShape) (beside : Beside) (vcpu offset size value : ℕ) (answer : Option ℕ) (piece : List Happened) → IsItsWrite takes shape beside vcpu offset size value piece answer → is_some answer ≡ false
its_answers true shape beside vcpu offset size value answer piece call = ap is_some call.answers
its_answers false shape beside vcpu offset size value answer piece call = ap is_some call.answers

-- a read has one, and a write has none
pub access_answers : (shape : GuestShape) (beside : Beside) (vcpu : ℕ) (frame : Frame) (offset size : ℕ) (write answer : Option ℕ) (piece : List Happened) → IsAccessCall shape beside vcpu (Mem frame offset size write) piece answer → is_some answer ≡ is_none write
access_answers shape beside vcpu Dist offset size write answer piece call = ap is_some call.answers ∙ plain_answers write _
access_answers shape beside vcpu (Redist of) offset size write answer piece call = ap is_some call.answers ∙ plain_answers write _
access_answers shape beside vcpu Ram offset size write answer piece call = ap is_some call.answers ∙ plain_answers write _
access_answers shape beside vcpu Its offset size None answer piece call = ap is_some call.answers
access_answers shape beside vcpu Its offset size (Some value) answer piece call = its_answers (takes_turn shape (decoded offset size) (Some value)) shape beside vcpu offset size value answer piece call

-- The maps of the ITS.

none_handed : (part : List Made) → IsTrue (takes_none part) → filter_map (λ (made : Made). made.tables) part ≡ []
none_handed [] h = refl
none_handed (made ∷ part) h = let parts = and_parts (is_none made.tables) (takes_none part) h in of made.tables parts.0 (none_handed part parts.1)
  where
    of : (tables : Option Maps) → IsTrue (is_none tables) → filter_map (λ (made : Made). made.tables) part ≡ [] → cons_option tables (filter_map (λ (made : Made). made.tables) part) ≡ []
    of None h rest = rest
    of (Some maps) h rest = absurd (cc)

-- a part that takes it has the maps that it hands out, between others that do not
pub maps_between : (before part after : List Made) → IsTrue (takes_none before) → IsTrue (takes_none after) → maps_taken (before ++ (part ++ after)) ≡ maps_taken part
maps_between before part after first last =
    let handed : List Made → List Maps = λ part. filter_map (λ (made : Made). made.tables) part in
    ap (λ all. slice_index_or all 0 no_maps)
    (filter_map-append (λ (made : Made). made.tables) before (part ++ after)
    ∙ ap (λ all. all ++ handed (part ++ after)) (none_handed before first)
    ∙ filter_map-append (λ (made : Made). made.tables) part after
    ∙ ap (λ all. handed part ++ all) (none_handed after last)
    ∙ append-nil (handed part))
