-- A message that goes through its line.
use Rattle.std.proofs.Common.{◌≡◌, ℕ, ◌<◌, ◌==◌, ◌&&◌, not, Bool, true, false, IsTrue, List, [], ◌∷◌, ◌++◌, Option, Some, None, is_none, is_some, if◌then◌else◌, refl, sym, ap, subst, ◌∙◌}
use Rattle.std.specs.Option.{option_map_or, option_to_list}
use Rattle.std.proofs.lemmas.Bool.{and_parts, eqb-true, eq-eqb, lt-ltb}
use Rattle.gic_msi.specs.Words.{GuestShape, Lpi, Msi, has_interrupt}
use Rattle.gic_msi.specs.Calls.{Device, Happened}
use Rattle.gic_msi.specs.Registers.{has_lpis}
use Rattle.gic_msi.specs.GicCall.declared.event.Event.TheVariants.{Raise as RaiseEvent}
use Rattle.gic_msi.specs.GicCall.declared.event.Found.TheVariants.{Nothing}
use Rattle.gic_msi.specs.Core.{Local, Made, Look, LineEnter, LineLeave, Raise, Line, Entered, line_of, line_count, has_word, is_vcpu, entered_line, is_in_line, no_vcpus, owes_no_mark, local_done, event_done, stands_for, succeeds, IsLineWord, Seen, IsPort, Adds, AddsStep, CanMake, made_by, shape_of, seen_after, part_events, MakesPost}
use Rattle.gic_msi.specs.PortCall.Piece.{goes_by_known}
use Rattle.gic_msi.specs.PortCall.Tell.{TellsOf, Tells}
use Rattle.gic_msi.specs.DevPort.Device.{CanCall, GoesUnseen}
use Rattle.gic_msi.specs.Message.{line_of_message, has_message}
use Rattle.gic_msi.specs.Post.{FindsNoLine, FindsChanged, Posts}
use Rattle.gic_msi.proofs.PortCore.PortLemmas.{adds_join, events_join}
use Rattle.gic_msi.proofs.PortCall.SettleLemmas.{local_made, adds_shape}
use Rattle.gic_msi.proofs.PortCall.TurnLemmas.{piece_then, events_then}
use Rattle.gic_msi.proofs.DevPort.CallLemmas.{clear, not_taken, settled_of, part_ends, form_clear}
use Rattle.gic_msi.proofs.DevPort.ItsExec.FrameLemmas.{both}
use Rattle.gic_msi.proofs.StepLemmas.{unseen_step, unseen_then, look_changes_nothing, goes_by_look, enter_misses, nothing_then}

-- What can be made.

-- a line of a guest with LPIs
pub line_there : (shape : GuestShape) (line : ℕ) → has_lpis shape ≡ true → line < 64 → line < line_count shape
line_there shape line lpis h = subst (λ b. line < (if b then 64 else 0)) (sym lpis) h

-- the word of a message's line has it
pair_is : (pair : Option (ℕ × ℕ)) (device event : ℕ) → option_map_or (λ pair. pair.0 == device && pair.1 == event) pair false ≡ true → pair ≡ Some (device, event)
pair_is None device event h = absurd (cc)
pair_is (Some (d, e)) device event h =
    let parts = and_parts (d == device) (e == event) h in
    ap (λ n. Some (n, e)) (eqb-true d device parts.0) ∙ ap (λ n. Some (device, n)) (eqb-true e event parts.1)

pub message_is : (device event word : ℕ) → has_message device event word ≡ true → (line_of word).pair ≡ Some (device, event)
message_is device event word h = pair_is (line_of word).pair device event h

-- its LPI is one of the guest
pub lpi_there : (shape : GuestShape) (device event word : ℕ) → IsLineWord shape word → has_message device event word ≡ true → IsTrue (has_interrupt shape (Lpi (line_of word).lpi))
lpi_there shape device event word valid h = valid.lpi (device, event) (message_is device event word h)

-- Misses.

pub finds_no_line : (old new : Seen) (device event found : ℕ) → CanCall old → AddsStep old new (Look (Line (line_of_message device event))) found → has_message device event found ≡ false → FindsNoLine old new device event found
finds_no_line old new device event found can add other =
    let look = made_by old (Look (Line (line_of_message device event))) found add.tables in
    record {
      part = look ∷ [];
      form = record { look = look; part_is = refl; look_is = refl; found_is = refl; not_there = other };
      nothing = look_changes_nothing old new (line_of_message device event) found add (clear old.local can.settled).turn;
    }

pub finds_changed : (old mid new : Seen) (device event seen found : ℕ) → CanCall old → AddsStep old mid (Look (Line (line_of_message device event))) seen → AddsStep mid new (LineEnter (line_of_message device event) seen) found
    → has_message device event seen ≡ true → (found == seen) ≡ false → FindsChanged old new device event found
finds_changed old mid new device event seen found can look_add enter_add there other =
    let line = line_of_message device event in
    let look = made_by old (Look (Line line)) seen look_add.tables in
    let enter = made_by mid (LineEnter line seen) found enter_add.tables in
    record {
      part = look ∷ enter ∷ [];
      form = record { look = look; enter = enter; part_is = refl; look_is = refl; there = there; enter_is = refl; found_is = refl; other = other };
      nothing =
          nothing_then old mid new (look ∷ []) (enter ∷ []) (look_changes_nothing old mid line seen look_add (clear old.local can.settled).turn)
          (enter_misses mid new line seen found enter_add other (goes_by_look old mid line seen look_add));
    }

-- A post.

-- a device that entered a line
entered_is : (local : Local) (line device event word : ℕ) → (line_of word).pair ≡ Some (device, event) → entered_line line (line_of word) local ≡ record local { line = Some (record { line = line; pair = (device, event); lpi = (line_of word).lpi }) }
entered_is local line device event word is = ap (λ pair. record local { line = option_map_or (λ pair. Some (record { line = line; pair = pair; lpi = (line_of word).lpi })) pair None }) is

enters : (device event seen found : ℕ) → has_message device event seen ≡ true → (found == seen) ≡ true → (found == seen && is_some (line_of found).pair) ≡ true
enters device event seen found there same =
    ap (λ b. b && is_some (line_of found).pair) same ∙ ap (λ word. is_some (line_of word).pair) (eqb-true found seen same) ∙ ap is_some (message_is device event seen there)

pub enter_local : (old new : Seen) (device event seen found : ℕ) → AddsStep old new (LineEnter (line_of_message device event) seen) found → has_message device event seen ≡ true → (found == seen) ≡ true
    → new.local ≡ record old.local { line = Some (record { line = line_of_message device event; pair = (device, event); lpi = (line_of seen).lpi }) }
enter_local old new device event seen found add there same =
    let line = line_of_message device event in
    let same_word = eqb-true found seen same in
    local_made old new (LineEnter line seen) found add
    ∙ ap (λ b. if b then local_done (shape_of old) old.actor old.local (LineEnter line seen) found else old.local) (enters device event seen found there same)
    ∙ ap (λ word. entered_line line (line_of word) old.local) same_word
    ∙ entered_is old.local line device event seen (message_is device event seen there)

enter_unseen : (old new : Seen) (line seen found : ℕ) (add : AddsStep old new (LineEnter line seen) found) → IsTrue (goes_by_known old (LineEnter line seen)) → GoesUnseen old new (made_by old (LineEnter line seen) found add.tables ∷ [])
enter_unseen old new line seen found add known = unseen_step old new (LineEnter line seen) found add refl refl known (silent_anyhow (succeeds (shape_of old) old.actor old.local (LineEnter line seen) found))
  where
    silent_anyhow : (b : Bool) → (if b then event_done (shape_of old) old.actor old.local old.own (LineEnter line seen) found else None) ≡ None
    silent_anyhow true = refl
    silent_anyhow false = refl

-- Conditions.

-- a device can still step on a line after what it did
device_line : (old new : Seen) (part : List Made) (line : ℕ) → is_vcpu (shape_of old) old.actor ≡ false → has_word (shape_of old) (Line line) ≡ true → Adds old new part → IsTrue (not (is_vcpu (shape_of new) new.actor) && has_word (shape_of new) (Line line))
device_line old new part line device there adds =
    ap (λ told. not (is_vcpu (shape_of told) told.actor) && has_word (shape_of told) (Line line)) adds.new_is ∙ both (not (is_vcpu (shape_of old) old.actor)) (has_word (shape_of old) (Line line)) (ap not device) there

pub can_look : (seen : Seen) (line : ℕ) → has_lpis (shape_of seen) ≡ true → line < 64 → CanMake seen (Look (Line line))
can_look seen line lpis h = record { can = lt-ltb line (line_count (shape_of seen)) (line_there (shape_of seen) line lpis h); seen_is = tt; meets = tt; tables = refl }

pub can_enter : (old mid : Seen) (line seen : ℕ) → CanCall old → AddsStep old mid (Look (Line line)) seen → has_lpis (shape_of old) ≡ true → line < 64 → IsLineWord (shape_of old) seen → CanMake mid (LineEnter line seen)
can_enter old mid line seen can add lpis h valid =
    let is = clear old.local can.settled in
    let looked = look_changes_nothing old mid line seen add is.turn in
    let there = lt-ltb line (line_count (shape_of old)) (line_there (shape_of old) line lpis h) in
    let ValidIn : Seen → Type 0 = λ told. IsLineWord (shape_of told) seen in
    record {
      can = device_line old mid _ line can.device there add.adds;
      seen_is = subst ValidIn (sym add.adds.new_is) valid;
      meets = ap (λ l. is_none l.line) looked.local_is ∙ is.line;
      tables = refl;
    }

pub can_raise : (old a b : Seen) (device event seen found : ℕ) → CanCall old → AddsStep old a (Look (Line (line_of_message device event))) seen → AddsStep a b (LineEnter (line_of_message device event) seen) found
    → IsLineWord (shape_of old) seen → has_message device event seen ≡ true → IsTrue (has_interrupt (shape_of b) (Lpi (line_of seen).lpi))
can_raise old a b device event seen found can look_add enter_add valid there =
    let There : GuestShape → Type 0 = λ shape. IsTrue (has_interrupt shape (Lpi (line_of seen).lpi)) in
    subst There (sym (ap shape_of enter_add.adds.new_is ∙ ap shape_of look_add.adds.new_is)) (lpi_there (shape_of old) device event seen valid there)

-- what the device has for itself in the line
pub in_line_local : (old a b : Seen) (device event seen found : ℕ) → CanCall old → AddsStep old a (Look (Line (line_of_message device event))) seen → AddsStep a b (LineEnter (line_of_message device event) seen) found
    → has_message device event seen ≡ true → (found == seen) ≡ true → b.local ≡ record old.local { line = Some (record { line = line_of_message device event; pair = (device, event); lpi = (line_of seen).lpi }) }
in_line_local old a b device event seen found can look_add enter_add there same =
    let entered : Entered = record { line = line_of_message device event; pair = (device, event); lpi = (line_of seen).lpi } in
    let with : Local → Local = λ local. record local { line = Some entered } in
    let looked = look_changes_nothing old a (line_of_message device event) seen look_add (clear old.local can.settled).turn in
    enter_local a b device event seen found enter_add there same ∙ ap with looked.local_is

pub owes_in_line : (old a b : Seen) (device event seen found : ℕ) → CanCall old → AddsStep old a (Look (Line (line_of_message device event))) seen → AddsStep a b (LineEnter (line_of_message device event) seen) found
    → has_message device event seen ≡ true → (found == seen) ≡ true → IsTrue (owes_no_mark b.local)
owes_in_line old a b device event seen found can look_add enter_add there same =
    ap owes_no_mark (in_line_local old a b device event seen found can look_add enter_add there same) ∙ (clear old.local can.settled).marks

pub can_leave : (old a b c : Seen) (device event seen found lpi : ℕ) → CanCall old → has_lpis (shape_of old) ≡ true → line_of_message device event < 64 → AddsStep old a (Look (Line (line_of_message device event))) seen
    → AddsStep a b (LineEnter (line_of_message device event) seen) found → has_message device event seen ≡ true → (found == seen) ≡ true → Tells b c (Raise (Lpi lpi)) (Lpi lpi) (RaiseEvent (Lpi lpi)) → CanMake c (LineLeave (line_of_message device event))
can_leave old a b c device event seen found lpi can lpis h look_add enter_add there same tells =
    let line = line_of_message device event in
    let held = in_line_local old a b device event seen found can look_add enter_add there same in
    let has = lt-ltb line (line_count (shape_of old)) (line_there (shape_of old) line lpis h) in
    let two = adds_join old a b _ _ look_add.adds enter_add.adds in
    record {
      can = device_line old c _ line can.device has (adds_join old b c _ _ two tells.adds);
      seen_is = tt;
      meets = ap (λ l. is_in_line line l) tells.local_is ∙ ap (λ l. is_in_line line l) held ∙ eq-eqb line line refl;
      tables = refl;
    }

-- What it is.

-- the raise, and what stands for it
raise_event : ℕ → Happened
raise_event lpi = record { event = RaiseEvent (Lpi lpi); found = Nothing }

raise_stands : (seen : Seen) (raise : Made) (lpi : ℕ) → raise.step ≡ Raise (Lpi lpi) → part_events seen (raise ∷ []) ≡ raise_event lpi ∷ []
unfolding raise_event
raise_stands seen raise lpi is = ap (λ step. option_to_list (stands_for (shape_of seen) seen.actor seen.local seen.own step raise.found) ++ []) is

only_head : (one : Happened) (rest : List Happened) → one ∷ rest ≡ one ∷ [] → rest ≡ []
only_head one rest e = ap tail e
  where
    tail : List Happened → List Happened
    tail [] = []
    tail (happened ∷ later) = later

-- where the whole part stands for the raise alone, so does its step, and what comes after it for nothing
after_raise : (old : Seen) (early late : List Made) (raise : Made) (lpi : ℕ) → raise.step ≡ Raise (Lpi lpi) → part_events old early ≡ [] → part_events old (early ++ raise ∷ [] ++ late) ≡ raise_event lpi ∷ []
    → part_events (seen_after old (early ++ raise ∷ [])) late ≡ []
after_raise old early late raise lpi is before whole =
    let joined : part_events old (early ++ raise ∷ []) ≡ raise_event lpi ∷ []
    = events_join (shape_of old) old.actor old.local old.own early (raise ∷ []) ∙ ap (λ events. events ++ part_events (seen_after old early) (raise ∷ [])) before ∙ raise_stands (seen_after old early) raise lpi is in
    only_head (raise_event lpi) (part_events (seen_after old (early ++ raise ∷ [])) late)
    (sym (events_join (shape_of old) old.actor old.local old.own (early ++ raise ∷ []) late ∙ ap (λ events. events ++ part_events (seen_after old (early ++ raise ∷ [])) late) joined) ∙ whole)

pub posted :
    (old a b c new : Seen) (device event seen found left : ℕ) → IsPort old → IsPort new → CanCall old → AddsStep old a (Look (Line (line_of_message device event))) seen → AddsStep a b (LineEnter (line_of_message device event) seen) found
    → has_message device event seen ≡ true → (found == seen) ≡ true → Tells b c (Raise (Lpi (line_of seen).lpi)) (Lpi (line_of seen).lpi) (RaiseEvent (Lpi (line_of seen).lpi))
    → AddsStep c new (LineLeave (line_of_message device event)) left → Posts old new device event
unfolding raise_event
posted old a b c new device event seen found left is_old is_new can look_add enter_add there same tells leave_add =
    let line = line_of_message device event in
    let lpi = (line_of seen).lpi in
    let is = clear old.local can.settled in
    let look = made_by old (Look (Line line)) seen look_add.tables in
    let enter = made_by a (LineEnter line seen) found enter_add.tables in
    let leave = made_by c (LineLeave line) left leave_add.tables in
    let looked = look_changes_nothing old a line seen look_add is.turn in
    let early = look ∷ enter ∷ [] in
    let in_line : GoesUnseen old b early = unseen_then old a b (look ∷ []) (enter ∷ []) looked.unseen (enter_unseen a b line seen found enter_add (goes_by_look old a line seen look_add)) in
    let entered : Entered = record { line = line; pair = (device, event); lpi = lpi } in
    let local_b : b.local ≡ record old.local { line = Some entered } = in_line_local old a b device event seen found can look_add enter_add there same in
    let leaving : GoesUnseen c new (leave ∷ []) = unseen_step c new (LineLeave line) left leave_add refl refl refl refl in
    let left_is : new.local ≡ record c.local { line = None } = local_made c new (LineLeave line) left leave_add in
    let shape : shape_of b ≡ shape_of old = adds_shape old b early in_line.adds in
    let form_b = form_clear (shape_of b) b.local.owes (Raise (Lpi lpi)) (Lpi lpi) tells.part (ap (λ l. l.owes) local_b ∙ is.kicks) tells.form in
    let FormBy : GuestShape → Type 0 = λ shape. TellsOf shape no_vcpus (Raise (Lpi lpi)) (Lpi lpi) tells.part in
    let form = subst FormBy shape form_b in
    let part = early ++ tells.part ++ leave ∷ [] in
    let late = form.marks ++ form.kicks ++ leave ∷ [] in
    let split : part ≡ early ++ form.change ∷ late = ap (λ told. early ++ told ++ leave ∷ []) form.part_is in
    let told_adds : Adds old c (early ++ tells.part) = adds_join old b c early tells.part in_line.adds tells.adds in
    let adds : Adds old new part = adds_join old c new (early ++ tells.part) (leave ∷ []) told_adds leaving.adds in
    let told_events : part_events old (early ++ tells.part) ≡ raise_event lpi ∷ []
    = events_then old b early tells.part in_line.adds ∙ ap (λ events. events ++ part_events b tells.part) in_line.silent ∙ tells.events in
    let events : part_events old part ≡ raise_event lpi ∷ []
    = events_then old c (early ++ tells.part) (leave ∷ []) told_adds ∙ ap (λ events. events ++ part_events c (leave ∷ [])) told_events ∙ ap (λ events. raise_event lpi ∷ [] ++ events) leaving.silent in
    let piece = piece_then old c (early ++ tells.part) (leave ∷ []) told_adds (piece_then old b early tells.part in_line.adds in_line.piece tells.piece) leaving.piece in
    let same_entry : (seen_after old early).local.line ≡ Some entered = ap (λ told. told.local.line) (sym in_line.adds.new_is) ∙ ap (λ l. l.line) local_b in
    let call : MakesPost old part (Device (Msi device event)) None
    = record {
      entered = entered;
      early = early;
      raise = form.change;
      late = late;
      split = split;
      inside = same_entry;
      raises = form.change_is;
      message = refl;
      before = in_line.silent;
      after = after_raise old early late form.change lpi form.change_is in_line.silent (ap (part_events old) (sym split) ∙ events);
      answers = refl;
    } in
    let owes : new.local.owes ≡ no_vcpus = ap (λ l. l.owes) left_is ∙ ap (λ l. l.owes) tells.local_is in
    let marks : IsTrue (owes_no_mark new.local) = ap owes_no_mark left_is ∙ ap owes_no_mark tells.local_is in
    let turn : new.local.turn ≡ false = ap (λ l. l.turn) left_is ∙ ap (λ l. l.turn) tells.local_is ∙ ap (λ l. l.turn) local_b ∙ is.turn in
    let ctlr : new.local.ctlr ≡ false = ap (λ l. l.ctlr) left_is ∙ ap (λ l. l.ctlr) tells.local_is ∙ ap (λ l. l.ctlr) local_b ∙ is.ctlr in
    let ends =
    part_ends old new (Msi device event) part is_old is_new can adds piece (λ cands. settled_of new.local owes marks cands turn ctlr (ap (λ l. is_none l.line) left_is))
    (ap (λ seen. seen.taken) adds.new_is ∙ not_taken old is_old is.turn) in
    record {
      part = part;
      form =
          record {
            look = look;
            enter = enter;
            tells = tells.part;
            leave = leave;
            part_is = refl;
            look_is = refl;
            there = there;
            enter_is = refl;
            same = eqb-true found seen same;
            raises = form;
            leave_is = refl;
          };
      done = record { adds = adds; call = call; proper = ends.proper; tables = ends.tables; after = ends.after };
    }
