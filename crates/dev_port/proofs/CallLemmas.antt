-- A step that changes a cause, with the marks and kicks after it, is a call of a device.
use Rattle.std.proofs.Common.{◌≡◌, ℕ, ◌==◌, ◌&&◌, not, Bool, true, false, cond, if◌then◌else◌, IsTrue, List, [], ◌∷◌, map, All, Option, Some, None, is_none, refl, sym, ap, subst, ◌∙◌, arith}
use Rattle.std.proofs.lemmas.List.Elements.{All-cons, All-nil}
use Rattle.std.proofs.lemmas.Bool.{and_parts, eqb-true, both_ways}
use Rattle.its_exec.specs.Registers.{Targets}
use Rattle.its_exec.specs.Words.{Key, Spi, DeviceOp, Message, Wire, GuestShape}
use Rattle.its_exec.specs.Calls.{Event, Up, Down, Device, Happened, Beside, Makes, IsCall, IsDeviceCall, HandsOut, is_beside, held_at, named_of, IsLastRead, View, MakesDevice}
use Rattle.its_exec.specs.GicCall.declared.event.Event.TheVariants.{Raise as RaiseEvent}
use Rattle.its_exec.specs.GicCall.declared.event.Found.TheVariants.{Nothing}
use Rattle.its_exec.specs.Core.{Local, Made, CoreStep, Raise, known_view, is_vcpu, no_vcpus, owes_no_kick, owes_no_mark, has_no_cand, owes_nothing, Seen, IsPort, Adds, AddsStep, shape_of, seen_after, part_events, MakesCall, IsProperPart, vcpu_of_actor, maps_taken, is_settled}
use Rattle.its_exec.specs.PortCall.Piece.{IsPiece}
use Rattle.its_exec.specs.PortCall.Settle.{Settles}
use Rattle.its_exec.proofs.PortCall.PieceLemmas.{piece_is_part}
use mathlib.Core.Bool.{beq}
use Rattle.std.proofs.lemmas.Grind.{common_steps}
use Rattle.dev_port.specs.declared.wire.Wire.{Wire as WireValue}
use Rattle.its_exec.specs.PortCall.Tell.{TellsOf, Tells}
use Rattle.its_exec.proofs.PortCall.TellLemmas.{IsCause, tells}
use Rattle.dev_port.specs.Device.{CanCall, IsDevicePart, Changes, has_level, wire_step}

-- What an actor that can make a call has.

-- it owes no kick and no mark, has not the ITS, and is in no line
pub record IsClear (local : Local) : Type 0 where
  pub kicks : local.owes ≡ no_vcpus
  pub marks : IsTrue (owes_no_mark local)
  pub turn : local.turn ≡ false
  pub ctlr : local.ctlr ≡ false
  pub cands : IsTrue (has_no_cand local)
  pub line : IsTrue (is_none local.line)

not_is : (b : Bool) → IsTrue (not b) → b ≡ false
not_is true h = absurd (cc)
not_is false h = refl

pub clear : (local : Local) → IsTrue (is_settled local) → IsClear local
clear local h =
    let line = and_parts (owes_nothing local && not local.turn && not local.ctlr) (is_none local.line) h in
    let ctlr = and_parts (owes_nothing local && not local.turn) (not local.ctlr) line.0 in
    let turn = and_parts (owes_nothing local) (not local.turn) ctlr.0 in
    let cands = and_parts (owes_no_kick local && owes_no_mark local) (has_no_cand local) turn.0 in
    let marks = and_parts (owes_no_kick local) (owes_no_mark local) cands.0 in
    let set : ℕ → Targets = λ n. record { 0 = n } in
    record {
      kicks = ap set (eqb-true local.owes.0 0 marks.0);
      marks = marks.1;
      turn = not_is local.turn turn.1;
      ctlr = not_is local.ctlr ctlr.1;
      cands = cands.1;
      line = line.1;
    }

pub not_taken : (seen : Seen) → IsPort seen → seen.local.turn ≡ false → seen.taken ≡ false
not_taken seen is none = of seen.taken is.turn
  where
    of : (b : Bool) → (IsTrue b → IsTrue seen.local.turn) → b ≡ false
    of true h = absurd (both_ways seen.local.turn none (h refl))
    of false h = refl

-- Calls.

-- a device makes one event, which no read tells
pub record HasOneEvent (op : DeviceOp) (event : Event) : Type 0 where
  pub makes : (view : View) (piece : List Happened) → Makes None view (event ∷ []) [] [] piece → MakesDevice false view op piece
  pub named : is_beside None event ≡ false
  pub hands : (view : View) → HandsOut view event Nothing

pub device_call : (seen : Seen) (part : List Made) (op : DeviceOp) (answer : Option ℕ) → is_vcpu (shape_of seen) seen.actor ≡ false → (beside : Beside) → beside.maps ≡ maps_taken part → beside.signals ≡ false → IsDeviceCall beside op (part_events seen part) answer
    → MakesCall seen part (Device op) answer
device_call seen part op answer device beside maps signals call =
    let none : vcpu_of_actor (shape_of seen) seen.actor ≡ None = ap (λ b. cond b (Some seen.actor) None) device in
    let P : Option ℕ → Type 0 = λ actor. IsCall (shape_of seen) beside actor (Device op) (part_events seen part) answer in
    record { beside = beside; maps = maps; signals = signals; call = subst P (sym none) call }

pub one_made : (view : View) (event : Event) → is_beside None event ≡ false → HandsOut view event Nothing → Makes None view (event ∷ []) [] [] (record { event = event; found = Nothing } ∷ [])
one_made view event named hands =
    let happened : Happened = record { event = event; found = Nothing } in
    let Hands : Happened → Type 0 = λ h. HandsOut view h.event h.found in
    let keep : Bool → List Happened = λ b. cond (not b) (happened ∷ []) [] in
    let only : named_of None (happened ∷ []) ≡ happened ∷ [] = ap keep named in
    record {
      events_are = ap (map (λ h. h.event)) only;
      found = subst (All Hands) (sym only) (All-cons Hands happened [] hands (All-nil Hands));
      reads = All-nil (λ place. IsLastRead place (held_at view place) (happened ∷ []));
    }

-- a part that stands for one event is the call
one_call : (seen : Seen) (part : List Made) (op : DeviceOp) (event : Event) → is_vcpu (shape_of seen) seen.actor ≡ false → part_events seen part ≡ (record { event = event; found = Nothing }) ∷ [] → HasOneEvent op event → MakesCall seen part (Device op) None
one_call seen part op event device events one =
    let view : View = record (known_view (shape_of seen) seen.actor []) { maps = maps_taken part } in
    let beside : Beside = record { maps = maps_taken part; targets = view.targets; commands = []; signals = false } in
    let happened : List Happened = record { event = event; found = Nothing } ∷ [] in
    let made : MakesDevice false view op happened = one.makes view happened (one_made view event one.named (one.hands view)) in
    device_call seen part op None device beside refl refl (record { view = view; maps = refl; made = subst (MakesDevice false view op) (sym events) made; answers = refl })

-- a device that owes nothing any more, has neither the ITS nor the mark of GICD_CTLR, and is in no line
pub settled_of : (local : Local) → local.owes ≡ no_vcpus → IsTrue (owes_no_mark local) → IsTrue (has_no_cand local) → local.turn ≡ false → local.ctlr ≡ false → IsTrue (is_none local.line) → IsTrue (is_settled local)
settled_of local owes marks cands turn ctlr line =
    all (owes_no_kick local) (owes_no_mark local) (has_no_cand local) local.turn local.ctlr (is_none local.line) (ap (λ set. set.0 == 0) owes) marks cands turn ctlr line
  where
    all : (a b c d e f : Bool) → a ≡ true → b ≡ true → c ≡ true → d ≡ false → e ≡ false → f ≡ true → (a && b && c && not d && not e && f) ≡ true
    all a b c d e f ha hb hc hd he hf = rw (ha, hb, hc, hd, he, hf) refl

-- a part is proper, and leaves a device that can make another call
pub record EndsPart (old new : Seen) (op : DeviceOp) (part : List Made) : Type 0 where
  pub proper : IsProperPart old part (Device op) 0 None
  pub tables : new.taken ≡ false
  pub after : CanCall new

-- so is one after which the device has settled
pub part_ends : (old new : Seen) (op : DeviceOp) (part : List Made) → IsPort old → IsPort new → CanCall old → Adds old new part → IsPiece old part → (IsTrue (has_no_cand new.local) → IsTrue (is_settled new.local)) → new.taken ≡ false → EndsPart old new op part
part_ends old new op part is_old is_new can adds piece settles tables =
    let device : is_vcpu (shape_of new) new.actor ≡ false = ap (λ seen. is_vcpu (shape_of seen) seen.actor) adds.new_is ∙ can.device in
    let none = is_new.local.device device in
    let settled = settles none.cands in
    let same : new.local ≡ (seen_after old part).local = ap (λ seen. seen.local) adds.new_is in
    let Settled : Local → Type 0 = λ l. IsTrue (is_settled l) in
    record {
      proper = piece_is_part old part (Device op) 0 None piece (sym (ap (λ l. l.at) same) ∙ none.at) (subst Settled same settled);
      tables = tables;
      after = record { device = device; settled = settled };
    }

-- and it is the device's call, if it makes the call's events
pub part_done : (old new : Seen) (op : DeviceOp) (part : List Made) → IsPort old → IsPort new → CanCall old → Adds old new part → MakesCall old part (Device op) None → IsPiece old part → (IsTrue (has_no_cand new.local) → IsTrue (is_settled new.local)) → new.taken ≡ false
    → IsDevicePart old new op part
part_done old new op part is_old is_new can adds call piece settles tables =
    let ends = part_ends old new op part is_old is_new can adds piece settles tables in
    record { adds = adds; call = call; proper = ends.proper; tables = ends.tables; after = ends.after }

-- the form of a part of a device that owed nothing
pub form_clear : (shape : GuestShape) (owes : Targets) (step : CoreStep) (key : Key) (part : List Made) → owes ≡ no_vcpus → TellsOf shape owes step key part → TellsOf shape no_vcpus step key part
form_clear shape owes step key part clear form = let Form : Targets → Type 0 = λ owes. TellsOf shape owes step key part in subst Form clear form

-- a device changes a cause of an interrupt, and tells the vCPUs
pub change_made : (old new : Seen) (op : DeviceOp) (step : CoreStep) (key : Key) (event : Event) → IsPort old → IsPort new → CanCall old → HasOneEvent op event → Tells old new step key event → Changes old new op step key
change_made old new op step key event is_old is_new can one tells =
    let is = clear old.local can.settled in
    record {
      part = tells.part;
      form = form_clear (shape_of old) old.local.owes step key tells.part is.kicks tells.form;
      done =
          part_done old new op tells.part is_old is_new can tells.adds (one_call old tells.part op event can.device tells.events one) tells.piece
          (λ cands. settled_of new.local (ap (λ l. l.owes) tells.local_is) (ap owes_no_mark tells.local_is) cands (ap (λ l. l.turn) tells.local_is ∙ is.turn) (ap (λ l. l.ctlr) tells.local_is ∙ is.ctlr) (ap (λ l. is_none l.line) tells.local_is ∙ is.line))
          (ap (λ seen. seen.taken) tells.adds.new_is ∙ not_taken old is_old is.turn);
    }

pub message_made : (old new : Seen) (spi : ℕ) → IsPort old → IsPort new → CanCall old → Tells old new (Raise (Spi spi)) (Spi spi) (RaiseEvent (Spi spi)) → Changes old new (Message spi) (Raise (Spi spi)) (Spi spi)
message_made old new spi is_old is_new can tells =
    change_made old new (Message spi) (Raise (Spi spi)) (Spi spi) (RaiseEvent (Spi spi)) is_old is_new can (record { makes = λ view piece made. made; named = refl; hands = λ view. refl }) tells

-- Wires.

wire_event : Key → Bool → Event
wire_event key up = if up then Up key else Down key

wire_is_cause : (key : Key) (up : Bool) → IsCause (wire_step key up) key (wire_event key up)
unfolding wire_event
wire_is_cause key true = record { owes = λ shape actor local found. refl; stands = λ shape actor local own found. refl; plain = refl; known = λ seen. refl; untaking = refl }
wire_is_cause key false = record { owes = λ shape actor local found. refl; stands = λ shape actor local own found. refl; plain = refl; known = λ seen. refl; untaking = refl }

wire_makes : (key : Key) (up : Bool) → HasOneEvent (Wire key up) (wire_event key up)
unfolding wire_event
wire_makes key true = record { makes = λ view piece made. made; named = refl; hands = λ view. refl }
wire_makes key false = record { makes = λ view piece made. made; named = refl; hands = λ view. refl }

pub wire_made : (old mid new : Seen) (key : Key) (up : Bool) (found : ℕ) → IsPort old → IsPort new → CanCall old → AddsStep old mid (wire_step key up) found → Settles mid new → Changes old new (Wire key up) (wire_step key up) key
wire_made old mid new key up found is_old is_new can add rest =
    change_made old new (Wire key up) (wire_step key up) key (wire_event key up) is_old is_new can (wire_makes key up) (tells old mid new (wire_step key up) key (wire_event key up) found (wire_is_cause key up) add rest)

-- Levels.

pub other_level : (wire : WireValue) (up : Bool) → beq wire.up up ≡ false → has_level wire up ≡ false
other_level wire true h = grind (arith, common_steps, h)
other_level wire false h = grind (arith, common_steps, h)
