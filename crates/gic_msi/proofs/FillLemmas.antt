-- The line of a message is filled.
use Rattle.std.proofs.Common.{◌≡◌, ◌≢◌, ℕ, ◌+◌, ◌-◌, ◌^◌, ◌<◌, ◌==◌, ◌&&◌, not, Bool, true, false, IsTrue, List, [], ◌∷◌, ◌++◌, Option, Some, None, IfSome, if◌then◌else◌, nat_le, nat_lt, inl, inr, refl, sym, ap, subst, ◌∙◌, arith}
use Rattle.std.proofs.lemmas.Bool.{and_parts, both_ways, cases_eq, leb-true, lt-ltb, ltb-true, ne_eqb}
use Rattle.std.proofs.lemmas.Nat.Bits.{bit_at_ones, bit_at-zero}
use Rattle.std.proofs.lemmas.Option.{same_Some}
use Rattle.gic_msi.specs.Words.{GuestShape, IsShape, Lpi, has_bit, has_interrupt}
use Rattle.gic_msi.specs.Calls.{ItsCtlr, place_of_plain, plain_count}
use Rattle.gic_msi.specs.Registers.{IsValid as IsValidMaps, Maps, enabled_in, has_lpis, id_of, passes, translated}
use Rattle.gic_msi.specs.GicCall.declared.event.Event.TheVariants.{Raise as RaiseEvent}
use Rattle.gic_msi.specs.GicCall.declared.event.Found.TheVariants.{Word as FoundWord}
use Rattle.gic_msi.specs.GicCall.declared.event.Place.TheVariants.{Word}
use Rattle.gic_msi.specs.Core.{Local, Made, Look, LineClose, LineFill, Raise, Plain, Line, line_of, line_count, is_empty_line, with_shut, without_shut, has_word, place_of_word, plain_from, word_of, known_lpi, known_maps, ends_command, event_done, succeeds, packed_line, IsLine, Seen, IsPort, Adds, AddsStep, CanMake, made_by, shape_of}
use Rattle.gic_msi.specs.PortCall.Memory.{view_by}
use Rattle.gic_msi.specs.PortCall.Tell.{Tells}
use Rattle.gic_msi.specs.PortCall.Turn.{GivesTurn, TakesTurn}
use Rattle.gic_msi.specs.DevPort.Device.{CanCall, GoesUnseen, TellsLpi, Translates}
use Rattle.gic_msi.specs.DevPort.ItsExec.Known.{Knows, KnowsSame}
use Rattle.gic_msi.specs.Message.{is_short_message, line_of_message, has_message}
use Rattle.gic_msi.specs.Fill.{ClosesAndFills, Fills, FillsIf, RefillsUnless, SendsAndFills, TellsLine, TellsLineOf, filled_line}
use Rattle.gic_msi.specs.Filling.{CanFillLine, FillsLine, TellsIfShort}
use Rattle.gic_msi.proofs.PortCore.LineLemmas.{line_back, with_other}
use Rattle.gic_msi.proofs.PortCore.PlaceLemmas.{lines_hold}
use Rattle.gic_msi.proofs.PortCall.SettleLemmas.{local_made, adds_shape}
use Rattle.gic_msi.proofs.DevPort.ItsExec.AboutLemmas.{about_same, about_within, tells_about}
use Rattle.gic_msi.proofs.DevPort.ItsExec.FrameLemmas.{knows_on, leaves, maps_on, within_by}
use Rattle.gic_msi.proofs.DevPort.ItsExec.LookLemmas.{off_one, plain_known, word_held}
use Rattle.gic_msi.proofs.DevPort.MsiLemmas.{maps_known, msi_made, unseen_none}
use Rattle.gic_msi.proofs.PortCall.GicCall.CallLemmas.{mapped_there}
use Rattle.gic_msi.proofs.StepLemmas.{look_unseen, unseen_step, unseen_then}
use Rattle.gic_msi.proofs.PostLemmas.{line_there}

-- What the actor knows.

-- it knows what a message becomes: GITS_CTLR, and the maps
pub record KnowsLpi (seen : Seen) (device event lpi : ℕ) : Type 0 where
  pub ctlr : ℕ
  pub knows : Knows seen (Word ItsCtlr) (FoundWord ctlr)
  pub becomes : translated (known_maps seen.own) (enabled_in ctlr) device event ≡ Some lpi

pub lpi_known : (seen : Seen) (device event lpi : ℕ) → KnowsLpi seen device event lpi → known_lpi (shape_of seen) seen.actor seen.own device event ≡ Some lpi
lpi_known seen device event lpi is = ap (λ n. translated (known_maps seen.own) (enabled_in n) device event) (word_held seen ItsCtlr is.ctlr is.knows) ∙ is.becomes

-- so it does after it translated the message, and after it raised the LPI
pub known_translated : (old new : Seen) (device event lpi : ℕ) (id : Option ℕ) → id ≡ Some lpi → Translates old new device event id → KnowsLpi new device event lpi
known_translated old new device event lpi id some is = record { ctlr = is.ctlr; knows = plain_known old new ItsCtlr is.ctlr is.reads; becomes = sym is.id_is ∙ some }

pub known_raised : (old new : Seen) (device event lpi : ℕ) → IsTrue (has_interrupt (shape_of old) (Lpi lpi)) → Tells old new (Raise (Lpi lpi)) (Lpi lpi) (RaiseEvent (Lpi lpi)) → KnowsLpi old device event lpi → KnowsLpi new device event lpi
known_raised old new device event lpi there tells is =
    let about = tells_about (shape_of old) old.local.owes (Lpi lpi) tells.part tells.form in
    let same : KnowsSame old new (Word ItsCtlr) = about_same old new 0 lpi tells.part (Word ItsCtlr) there about tells.adds tells.none_taken refl in
    let maps = maps_on old new tells.part tells.adds (about_within lpi tells.part about tells.none_taken) in
    record {
      ctlr = is.ctlr;
      knows = record { known = same.known ∙ is.knows.known; held = same.held ∙ is.knows.held };
      becomes = ap (λ maps. translated maps (enabled_in is.ctlr) device event) maps ∙ is.becomes;
    }

-- and after a step on a line
line_apart : (shape : GuestShape) (line : ℕ) → (place_of_word shape (Line line) == place_of_word shape (Plain (place_of_plain shape ItsCtlr))) ≡ false
line_apart shape line =
    let hold = lines_hold (plain_from shape + plain_count shape) in
    ne_eqb (place_of_word shape (Line line)) (place_of_word shape (Plain (place_of_plain shape ItsCtlr))) (λ e. omega (arith, e, hold))

known_on_line : (old new : Seen) (device event lpi line : ℕ) (made : Made) → word_of (shape_of old) old.actor made.step ≡ Line line → ends_command made.step ≡ false → GoesUnseen old new (made ∷ []) → KnowsLpi old device event lpi → KnowsLpi new device event lpi
known_on_line old new device event lpi line made word ends goes is =
    let apart = ap (λ w. place_of_word (shape_of old) w == place_of_word (shape_of old) (Plain (place_of_plain (shape_of old) ItsCtlr))) word ∙ line_apart (shape_of old) line in
    let maps = maps_on old new (made ∷ []) goes.adds (within_by (made ∷ []) goes.none_taken (ap (λ b. not b && true) ends)) in
    record {
      ctlr = is.ctlr;
      knows = knows_on old new (Word ItsCtlr) (FoundWord is.ctlr) (leaves old new (made ∷ []) (Word ItsCtlr) goes.adds goes.none_taken (off_one (shape_of old) old.actor (Plain (place_of_plain (shape_of old) ItsCtlr)) made made.step refl apart)) is.knows;
      becomes = ap (λ maps. translated maps (enabled_in is.ctlr) device event) maps ∙ is.becomes;
    }

-- The lines that it knows to be shut.

-- no other line than this
pub OnlyShut : ℕ → ℕ → Type 0
OnlyShut line shut = (other : ℕ) → other ≢ line → has_bit shut other ≡ false

none_shut : (line : ℕ) → OnlyShut line 0
unfolding OnlyShut
none_shut line other differ = ap (λ n. n == 1) (bit_at-zero other)

shut_more : (b : Bool) (line : ℕ) (local other : Local) → other ≡ (if b then with_shut line local else local) → OnlyShut line local.shut → OnlyShut line other.shut
unfolding OnlyShut
shut_more true line local other e only n differ = ap (λ l. has_bit l.shut n) e ∙ with_other local.shut line n differ ∙ only n differ
shut_more false line local other e only n differ = ap (λ l. has_bit l.shut n) e ∙ only n differ

-- so some line may be filled
some_open : (line shut : ℕ) → OnlyShut line shut → (shut == 2 ^ 64 - 1) ≡ false
unfolding OnlyShut
some_open line shut only = ne_eqb shut (2 ^ 64 - 1) (λ e. elim (cases_eq line 0) [
  | inl first ↦ no_bit 1 (omega arith) (only 1 (λ same. omega (arith, same, first))) e
  | inr later ↦ no_bit 0 (omega arith) (only 0 (λ same. later (sym same))) e
])
  where
    no_bit : (n : ℕ) → n < 64 → has_bit shut n ≡ false → shut ≡ 2 ^ 64 - 1 → ⊥
    no_bit n h none e = both_ways (has_bit shut n) none (ap (λ set. has_bit set n) e ∙ ap (λ bit. bit == 1) (bit_at_ones 64 n h))

-- a step changed no more of the actor
shut_alone : (b : Bool) (line : ℕ) (local other : Local) → other ≡ (if b then with_shut line local else local) → other ≡ record local { shut = other.shut }
shut_alone true line local other e = let with : ℕ → Local = λ set. record local { shut = set } in e ∙ ap with (sym (ap (λ l. l.shut) e))
shut_alone false line local other e = let with : ℕ → Local = λ set. record local { shut = set } in e ∙ ap with (sym (ap (λ l. l.shut) e))

open_alone : (b : Bool) (line : ℕ) (local other : Local) → other ≡ (if b then without_shut line local else local) → other ≡ record local { shut = other.shut }
open_alone true line local other e = let with : ℕ → Local = λ set. record local { shut = set } in e ∙ ap with (sym (ap (λ l. l.shut) e))
open_alone false line local other e = let with : ℕ → Local = λ set. record local { shut = set } in e ∙ ap with (sym (ap (λ l. l.shut) e))

shut_twice : (one two three : Local) → two ≡ record one { shut = two.shut } → three ≡ record two { shut = three.shut } → three ≡ record one { shut = three.shut }
shut_twice one two three a b = let on : Local → Local = λ local. record local { shut = three.shut } in b ∙ ap on a

-- The steps.

-- so far
pub record Filling (old now : Seen) (device event lpi : ℕ) (part : List Made) : Type 0 where
  pub unseen : GoesUnseen old now part
  pub local_is : now.local ≡ record old.local { shut = now.local.shut }
  pub only : OnlyShut (line_of_message device event) now.local.shut
  pub knows : KnowsLpi now device event lpi

-- what an actor that can fill the line knows
known_at_first : (seen : Seen) (device event lpi : ℕ) → CanFillLine seen device event lpi → KnowsLpi seen device event lpi
known_at_first seen device event lpi can = record { ctlr = (view_by seen).words ItsCtlr; knows = record { known = can.looked; held = refl }; becomes = can.translates }

look_local : (old new : Seen) (line found : ℕ) → AddsStep old new (Look (Line line)) found → new.local ≡ (if old.local.turn && is_empty_line (line_of found) then with_shut line old.local else old.local)
look_local old new line found add = local_made old new (Look (Line line)) found add

pub filling_look : (old new : Seen) (device event lpi found : ℕ) → CanFillLine old device event lpi → (add : AddsStep old new (Look (Line (line_of_message device event))) found)
    → Filling old new device event lpi (made_by old (Look (Line (line_of_message device event))) found add.tables ∷ [])
unfolding OnlyShut
filling_look old new device event lpi found can add =
    let line = line_of_message device event in
    let local = look_local old new line found add in
    let none : OnlyShut line old.local.shut = subst (OnlyShut line) (sym can.shut) (none_shut line) in
    record {
      unseen = look_unseen old new line found add;
      local_is = shut_alone (old.local.turn && is_empty_line (line_of found)) line old.local new.local local;
      only = shut_more (old.local.turn && is_empty_line (line_of found)) line old.local new.local local none;
      knows = known_on_line old new device event lpi line (made_by old (Look (Line line)) found add.tables) refl refl (look_unseen old new line found add) (known_at_first old device event lpi can);
    }

close_unseen : (old new : Seen) (line found : ℕ) (add : AddsStep old new (LineClose line) found) → GoesUnseen old new (made_by old (LineClose line) found add.tables ∷ [])
close_unseen old new line found add = unseen_step old new (LineClose line) found add refl refl refl refl

pub filling_close : (old now new : Seen) (device event lpi found : ℕ) (part : List Made) → Filling old now device event lpi part → (add : AddsStep now new (LineClose (line_of_message device event)) found)
    → Filling old new device event lpi (part ++ made_by now (LineClose (line_of_message device event)) found add.tables ∷ [])
unfolding OnlyShut
filling_close old now new device event lpi found part so add =
    let line = line_of_message device event in
    let local : new.local ≡ (if (line_of found).inside == 0 then with_shut line now.local else now.local) = local_made now new (LineClose line) found add in
    let goes = close_unseen now new line found add in
    record {
      unseen = unseen_then old now new part (made_by now (LineClose line) found add.tables ∷ []) so.unseen goes;
      local_is = shut_twice old.local now.local new.local so.local_is (shut_alone ((line_of found).inside == 0) line now.local new.local local);
      only = shut_more ((line_of found).inside == 0) line now.local new.local local so.only;
      knows = known_on_line now new device event lpi line (made_by now (LineClose line) found add.tables) refl refl goes so.knows;
    }

fill_unseen : (old new : Seen) (line device event lpi found : ℕ) (add : AddsStep old new (LineFill line device event lpi) found) → GoesUnseen old new (made_by old (LineFill line device event lpi) found add.tables ∷ [])
fill_unseen old new line device event lpi found add =
    unseen_step old new (LineFill line device event lpi) found add refl refl refl (silent_anyhow (succeeds (shape_of old) old.actor old.local (LineFill line device event lpi) found))
  where
    silent_anyhow : (b : Bool) → (if b then event_done (shape_of old) old.actor old.local old.own (LineFill line device event lpi) found else None) ≡ None
    silent_anyhow true = refl
    silent_anyhow false = refl

-- What can be made.

turn_kept : (old now : Seen) (device event lpi : ℕ) (part : List Made) → Filling old now device event lpi part → IsTrue old.local.turn → IsTrue now.local.turn
turn_kept old now device event lpi part so turn = ap (λ l. l.turn) so.local_is ∙ turn

line_word_there : (old now : Seen) (line : ℕ) (part : List Made) → has_lpis (shape_of old) ≡ true → line < 64 → Adds old now part → has_word (shape_of now) (Line line) ≡ true
line_word_there old now line part lpis h adds = ap (λ shape. has_word shape (Line line)) (adds_shape old now part adds) ∙ lt-ltb line (line_count (shape_of old)) (line_there (shape_of old) line lpis h)

pub can_close : (old now : Seen) (device event lpi : ℕ) (part : List Made) → CanFillLine old device event lpi → line_of_message device event < 64 → Filling old now device event lpi part → CanMake now (LineClose (line_of_message device event))
can_close old now device event lpi part can h so =
    record { can = line_word_there old now (line_of_message device event) part can.lpis h so.unseen.adds; seen_is = tt; meets = turn_kept old now device event lpi part so can.turn; tables = refl }

pub can_fill : (old now : Seen) (device event lpi : ℕ) (part : List Made) → CanFillLine old device event lpi → device < 65536 → event < 65536 → line_of_message device event < 64 → Filling old now device event lpi part
    → CanMake now (LineFill (line_of_message device event) device event lpi)
can_fill old now device event lpi part can d e h so =
    let There : GuestShape → Type 0 = λ shape. IsTrue (has_interrupt shape (Lpi lpi)) in
    record {
      can =
          record {
            there = line_word_there old now (line_of_message device event) part can.lpis h so.unseen.adds;
            device_fits = d;
            event_fits = e;
            lpi_there = subst There (sym (adds_shape old now part so.unseen.adds)) can.there;
          };
      seen_is = tt;
      meets =
          record {
            turn = turn_kept old now device event lpi part so can.turn;
            some_open = some_open (line_of_message device event) now.local.shut so.only;
            looked = so.knows.knows.known;
            translates = lpi_known now device event lpi so.knows;
          };
      tables = refl;
    }

-- What is done.

-- the line had the message
pub had_it : (old new : Seen) (device event lpi found : ℕ) → CanFillLine old device event lpi → AddsStep old new (Look (Line (line_of_message device event))) found → has_message device event found ≡ true → FillsLine old new device event lpi
had_it old new device event lpi found can add there =
    let so = filling_look old new device event lpi found can add in
    let look = made_by old (Look (Line (line_of_message device event))) found add.tables in
    let Refills : Bool → Type 0 = λ b. RefillsUnless b device event lpi [] in
    record {
      part = look ∷ [];
      form = record { look = look; rest = []; part_is = refl; look_is = refl; refills = subst Refills (sym there) refl };
      unseen = so.unseen;
      local_is = so.local_is;
    }

-- it was closed, and then filled or not
closed_then : (device event lpi : ℕ) (look close : Made) (rest : List Made) → look.step ≡ Look (Line (line_of_message device event)) → has_message device event look.found ≡ false → close.step ≡ LineClose (line_of_message device event)
    → FillsIf ((line_of close.found).inside == 0) device event lpi rest → TellsLine device event lpi (look ∷ close ∷ rest)
closed_then device event lpi look close rest look_is other close_is fills =
    let Refills : Bool → Type 0 = λ b. RefillsUnless b device event lpi (close ∷ rest) in
    let closes : ClosesAndFills device event lpi (close ∷ rest) = record { close = close; rest = rest; part_is = refl; close_is = close_is; fills = fills } in
    record { look = look; rest = close ∷ rest; part_is = refl; look_is = look_is; refills = subst Refills (sym other) closes }

-- a device was in it
pub emptied : (old mid new : Seen) (device event lpi found closed : ℕ) → CanFillLine old device event lpi → AddsStep old mid (Look (Line (line_of_message device event))) found → AddsStep mid new (LineClose (line_of_message device event)) closed
    → has_message device event found ≡ false → ((line_of closed).inside == 0) ≡ false → FillsLine old new device event lpi
emptied old mid new device event lpi found closed can look_add close_add other some =
    let line = line_of_message device event in
    let so = filling_look old mid device event lpi found can look_add in
    let look = made_by old (Look (Line line)) found look_add.tables in
    let close = made_by mid (LineClose line) closed close_add.tables in
    let after = filling_close old mid new device event lpi closed (look ∷ []) so close_add in
    let If : Bool → Type 0 = λ b. FillsIf b device event lpi [] in
    record {
      part = look ∷ close ∷ [];
      form = closed_then device event lpi look close [] refl other refl (subst If (sym some) refl);
      unseen = after.unseen;
      local_is = after.local_is;
    }

-- the word of a line that is filled
filled_fits : (shape : GuestShape) (device event lpi : ℕ) → IsShape shape → device < 65536 → event < 65536 → IsTrue (has_interrupt shape (Lpi lpi)) → IsLine (filled_line device event lpi)
filled_fits shape device event lpi good d e there =
    let parts = and_parts (nat_le 8192 lpi) (nat_lt lpi (8192 + shape.lpis)) there in
    let low = leb-true 8192 lpi parts.0 in
    let high = ltb-true lpi (8192 + shape.lpis) parts.1 in
    let few = good.lpis in
    record {
      pair = λ pair is. let same : (device, event) ≡ pair = same_Some (device, event) pair is in (subst (λ p. p.0 < 65536) same d, subst (λ p. p.1 < 65536) same e);
      from = low;
      lpi = omega (arith, high, few);
      none = λ is. absurd (cc);
      inside = omega arith;
    }

pub filled : (old mid now new : Seen) (device event lpi found closed left : ℕ) → IsPort old → CanFillLine old device event lpi → device < 65536 → event < 65536 → AddsStep old mid (Look (Line (line_of_message device event))) found
    → AddsStep mid now (LineClose (line_of_message device event)) closed → AddsStep now new (LineFill (line_of_message device event) device event lpi) left → has_message device event found ≡ false → ((line_of closed).inside == 0) ≡ true
    → FillsLine old new device event lpi
filled old mid now new device event lpi found closed left port can d e look_add close_add fill_add other none =
    let line = line_of_message device event in
    let so = filling_look old mid device event lpi found can look_add in
    let look = made_by old (Look (Line line)) found look_add.tables in
    let close = made_by mid (LineClose line) closed close_add.tables in
    let fill = made_by now (LineFill line device event lpi) left fill_add.tables in
    let after = filling_close old mid now device event lpi closed (look ∷ []) so close_add in
    let goes = fill_unseen now new line device event lpi left fill_add in
    let local : new.local ≡ (if is_empty_line (line_of left) then without_shut line now.local else now.local) = local_made now new (LineFill line device event lpi) left fill_add in
    let fits = filled_fits (shape_of old) device event lpi port.good.sound.shape d e can.there in
    let stored : IsTrue (is_empty_line (line_of left)) → line_of fill.left ≡ filled_line device event lpi
    = λ empty. ap (λ b. line_of (if b then packed_line (filled_line device event lpi) else left)) empty ∙ line_back (filled_line device event lpi) fits in
    let fills : Fills device event lpi (fill ∷ []) = record { fill = fill; part_is = refl; fill_is = refl; stored = stored } in
    let If : Bool → Type 0 = λ b. FillsIf b device event lpi (fill ∷ []) in
    record {
      part = look ∷ close ∷ fill ∷ [];
      form = closed_then device event lpi look close (fill ∷ []) refl other refl (subst If (sym none) fills);
      unseen = unseen_then old now new (look ∷ close ∷ []) (fill ∷ []) after.unseen goes;
      local_is = shut_twice old.local now.local new.local after.local_is (open_alone (is_empty_line (line_of left)) line now.local new.local local);
    }

-- The whole.

-- steps that only change which lines the actor knows to be shut
unseen_alone : (seen : Seen) (device event : ℕ) (id : Option ℕ) → TellsLineOf (is_short_message device event) device event id [] → TellsIfShort seen seen device event id
unseen_alone seen device event id form = record { part = []; form = form; unseen = unseen_none seen; local_is = refl }

-- a message that becomes no LPI, or fits no line, is told to none
pub told_none : (seen : Seen) (device event : ℕ) → TellsIfShort seen seen device event None
told_none seen device event = unseen_alone seen device event None (of (is_short_message device event))
  where
    of : (b : Bool) → TellsLineOf b device event None []
    of true = refl
    of false = refl

pub told_long : (seen : Seen) (device event : ℕ) (id : Option ℕ) → is_short_message device event ≡ false → TellsIfShort seen seen device event id
told_long seen device event id long = unseen_alone seen device event id (let Of : Bool → Type 0 = λ b. TellsLineOf b device event id [] in subst Of (sym long) refl)

pub told_short : (old new : Seen) (device event lpi : ℕ) (id : Option ℕ) → id ≡ Some lpi → is_short_message device event ≡ true → FillsLine old new device event lpi → TellsIfShort old new device event id
told_short old new device event lpi id is short fills =
    let Of : Bool → Type 0 = λ b. TellsLineOf b device event (Some lpi) fills.part in
    let With : Option ℕ → Type 0 = λ o. TellsLineOf (is_short_message device event) device event o fills.part in
    record { part = fills.part; form = subst With (sym is) (subst Of (sym short) fills.form); unseen = fills.unseen; local_is = fills.local_is }

-- where it became one, the actor can fill its line
has_some : (shape : GuestShape) (lpi : ℕ) → IsTrue (has_interrupt shape (Lpi lpi)) → has_lpis shape ≡ true
has_some shape lpi there =
    let parts = and_parts (nat_le 8192 lpi) (nat_lt lpi (8192 + shape.lpis)) there in
    let low = leb-true 8192 lpi parts.0 in
    let high = ltb-true lpi (8192 + shape.lpis) parts.1 in
    ap not (ne_eqb shape.lpis 0 (λ e. omega (arith, e, low, high)))

-- an LPI that a message becomes is one of the guest
becomes_there : (shape : GuestShape) (maps : Maps) (enabled : Bool) (device event : ℕ) → IsValidMaps shape maps → IfSome (translated maps enabled device event) (λ id. IsTrue (has_interrupt shape (Lpi id)))
becomes_there shape maps enabled device event valid = of (passes maps enabled device event)
  where
    of : (b : Bool) → IfSome (if b then id_of maps (device, event) else None) (λ id. IsTrue (has_interrupt shape (Lpi id)))
    of true = mapped_there shape maps (device, event) valid
    of false = tt

raised_there : (old a b : Seen) (device event : ℕ) (id : Option ℕ) → TakesTurn old a → Translates a b device event id → IfSome id (λ id. IsTrue (has_interrupt (shape_of b) (Lpi id)))
raised_there old a b device event id takes translates =
    let shape : shape_of b ≡ shape_of old = ap shape_of translates.reads.adds.new_is ∙ ap shape_of takes.adds.new_is in
    let becomes : id ≡ translated takes.maps (enabled_in translates.ctlr) device event
    = translates.id_is ∙ ap (λ maps. translated maps (enabled_in translates.ctlr) device event) (maps_known old a b device event id takes translates) in
    let There : Option ℕ → Type 0 = λ o. IfSome o (λ id. IsTrue (has_interrupt (shape_of old) (Lpi id))) in
    let ThereIn : GuestShape → Type 0 = λ shape. IfSome id (λ id. IsTrue (has_interrupt shape (Lpi id))) in
    subst ThereIn (sym shape) (subst There (sym becomes) (becomes_there (shape_of old) takes.maps (enabled_in translates.ctlr) device event takes.valid))

pub can_fill_raised : (old a b c : Seen) (device event lpi : ℕ) (id : Option ℕ) → IsPort old → id ≡ Some lpi → TakesTurn old a → Translates a b device event id → TellsLpi b c id → CanFillLine c device event lpi
can_fill_raised old a b c device event lpi id port is takes translates tells =
    let There : Option ℕ → Type 0 = λ o. IfSome o (λ id. IsTrue (has_interrupt (shape_of b) (Lpi id))) in
    let TellsOf : Option ℕ → Type 0 = λ o. TellsLpi b c o in
    raised (subst There is (raised_there old a b device event id takes translates)) (subst TellsOf is tells)
  where
    raised : IfSome (Some lpi) (λ id. IsTrue (has_interrupt (shape_of b) (Lpi id))) → Tells b c (Raise (Lpi lpi)) (Lpi lpi) (RaiseEvent (Lpi lpi)) → CanFillLine c device event lpi
    raised has tells =
        let knows = known_raised b c device event lpi has tells (known_translated a b device event lpi id is translates) in
        let shape : shape_of c ≡ shape_of b = adds_shape b c tells.part tells.adds in
        let ThereIn : GuestShape → Type 0 = λ shape. IsTrue (has_interrupt shape (Lpi lpi)) in
        let there_c = subst ThereIn (sym shape) has in
        let turn : c.local.turn ≡ true = ap (λ l. l.turn) tells.local_is ∙ ap (λ l. l.turn) translates.reads.local_is ∙ ap (λ l. l.turn) takes.local_is in
        let shut : c.local.shut ≡ 0 = ap (λ l. l.shut) tells.local_is ∙ ap (λ l. l.shut) translates.reads.local_is ∙ ap (λ l. l.shut) takes.local_is ∙ port.local.idle takes.was_free in
        record {
          lpis = has_some (shape_of c) lpi there_c;
          there = there_c;
          turn = turn;
          shut = shut;
          looked = knows.knows.known;
          translates = lpi_known c device event lpi knows;
        }

pub can_fill_if_raised : (old a b c : Seen) (device event : ℕ) (id : Option ℕ) → IsPort old → TakesTurn old a → Translates a b device event id → TellsLpi b c id → IfSome id (λ lpi. CanFillLine c device event lpi)
can_fill_if_raised old a b c device event id port takes translates tells = of id refl
  where
    of : (o : Option ℕ) → id ≡ o → IfSome o (λ lpi. CanFillLine c device event lpi)
    of None e = tt
    of (Some lpi) e = can_fill_raised old a b c device event lpi id port e takes translates tells

-- the message was sent, and its line told
pub sent_and_filled :
    (old a b c d new : Seen) (device event : ℕ) (id : Option ℕ) → IsPort old → IsPort new → CanCall old → TakesTurn old a → Translates a b device event id → TellsLpi b c id → TellsIfShort c d device event id → GivesTurn d new → SendsAndFills old new device event
sent_and_filled old a b c d new device event id is_old is_new can takes translates tells told gives =
    let made = msi_made old a b c d new device event id told.part is_old is_new can takes translates tells told.unseen told.local_is gives in
    let sends = made.sends in
    let Told : Option ℕ → Type 0 = λ o. TellsLineOf (is_short_message device event) device event o told.part in
    record { part = sends.part; form = record { fill = told.part; form = sends.form; told = subst Told made.becomes told.form }; done = sends.done; piece = sends.piece }
