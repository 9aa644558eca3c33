-- A discard unmaps its messages, only a MAPTI or a MAPI of its event maps one, and one that is not mapped is not stored.
use Rattle.std.proofs.Common.{◌≡◌, ℕ, ◌==◌, ◌&&◌, ◌||◌, inl, inr, not, true≢false, Bool, true, false, IsTrue, List, [], ◌∷◌, Some, None, Option, Result, Ok, Err, cond, if◌then◌else◌, refl, sym, ap, subst, ◌∙◌}
use Rattle.std.specs.List.{list_any}
use Rattle.std.specs.BTreeMap.{is_at}
use Rattle.std.specs.Option.{option_map}
use Rattle.std.specs.Cmp.{tied_itself}
use Rattle.std.specs.Ordering.{is_eq}
use Rattle.std.proofs.lemmas.Bool.{and_from, and_parts, eqb-true, eq-eqb}
use Rattle.std.proofs.lemmas.Map.Entries.{lookup-filter-keys}
use Rattle.std.proofs.lemmas.Option.{none-some}
use Rattle.law_lines_translate.specs.Words.{GuestShape, IsShape}
use Rattle.law_lines_translate.specs.Registers.{Command, Discard, Mapc, Mapd, Mapi, Mapti, Movi, BadCommand, Maps, event_cmp, id_of, maps_after, pair_of, passes, recollected, translated, with_event, without_event, without_events, IsSound as AreSound}
use Rattle.law_lines_translate.specs.CoreProper.ItsCmd.Command.{decoded}
use Rattle.law_lines_translate.specs.Calls.{is_its_enabled, maps_by}
use Rattle.law_lines_translate.specs.Core.{CoreStep, CommandDone, LineFill, CanFillNow, CoreState, Entry, Meets, after, is_empty_line, known_view, line_of, maps_by_step, seat_at, IsRun, IsSound, Takes}
use Rattle.law_lines_translate.proofs.CoreProper.ItsTab.AfterLemmas.{none_left}
use Rattle.law_lines_translate.proofs.CoreProper.ItsTab.MapLemmas.{lookup-no_key, lookup-removed}
use Rattle.law_lines_translate.proofs.CoreProper.ItsTab.TableLemmas.{event_order, pair_of-with_event, pair_of-without_event, same_event}
use Rattle.law_lines_translate.proofs.PortCore.StepLemmas.{steps_sound}
use Rattle.law_discarded_stay_out.specs.StayOut.{ends_command, is_discard, is_fill, is_mapping, is_of_kind, is_stored, is_stored_in}

same_pair : (pair : ℕ × ℕ) (device event : ℕ) → IsTrue (device == pair.0 && event == pair.1) → (device, event) ≡ pair
same_pair pair device event h =
    let both = and_parts (device == pair.0) (event == pair.1) h in
    ap (λ d. (d, event)) (eqb-true device pair.0 both.0) ∙ ap (λ e. (pair.0, e)) (eqb-true event pair.1 both.1)

-- after a DISCARD
event_gone : (maps : Maps) (event : ℕ × ℕ) → AreSound maps → pair_of (without_event maps event) event ≡ None
event_gone maps event sound = lookup-removed event_order event event maps.events sound.events ∙ ap (λ b. cond b None (pair_of maps event)) (ap is_eq (tied_itself event_order event))

-- after a MAPD
device_gone : (maps : Maps) (pair : ℕ × ℕ) → pair_of (without_events maps pair.0) pair ≡ None
device_gone maps pair =
    lookup-no_key (is_at (event_cmp pair)) (λ k. k.0 == pair.0) (without_events maps pair.0).events (λ k h. eq-eqb k.0 pair.0 (sym (ap (λ (x : ℕ × ℕ). x.0) (same_event pair k h)))) (none_left pair.0 maps.events)

gone : (maps : Maps) (pair : ℕ × ℕ) (command : Command) → AreSound maps → IsTrue (is_discard pair command) → pair_of (maps_after maps command) pair ≡ None
gone maps pair (Discard device event) sound h = subst (λ p. pair_of (without_event maps p) pair ≡ None) (sym (same_pair pair device event h)) (event_gone maps pair sound)
gone maps pair (Mapd device size itt_addr true) sound h = subst (λ d. pair_of (without_events maps d) pair ≡ None) (sym (eqb-true device pair.0 h)) (device_gone maps pair)
gone maps pair (Mapd device size itt_addr false) sound h = subst (λ d. pair_of (without_events maps d) pair ≡ None) (sym (eqb-true device pair.0 h)) (device_gone maps pair)
gone maps pair command sound h = absurd (true≢false (sym h))

gone_by : (maps : Maps) (pair : ℕ × ℕ) (command : Result Command BadCommand) → AreSound maps → IsTrue (is_of_kind (is_discard pair) command) → pair_of (maps_by maps command) pair ≡ None
gone_by maps pair (Ok command) sound h = gone maps pair command sound h
gone_by maps pair (Err bad) sound h = absurd (true≢false (sym h))

pub unmaps : (maps : Maps) (pair : ℕ × ℕ) (step : CoreStep) → AreSound maps → IsTrue (ends_command (is_discard pair) step) → pair_of (maps_by_step maps step) pair ≡ None
unmaps maps pair (CommandDone offset stalled (Some words)) sound h = gone_by maps pair (decoded words) sound h
unmaps maps pair step sound h = absurd (true≢false (sym h))

-- Nobody stores a message that is not mapped.

no_lpi : (maps : Maps) (pair : ℕ × ℕ) (enabled : Bool) → pair_of maps pair ≡ None → translated maps enabled pair.0 pair.1 ≡ None
no_lpi maps pair enabled none = of (passes maps enabled pair.0 pair.1) (id_of maps pair) (ap (option_map (λ (both : ℕ × ℕ). both.0)) none)
  where
    of : (b : Bool) (id : Option ℕ) → id ≡ None → (if b then id else None) ≡ None
    of true id e = e
    of false id e = refl

none_or : (a b : Bool) → (a || b) ≡ false → (a ≡ false) × (b ≡ false)
none_or true b h = absurd (cc)
none_or false b h = (refl, h)

none_both : (a b : Bool) → a ≡ false → b ≡ false → (a || b) ≡ false
none_both a b e f = ap (λ c. c || b) e ∙ f

-- no other command maps it

nothing : {X : Type 0} (o : Option X) → ((x : X) → o ≡ Some x → ⊥) → o ≡ None
nothing None none = refl
nothing (Some x) none = absurd (none x refl)

-- what is found with one more event mapped is that one, or was found before
still_none : (maps : Maps) (event put pair : ℕ × ℕ) → (event ≡ pair → ⊥) → pair_of maps pair ≡ None → pair_of (with_event maps event put) pair ≡ None
still_none maps event put pair differ none =
    nothing (pair_of (with_event maps event put) pair) (λ w e. elim (pair_of-with_event maps event put pair w e) [ inl same ↦ differ same.0 | inr before ↦ none-some w (sym none ∙ before) ])

other_event : (pair : ℕ × ℕ) (device event : ℕ) → (device == pair.0 && event == pair.1) ≡ false → (device, event) ≡ pair → ⊥
other_event pair device event h same =
    true≢false (sym (and_from (device == pair.0) (event == pair.1) (eq-eqb device pair.0 (ap (λ (p : ℕ × ℕ). p.0) same)) (eq-eqb event pair.1 (ap (λ (p : ℕ × ℕ). p.1) same))) ∙ h)

-- without the events of a device
fewer_none : (maps : Maps) (device : ℕ) (pair : ℕ × ℕ) → pair_of maps pair ≡ None → pair_of (without_events maps device) pair ≡ None
fewer_none maps device pair none =
    let others : ℕ × ℕ → Bool = λ k. not (k.0 == device) in
    let alike : (k : ℕ × ℕ) → is_at (event_cmp pair) k ≡ true → others k ≡ others pair = λ k e. ap others (sym (same_event pair k e)) in
    lookup-filter-keys (is_at (event_cmp pair)) others (others pair) alike maps.events ∙ either (others pair) (pair_of maps pair) none
  where
    either : (b : Bool) (o : Option (ℕ × ℕ)) → o ≡ None → cond b o None ≡ None
    either true o e = e
    either false o e = refl

moved_none : (maps : Maps) (event pair : ℕ × ℕ) (icid : ℕ) (found : Option (ℕ × ℕ)) → pair_of maps event ≡ found → pair_of maps pair ≡ None → pair_of (recollected maps event icid found) pair ≡ None
moved_none maps event pair icid None e none = none
moved_none maps event pair icid (Some one) e none = still_none maps event (one.0, icid) pair (λ same. none-some one (sym none ∙ ap (pair_of maps) (sym same) ∙ e)) none

none_stays : (maps : Maps) (pair : ℕ × ℕ) (command : Command) → AreSound maps → is_mapping pair command ≡ false → pair_of maps pair ≡ None → pair_of (maps_after maps command) pair ≡ None
none_stays maps pair (Mapd device size itt_addr true) sound h none = fewer_none maps device pair none
none_stays maps pair (Mapd device size itt_addr false) sound h none = fewer_none maps device pair none
none_stays maps pair (Mapc icid rdbase true) sound h none = none
none_stays maps pair (Mapc icid rdbase false) sound h none = none
none_stays maps pair (Mapti device event id icid) sound h none = still_none maps (device, event) (id, icid) pair (other_event pair device event h) none
none_stays maps pair (Mapi device event icid) sound h none = still_none maps (device, event) (event, icid) pair (other_event pair device event h) none
none_stays maps pair (Movi device event icid) sound h none = moved_none maps (device, event) pair icid (pair_of maps (device, event)) refl none
none_stays maps pair (Discard device event) sound h none =
    nothing (pair_of (without_event maps (device, event)) pair) (λ w e. none-some w (sym none ∙ pair_of-without_event maps (device, event) pair w sound e))
none_stays maps pair command sound h none = none

none_stays_by : (maps : Maps) (pair : ℕ × ℕ) (command : Result Command BadCommand) → AreSound maps → is_of_kind (is_mapping pair) command ≡ false → pair_of maps pair ≡ None → pair_of (maps_by maps command) pair ≡ None
none_stays_by maps pair (Ok command) sound h none = none_stays maps pair command sound h none
none_stays_by maps pair (Err bad) sound h none = none

stays_unmapped : (maps : Maps) (pair : ℕ × ℕ) (step : CoreStep) → AreSound maps → ends_command (is_mapping pair) step ≡ false → pair_of maps pair ≡ None → pair_of (maps_by_step maps step) pair ≡ None
stays_unmapped maps pair (CommandDone offset stalled (Some words)) sound h none = none_stays_by maps pair (decoded words) sound h none
stays_unmapped maps pair step sound h none = none

module _ (shape : GuestShape) (good : IsShape shape) (pair : ℕ × ℕ) where
  not_stored : (state : CoreState) (entry : Entry) → IsSound shape state → Takes shape state entry → pair_of state.maps pair ≡ None → is_stored pair entry.made ≡ false
  not_stored state entry sound takes none = of entry.made.step takes.meets
    where
      unmet : (device event lpi : ℕ) → CanFillNow shape entry.actor (seat_at state entry.actor).local (seat_at state entry.actor).own device event lpi → (device, event) ≡ pair → ⊥
      unmet device event lpi can same =
          let enabled = is_its_enabled (known_view shape entry.actor (seat_at state entry.actor).own) in
          none-some lpi
          (sym (no_lpi state.maps pair enabled none) ∙ ap (λ (p : ℕ × ℕ). translated state.maps enabled p.0 p.1) (sym same) ∙ ap (λ m. translated m enabled device event) (sym (sound.known entry.actor takes.actor can.turn)) ∙ can.translates)

      fill : (device event lpi : ℕ) (b : Bool) → CanFillNow shape entry.actor (seat_at state entry.actor).local (seat_at state entry.actor).own device event lpi → (device == pair.0 && event == pair.1) ≡ b → (b && is_empty_line (line_of entry.made.found)) ≡ false
      fill device event lpi true can is = absurd (unmet device event lpi can (same_pair pair device event is))
      fill device event lpi false can is = refl

      of : (step : CoreStep) → Meets shape entry.actor (seat_at state entry.actor).local (seat_at state entry.actor).own step → (is_fill pair step && is_empty_line (line_of entry.made.found)) ≡ false
      of (LineFill line device event lpi) meets = fill device event lpi (device == pair.0 && event == pair.1) meets refl
      of step meets = refl

  pub none_stored : (state : CoreState) (since : List Entry) → IsSound shape state → IsRun shape state since → pair_of state.maps pair ≡ None → list_any (λ entry. ends_command (is_mapping pair) entry.made.step) since ≡ false → is_stored_in pair since ≡ false
  none_stored state [] sound run none quiet = refl
  none_stored state (entry ∷ since) sound run none quiet =
      let both = none_or (ends_command (is_mapping pair) entry.made.step) (list_any (λ one. ends_command (is_mapping pair) one.made.step) since) quiet in
      none_both (is_stored pair entry.made) (is_stored_in pair since) (not_stored state entry sound run.0 none)
      (none_stored (after shape state entry) since (steps_sound shape state entry good sound run.0) run.1 (stays_unmapped state.maps pair entry.made.step sound.maps.sound both.0 none) both.1)
