-- A part that is told with what it found is its call in the run.
use Rattle.std.proofs.Common.{◌≡◌, ℕ, inl, ◌<◌, not, ◌||◌, Bool, true, false, cond, IsTrue, All, List, [], ◌∷◌, ◌++◌, length, map, Option, option_map, Some, None, refl, sym, ap, ◌∙◌, subst, inr}
use Rattle.std.specs.List.{list_all, list_any}
use Rattle.std.proofs.lemmas.Bool.{and_from, and_parts}
use Rattle.std.proofs.lemmas.List.{append-nil, append_assoc}
use Rattle.std.proofs.lemmas.List.Elements.{filter_map-append}
use Rattle.std.proofs.lemmas.List.Folds.{list_any-append, list_all-append}
use Rattle.std.proofs.lemmas.List.Sums.{fold-append}
use Rattle.law_unmapped_lpis.specs.Words.{IsShape, Dist, Redist, Its, Ram, Icc, Mem, GuestShape, target_in, irq_of, Lpi}
use Rattle.law_unmapped_lpis.specs.GicDmap.Map.{decoded as dist_decoded}
use Rattle.law_unmapped_lpis.specs.GicRmap.Map.{decoded as redist_decoded}
use Rattle.law_unmapped_lpis.specs.GicImap.Map.{decoded as its_decoded}
use Rattle.law_unmapped_lpis.specs.GicImap.declared.map.RegRef.{RegRef as ItsRef}
use Rattle.law_unmapped_lpis.specs.GicImap.declared.map.RegRef.TheVariants.{Plain as ItsPlain, Reserved as ItsReserved}
use Rattle.law_unmapped_lpis.specs.Calls.{Event, Touch, Operation, Access, Device, Residence, Begin, Place, Runs, Done, Stalls, icc_events, its_events, Beside, Happened, IsCall, IsItsWrite, Makes, View, ItsBegin}
use Rattle.law_unmapped_lpis.specs.GicCall.declared.event.Event.TheVariants.{Queue, Raise}
use Rattle.law_unmapped_lpis.specs.Registers.{has_target}
use Rattle.law_unmapped_lpis.proofs.IdealGuests.KeyLemmas.{IsWhole}
use Rattle.law_unmapped_lpis.specs.Histories.{Ideal, Call, Course, IsEnded, begun, course_of, gone_on, opening_course, targets_in, vcpu_of, happened, IdealGuest, CanOpen, AreForNone}
use Rattle.law_unmapped_lpis.proofs.LawHistories.CourseLemmas.{begun_here}
use Rattle.law_serial_is_eager.proofs.GicCall.TraceLemmas.{access_made, op_made}
use Rattle.law_serial_is_eager.proofs.LawEagerIsHistory.CourseLemmas.{call_after, call_append, state_after}
use Rattle.law_serial_is_eager.proofs.LawEagerIsHistory.WindowLemmas.{AreWindows, HaveHeads, Targets, beside_of, call_ends, is_no_turn, maps_after, operation_after, piece_after, beside_with, IsHead, is_within, next_call, windows_after, windows_begun}
use Rattle.law_serial_is_eager.proofs.LawLoneCallsAreEager.CommandLemmas.{events_both}
use Rattle.law_serial_is_eager.proofs.LawLoneCallsAreEager.MapsLemmas.{keeps_maps, maps_taken as its_maps_taken}
use Rattle.law_serial_is_eager.proofs.LawLoneCallsAreEager.PassLemmas.{device_all, dist_all, memory_all, raises_all, redist_all}
use Rattle.law_serial_is_eager.proofs.LawLoneCallsAreEager.ReadLemmas.{beside_passes}
use Rattle.law_serial_is_eager.proofs.LawLoneCallsAreEager.RunLemmas.{events_of}
use Rattle.law_serial_is_eager.proofs.LawLoneCallsAreEager.TurnLemmas.{its_all}
use Rattle.pe_mem.specs.Core.{Made, actor_count, no_maps, events_of as port_events, local_by, part_events, shape_of, CoreState, IsRun, opening, seat_at, maps_taken, vcpu_of_actor, after_moment, end_of_moments, ideal_moments, ideal_of, CoreMoment, ends, entries_of, entry_by, makes, step_of, IsProperRun}
use Rattle.pe_mem.proofs.PortCore.RunLemmas.{run_splits}
use Rattle.pe_mem.proofs.CoreProper.PartLemmas.{same_end}
use Rattle.law_serial_is_eager.specs.LawCoreIsHistory.Laws.{AreCalls}
use Rattle.law_serial_is_eager.proofs.LawCoreIsHistory.HistorySteps.{IsAt, run_leads}
use Rattle.law_serial_is_eager.proofs.LawCoreIsHistory.PrefixLemmas.{parted_before}
use Rattle.law_serial_is_eager.specs.Serial.{WholePart, moment_by, moments_in}
use Rattle.law_serial_is_eager.proofs.SerialRuns.{IsThere, all_late, part_there}
use Rattle.pe_mem.specs.ItsExec.Queue.{Taken}
use Rattle.pe_mem.specs.ItsExec.Run.{AgreeAll}
use Rattle.pe_mem.specs.Found.{Agrees, Finding, IsFinding, TookAmong, are_before, by_commands, by_looks, is_before, is_by_commands, takes_its_by}
use Rattle.law_found_parts_are_calls.specs.Found.{FoundPartsAreCalls, IsFoundCall}
use Rattle.law_found_parts_are_calls.proofs.CommandRuns.{IsCome, agree_all, own_taken, steps_taken, whole_so}
use Rattle.law_found_parts_are_calls.proofs.HereRuns.{AreHere, after_steps, calls_along, handed_out_all, happened_in, happened_is, happened_join, here_all, here_join, ideal_after, ideal_is, local_after_steps, own_after_steps, so_after}
use Rattle.law_found_parts_are_calls.proofs.LookRuns.{look_agrees}
use Rattle.law_found_parts_are_calls.proofs.PostCalls.{calls_both, post_part}
use Rattle.law_found_parts_are_calls.proofs.SteadyLemmas.{beside_steady, is_steady, maps_steady, named_steady, noted_heads, noting_after, steady_maps, targets_steady}
use Rattle.law_found_parts_are_calls.proofs.TurnCalls.{IsTurnCall, turn_call}
use Rattle.law_found_parts_are_calls.proofs.TurnRuns.{all_wait, is_ending, maps_along, take_turns, taken_waits, waits}
use Rattle.law_found_parts_are_calls.proofs.WindowRuns.{begun_after, begun_past, windows_along, is_no_enable}

-- The events of a call that takes no commands of the ITS.

made_steady : (actor : Option ℕ) (view : View) (events : List Event) (places : List Place) (before piece : List Happened) → Makes actor view events places before piece → IsTrue (list_all is_steady events) → IsTrue (list_all is_steady (events_of piece))
made_steady actor view events places before piece made steady = beside_passes is_steady beside_steady actor piece (subst (λ es. IsTrue (list_all is_steady es)) (sym made.events_are) steady)

its_steady : (shape : GuestShape) (view : View) (ref : ItsRef) (write : Option ℕ) → IsTrue (list_all is_steady (its_events shape view ref write))
its_steady shape view ref (Some value) = its_all is_steady (λ word v. refl) (λ offset. refl) shape view ref value
its_steady shape view (ItsPlain reg half) None = refl
its_steady shape view ItsReserved None = refl

call_steady : (shape : GuestShape) (beside : Beside) (actor : Option ℕ) (operation : Operation) (piece : List Happened) (answer : Option ℕ) → takes_its_by shape operation ≡ false → IsCall shape beside actor operation piece answer → IsTrue (list_all is_steady (events_of piece))
call_steady shape beside (Some vcpu) (Access (Icc reg write)) piece answer free is = made_steady (Some vcpu) is.view (icc_events shape vcpu reg write) [] [] piece is.made (raises_all is_steady named_steady shape vcpu reg write)
call_steady shape beside (Some vcpu) (Access (Mem Dist offset size write)) piece answer free is = made_steady (Some vcpu) is.view _ _ [] piece (access_made is) (dist_all is_steady named_steady shape is.view (dist_decoded offset size) write)
call_steady shape beside (Some vcpu) (Access (Mem (Redist of_vcpu) offset size write)) piece answer free is =
    made_steady (Some vcpu) is.view _ _ [] piece (access_made is) (redist_all is_steady named_steady shape is.view of_vcpu (redist_decoded offset size) write)
call_steady shape beside (Some vcpu) (Access (Mem Ram offset size None)) piece answer free is = made_steady (Some vcpu) is.view [] _ [] piece (access_made is) refl
call_steady shape beside (Some vcpu) (Access (Mem Ram offset size (Some value))) piece answer free is = made_steady (Some vcpu) is.view _ _ [] piece (access_made is) (memory_all is_steady named_steady shape is.view offset size value)
call_steady shape beside (Some vcpu) (Access (Mem Its offset size None)) piece answer free is = made_steady (Some vcpu) is.view _ _ [] piece (access_made is) (its_steady shape is.view (its_decoded offset size) None)
call_steady shape beside (Some vcpu) (Access (Mem Its offset size (Some value))) piece answer free is =
    let plain = subst (λ b. IsItsWrite b shape beside vcpu offset size value piece answer) free is in
    made_steady (Some vcpu) plain.view _ _ [] piece (access_made plain) (its_steady shape plain.view (its_decoded offset size) (Some value))
call_steady shape beside None (Device op) piece answer free is = elim (op_made is) [
  | inl made ↦ made_steady None is.view _ [] [] piece made (device_all is_steady named_steady is.view op)
  | inr alone ↦ made_steady None is.view (Raise (Lpi alone.id) ∷ []) [] [] piece alone.raised refl
]
call_steady shape beside (Some vcpu) Residence piece answer free is = beside_passes is_steady beside_steady (Some vcpu) piece (subst (λ xs. IsTrue (list_all is_steady (events_of xs))) (sym is.0) refl)
call_steady shape beside actor operation piece answer free is = absurd is

-- The steps of a part.

part_entries : (actor : ℕ) (answer : Option ℕ) (steps : List Made) → entries_of (map (moment_by actor) (map makes steps ++ ends answer ∷ [])) ≡ map (entry_by actor) steps
part_entries actor answer [] = refl
part_entries actor answer (made ∷ steps) = ap (λ entries. entry_by actor made ∷ entries) (part_entries actor answer steps)

no_turns : (events : List Event) → list_any (λ event. not (is_no_turn event)) events ≡ false → IsTrue (list_all is_no_turn events)
no_turns [] h = refl
no_turns (event ∷ events) h = of (is_no_turn event) refl h (no_turns events)
  where
    of : (b : Bool) → is_no_turn event ≡ b → (not b || list_any (λ event. not (is_no_turn event)) events) ≡ false → (list_any (λ event. not (is_no_turn event)) events ≡ false → IsTrue (list_all is_no_turn events)) → IsTrue (list_all is_no_turn (event ∷ events))
    of true e h rest = and_from (is_no_turn event) (list_all is_no_turn events) e (rest h)
    of false e h rest = absurd (cc)

keep_maps : (events : List Event) → IsTrue (list_all is_steady events) → IsTrue (list_all keeps_maps events)
keep_maps [] h = refl
keep_maps (event ∷ events) h =
    let parts = and_parts (is_steady event) (list_all is_steady events) h in
    and_from (keeps_maps event) (list_all keeps_maps events) (steady_maps event parts.0) (keep_maps events parts.1)

-- what comes before the commands
before_steady : (events : List Event) → IsTrue (list_all is_before events) → IsTrue (list_all is_steady events) × IsTrue (list_all (λ event. not (is_ending event)) events)
before_steady [] h = (refl, refl)
before_steady (event ∷ events) h =
    let parts = and_parts (is_before event) (list_all is_before events) h in
    let rest = before_steady events parts.1 in (
      and_from (is_steady event) (list_all is_steady events) (steady event parts.0) rest.0,
      and_from (not (is_ending event)) (list_all (λ event. not (is_ending event)) events) (endless event parts.0) rest.1,
    )
  where
    steady : (event : Event) → is_before event ≡ true → is_steady event ≡ true
    steady (Touch key touching) h = absurd (cc)
    steady (Queue offset Runs) h = refl
    steady (Queue offset (Done words)) h = absurd (cc)
    steady (Queue offset (Stalls fault)) h = absurd (cc)
    steady event h = refl

    endless : (event : Event) → is_before event ≡ true → not (is_ending event) ≡ true
    endless (Queue offset Runs) h = refl
    endless (Queue offset (Done words)) h = absurd (cc)
    endless (Queue offset (Stalls fault)) h = absurd (cc)
    endless event h = refl

events_before : (piece : List Happened) → are_before piece ≡ true → IsTrue (list_all is_before (events_of piece))
events_before [] h = refl
events_before (one ∷ piece) h = let parts = and_parts (is_before one.event) (are_before piece) h in and_from (is_before one.event) (list_all is_before (events_of piece)) parts.0 (events_before piece parts.1)

-- the same steps after the same list
cut_same : (own one two : List Made) → own ++ one ≡ own ++ two → one ≡ two
cut_same [] one two e = e
cut_same (made ∷ own) one two e = cut_same own one two (same_rest made made (own ++ one) (own ++ two) e)
  where
    same_rest : (x y : Made) (xs ys : List Made) → x ∷ xs ≡ y ∷ ys → xs ≡ ys
    same_rest x y xs ys e = cc

-- The call.

module _ (guest : IdealGuest) (number : ℕ) (early : List CoreMoment) (part : WholePart) (good : CanOpen guest) (proper : IsProperRun guest number (early ++ moments_in part)) (calls : AreCalls guest.shape (opening guest number) (opening_course guest) early)
    (told : IsFoundCall guest number early part) where
  abbrev shape : GuestShape
  shape = guest.shape

  abbrev start : CoreState
  start = opening guest number

  abbrev before : CoreState
  before = end_of_moments shape start early

  abbrev course : Course
  course = course_of (opening_course guest) (ideal_of shape start early)

  abbrev piece : List Happened
  piece = happened_in shape part.actor before part.steps

  abbrev first : Call
  first = begun course.ideal part.operation

  abbrev last : Call
  last = call_after part.actor (events_of piece) course.ideal first

  pub at : IsAt shape before course
  at = (run_leads guest number early good (parted_before guest number early (moments_in part) proper.parted) calls).at

  there : part.actor < actor_count shape
  there = part_there (actor_count shape) part [] (subst (All (IsThere (actor_count shape))) (sym (append-nil (moments_in part))) (all_late (IsThere (actor_count shape)) early (moments_in part) proper.parted.actors))

  pub in_seats : part.actor < length before.seats
  in_seats = subst (λ n. part.actor < n) (sym at.sound.actors) there

  run : IsRun shape before (map (entry_by part.actor) part.steps)
  run =
      subst (IsRun shape before) (part_entries part.actor part.answer part.steps)
      (subst (λ state. IsRun shape state (entries_of (moments_in part))) (sym (same_end shape start early))
      (run_splits shape start (entries_of early) (entries_of (moments_in part)) (subst (IsRun shape start) (filter_map-append (λ (moment : CoreMoment). option_map (entry_by moment.actor) (step_of moment.act)) early (moments_in part)) proper.parted.run)).1)

  pub here : AreHere shape part.actor before course.ideal part.steps
  here = here_all shape good.sound.shape part.actor part.steps before course.ideal at.sound at.related at.known run

  whole : IsWhole course.ideal.guest
  whole = whole_so shape good.sound.shape before course.ideal at.related

  -- as it is told, and as it is in the run
  told_is : (steps : List Made) → part_events told.seen steps ≡ happened_in shape part.actor before steps
  told_is steps =
      ap (λ (g : IdealGuest). port_events g.shape told.seen.actor told.seen.local told.seen.own steps) told.told.guest_is
      ∙ ap (λ actor. port_events shape actor told.seen.local told.seen.own steps) told.told.actor_is
      ∙ ap (λ local. port_events shape part.actor local told.seen.own steps) told.told.local_is
      ∙ ap (λ own. port_events shape part.actor (seat_at before part.actor).local own steps) told.told.own_is
      ∙ sym (happened_is shape part.actor steps before in_seats)

  as_run : (beside : Beside) → IsCall (shape_of told.seen) beside (vcpu_of_actor (shape_of told.seen) told.seen.actor) part.operation (part_events told.seen part.steps) part.answer → IsCall shape beside (vcpu_of shape part.actor) part.operation piece part.answer
  as_run beside is =
      subst (λ xs. IsCall shape beside (vcpu_of shape part.actor) part.operation xs part.answer) (told_is part.steps)
      (subst (λ actor. IsCall shape beside (vcpu_of shape actor) part.operation (part_events told.seen part.steps) part.answer) told.told.actor_is
      (subst (λ (g : IdealGuest). IsCall g.shape beside (vcpu_of g.shape told.seen.actor) part.operation (part_events told.seen part.steps) part.answer) told.told.guest_is is))

  kind_is : is_by_commands told.found.finding ≡ takes_its_by shape part.operation
  kind_is = told.found.kind ∙ ap (λ (g : IdealGuest). takes_its_by g.shape part.operation) told.told.guest_is

  opened : AreWindows first (targets_in course.ideal) []
  opened = record { place = refl; commands = refl; heads = λ id. refl }

  taken_are : IsTrue (waits (events_of piece)) → maps_taken part.steps ≡ cond (take_turns piece) course.ideal.guest.tables no_maps
  taken_are = maps_along shape part.actor course.ideal.guest.tables no_maps part.steps before course.ideal here refl

  -- with the maps that the part took, and these vCPUs
  abbrev beside : Targets → List Targets → Beside
  beside t firsts = beside_with (maps_taken part.steps) t firsts

  ended : (t : Targets) (firsts : List Targets) → last.maps ≡ maps_taken part.steps → HaveHeads last t firsts → Agrees told.found.finding (beside_with (maps_taken part.steps) t firsts) → IsEnded shape part.actor last part.answer
  ended t firsts maps_are heads agrees =
      call_ends shape part.actor last part.operation piece (maps_taken part.steps) t firsts part.answer (operation_after part.actor (events_of piece) course.ideal first)
      (piece_after part.actor (events_of piece) course.ideal first ∙ sym (handed_out_all shape part.actor part.steps before course.ideal here)) maps_are heads
      (as_run (beside t firsts) (told.found.call (beside t firsts) refl agrees))

  -- Where it takes no commands.

  module _ (free : takes_its_by guest.shape part.operation ≡ false) where
    pub steady : IsTrue (list_all is_steady (events_of piece))
    steady = call_steady shape told.made.beside (vcpu_of shape part.actor) part.operation piece part.answer free (as_run told.made.beside told.made.call)

    maps_are : last.maps ≡ maps_taken part.steps
    maps_are = of (take_turns piece) refl ∙ sym (taken_are (all_wait (events_of piece) (keep_maps (events_of piece) steady)))
      where
        of : (b : Bool) → take_turns (happened_in shape part.actor before part.steps) ≡ b
            → (call_after part.actor (events_of (happened_in shape part.actor before part.steps)) course.ideal (begun course.ideal part.operation)).maps ≡ cond (take_turns (happened_in shape part.actor before part.steps)) course.ideal.guest.tables no_maps
        of true e = its_maps_taken part.actor course.ideal.guest.tables (events_of piece) course.ideal first refl (keep_maps (events_of piece) steady) e ∙ ap (λ b. cond b course.ideal.guest.tables no_maps) (sym e)
        of false e = maps_after part.actor (events_of piece) course.ideal first (no_turns (events_of piece) e) ∙ ap (λ b. cond b course.ideal.guest.tables no_maps) (sym e)

    agrees_looks : (finding : Finding) → is_by_commands finding ≡ false → IsFinding told.seen part.steps finding → Agrees finding (beside (targets_in course.ideal) last.commands)
    agrees_looks (by_looks goes_by targets) kind is =
        λ id going.
        let at = is id going in
        let found
        = look_agrees shape part.actor at.early at.late at.look before course.ideal id (subst (AreHere shape part.actor before course.ideal) at.split here)
        (subst (λ steps. IsTrue (list_all is_steady (events_of (happened_in shape part.actor before steps)))) at.split steady) whole at.step_is in
        found ∙ sym (at.target_is ∙ ap (λ (g : IdealGuest). target_in (irq_of at.look.found).route g.shape) told.told.guest_is)
    agrees_looks (by_commands commands) kind is = absurd (cc)

    looked : IsEnded shape part.actor last part.answer
    looked =
        ended (targets_in course.ideal) last.commands maps_are
        (noted_heads last (targets_in course.ideal) (noting_after part.actor (events_of piece) course.ideal first (targets_in course.ideal) steady whole (λ id. refl) (inl opened)))
        (agrees_looks told.found.finding (kind_is ∙ free) told.found.is_finding)

  -- Where it takes them.

  module _ (takes : takes_its_by guest.shape part.operation ≡ true) (none : AreForNone (course_of (opening_course guest) (ideal_of guest.shape (opening guest number) early)).ideal.guest) where
    turn : IsTurnCall piece
    turn = turn_call shape told.made.beside (vcpu_of shape part.actor) part.operation piece part.answer takes (as_run told.made.beside told.made.call)

    split : events_of piece ≡ events_of turn.register ++ events_of turn.late
    split = ap events_of turn.split ∙ events_both turn.register turn.late

    maps_are_its : last.maps ≡ maps_taken part.steps
    maps_are_its =
        ap (λ es. (call_after part.actor es course.ideal first).maps) split
        ∙ ap (λ (c : Call). c.maps) (call_append part.actor (events_of turn.register) (events_of turn.late) course.ideal first)
        ∙ maps_after part.actor (events_of turn.late) (state_after part.actor (events_of turn.register) course.ideal) (call_after part.actor (events_of turn.register) course.ideal first) turn.later
        ∙ its_maps_taken part.actor course.ideal.guest.tables (events_of turn.register) course.ideal first refl turn.keeps turn.takes
        ∙ sym (ap (λ b. cond b course.ideal.guest.tables no_maps) some)
        ∙ sym (taken_are (subst (λ es. IsTrue (waits es)) (sym split) (taken_waits (events_of turn.register) (events_of turn.late) turn.keeps turn.takes)))
      where
        some : take_turns piece ≡ true
        some =
            ap (list_any (λ event. not (is_no_turn event))) split ∙ list_any-append (λ event. not (is_no_turn event)) (events_of turn.register) (events_of turn.late)
            ∙ ap (λ b. b || list_any (λ event. not (is_no_turn event)) (events_of turn.late)) turn.takes

    -- as the ITS is taken
    abbrev taking : Ideal
    taking = state_after part.actor turn.early course.ideal

    abbrev onwards : List Event
    onwards = turn.onwards ++ events_of turn.late

    abbrev taken_for : Targets
    taken_for = targets_in taking

    abbrev firsts : List Targets
    firsts = taken_for ∷ begun_after part.actor (events_of piece) course.ideal

    pieces : events_of piece ≡ turn.early ++ ItsBegin ∷ onwards
    pieces = split ∙ ap (λ es. es ++ events_of turn.late) turn.taking ∙ append_assoc turn.early (ItsBegin ∷ turn.onwards) (events_of turn.late)

    taken_same : (id : ℕ) → taken_for id ≡ targets_in course.ideal id
    taken_same id = targets_steady part.actor turn.early course.ideal id turn.still whole

    within_endless : (events : List Event) → IsTrue (list_all is_within events) → IsTrue (list_all (λ event. not (is_ending event)) events)
    within_endless [] h = refl
    within_endless (event ∷ events) h =
        let parts = and_parts (is_within event) (list_all is_within events) h in
        and_from (not (is_ending event)) (list_all (λ event. not (is_ending event)) events) (of event parts.0) (within_endless events parts.1)
      where
        of : (event : Event) → is_within event ≡ true → not (is_ending event) ≡ true
        of (Queue offset Runs) h = refl
        of (Queue offset (Done words)) h = absurd (cc)
        of (Queue offset (Stalls fault)) h = absurd (cc)
        of event h = refl

    begun_are : begun_after part.actor (events_of piece) course.ideal ≡ begun_after part.actor onwards (happened part.actor ItsBegin taking)
    begun_are = ap (λ es. begun_after part.actor es course.ideal) pieces ∙ begun_past part.actor turn.early (ItsBegin ∷ onwards) course.ideal (within_endless turn.early turn.within)

    -- the windows of the call in the end
    noted : AreWindows last (targets_in course.ideal) firsts
    noted =
        let t = targets_in course.ideal in
        let early = call_after part.actor turn.early course.ideal first in
        let taken = next_call taking part.actor ItsBegin early in
        let all = and_parts (list_all is_no_enable turn.early) (list_all is_no_enable (ItsBegin ∷ onwards)) (sym (list_all-append is_no_enable turn.early (ItsBegin ∷ onwards)) ∙ subst (λ es. IsTrue (list_all is_no_enable es)) pieces turn.enables) in
        let along =
        windows_along part.actor onwards (happened part.actor ItsBegin taking) taken t (taken_for ∷ []) all.1
        (list_all-append is_no_turn turn.onwards (events_of turn.late) ∙ and_from (list_all is_no_turn turn.onwards) (list_all is_no_turn (events_of turn.late)) turn.once turn.later)
        (windows_begun taking part.actor early t [] (windows_after part.actor turn.early course.ideal first t [] turn.within opened)) in
        subst (λ c. AreWindows c t firsts) (sym (ap (λ es. call_after part.actor es course.ideal first) pieces ∙ call_append part.actor turn.early (ItsBegin ∷ onwards) course.ideal first))
        (subst (λ xs. AreWindows (call_after part.actor onwards (happened part.actor ItsBegin taking) taken) t (taken_for ∷ xs)) (sym begun_are) along)

    -- the commands among the steps
    module _ (commands : List Taken) (among : TookAmong told.seen part.steps commands) where
      abbrev pre : List Made
      pre = among.early

      abbrev post : List Made
      post = steps_taken commands ++ among.late

      steps_are : part.steps ≡ among.early ++ (steps_taken commands ++ among.late)
      steps_are =
          cut_same told.seen.own part.steps (among.early ++ (steps_taken commands ++ among.late))
          (among.ends ∙ ap (λ own. own ++ among.late) (own_taken commands among.from among.to among.are ∙ ap (λ own. own ++ steps_taken commands) among.begins)
          ∙ append_assoc (told.seen.own ++ among.early) (steps_taken commands) among.late ∙ append_assoc told.seen.own among.early (steps_taken commands ++ among.late))

      abbrev state1 : CoreState
      state1 = after_steps shape part.actor before among.early

      abbrev ideal1 : Ideal
      ideal1 = ideal_after shape part.actor before course.ideal among.early

      heres : AreHere shape part.actor before course.ideal pre × AreHere shape part.actor state1 ideal1 post
      heres = here_join shape part.actor pre post before course.ideal (subst (AreHere shape part.actor before course.ideal) steps_are here)

      early_is : IsTrue (list_all is_steady (events_of (happened_in shape part.actor before among.early))) × IsTrue (list_all (λ event. not (is_ending event)) (events_of (happened_in shape part.actor before among.early)))
      early_is = before_steady (events_of (happened_in shape part.actor before pre)) (events_before (happened_in shape part.actor before pre) (subst (λ xs. IsTrue (are_before xs)) (told_is pre) among.before))

      now : (id : ℕ) → targets_in ideal1 id ≡ targets_in course.ideal id
      now id = ap (λ (i : Ideal). targets_in i id) (ideal_is shape part.actor pre before course.ideal) ∙ targets_steady part.actor (events_of (happened_in shape part.actor before pre)) course.ideal id early_is.0 whole

      none_then : AreForNone ideal1.guest
      none_then id lost =
          now id ∙ none id (ap (λ maps. has_target maps id) (sym (ap (λ (i : Ideal). i.guest.tables) (ideal_is shape part.actor pre before course.ideal) ∙ maps_steady part.actor (events_of (happened_in shape part.actor before pre)) course.ideal early_is.0)) ∙ lost)

      come : IsCome shape part.actor (local_by shape part.actor (seat_at before part.actor).local pre) ((seat_at before part.actor).own ++ pre) post state1 ideal1 0 firsts taken_for
      come = record {
        so = so_after shape good.sound.shape part.actor pre before course.ideal heres.0 (record { sound = at.sound; related = at.related });
        there = there;
        local_is = local_after_steps shape part.actor pre before in_seats;
        own_is = own_after_steps shape part.actor pre before in_seats;
        here = heres.1;
        none = none_then;
        now = λ id. now id ∙ sym (taken_same id);
        early = [];
        number_is = refl;
        firsts_are = ap (λ xs. taken_for ∷ xs) begins_so;
      }
        where
          begins_so : begun_after part.actor (events_of (happened_in shape part.actor before part.steps)) course.ideal ≡ begun_after part.actor (events_of (happened_in shape part.actor state1 post)) ideal1
          begins_so =
              ap (λ xs. begun_after part.actor (events_of xs) course.ideal) (ap (happened_in shape part.actor before) steps_are ∙ happened_join shape part.actor pre post before)
              ∙ ap (λ es. begun_after part.actor es course.ideal) (events_both (happened_in shape part.actor before pre) (happened_in shape part.actor state1 post))
              ∙ begun_past part.actor (events_of (happened_in shape part.actor before pre)) (events_of (happened_in shape part.actor state1 post)) course.ideal early_is.1
              ∙ ap (begun_after part.actor (events_of (happened_in shape part.actor state1 post))) (sym (ideal_is shape part.actor pre before course.ideal))

      guest_is_so : among.from.guest ≡ guest
      guest_is_so = among.guest ∙ told.told.guest_is

      actor_is_so : among.from.actor ≡ part.actor
      actor_is_so = among.actor ∙ told.told.actor_is

      come_from : IsCome (shape_of among.from) among.from.actor among.from.local among.from.own post state1 ideal1 0 firsts taken_for
      come_from =
          subst (λ own. IsCome (shape_of among.from) among.from.actor among.from.local own post state1 ideal1 0 firsts taken_for) (ap (λ own. own ++ pre) (sym told.told.own_is) ∙ sym among.begins)
          (subst (λ local. IsCome (shape_of among.from) among.from.actor local ((seat_at before part.actor).own ++ pre) post state1 ideal1 0 firsts taken_for) (sym local_is_so)
          (subst (λ actor. IsCome (shape_of among.from) actor (local_by shape part.actor (seat_at before part.actor).local pre) ((seat_at before part.actor).own ++ pre) post state1 ideal1 0 firsts taken_for) (sym actor_is_so)
          (subst (λ (g : IdealGuest). IsCome g.shape part.actor (local_by shape part.actor (seat_at before part.actor).local pre) ((seat_at before part.actor).own ++ pre) post state1 ideal1 0 firsts taken_for) (sym guest_is_so) come)))
        where
          local_is_so : among.from.local ≡ local_by shape part.actor (seat_at before part.actor).local pre
          local_is_so =
              among.local ∙ ap (λ (g : IdealGuest). local_by g.shape told.seen.actor told.seen.local pre) told.told.guest_is ∙ ap (λ actor. local_by shape actor told.seen.local pre) told.told.actor_is
              ∙ ap (λ local. local_by shape part.actor local pre) told.told.local_is

      agrees_among : AgreeAll (beside_of (maps_taken part.steps) firsts) 0 commands
      agrees_among =
          agree_all (maps_taken part.steps) firsts commands among.from among.to 0 state1 ideal1 taken_for among.late (subst (λ (g : IdealGuest). IsShape g.shape) (sym guest_is_so) good.sound.shape) among.are come_from

    agrees_commands : (finding : Finding) → is_by_commands finding ≡ true → IsFinding told.seen part.steps finding → Agrees finding (beside_of (maps_taken part.steps) firsts)
    agrees_commands (by_looks goes_by targets) kind is = absurd (cc)
    agrees_commands (by_commands commands) kind is = agrees_among commands is

    pub commanded : IsEnded shape part.actor last part.answer
    commanded =
        ended taken_for firsts maps_are_its (record { commands = noted.commands; heads = λ id. subst (IsHead (last.targets id)) (sym (taken_same id)) (noted.heads id) })
        (agrees_commands told.found.finding (kind_is ∙ takes) told.found.is_finding)

  -- Either way.

  is_ended : (takes_its_by guest.shape part.operation ≡ true → AreForNone course.ideal.guest) → IsEnded shape part.actor last part.answer
  is_ended none = of (takes_its_by shape part.operation) refl
    where
      of : (b : Bool) → takes_its_by guest.shape part.operation ≡ b → IsEnded shape part.actor last part.answer
      of true e = commanded e (none e)
      of false e = looked e

  found : (takes_its_by guest.shape part.operation ≡ true → AreForNone course.ideal.guest) → AreCalls shape start (opening_course guest) (early ++ moments_in part)
  found none =
      calls_both shape start (opening_course guest) early (moments_in part) calls
      (tt, calls_along shape part.actor part.answer part.steps before (gone_on course (Begin part.actor part.operation)) first here (begun_here course part.actor part.operation (subst (λ n. part.actor < n) (sym at.each) there)) (is_ended none))

pub found_parts_are_calls : FoundPartsAreCalls
found_parts_are_calls guest number early part good proper calls none (inl told) = found guest number early part good proper calls told none
found_parts_are_calls guest number early part good proper calls none (inr told) = post_part guest number early part good proper calls told
