-- What is known after one moment more.
use Rattle.std.proofs.Common.{◌≡◌, ℕ, ◌<◌, ◌%◌, ◌/◌, ◌^◌, ◌==◌, nat_lt, Bool, true, false, IsTrue, List, [], ◌∷◌, ◌++◌, length, Option, option_map, Some, None, is_none, is_some, slice_set, refl, sym, ap, ◌∙◌, subst, arith, inl, inr, true≢false}
use Rattle.std.specs.Option.{option_map_or}
use Rattle.std.proofs.lemmas.Bool.{and_parts, and_from, cases_eq, eq-eqb}
use Rattle.std.proofs.lemmas.Grind.{common_steps}
use Rattle.std.proofs.lemmas.List.{length-set}
use Rattle.std.proofs.lemmas.List.Folds.{list_all-append}
use Rattle.std.proofs.lemmas.Option.{none-some, same_Some}
use Rattle.trace_told.specs.Words.{GuestShape, Key, Private, Spi, Lpi, Irq, Route, Affinity, Target, IsRoute, IsRecordOf, has_interrupt, is_routed_as, is_of_kind, is_vcpu_or_none}
use Rattle.trace_told.specs.Registers.{fault_number}
use Rattle.trace_told.specs.LegalLists.ItsCmd.Command.{decoded}
use Rattle.trace_told.specs.Calls.{Event, Touch, Runs, Done, Stalls, Found, Operation, Happened, Moment, Begin, Happens, CanHappen}
use Rattle.trace_told.specs.GicCall.declared.event.Event.TheVariants.{Queue}
use Rattle.trace_told.specs.GicCall.declared.event.Moment.TheVariants.{End}
use Rattle.trace_told.specs.Histories.{IdealGuest, Ideal, Call, Course, Track, actor_count, call_of, gone_on, doing_of, happened, handed_out, begun, made, seeing, irq_at}
use Rattle.trace_told.specs.LegalPlay.LegalSteps.Step.{Pass, passed, pass_of, actor_of}
use Rattle.trace_told.specs.LegalPlay.Board.{BoardOf, IsOfPass, IsComingNext}
use Rattle.trace_told.specs.LegalPlay.Pieces.{piece_of, AreCalls}
use Rattle.trace_told.specs.LegalPlay.Answering.{AreGood}
use Rattle.trace_told.specs.LegalPlay.HistoryPlay.Coming.{is_unknown}
use Rattle.trace_told.specs.LegalPlay.HistoryPlay.HistoryCalls.Exact.{fits_route, is_good, is_record, finds_record, are_records}
use Rattle.trace_told.specs.LegalPlay.HistoryPlay.HistoryCheck.Ready.{IsReady}
use Rattle.trace_told.proofs.LegalPlay.LegalSteps.CourseLemmas.{begun_here, begun_other, ended_here, ended_other, made_here, made_other, noted_piece, mark_is}
use Rattle.trace_told.proofs.LegalPlay.CallsLaw.{noted_operation}
use Rattle.trace_told.proofs.LegalPlay.HistoryPlay.CourseLemmas.{busy_there, shape_same}
use Rattle.history_turns.specs.Begun.{is_done}
use Rattle.history_turns.specs.Mapped.{mapped_by}
use Rattle.history_turns.specs.Noted.{NotedOf}
use Rattle.history_turns.proofs.BegunLaw.{maps_on}
use Rattle.gic_check.specs.Notes.{noted_of, AreNoted, AreAllDone, done_after, is_midway_in, noted_first, noted_made, noted_later}
use Rattle.gic_check.specs.Play.{is_good_moment, CanNote, CanSee, IsPlayed, note_made, notes_before, AreSeen, AreSeenAfter}
use Rattle.gic_check.proofs.NoteLemmas.{some_there, midway_same, begun_noted, ended_noted, AreLater, calls_long, happened_noted}
use Rattle.gic_check.proofs.PlayLemmas.{are_placed, one_more, operation_in, piece_in, course_shape, good, notes_long, notes_count}

-- Records that a state has.

under : (a b : ℕ) → a < b → nat_lt a b ≡ true
under a b h = grind (arith, common_steps, h)

route_fits : (shape : GuestShape) (key : Key) (route : Route) → has_interrupt shape key ≡ true → is_routed_as shape key route ≡ true → IsRoute route → fits_route shape route ≡ true
route_fits shape key (Affinity affinity) there so route = under affinity (2 ^ 32) route
route_fits shape (Private vcpu id) (Target target) there so route = ap (is_vcpu_or_none shape) (mark_is vcpu target so) ∙ (and_parts (nat_lt vcpu shape.vcpus) (nat_lt id 32) there).0
route_fits shape (Spi id) (Target target) there so route = absurd (true≢false (sym so))
route_fits shape (Lpi id) (Target target) there so route = so

below : (prio : ℕ) → prio / 8 < 2 ^ 5 → prio < 256
below prio h = omega arith

record_is : (shape : GuestShape) (key : Key) (irq : Irq) → has_interrupt shape key ≡ true → IsRecordOf shape key irq → is_record shape key irq ≡ true
record_is shape key irq there is =
    and_from (irq.prio % 8 == 0) _ (eq-eqb (irq.prio % 8) 0 is.packable.prio)
    (and_from (nat_lt irq.prio 256) _ (under irq.prio 256 (below irq.prio is.packable.prio_bits))
    (and_from (is_vcpu_or_none shape irq.act_by) _ is.active
    (and_from (is_vcpu_or_none shape irq.holder) _ is.holder
    (and_from (fits_route shape irq.route) _ (route_fits shape key irq.route there is.route is.packable.route) (and_from (is_routed_as shape key irq.route) (is_of_kind key irq) is.route is.kind)))))

pub record_found : (state : Ideal) (event : Event) (found : Found) → IsReady state → CanHappen state.guest.shape event → found ≡ handed_out state event → finds_record state.guest.shape event found ≡ true
record_found state (Touch key touching) found ready can is = ap (finds_record state.guest.shape (Touch key touching)) is ∙ record_is state.guest.shape key (irq_at state.guest key) can.there (ready.records key can.there)
record_found state event found ready can is = refl

-- Calls.

pub record IsFine (shape : GuestShape) (o : Option Call) : Type 0 where
  pub good : (call : Call) → o ≡ Some call → IsTrue (is_good shape call.operation)
  pub records : (call : Call) → o ≡ Some call → IsTrue (are_records shape call.piece)

fine_some : (shape : GuestShape) (o : Option Call) (call : Call) → o ≡ Some call → IsTrue (is_good shape call.operation) → IsTrue (are_records shape call.piece) → IsFine shape o
fine_some shape o call is doable records = record {
  good = λ other e. subst (λ (c : Call). IsTrue (is_good shape c.operation)) (same_Some call other (sym is ∙ e)) doable;
  records = λ other e. subst (λ (c : Call). IsTrue (are_records shape c.piece)) (same_Some call other (sym is ∙ e)) records;
}

fine_none : (shape : GuestShape) (o : Option Call) → o ≡ None → IsFine shape o
fine_none shape o is = record { good = λ other e. absurd (none-some other (sym is ∙ e)); records = λ other e. absurd (none-some other (sym is ∙ e)) }

abbrev AllFine : GuestShape → Course → Type 0
AllFine shape course = (actor : ℕ) → IsFine shape (call_of course actor)

fine_from : (shape : GuestShape) (course : Course) (track : Track) (pieces : List (List Happened)) → AreCalls course track pieces → AreGood shape track → ((actor : ℕ) → IsTrue (are_records shape (piece_of pieces actor))) → AllFine shape course
fine_from shape course track pieces are doable records actor = record {
  good = λ call e. doable actor call.operation (sym (are.operations actor) ∙ ap operation_in e);
  records = λ call e. subst (λ p. IsTrue (are_records shape p)) (sym (are.made actor) ∙ ap piece_in e) (records actor);
}

module _ (shape : GuestShape) (course : Course) (track : Track) (pieces : List (List Happened)) (are : AreCalls course track pieces) (fine : AllFine shape course) where
  good_to : AreGood shape track
  good_to actor operation busy = of (call_of course actor) refl (are.operations actor ∙ busy)
    where
      of : (o : Option Call) → call_of course actor ≡ o → operation_in o ≡ Some operation → IsTrue (is_good shape operation)
      of None e h = absurd (none-some operation h)
      of (Some call) e h = subst (λ op. IsTrue (is_good shape op)) (same_Some _ _ h) ((fine actor).good call e)

  records_to : (actor : ℕ) → IsTrue (are_records shape (piece_of pieces actor))
  records_to actor = of (call_of course actor) refl (are.made actor)
    where
      of : (o : Option Call) → call_of course actor ≡ o → piece_in (call_of course actor) ≡ piece_of pieces actor → IsTrue (are_records shape (piece_of pieces actor))
      of None e h = ap (are_records shape) (sym h ∙ ap piece_in e)
      of (Some call) e h = subst (λ p. IsTrue (are_records shape p)) (sym (ap piece_in e) ∙ h) ((fine actor).records call e)

-- They are so after a moment.

module _ (shape : GuestShape) (course : Course) (fine : AllFine shape course) where
  fine_begun : (actor : ℕ) (operation : Operation) → actor < length course.calls → IsTrue (is_good shape operation) → AllFine shape (gone_on course (Begin actor operation))
  fine_begun actor operation there doable other = elim (cases_eq other actor) [
    | inl here ↦ subst (λ a. IsFine shape (call_of (gone_on course (Begin actor operation)) a)) (sym here) (fine_some shape _ (begun course.ideal operation) (begun_here course actor operation there) doable refl)
    | inr differ ↦ subst (IsFine shape) (sym (begun_other course actor operation other differ)) (fine other)
  ]

  fine_ended : (actor : ℕ) (answer : Option ℕ) → AllFine shape (gone_on course (End actor answer))
  fine_ended actor answer other = elim (cases_eq other actor) [
    | inl here ↦ subst (λ a. IsFine shape (call_of (gone_on course (End actor answer)) a)) (sym here) (fine_none shape _ (ended_here course actor answer))
    | inr differ ↦ subst (IsFine shape) (sym (ended_other course actor answer other differ)) (fine other)
  ]

  fine_seeing : (ideal : Ideal) (o : Option Call) → IsFine shape o → IsFine shape (option_map (seeing ideal) o)
  fine_seeing ideal None is = fine_none shape None refl
  fine_seeing ideal (Some call) is = fine_some shape (Some (seeing ideal call)) (seeing ideal call) refl (is.good call refl) (is.records call refl)

  fine_made : (actor : ℕ) (event : Event) (found : Found) (mine : Call) → call_of course actor ≡ Some mine → finds_record shape event found ≡ true → AllFine shape (gone_on course (Happens actor event found))
  fine_made actor event found mine is good other = elim (cases_eq other actor) [
    | inl here ↦ subst (λ a. IsFine shape (call_of (gone_on course (Happens actor event found)) a)) (sym here) own
    | inr differ ↦ subst (IsFine shape) (sym (made_other course actor event found other differ)) (fine_seeing (happened actor event course.ideal) (call_of course other) (fine other))
  ]
    where
      one : Happened
      one = record { event = event; found = found }

      next : Call
      next = seeing (happened actor event course.ideal) (made course.ideal event found mine)

      own : IsFine shape (call_of (gone_on course (Happens actor event found)) actor)
      own =
          fine_some shape _ next (made_here course actor event found mine is) (subst (λ op. IsTrue (is_good shape op)) (sym (noted_operation course.ideal event mine)) ((fine actor).good mine is))
          (ap (λ p. are_records shape (p ++ one ∷ [])) (noted_piece course.ideal event mine)
          ∙ (list_all-append (λ (h : Happened). finds_record shape h.event h.found) mine.piece (one ∷ [])
          ∙ and_from (are_records shape mine.piece) (are_records shape (one ∷ [])) ((fine actor).records mine is) (and_from (finds_record shape event found) true good refl)))

-- All commands that were done.

none_known : {X : Type 0} (o : Option X) → is_some o ≡ false → is_none o ≡ true
none_known None h = refl
none_known (Some x) h = absurd (true≢false h)

no_more : (actor : ℕ) (event : Event) (ideal : Ideal) (all : List (List ℕ)) → is_done event ≡ false → AreAllDone ideal all → AreAllDone (happened actor event ideal) all
no_more actor event ideal all other done = maps_on.stays actor event ideal other ∙ (done ∙ ap (λ s. mapped_by s all) (sym (shape_same actor event ideal)))

happened_done : (actor : ℕ) (event : Event) (found : Found) (ideal : Ideal) (all : List (List ℕ)) → AreAllDone ideal all → is_unknown ideal (Happens actor event found) ≡ false → AreAllDone (happened actor event ideal) (done_after (Happens actor event found) all)
happened_done actor (Queue offset (Done words)) found ideal all done known = maps_on.done actor offset words ideal all (none_known (fault_number ideal.guest.shape ideal.guest.tables (decoded words)) known) done
happened_done actor (Queue offset Runs) found ideal all done known = no_more actor (Queue offset Runs) ideal all refl done
happened_done actor (Queue offset (Stalls fault)) found ideal all done known = no_more actor (Queue offset (Stalls fault)) ideal all refl done
happened_done actor event found ideal all done known = no_more actor event ideal all refl done

-- What is known.

module _ (guest : IdealGuest) (moments : List Moment) (board : BoardOf) (notes : List NotedOf) (all : List (List ℕ)) (is : IsPlayed guest moments board notes) (done : AreAllDone board.state all) where
  abbrev course : Course
  course = (pass_of guest moments).course

  fine_now : AllFine guest.shape course
  fine_now = fine_from guest.shape course board.track board.pieces is.of.calls is.good is.records

  calls_there : (actor : ℕ) → actor < actor_count board.state.guest.shape → actor < length course.calls
  calls_there actor there = subst (λ n. actor < n) (sym (is.of.calls.actors ∙ is.of.kept.followed.actors)) there

  mine_of : (actor : ℕ) → IsTrue (is_some (doing_of board.track actor).operation) → (mine : Call) × (call_of course actor ≡ Some mine)
  mine_of actor busy = of (call_of course actor) refl (ap is_some (is.of.calls.operations actor) ∙ busy)
    where
      of : (o : Option Call) → call_of course actor ≡ o → is_some (operation_in (call_of course actor)) ≡ true → (mine : Call) × (call_of course actor ≡ Some mine)
      of None e h = absurd (true≢false (sym h ∙ ap (λ o. is_some (operation_in o)) e))
      of (Some mine) e h = (mine, e)

  same_shape : course.ideal.guest.shape ≡ guest.shape
  same_shape = course_shape guest moments board notes is

  done_now : AreAllDone course.ideal all
  done_now = subst (λ s. AreAllDone s all) (sym is.of.state_is) done

  noted_begun : (actor : ℕ) (operation : Operation) (after : List NotedOf) → actor < actor_count board.state.guest.shape → after ≡ notes_before board all (Begin actor operation) notes → AreNoted guest.shape (gone_on course (Begin actor operation)) after
  noted_begun actor operation after there are =
      subst (AreNoted guest.shape (gone_on course (Begin actor operation))) (sym (are ∙ ap (λ s. slice_set notes actor (noted_first s operation)) (sym is.of.state_is)))
      (begun_noted guest.shape course notes is.noted actor operation same_shape (calls_there actor there))

  noted_ended : (actor : ℕ) (answer : Option ℕ) (after : List NotedOf) → after ≡ notes_before board all (End actor answer) notes → AreNoted guest.shape (gone_on course (End actor answer)) after
  noted_ended actor answer after are = subst (AreNoted guest.shape (gone_on course (End actor answer))) (sym are) (ended_noted guest.shape course notes is.noted actor answer)

  module _ (actor : ℕ) (event : Event) (found : Found) (next : BoardOf) (of : IsOfPass guest.shape (passed (pass_of guest moments) (Happens actor event found)) next) (busy : IsTrue (is_some (doing_of board.track actor).operation)) (before after : List NotedOf)
      (are : before ≡ notes_before board all (Happens actor event found) notes) (seen : AreSeen next before after) where
    abbrev mine : Call
    mine = (mine_of actor busy).0

    there : call_of course actor ≡ Some mine
    there = (mine_of actor busy).1

    abbrev gone : Course
    gone = gone_on course (Happens actor event found)

    abbrev ideal : Ideal
    ideal = happened actor event course.ideal

    abbrev midway : Bool
    midway = is_midway_in course.ideal board.pieces

    abbrev half : List NotedOf
    half = slice_set notes actor (noted_made course.ideal all midway mine.operation mine.piece event (noted_of notes actor))

    half_is : before ≡ half
    half_is =
        are
        ∙ (ap (λ o. option_map_or (λ operation. slice_set notes actor (note_made board all actor event (noted_of notes actor) operation)) o notes) (sym (is.of.calls.operations actor) ∙ ap operation_in there)
        ∙ (ap (λ p. slice_set notes actor (noted_made board.state all (is_midway_in board.state board.pieces) mine.operation p event (noted_of notes actor))) (sym (is.of.calls.made actor) ∙ ap piece_in there)
        ∙ ap (λ s. slice_set notes actor (noted_made s all (is_midway_in s board.pieces) mine.operation mine.piece event (noted_of notes actor))) (sym is.of.state_is)))

    long : length before ≡ length notes
    long = ap length half_is ∙ length-set notes actor _

    later : AreLater ideal gone half after
    later other call e =
        let within : other < length before = subst (λ n. other < n) (sym (long ∙ (is.noted.rooms ∙ calls_long course actor event found))) (some_there gone.calls other call e) in
        seen.each other within
        ∙ (ap (λ s. noted_later s (doing_of next.track other).operation (piece_of next.pieces other) (noted_of before other)) (sym of.state_is)
        ∙ (ap (λ op. noted_later ideal op (piece_of next.pieces other) (noted_of before other)) (sym (of.calls.operations other) ∙ ap operation_in e)
        ∙ (ap (λ p. noted_later ideal (Some call.operation) p (noted_of before other)) (sym (of.calls.made other) ∙ ap piece_in e)
        ∙ ap (λ ns. noted_later ideal (Some call.operation) call.piece (noted_of ns other)) half_is)))

    noted_happened : AreNoted guest.shape gone after
    noted_happened =
        happened_noted guest.shape course notes is.noted actor event found mine there midway (midway_same course board.track board.pieces is.of.calls) (are_placed guest moments) same_shape all done_now after (seen.rooms ∙ long) later

  noted_next : (moment : Moment) (next : BoardOf) (before after : List NotedOf) → IsOfPass guest.shape (passed (pass_of guest moments) moment) next → IsComingNext board.state board.track moment
      → before ≡ notes_before board all moment notes → AreSeenAfter next moment before after → AreNoted guest.shape (gone_on course moment) after
  noted_next (Begin actor operation) next before after of coming are seen = noted_begun actor operation after coming.0 (seen ∙ are)
  noted_next (End actor answer) next before after of coming are seen = noted_ended actor answer after (seen ∙ are)
  noted_next (Happens actor event found) next before after of coming are seen = noted_happened actor event found next of coming.within before after are seen

  fine_next : (moment : Moment) → IsComingNext board.state board.track moment → IsTrue (is_good_moment guest.shape moment) → AllFine guest.shape (gone_on course moment)
  fine_next (Begin actor operation) coming doable = fine_begun guest.shape course fine_now actor operation (calls_there actor coming.0) doable
  fine_next (End actor answer) coming doable = fine_ended guest.shape course fine_now actor answer
  fine_next (Happens actor event found) coming doable =
      let mine = mine_of actor coming.within in
      fine_made guest.shape course fine_now actor event found mine.0 mine.1
      (subst (λ s. finds_record s event found ≡ true) is.of.shape_is (record_found board.state event found is.of.ready coming.can coming.hands))

  pub advanced : (moment : Moment) (next : BoardOf) (before after : List NotedOf) → IsOfPass guest.shape (passed (pass_of guest moments) moment) next → IsComingNext board.state board.track moment → IsTrue (is_good_moment board.state.guest.shape moment)
      → before ≡ notes_before board all moment notes → AreSeenAfter next moment before after → IsPlayed guest (moments ++ moment ∷ []) next after
  advanced moment next before after of coming doable are seen =
      let fine = fine_next moment coming (subst (λ s. IsTrue (is_good_moment s moment)) is.of.shape_is doable) in
      record {
        of = subst (λ (p : Pass). IsOfPass guest.shape p next) (sym (one_more guest moments moment)) of;
        noted = subst (λ (p : Pass). AreNoted guest.shape p.course after) (sym (one_more guest moments moment)) (noted_next moment next before after of coming are seen);
        good = good_to guest.shape (gone_on course moment) next.track next.pieces of.calls fine;
        records = records_to guest.shape (gone_on course moment) next.track next.pieces of.calls fine;
      }

  pub next_done : (moment : Moment) (next : BoardOf) → IsOfPass guest.shape (passed (pass_of guest moments) moment) next → is_unknown board.state moment ≡ false → AreAllDone next.state (done_after moment all)
  next_done moment next of known = subst (λ s. AreAllDone s (done_after moment all)) of.state_is (then moment (ap (λ s. is_unknown s moment) is.of.state_is ∙ known))
    where
      then : (moment : Moment) → is_unknown course.ideal moment ≡ false → AreAllDone (gone_on course moment).ideal (done_after moment all)
      then (Begin actor operation) known = done_now
      then (End actor answer) known = done_now
      then (Happens actor event found) known = happened_done actor event found course.ideal all done_now known

  -- what is asked for on the way
  pub can_note : (moment : Moment) → IsTrue (is_good_moment board.state.guest.shape moment) → IsComingNext board.state board.track moment → CanNote board notes moment
  can_note moment doable coming = record { ready = is.of.ready; good = good guest moments board notes is; begins = doable; there = in_notes moment coming }
    where
      in_notes : (moment : Moment) → IsComingNext board.state board.track moment → actor_of moment < length notes
      in_notes (Begin actor operation) coming = subst (λ n. actor < n) (sym (notes_count guest moments board notes is)) coming.0
      in_notes (Happens actor event found) coming = subst (λ n. actor < n) (sym (notes_long guest moments board notes is)) (busy_there board.track.doings actor coming.within)
      in_notes (End actor answer) coming = subst (λ n. actor < n) (sym (notes_long guest moments board notes is)) (busy_there board.track.doings actor coming)

  long_before : (moment : Moment) → length (notes_before board all moment notes) ≡ length notes
  long_before (Begin actor operation) = length-set notes actor _
  long_before (End actor answer) = length-set notes actor _
  long_before (Happens actor event found) = of (doing_of board.track actor).operation
    where
      of : (o : Option Operation) → length (option_map_or (λ operation. slice_set notes actor (note_made board all actor event (noted_of notes actor) operation)) o notes) ≡ length notes
      of None = refl
      of (Some operation) = length-set notes actor _

  pub can_see : (moment : Moment) (next : BoardOf) (before : List NotedOf) → IsOfPass guest.shape (passed (pass_of guest moments) moment) next → IsComingNext board.state board.track moment → IsTrue (is_good_moment board.state.guest.shape moment)
      → before ≡ notes_before board all moment notes → CanSee next before
  can_see moment next before of coming doable are =
      let fine = fine_next moment coming (subst (λ s. IsTrue (is_good_moment s moment)) is.of.shape_is doable) in
      record {
        ready = of.ready;
        good = subst (λ s. AreGood s next.track) (sym of.shape_is) (good_to guest.shape (gone_on course moment) next.track next.pieces of.calls fine);
        rooms = ap length are ∙ (long_before moment ∙ (notes_count guest moments board notes is ∙ ap actor_count (is.of.shape_is ∙ sym of.shape_is)));
      }
