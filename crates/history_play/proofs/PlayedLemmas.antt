-- A history with one more moment.
use Rattle.std.proofs.Common.{◌≡◌, Bool, true, IsTrue, List, [], ◌∷◌, ◌++◌, refl, subst, sym, Option, None, Some, is_some}
use Rattle.std.proofs.lemmas.Bool.{and_parts, and_from}
use Rattle.std.proofs.lemmas.List.{append_assoc, append-nil}
use Rattle.history_check.specs.Calls.{Moment, Begin, Happens}
use Rattle.history_check.specs.GicCall.declared.event.Moment.TheVariants.{End}
use Rattle.history_check.specs.Histories.{IdealGuest, Ideal, Call, Course, opening_course, call_of, gone_on, course_of, IsCallEnded, IsNext, GoesOn, Track, opening_track, tracked, after_moment, of_event, of_end, is_fresh_at_acknowledge, is_fresh_at_interface, is_fresh_at_end, is_kept_from, is_acknowledged_from, IsFresh}
use Rattle.history_check.specs.GicHistory.State.{opening}
use Rattle.history_play.specs.Coming.{IsComing, IsFine}
use Rattle.history_play.specs.Played.{GoesOnFreely, IsAllowed, course_at, track_from, track_at, is_acknowledged_before, IsFreshBefore}

pub course_more : (course : Course) (moments : List Moment) (moment : Moment) → course_of course (moments ++ moment ∷ []) ≡ gone_on (course_of course moments) moment
course_more course [] moment = refl
course_more course (x ∷ moments) moment = course_more (gone_on course x) moments moment

goes_more : (course : Course) (moments : List Moment) (moment : Moment) → GoesOnFreely course moments → IsComing (course_of course moments) moment → GoesOnFreely course (moments ++ moment ∷ [])
goes_more course [] moment so here = (here, tt)
goes_more course (x ∷ moments) moment so here = (so.0, goes_more (gone_on course x) moments moment so.1 here)

track_more_from : (course : Course) (track : Track) (moments : List Moment) (moment : Moment) → track_from course.ideal track (moments ++ moment ∷ []) ≡ tracked (course_of course moments).ideal moment (track_from course.ideal track moments)
track_more_from course track [] moment = refl
track_more_from course track (Begin actor operation ∷ moments) moment = track_more_from (gone_on course (Begin actor operation)) (tracked course.ideal (Begin actor operation) track) moments moment
track_more_from course track (Happens actor event found ∷ moments) moment = track_more_from (gone_on course (Happens actor event found)) (tracked course.ideal (Happens actor event found) track) moments moment
track_more_from course track (End actor answer ∷ moments) moment = track_more_from (gone_on course (End actor answer)) (tracked course.ideal (End actor answer) track) moments moment

kept_more_from : (clause : Ideal → Track → Moment → Bool) (course : Course) (track : Track) (moments : List Moment) (moment : Moment) → IsTrue (is_kept_from clause course.ideal track moments) → IsTrue (clause (course_of course moments).ideal (track_from course.ideal track moments) moment) → IsTrue (is_kept_from clause course.ideal track (moments ++ moment ∷ []))
kept_more_from clause course track [] moment so here = and_from (clause course.ideal track moment) true here refl
kept_more_from clause course track (Begin actor operation ∷ moments) moment so here =
    let m = Begin actor operation in
    let parts = and_parts (clause course.ideal track m) (is_kept_from clause course.ideal (tracked course.ideal m track) moments) so in
    and_from (clause course.ideal track m) (is_kept_from clause course.ideal (tracked course.ideal m track) (moments ++ moment ∷ [])) parts.0 (kept_more_from clause (gone_on course m) (tracked course.ideal m track) moments moment parts.1 here)
kept_more_from clause course track (Happens actor event found ∷ moments) moment so here =
    let m = Happens actor event found in
    let parts = and_parts (clause course.ideal track m) (is_kept_from clause (after_moment course.ideal m) (tracked course.ideal m track) moments) so in
    and_from (clause course.ideal track m) (is_kept_from clause (after_moment course.ideal m) (tracked course.ideal m track) (moments ++ moment ∷ [])) parts.0 (kept_more_from clause (gone_on course m) (tracked course.ideal m track) moments moment parts.1 here)
kept_more_from clause course track (End actor answer ∷ moments) moment so here =
    let m = End actor answer in
    let parts = and_parts (clause course.ideal track m) (is_kept_from clause course.ideal (tracked course.ideal m track) moments) so in
    and_from (clause course.ideal track m) (is_kept_from clause course.ideal (tracked course.ideal m track) (moments ++ moment ∷ [])) parts.0 (kept_more_from clause (gone_on course m) (tracked course.ideal m track) moments moment parts.1 here)

-- the first clause: what comes after one of the moments stays the same
before_more :
    (course : Course) (track : Track) (moments later : List Moment) (moment : Moment) → IsTrue (is_acknowledged_before course.ideal track moments (moment ∷ later)) → IsTrue (of_event (is_fresh_at_acknowledge later) (course_of course moments).ideal (track_from course.ideal track moments) moment)
    → IsTrue (is_acknowledged_before course.ideal track (moments ++ moment ∷ []) later)
before_more course track [] later moment so here = and_from (of_event (is_fresh_at_acknowledge later) course.ideal track moment) true here refl
before_more course track (Begin actor operation ∷ moments) later moment so here = before_more (gone_on course (Begin actor operation)) (tracked course.ideal (Begin actor operation) track) moments later moment so here
before_more course track (Happens actor event found ∷ moments) later moment so here =
    let m = Happens actor event found in
    let after = after_moment course.ideal m in
    let parts = and_parts (is_fresh_at_acknowledge (moments ++ moment ∷ later) course.ideal track event) (is_acknowledged_before after (tracked course.ideal m track) moments (moment ∷ later)) so in
    let first : IsTrue (is_fresh_at_acknowledge ((moments ++ moment ∷ []) ++ later) course.ideal track event) = subst (λ ms. IsTrue (is_fresh_at_acknowledge ms course.ideal track event)) (sym (append_assoc moments (moment ∷ []) later)) parts.0 in
    and_from (is_fresh_at_acknowledge ((moments ++ moment ∷ []) ++ later) course.ideal track event) (is_acknowledged_before after (tracked course.ideal m track) (moments ++ moment ∷ []) later) first
    (before_more (gone_on course m) (tracked course.ideal m track) moments later moment parts.1 here)
before_more course track (End actor answer ∷ moments) later moment so here = before_more (gone_on course (End actor answer)) (tracked course.ideal (End actor answer) track) moments later moment so here

-- where nothing comes after them it is the clause of all
before_none : (state : Ideal) (track : Track) (moments : List Moment) → IsTrue (is_acknowledged_before state track moments []) → IsTrue (is_acknowledged_from state track moments)
before_none state track [] so = refl
before_none state track (moment ∷ moments) so =
    let after = after_moment state moment in
    let parts = and_parts (of_event (is_fresh_at_acknowledge (moments ++ [])) state track moment) (is_acknowledged_before after (tracked state moment track) moments []) so in
    let first : IsTrue (of_event (is_fresh_at_acknowledge moments) state track moment) = subst (λ ms. IsTrue (of_event (is_fresh_at_acknowledge ms) state track moment)) (append-nil moments) parts.0 in
    and_from (of_event (is_fresh_at_acknowledge moments) state track moment) (is_acknowledged_from after (tracked state moment track) moments) first (before_none after (tracked state moment track) moments parts.1)

pub track_more : (guest : IdealGuest) (moments : List Moment) (moment : Moment) → track_at guest (moments ++ moment ∷ []) ≡ tracked (course_at guest moments).ideal moment (track_at guest moments)
track_more guest moments moment = track_more_from (opening_course guest) (opening_track guest.shape) moments moment

pub allowed_more : (guest : IdealGuest) (moments : List Moment) (moment : Moment) → IsAllowed guest moments → IsComing (course_at guest moments) moment → IsAllowed guest (moments ++ moment ∷ [])
allowed_more guest moments moment so coming = goes_more (opening_course guest) moments moment so coming

pub fresh_more : (guest : IdealGuest) (moments later : List Moment) (moment : Moment) → IsFreshBefore guest moments (moment ∷ later) → IsFine (course_at guest moments) (track_at guest moments) moment later → IsFreshBefore guest (moments ++ moment ∷ []) later
fresh_more guest moments later moment so fine =
    record {
      acknowledge = before_more (opening_course guest) (opening_track guest.shape) moments later moment so.acknowledge fine.acknowledge;
      interface = kept_more_from (of_event is_fresh_at_interface) (opening_course guest) (opening_track guest.shape) moments moment so.interface fine.interface;
      end = kept_more_from (of_event is_fresh_at_end) (opening_course guest) (opening_track guest.shape) moments moment so.end fine.end;
      deactivation = kept_more_from of_end (opening_course guest) (opening_track guest.shape) moments moment so.deactivation fine.deactivation;
    }

pub all_fresh : (guest : IdealGuest) (moments : List Moment) → IsFreshBefore guest moments [] → IsFresh guest moments
all_fresh guest moments so =
    record {
      acknowledge = before_none (opening guest) (opening_track guest.shape) moments so.acknowledge;
      interface = so.interface;
      end = so.end;
      deactivation = so.deactivation;
    }

-- Histories.

comes : (course : Course) (moment : Moment) → IsNext course moment → IsComing course moment
comes course (Begin actor operation) next = next
comes course (Happens actor event found) next = next
comes course (End actor answer) next = of (call_of course actor) next
  where
    of : (o : Option Call) → IsCallEnded (course.signals actor) course.ideal.guest.shape actor o answer → IsTrue (is_some o)
    of None ended = absurd ended
    of (Some call) ended = refl

pub all_come : (course : Course) (moments : List Moment) → GoesOn course moments → GoesOnFreely course moments
all_come course [] on = tt
all_come course (moment ∷ moments) on = (comes course moment on.0, all_come (gone_on course moment) moments on.1)
