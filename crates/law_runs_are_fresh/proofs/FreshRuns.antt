-- Every run whose parts are whole calls is fresh.
use Rattle.std.proofs.Common.{◌≡◌, ℕ, ◌⊎◌, inl, inr, true≢false, false, IsTrue, List, [], ◌∷◌, ◌++◌, fold, Option, Some, None, refl, sym, subst}
use Rattle.std.proofs.lemmas.Bool.{and_from}
use Rattle.std.proofs.lemmas.List.{append_assoc}
use Rattle.law_serial_is_eager.specs.Words.{GuestShape}
use Rattle.law_serial_is_eager.specs.Calls.{Event, Cpu, Moment, Happens, Happened}
use Rattle.law_serial_is_eager.specs.Histories.{after_moment as ideal_after, is_acknowledged_from, is_fresh_at_acknowledge, is_fresh_at_end, is_fresh_at_interface, of_event, tracked, IdealGuest, CanOpen}
use Rattle.law_serial_is_eager.specs.Core.{Made, CoreState, opening, seat_at, stands_for, after_moment, end_of_moments, event_moments, ideal_moments, ideal_of, Act, begins, makes, ends, CoreMoment, IsProperRun}
use Rattle.law_serial_is_eager.proofs.CoreProper.PartLemmas.{ideal_append}
use Rattle.law_serial_is_eager.specs.LawCoreIsHistory.Whole.{AreEnded}
use Rattle.law_serial_is_eager.proofs.LawCoreIsHistory.HistorySteps.{runs_history}
use Rattle.law_serial_is_eager.proofs.LawCoreIsHistory.PrefixLemmas.{whole_is}
use Rattle.law_serial_is_eager.specs.LawRegistersStand.Followed.{Followed, follows, opening_followed}
use Rattle.law_serial_is_eager.specs.LawScansMissNone.Excuse.{followed_in}
use Rattle.law_serial_is_eager.proofs.LawScansMissNone.RunFrame.{IsNextOf, end_more, followed_more, proper_before}
use Rattle.law_serial_is_eager.proofs.LawLateOnesLeave.EndRuns.{deactivations_are_fresh}
use Rattle.law_serial_is_eager.proofs.LawLateOnesLeave.HistoryLemmas.{clause_from}
use Rattle.law_serial_is_eager.proofs.LawLateOnesLeave.LeavingLemmas.{is_access}
use Rattle.law_serial_is_eager.proofs.LawLateOnesLeave.StayLemmas.{IsAccess, access_so}
use Rattle.law_serial_is_eager.proofs.AccessRuns.{AllAccess, accesses_come_first, history_access}
use Rattle.law_serial_is_eager.proofs.AloneRuns.{next_at}
use Rattle.law_runs_are_fresh.specs.Fresh.{RunsAreFresh}
use Rattle.law_runs_are_fresh.proofs.AccessLemmas.{IsAtAccess, at_access}
use Rattle.law_runs_are_fresh.proofs.AskRuns.{acknowledge_fresh, end_fresh, interface_fresh}
use Rattle.law_runs_are_fresh.proofs.ReadRuns.{IsWholeRun}

-- One event.

-- an event is fresh, where these moments come after it
pub record IsFreshAt (later : List Moment) (at : Followed) (event : Event) : Type 0 where
  pub acknowledge : IsTrue (is_fresh_at_acknowledge later at.ideal at.track event)
  pub interface : IsTrue (is_fresh_at_interface at.ideal at.track event)
  pub end : IsTrue (is_fresh_at_end at.ideal at.track event)

pub quiet_fresh : (later : List Moment) (at : Followed) (event : Event) → is_access event ≡ false → IsFreshAt later at event
quiet_fresh later at (Cpu vcpu reg write) h = absurd (true≢false h)
quiet_fresh later at event h = record { acknowledge = refl; interface = refl; end = refl }

-- and some moments, one after the other
record IsFreshFrom (at : Followed) (moments : List Moment) : Type 0 where
  pub acknowledge : IsTrue (is_acknowledged_from at.ideal at.track moments)
  pub interface : IsTrue (clause_from (of_event is_fresh_at_interface) at moments)
  pub end : IsTrue (clause_from (of_event is_fresh_at_end) at moments)

with_event : (at : Followed) (actor : ℕ) (one : Happened) (rest : List Moment) → IsFreshAt rest at one.event → IsFreshFrom (follows at (Happens actor one.event one.found)) rest → IsFreshFrom at (Happens actor one.event one.found ∷ rest)
with_event at actor one rest now later =
    let m = Happens actor one.event one.found in
    record {
      acknowledge = and_from (is_fresh_at_acknowledge rest at.ideal at.track one.event) (is_acknowledged_from (ideal_after at.ideal m) (tracked at.ideal m at.track) rest) now.acknowledge later.acknowledge;
      interface = and_from (is_fresh_at_interface at.ideal at.track one.event) (clause_from (of_event is_fresh_at_interface) (follows at m) rest) now.interface later.interface;
      end = and_from (is_fresh_at_end at.ideal at.track one.event) (clause_from (of_event is_fresh_at_end) (follows at m) rest) now.end later.end;
    }

-- Along a run.

module _ (guest : IdealGuest) (number : ℕ) (good : CanOpen guest) where
  abbrev shape : GuestShape
  shape = guest.shape

  abbrev StateOf : List CoreMoment → CoreState
  StateOf moments = end_of_moments guest.shape (opening guest number) moments

  module _ (early late : List CoreMoment) (actor : ℕ) (act : Act) (next : IsNextOf guest number early actor act) (whole : IsProperRun guest number ((early ++ (record { actor = actor; act = act }) ∷ []) ++ late)) (ended : AreEnded guest.shape ((early ++ (record { actor = actor; act = act }) ∷ []) ++ late)) (run : IsWholeRun guest number ((early ++ (record { actor = actor; act = act }) ∷ []) ++ late)) where
    abbrev moment : CoreMoment
    moment = record { actor = actor; act = act }

    abbrev rest : List Moment
    rest = ideal_of guest.shape (after_moment guest.shape (end_of_moments guest.shape (opening guest number) early) (record { actor = actor; act = act })) late

    -- an access of a run whose accesses are made in calls for them
    access_fresh : (made : Made) → act ≡ makes made → (one : Happened) → IsAccess actor made.step made.found one.event → AllAccess (opening_followed guest) (ideal_of shape (opening guest number) early ++ (Happens actor one.event one.found ∷ rest)) → IsFreshAt rest (followed_in guest number early) one.event
    access_fresh made is one access all =
        subst (λ ev. IsFreshAt rest (followed_in guest number early) ev) (sym access.event_is)
        (record {
          acknowledge =
              subst (λ s. IsTrue (is_fresh_at_acknowledge (ideal_of shape s late) (followed_in guest number early).ideal (followed_in guest number early).track (Cpu actor access.reg access.write))) (end_more shape (opening guest number) early moment)
              (subst (λ a. IsTrue (is_fresh_at_acknowledge (ideal_of shape (StateOf (early ++ record { actor = actor; act = a } ∷ [])) late) (followed_in guest number early).ideal (followed_in guest number early).track (Cpu actor access.reg access.write))) (sym is)
              (acknowledge_fresh guest number early actor made access.reg access.write good next_made access.step_is access.unkicked here.free here.operation late
              (subst (λ a. IsProperRun guest number ((early ++ record { actor = actor; act = a } ∷ []) ++ late)) is whole) (subst (λ a. AreEnded guest.shape ((early ++ record { actor = actor; act = a } ∷ []) ++ late)) is ended)
              (subst (λ a. IsWholeRun guest number ((early ++ record { actor = actor; act = a } ∷ []) ++ late)) is run)));
          interface = interface_fresh guest number early actor made access.reg access.write good next_made access.step_is access.unkicked here.free;
          end = end_fresh guest number early actor made access.reg access.write good next_made access.step_is access.unkicked here.free;
        })
      where
        next_made : IsNextOf guest number early actor (makes made)
        next_made = subst (IsNextOf guest number early actor) is next

        here : IsAtAccess guest number early actor access.reg access.write
        here =
            at_access guest number good early actor made next_made access.reg access.write access.step_is one.found rest
            (subst (λ ev. AllAccess (opening_followed guest) (ideal_of shape (opening guest number) early ++ (Happens actor ev one.found ∷ rest))) access.event_is all)

    -- what a moment stands for
    one_moment : (a : Act) → act ≡ a → AllAccess (opening_followed guest) (ideal_of shape (opening guest number) early ++ (ideal_moments shape (seat_at (StateOf early) actor) actor a ++ rest))
        → IsFreshFrom (fold follows (followed_in guest number early) (ideal_moments shape (seat_at (StateOf early) actor) actor a)) rest → IsFreshFrom (followed_in guest number early) (ideal_moments shape (seat_at (StateOf early) actor) actor a ++ rest)
    one_moment (begins operation lrs) is all later = record { acknowledge = later.acknowledge; interface = later.interface; end = later.end }
    one_moment (ends answer) is all later = record { acknowledge = later.acknowledge; interface = later.interface; end = later.end }
    one_moment (makes made) is all later = of (stands_for shape actor (seat_at (StateOf early) actor).local (seat_at (StateOf early) actor).own made.step made.found) refl all later
      where
        of : (o : Option Happened) → stands_for shape actor (seat_at (StateOf early) actor).local (seat_at (StateOf early) actor).own made.step made.found ≡ o → AllAccess (opening_followed guest) (ideal_of shape (opening guest number) early ++ (event_moments actor o ++ rest))
            → IsFreshFrom (fold follows (followed_in guest number early) (event_moments actor o)) rest → IsFreshFrom (followed_in guest number early) (event_moments actor o ++ rest)
        of None e all later = later
        of (Some one) e all later = with_event (followed_in guest number early) actor one rest (by (access_so shape actor (seat_at (StateOf early) actor).local (seat_at (StateOf early) actor).own made.step made.found one e)) later
          where
            by : (is_access one.event ≡ false) ⊎ IsAccess actor made.step made.found one.event → IsFreshAt rest (followed_in guest number early) one.event
            by (inl quiet) = quiet_fresh rest (followed_in guest number early) one.event quiet
            by (inr access) = access_fresh made is one access all

  fresh_from : (late early : List CoreMoment) → IsProperRun guest number (early ++ late) → AreEnded guest.shape (early ++ late) → IsWholeRun guest number (early ++ late) → AllAccess (opening_followed guest) (ideal_of guest.shape (opening guest number) (early ++ late))
      → IsFreshFrom (followed_in guest number early) (ideal_of guest.shape (end_of_moments guest.shape (opening guest number) early) late)
  fresh_from [] early proper ended run all = record { acknowledge = refl; interface = refl; end = refl }
  fresh_from (moment ∷ late) early proper ended run all =
      let both = sym (append_assoc early (moment ∷ []) late) in
      let whole = subst (IsProperRun guest number) both proper in
      let ended_whole = subst (AreEnded guest.shape) both ended in
      let run_whole = subst (IsWholeRun guest number) both run in
      let next = next_at guest number good early moment.actor moment.act (proper_before guest number (early ++ moment ∷ []) late whole) in
      let later = fresh_from late (early ++ moment ∷ []) whole ended_whole run_whole (subst (λ ms. AllAccess (opening_followed guest) (ideal_of guest.shape (opening guest number) ms)) both all) in
      one_moment early late moment.actor moment.act next whole ended_whole run_whole moment.act refl (subst (AllAccess (opening_followed guest)) (ideal_append guest.shape (opening guest number) early (moment ∷ late)) all)
      (subst (λ f. IsFreshFrom f (ideal_of guest.shape (after_moment guest.shape (StateOf early) moment) late)) (followed_more guest number early moment)
      (subst (λ s. IsFreshFrom (followed_in guest number (early ++ moment ∷ [])) (ideal_of guest.shape s late)) (end_more guest.shape (opening guest number) early moment) later))

pub fresh_runs : RunsAreFresh
fresh_runs guest number moments good proper calls ended =
    let history = (runs_history guest number moments good proper.parted calls).history in
    let whole = whole_is guest number moments good proper.parted calls ended in
    let fresh = fresh_from guest number good moments [] proper ended (record { history = history; whole = whole }) (history_access guest (ideal_of guest.shape (opening guest number) moments) good history whole) in
    record {
      acknowledge = fresh.acknowledge;
      interface = fresh.interface;
      end = fresh.end;
      deactivation = deactivations_are_fresh guest number moments good proper (accesses_come_first guest (ideal_of guest.shape (opening guest number) moments) good history whole);
    }
