-- Runs of parts that are told with what they found, one after the other, are the eager controller's.
use Rattle.std.proofs.Common.{◌≡◌, ℕ, ◌<◌, IsTrue, List, [], ◌∷◌, ◌++◌, Option, None, is_none, refl, sym, ap, ◌∙◌, subst}
use Rattle.std.proofs.lemmas.List.{append-nil, append_assoc}
use Rattle.std.proofs.lemmas.List.Elements.{All-replicate}
use Rattle.law_unmapped_lpis.specs.Words.{GuestShape}
use Rattle.law_unmapped_lpis.specs.Calls.{Moment, Operation, Access, Device, Residence, Happened, is_good_event, is_good_op}
use Rattle.law_unmapped_lpis.specs.Histories.{IdealGuest, after_events, Ideal, home, Call, IsHistory, IsWhole as IsWholeHistory, actor_count, last_of, opening_course, CanOpen, AreForNone}
use Rattle.law_unmapped_lpis.specs.Registers.{has_target}
use Rattle.law_unmapped_lpis.proofs.LawHomeCommutes.HomeLaws.{history_tidy}
use Rattle.law_unmapped_lpis.proofs.LawHomeCommutes.HomeLemmas.{home_rest}
use Rattle.law_unmapped_lpis.proofs.LawHomeCommutes.SpotLemmas.{IsTidy}
use Rattle.law_serial_is_eager.proofs.LawEagerIsHistory.EventLemmas.{shape_events}
use Rattle.law_unmapped_lpis.specs.LawLoneCallsAreEager.LoneCalls.{IsAtRest, IsLoneCall, eager_events, lone_call}
use Rattle.law_unmapped_lpis.specs.LawLoneCallsAreEager.Runs.{IsGoodCall, LoneCall, eager_after_all}
use Rattle.law_serial_is_eager.proofs.LawLoneCallsAreEager.EndLemmas.{calls_end_again}
use Rattle.law_serial_is_eager.proofs.LawLoneCallsAreEager.RestLaws.{rest_stays}
use Rattle.law_serial_is_eager.proofs.LawLoneCallsAreEager.TargetLemmas.{home_targets}
use Rattle.law_unmapped_lpis.proofs.OperationLaws.{accesses_leave_none, devices_leave_none}
use Rattle.pe_mem.specs.Core.{CoreState, opening, end_of_moments, ideal_of, CoreMoment, IsProperRun}
use Rattle.law_serial_is_eager.specs.LawCoreIsHistory.Laws.{AreCalls}
use Rattle.law_serial_is_eager.proofs.LawCoreIsHistory.HistorySteps.{runs_history}
use Rattle.law_serial_is_eager.proofs.LawScansMissNone.RunFrame.{proper_before}
use Rattle.law_serial_is_eager.specs.LawLateOnesLeave.Late.{AccessesComeFirst}
use Rattle.law_serial_is_eager.proofs.LawLoneAccessesFindAll.EaseRuns.{ease_is_up_to_date}
use Rattle.law_serial_is_eager.specs.Serial.{AreFit, IsFit, WholePart, calls_of, moments_in, moments_of, piece_of}
use Rattle.law_serial_is_eager.proofs.AloneRuns.{AllRest, rest_after, rest_opens}
use Rattle.law_serial_is_eager.proofs.SerialRuns.{first_next, ideal_next, serial_runs_are_eager, shows_so}
use Rattle.law_found_parts_are_calls.specs.Found.{AreFoundParts, FoundRunsAreEager, IsFoundPart}
use Rattle.law_found_parts_are_calls.proofs.EndRuns.{found_parts_are_calls}

-- As a guest opens, no call is open.

opens_whole : (guest : IdealGuest) → IsWholeHistory guest []
opens_whole guest = All-replicate (λ (call : Option Call). IsTrue (is_none call)) (actor_count guest.shape) None refl

-- LPIs that the maps give no vCPU.

none_home : (shape : GuestShape) (state : Ideal) → IsTidy shape state → AreForNone (home state) → AreForNone state.guest
none_home shape state tidy none id lost = sym (home_targets shape state tidy id) ∙ none id (ap (λ (g : IdealGuest). has_target g.tables id) (home_rest state) ∙ lost)

-- so it is of the eager controller's guest after operations that their actors can ask for
abbrev AreGood : GuestShape → List LoneCall → Type 0
AreGood shape [] = Unit {0}
AreGood shape (call ∷ calls) = IsGoodCall shape call.actor call.operation × AreGood shape calls

record IsCalm (shape : GuestShape) (guest : IdealGuest) : Type 0 where
  shape_is : guest.shape ≡ shape
  rest : IsAtRest guest
  none : AreForNone guest

calm_after : (shape : GuestShape) (actor : ℕ) (operation : Operation) (guest : IdealGuest) → IsCalm shape guest → IsGoodCall shape actor operation → IsCalm shape (after_events (eager_events operation actor guest) guest)
calm_after shape actor (Access op) guest calm good = record {
  shape_is = shape_events (eager_events (Access op) actor guest) guest ∙ calm.shape_is;
  rest = rest_stays.accesses guest actor op calm.rest (subst (λ (s : GuestShape). actor < s.vcpus) (sym calm.shape_is) good.0) (subst (λ s. IsTrue (is_good_op s op)) (sym calm.shape_is) good.1);
  none = accesses_leave_none guest actor op calm.rest.sound calm.none;
}
calm_after shape actor (Device op) guest calm good = record {
  shape_is = shape_events (eager_events (Device op) actor guest) guest ∙ calm.shape_is;
  rest = rest_stays.devices guest op calm.rest (subst (λ s. IsTrue (is_good_event s op)) (sym calm.shape_is) good);
  none = devices_leave_none guest op calm.rest.sound calm.none;
}
calm_after shape actor Residence guest calm good = calm

calm_after_all : (shape : GuestShape) (calls : List LoneCall) (guest : IdealGuest) → IsCalm shape guest → AreGood shape calls → IsCalm shape (eager_after_all calls guest)
calm_after_all shape [] guest calm good = calm
calm_after_all shape (call ∷ calls) guest calm good = calm_after_all shape calls (after_events (eager_events call.operation call.actor guest) guest) (calm_after shape call.actor call.operation guest calm good.0) good.1

-- Part by part.

moments_join : (one two : List WholePart) → moments_of (one ++ two) ≡ moments_of one ++ moments_of two
moments_join [] two = refl
moments_join (part ∷ one) two = ap (λ ms. moments_in part ++ ms) (moments_join one two) ∙ sym (append_assoc (moments_in part) (moments_of one) (moments_of two))

module _ (guest : IdealGuest) (number : ℕ) (good : CanOpen guest) where
  abbrev start : CoreState
  start = opening guest number

  abbrev past : List CoreMoment → List Moment
  past early = ideal_of guest.shape (opening guest number) early

  abbrev Calls : List CoreMoment → Type 0
  Calls moments = AreCalls guest.shape (opening guest number) (opening_course guest) moments

  good_calls : (parts : List WholePart) (early : List CoreMoment) (state : CoreState) → AreFit guest number early parts → AreGood guest.shape (calls_of guest.shape state parts)
  good_calls [] early state fit = tt
  good_calls (part ∷ parts) early state fit = (fit.0.good, good_calls parts (early ++ moments_in part) (end_of_moments guest.shape state (moments_in part)) fit.1)

  -- after some parts the guest with all taken back is the eager controller's
  calm_so : (parts : List WholePart) → IsProperRun guest number (moments_of parts) → Calls (moments_of parts) → AreFit guest number [] parts → IsCalm guest.shape (home (last_of guest (past (moments_of parts))))
  calm_so parts proper calls fit =
      subst (IsCalm guest.shape) (sym (serial_runs_are_eager guest number parts good proper calls fit).ends)
      (calm_after_all guest.shape (calls_of guest.shape (opening guest number) parts) guest (record { shape_is = refl; rest = rest_stays.opens guest good; none = good.none })
      (good_calls parts [] (opening guest number) fit))

  -- one more part that is fit
  fit_more : (parts : List WholePart) (part : WholePart) (early : List CoreMoment) → AreFit guest number early parts → IsFit guest number (early ++ moments_of parts) part → AreFit guest number early (parts ++ part ∷ [])
  fit_more [] part early fit more = (subst (λ ms. IsFit guest number ms part) (append-nil early) more, tt)
  fit_more (one ∷ parts) part early fit more =
      (fit.0, fit_more parts part (early ++ moments_in one) fit.1 (subst (λ ms. IsFit guest number ms part) (sym (append_assoc early (moments_in one) (moments_of parts))) more))

  -- where some parts are over, each of them its call
  record IsSoFar (early : List CoreMoment) : Type 0 where
    calls : Calls early
    rest : AllRest guest number early
    first : AccessesComeFirst guest number early
    whole : IsWholeHistory guest (past early)

  module _ (early : List CoreMoment) (part : WholePart) (proper : IsProperRun guest number (early ++ moments_in part)) (so : IsSoFar early) (calm : IsCalm guest.shape (home (last_of guest (past early)))) (told : IsFoundPart guest number early part) (able : IsFit guest number early part) where
    proper_early : IsProperRun guest number early
    proper_early = proper_before guest number early (moments_in part) proper

    history_early : IsHistory guest (past early)
    history_early = (runs_history guest number early good proper_early.parted so.calls).history

    -- the premise of the law of one part
    none_now : AreForNone (last_of guest (past early)).guest
    none_now = none_home guest.shape (last_of guest (past early)) (history_tidy guest (past early) good history_early) calm.none

    calls_next : Calls (early ++ moments_in part)
    calls_next = found_parts_are_calls guest number early part good proper so.calls (λ takes. none_now) told

    history : IsHistory guest (past (early ++ moments_in part))
    history = (runs_history guest number (early ++ moments_in part) good proper.parted calls_next).history

    abbrev piece : List Happened
    piece = piece_of guest.shape (end_of_moments guest.shape (opening guest number) early) part

    next_is : past (early ++ moments_in part) ≡ past early ++ lone_call part.actor part.operation piece part.answer
    next_is = ideal_next guest number good early part proper history so.rest so.first

    lone : IsLoneCall guest (past early) part.actor part.operation piece part.answer
    lone = record {
      good = good;
      whole = so.whole;
      history = subst (IsHistory guest) next_is history;
      shows =
          shows_so guest number good early part proper history so.rest so.first
          (λ icc. ease_is_up_to_date guest number early good proper_early so.first (record { nobody = λ actor there. (so.rest actor there).operation; ease = able.ease icc })) able.good;
    }

    so_next : IsSoFar (early ++ moments_in part)
    so_next = record {
      calls = calls_next;
      rest = rest_after guest number early part proper so.rest;
      first = first_next guest number good early part proper history so.rest so.first;
      whole = subst (IsWholeHistory guest) (sym next_is) (calls_end_again guest (past early) part.actor part.operation piece part.answer lone);
    }

  -- all of them
  all_so : (parts before : List WholePart) → IsProperRun guest number (moments_of before ++ moments_of parts) → IsSoFar (moments_of before) → AreFit guest number [] before → AreFoundParts guest number (moments_of before) parts → AreFit guest number (moments_of before) parts
      → Calls (moments_of before ++ moments_of parts) × AreFit guest number [] (before ++ parts)
  all_so [] before proper so fit found able = (subst Calls (sym (append-nil (moments_of before))) so.calls, subst (AreFit guest number []) (sym (append-nil before)) fit)
  all_so (part ∷ parts) before proper so fit found able =
      let so_far = moments_of before in
      let next = so_far ++ moments_in part in
      let split : so_far ++ (moments_in part ++ moments_of parts) ≡ next ++ moments_of parts = sym (append_assoc so_far (moments_in part) (moments_of parts)) in
      let proper_all = subst (IsProperRun guest number) split proper in
      let proper_next = proper_before guest number next (moments_of parts) proper_all in
      let calm = calm_so before (proper_before guest number so_far (moments_in part) proper_next) so.calls fit in
      let same : moments_of (before ++ part ∷ []) ≡ next = moments_join before (part ∷ []) ∙ ap (λ ms. so_far ++ ms) (append-nil (moments_in part)) in
      let later = all_so parts (before ++ part ∷ []) (subst (λ ms. IsProperRun guest number (ms ++ moments_of parts)) (sym same) proper_all) (subst IsSoFar (sym same) (so_next so_far part proper_next so calm found.0 able.0))
      (fit_more before part [] fit able.0) (subst (λ ms. AreFoundParts guest number ms parts) (sym same) found.1) (subst (λ ms. AreFit guest number ms parts) (sym same) able.1) in
      (subst Calls (ap (λ ms. ms ++ moments_of parts) same ∙ sym split) later.0, subst (AreFit guest number []) (append_assoc before (part ∷ []) parts) later.1)

pub found_runs_are_eager : FoundRunsAreEager
found_runs_are_eager guest number parts good proper found able =
    let all = all_so guest number good parts [] proper (record { calls = tt; rest = rest_opens guest number; first = refl; whole = opens_whole guest }) tt found able in
    record { calls = all.0; eager = serial_runs_are_eager guest number parts good proper all.0 all.1 }
