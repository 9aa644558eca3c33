-- A part of a residence as far as some of its steps, and what is so there: the guest with all that stands at interfaces taken back stays as it is, and the words say of what is due what that guest has.
use Rattle.std.proofs.Common.{◌≡◌, ℕ, not, Bool, true, false, cond, IsTrue, List, [], ◌∷◌, ◌++◌, Option, Some, None, refl, sym, ap, ◌∙◌, subst}
use Rattle.std.specs.Option.{option_to_list}
use Rattle.std.proofs.lemmas.Bool.{lt-ltb}
use Rattle.std.proofs.lemmas.List.{append-nil, append_assoc}
use Rattle.std.proofs.lemmas.List.Sums.{fold-append}
use Rattle.law_serial_is_eager.specs.Words.{Key, GuestShape, has_interrupt}
use Rattle.law_serial_is_eager.specs.Calls.{Residence, Happened, IsCall, is_beside, named_of}
use Rattle.law_serial_is_eager.specs.Histories.{Course, GoesOn, IsHistory, course_of, gone_on, last_of, opening_course, vcpu_of, home, names, IdealGuest, cpu_at}
use Rattle.law_serial_is_eager.proofs.LawHistories.CourseLemmas.{goes_before}
use Rattle.law_serial_is_eager.proofs.LawHomeCommutes.HomeLaws.{history_tidy}
use Rattle.law_serial_is_eager.proofs.LawHomeCommutes.HomeLemmas.{home_rest}
use Rattle.law_serial_is_eager.proofs.LawLoneCallsAreEager.RunLemmas.{lone_ended}
use Rattle.law_serial_is_eager.specs.Core.{Local, Made, local_after, succeeds, events_of as events_made, CoreState, Seat, opening, seat_at, stands_for, end_of_moments, ideal_of, CoreMoment, begins, makes, Progress, is_end_of, IsProperRun}
use Rattle.law_serial_is_eager.specs.CoreProper.Progress.{changed_by}
use Rattle.law_serial_is_eager.proofs.CoreProper.ScanLemmas.{lrs_on}
use Rattle.law_serial_is_eager.proofs.LawCoreIsHistory.StandingLemmas.{home_is}
use Rattle.law_serial_is_eager.specs.LawRegistersStand.Asks.{IsUnkicked}
use Rattle.law_serial_is_eager.specs.LawRegistersStand.Followed.{Followed}
use Rattle.law_serial_is_eager.proofs.LawRegistersStand.StandRuns.{lrs_made}
use Rattle.law_serial_is_eager.specs.LawScansMissNone.Excuse.{followed_in}
use Rattle.law_serial_is_eager.specs.LawScansMissNone.Waiting.{record_in}
use Rattle.law_serial_is_eager.proofs.LawScansMissNone.ProgressLemmas.{far_on}
use Rattle.law_serial_is_eager.proofs.LawScansMissNone.RunFrame.{IsNextOf, end_more, progress_more}
use Rattle.law_serial_is_eager.proofs.LawScansMissNone.ScanSteps.{with_made}
use Rattle.law_serial_is_eager.proofs.LawLateOnesLeave.PollLemmas.{proper_so}
use Rattle.law_serial_is_eager.proofs.LawLoneAccessesFindAll.HereLemmas.{cpu_is, end_is, local_is}
use Rattle.law_serial_is_eager.specs.Serial.{WholePart, moment_by, piece_of}
use Rattle.law_serial_is_eager.proofs.AlongRuns.{IsAlong, IsLonePart, NamesNone, alone, along_on, history_at, ideal_at, more, next_so, opens_along, p_at, p_on, proper_at, seat_on, so_far, state_at, state_so, there, unwanted, up_now}
use Rattle.law_serial_is_eager.proofs.SerialRuns.{ideal_next}
use Rattle.law_entries_are_plans.proofs.DueLemmas.{seen_home, shown_due}
use Rattle.law_entries_are_plans.proofs.EnterSteps.{IsScanning}
use Rattle.law_entries_are_plans.proofs.FillSteps.{IsReady}
use Rattle.law_entries_are_plans.proofs.HomeRuns.{home_stays}
use Rattle.law_entries_are_plans.proofs.PlaceLemmas.{offer_as, offer_home}
use Rattle.law_entries_are_plans.proofs.StayLemmas.{far_stays}

module _ (guest : IdealGuest) (number : ℕ) (early : List CoreMoment) (part : WholePart) where
  -- the guest with all taken back, before the part
  abbrev pub home_before : IdealGuest
  home_before = home (last_of guest (ideal_of guest.shape (opening guest number) early))

  -- the part as far as some of its steps: all that it stands for from here on is beside, and it looked at no interrupt to end it
  pub record IsInside (pre late : List Made) : Type 0 where
    pub along : IsAlong guest number early part pre
    pub local : Local
    pub own : List Made
    pub seat_is : seat_at (state_at guest number early part pre) part.actor ≡ record { local = local; own = own }
    pub named : named_of (Some part.actor) (events_made guest.shape part.actor local own late) ≡ []
    pub far : (p_at guest number early part pre).far ≡ None
    pub lrs : (p_at guest number early part pre).lrs ≡ part.lrs

module _ (guest : IdealGuest) (number : ℕ) (early : List CoreMoment) (part : WholePart) (lone : IsLonePart guest number early part) (resides : part.operation ≡ Residence) where
  abbrev shape : GuestShape
  shape = guest.shape

  abbrev start : CoreState
  start = opening guest number

  abbrev v : ℕ
  v = part.actor

  abbrev back : IdealGuest
  back = home_before guest number early part

  -- How far the part is.

  names_nothing : NamesNone guest.shape part
  names_nothing view key = ap (λ op. names shape view v op key) resides

  pub no_end : (pre : List Made) → IsAlong guest number early part pre → (key : Key) → is_end_of shape v (p_at guest number early part pre).operation key ≡ false
  no_end pre along key = ap (λ o. is_end_of shape v o key) (along.operation ∙ ap Some resides)

  pub opens_inside : IsInside guest number early part [] part.steps
  opens_inside = record {
    along = opens_along guest number early part lone;
    local = (seat_at (end_of_moments shape start early) v).local;
    own = (seat_at (end_of_moments shape start early) v).own;
    seat_is = ap (λ (s : CoreState). seat_at s v) (end_more shape start early (moment_by v (begins part.operation part.lrs)));
    named = named;
    far = ap (λ (q : Progress). q.far) (progress_more guest number early v (begins part.operation part.lrs));
    lrs = ap (λ (q : Progress). q.lrs) (progress_more guest number early v (begins part.operation part.lrs));
  }
    where
      named : named_of (Some v) (piece_of shape (end_of_moments shape start early) part) ≡ []
      named =
          let ended = lone_ended guest (ideal_of shape start early) v part.operation (piece_of shape (end_of_moments shape start early) part) part.answer lone.good (subst (IsHistory guest) (ideal_next guest number lone.good early part lone.proper lone.history lone.rest lone.first) lone.history) in
          let call : IsCall shape ended.ended.beside (vcpu_of shape v) Residence (piece_of shape (end_of_moments shape start early) part) part.answer =
          subst (λ op. IsCall shape ended.ended.beside (vcpu_of shape v) op (piece_of shape (end_of_moments shape start early) part) part.answer) resides ended.is_call in
          (subst (λ o. IsCall shape ended.ended.beside o Residence (piece_of shape (end_of_moments shape start early) part) part.answer) (ap (λ b. cond b (Some v) None) (lt-ltb v shape.vcpus lone.few)) call).0

  module _ (pre late : List Made) (made : Made) (e : part.steps ≡ pre ++ made ∷ late) where
    pub e_on : part.steps ≡ (pre ++ made ∷ []) ++ late
    e_on = e ∙ sym (append_assoc pre (made ∷ []) late)

    next : IsNextOf guest number (so_far early part pre) v (makes made)
    next = next_so guest number early part lone pre late made e

    pub inside_on : IsInside guest number early part pre (made ∷ late) → IsInside guest number early part (pre ++ made ∷ []) late
    inside_on is = of (stands_for shape v is.local is.own made.step made.found) refl is.named
      where
        stands_so : (o : Option Happened) → stands_for shape v is.local is.own made.step made.found ≡ o → stands_for shape v (seat_at (state_at guest number early part pre) v).local (seat_at (state_at guest number early part pre) v).own made.step made.found ≡ o
        stands_so o f = ap (λ (s : Seat). stands_for shape v s.local s.own made.step made.found) is.seat_is ∙ f

        inside : IsAlong guest number early part (pre ++ made ∷ []) → named_of (Some v) (events_made shape v (local_after shape v is.local made.step made.found) (is.own ++ made ∷ []) late) ≡ [] → IsInside guest number early part (pre ++ made ∷ []) late
        inside along named = record {
          along = along;
          local = local_after shape v is.local made.step made.found;
          own = is.own ++ made ∷ [];
          seat_is = seat_on guest number early part lone pre late made e is.local is.own is.seat_is;
          named = named;
          far =
              ap (λ (q : Progress). q.far) (p_on guest number early part pre made) ∙ far_on shape v made (p_at guest number early part pre)
              ∙ far_stays shape v made.found (succeeds shape v (p_at guest number early part pre).local made.step made.found) (p_at guest number early part pre) made.step (proper_so guest number v lone.good (so_far early part pre) made next) (no_end pre is.along) is.far;
          lrs =
              ap (λ (q : Progress). q.lrs) (p_on guest number early part pre made)
              ∙ lrs_on shape v (with_made shape v made (p_at guest number early part pre) (changed_by shape v made.step made.found (succeeds shape v (p_at guest number early part pre).local made.step made.found) (p_at guest number early part pre)))
              ∙ lrs_made shape v made (p_at guest number early part pre) ∙ is.lrs;
        }

        of : (o : Option Happened) → stands_for shape v is.local is.own made.step made.found ≡ o → named_of (Some v) (option_to_list o ++ events_made shape v (local_after shape v is.local made.step made.found) (is.own ++ made ∷ []) late) ≡ [] → IsInside guest number early part (pre ++ made ∷ []) late
        of None f named = inside (along_on guest number early part lone pre late made e is.along None (stands_so None f) refl) named
        of (Some one) f named = by (is_beside (Some v) one.event) refl named
          where
            by : (b : Bool) → is_beside (Some v) one.event ≡ b → cond (not b) (one ∷ named_of (Some v) (events_made shape v (local_after shape v is.local made.step made.found) (is.own ++ made ∷ []) late)) (named_of (Some v) (events_made shape v (local_after shape v is.local made.step made.found) (is.own ++ made ∷ []) late)) ≡ []
                → IsInside guest number early part (pre ++ made ∷ []) late
            by true b named = inside (along_on guest number early part lone pre late made e is.along (Some one) (stands_so (Some one) f) b) named
            by false b named = absurd (cc)

  pub inside_all : (mid late pre : List Made) → part.steps ≡ pre ++ (mid ++ late) → IsInside guest number early part pre (mid ++ late) → IsInside guest number early part (pre ++ mid) late
  inside_all [] late pre e is = subst (λ xs. IsInside guest number early part xs late) (sym (append-nil pre)) is
  inside_all (made ∷ mid) late pre e is =
      subst (λ xs. IsInside guest number early part xs late) (append_assoc pre (made ∷ []) mid) (inside_all mid late (pre ++ made ∷ []) (e ∙ sym (append_assoc pre (made ∷ []) (mid ++ late))) (inside_on pre (mid ++ late) made e is))

  -- The guest with all taken back.

  module _ (pre late : List Made) (e : part.steps ≡ pre ++ late) (along : IsAlong guest number early part pre) where
    abbrev at : Followed
    at = followed_in guest number (so_far early part pre)

    parts : GoesOn (opening_course guest) (ideal_of shape start early) × GoesOn (course_of (opening_course guest) (ideal_of shape start early)) (more guest number early part pre)
    parts = goes_before (opening_course guest) (ideal_of shape start early) (more guest number early part pre) (subst (IsHistory guest) (ideal_at guest number early part pre) (history_at guest number early part lone pre late e))

    pub home_at : home (last_of guest (ideal_of shape start (so_far early part pre))) ≡ back
    home_at =
        ap (λ ms. home (last_of guest ms)) (ideal_at guest number early part pre)
        ∙ ap (λ (c : Course). home c.ideal) (fold-append gone_on (opening_course guest) (ideal_of shape start early) (more guest number early part pre))
        ∙ home_stays shape (course_of (opening_course guest) (ideal_of shape start early)) (more guest number early part pre) parts.1 (history_tidy guest (ideal_of shape start early) lone.good parts.0) along.quiet

    home_now : home at.ideal ≡ back
    home_now = ap home (sym (state_so guest (ideal_of shape start (so_far early part pre)))) ∙ home_at

    run : IsProperRun guest number (so_far early part pre)
    run = proper_at guest number early part lone pre late e

    mine : (p_at guest number early part pre).local ≡ (seat_at (state_at guest number early part pre) v).local
    mine = local_is guest number (so_far early part pre) lone.good run v (there guest number early part lone)

    pub ready_at : IsUnkicked shape (state_at guest number early part pre) v → IsScanning (p_at guest number early part pre).local → IsReady shape back (state_at guest number early part pre) at.track v (p_at guest number early part pre).local
    ready_at free is = subst (λ g. IsReady shape g (state_at guest number early part pre) at.track v (p_at guest number early part pre).local) home_now (record {
      cpu =
          sym (cpu_is guest number (so_far early part pre) lone.good run v lone.few free is.stays)
          ∙ sym (ap (λ (g : IdealGuest). cpu_at g v) (home_rest at.ideal));
      shown =
          shown_due guest number (so_far early part pre) v lone.good run (history_at guest number early part lone pre late e) lone.few (up_now guest number early part lone pre late e along) (alone guest number early part lone pre late e along mine)
          (unwanted guest number early part lone pre late e along names_nothing) (ap (λ (l : Local). l.at) (sym mine) ∙ is.empty);
    })

    -- a word that nobody holds says what the guest has
    pub seen_at : (key : Key) → IsTrue (has_interrupt shape key) → (record_in shape (state_at guest number early part pre) key).holder ≡ None → offer_as key (record_in shape (state_at guest number early part pre) key) ≡ offer_home back key
    seen_at key here free =
        let held = end_is guest number lone.good (so_far early part pre) run in
        seen_home guest number (so_far early part pre) v lone.good run (history_at guest number early part lone pre late e) lone.few (up_now guest number early part lone pre late e along) (alone guest number early part lone pre late e along mine)
        (unwanted guest number early part lone pre late e along names_nothing) key here free (home_is held.sound held.related key here free)
        ∙ ap (λ g. offer_home g key) home_now
