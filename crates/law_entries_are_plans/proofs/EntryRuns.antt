-- A vCPU that enters while nobody else acts has the registers of the guest with all that stands at interfaces taken back.
use Rattle.std.proofs.Common.{◌≡◌, ℕ, ◌==◌, ◌&&◌, true≢false, not, true, false, IsTrue, List, [], ◌∷◌, ◌++◌, take, None, unwrap_or, refl, sym, ap, ◌∙◌, subst}
use Rattle.std.specs.List.{list_all}
use Rattle.std.proofs.lemmas.Bool.{and_parts}
use Rattle.std.proofs.lemmas.List.{append-nil}
use Rattle.std.proofs.lemmas.List.Sums.{fold-append}
use Rattle.law_serial_is_eager.specs.Words.{Key, GuestShape, has_interrupt, irq_of}
use Rattle.law_serial_is_eager.specs.GicCall.declared.event.Moment.TheVariants.{End}
use Rattle.law_serial_is_eager.specs.Calls.{Residence}
use Rattle.law_serial_is_eager.specs.Histories.{Track, Course, IsHistory, gone_on, last_of, opening_course, home, IdealGuest, cpu_at}
use Rattle.law_serial_is_eager.specs.Lists.{IchRegs, plan, regs_of}
use Rattle.law_serial_is_eager.specs.GicIdeal.Shown.{offers_of}
use Rattle.law_serial_is_eager.proofs.LawHistories.CourseLemmas.{goes_before}
use Rattle.law_serial_is_eager.proofs.LawHomeCommutes.HomeLaws.{history_tidy}
use Rattle.law_serial_is_eager.proofs.LawHomeCommutes.HomeLemmas.{home_rest}
use Rattle.law_serial_is_eager.specs.Core.{Local, Made, CoreStep, Look, Poll, Irq, local_after, Meets, succeeds, CoreState, opening, seat_at, word_in, CanStep, word_of, after_moment, end_of_moments, ideal_of, CoreMoment, ends, makes, Progress, begun, opening_progress, progress_in, progressed, stepped, IsProperEnd, IsProperRun, is_idle, planned, taking}
use Rattle.law_serial_is_eager.specs.CoreProper.Progress.{changed_by}
use Rattle.law_serial_is_eager.proofs.CoreProper.PartLemmas.{ideal_append}
use Rattle.law_serial_is_eager.proofs.CoreProper.ScanLemmas.{failed_on, kept_on, local_on}
use Rattle.law_serial_is_eager.specs.LawCoreIsHistory.Related.{is_folding}
use Rattle.law_serial_is_eager.proofs.LawCoreIsHistory.AfterLemmas.{later}
use Rattle.law_serial_is_eager.proofs.LawCoreIsHistory.HistorySteps.{runs_history}
use Rattle.law_serial_is_eager.proofs.LawCoreIsHistory.KickSteps.{is_poll, unkicked_before}
use Rattle.law_serial_is_eager.proofs.LawCoreIsHistory.StepContext.{IsStep}
use Rattle.law_serial_is_eager.specs.LawRegistersStand.Asks.{IsUnkicked}
use Rattle.law_serial_is_eager.specs.LawRegistersStand.Followed.{Followed}
use Rattle.law_serial_is_eager.proofs.LawRegistersStand.StandRuns.{lrs_made}
use Rattle.law_serial_is_eager.specs.LawScansMissNone.Excuse.{followed_in}
use Rattle.law_serial_is_eager.specs.LawScansMissNone.Scan.{Covers}
use Rattle.law_serial_is_eager.specs.LawScansMissNone.Waiting.{record_in}
use Rattle.law_serial_is_eager.proofs.LawScansMissNone.Frame.{follow, is_step, lasts, progress_is, progress_on}
use Rattle.law_serial_is_eager.proofs.LawScansMissNone.RunFrame.{IsNextOf, end_more, followed_more, proper_before, progress_more}
use Rattle.law_serial_is_eager.proofs.LawScansMissNone.ScanRuns.{scans_overlook_none}
use Rattle.law_serial_is_eager.proofs.LawScansMissNone.ScanSteps.{leaves, with_made}
use Rattle.law_serial_is_eager.proofs.LawLateOnesLeave.PollLemmas.{inverse, proper_so, seat_so}
use Rattle.law_serial_is_eager.proofs.LawLoneAccessesFindAll.EaseRuns.{ease_is_up_to_date}
use Rattle.law_serial_is_eager.specs.Serial.{WholePart, moment_by, moments_in}
use Rattle.law_serial_is_eager.proofs.AloneRuns.{next_at}
use Rattle.law_serial_is_eager.proofs.AlongRuns.{IsAlong, IsLonePart, next_so, one_on, p_at, p_on, so_far, state_at, whole_is}
use Rattle.law_entries_are_plans.specs.Entry.{EntriesShowHome, HasEntered, IsEntry, ShowsRegisters, looks_for_kick}
use Rattle.law_entries_are_plans.proofs.EnterSteps.{Enters, IsScanning, enters_made, has, looks, takes}
use Rattle.law_entries_are_plans.proofs.FillSteps.{IsReady, enters_on}
use Rattle.law_entries_are_plans.proofs.HomeRuns.{rests_unwanted}
use Rattle.law_entries_are_plans.proofs.InsideRuns.{IsInside, e_on, home_at, home_before, inside_all, inside_on, no_end, opens_inside, ready_at, seen_at}
use Rattle.law_entries_are_plans.proofs.PlaceLemmas.{offer_as, offer_home, offers_are}
use Rattle.law_entries_are_plans.proofs.PlanLemmas.{HasPlan}
use Rattle.law_entries_are_plans.proofs.StayLemmas.{failed_before, untrapped_before}

module _ (guest : IdealGuest) (number : ℕ) (early : List CoreMoment) (part : WholePart) (lone : IsLonePart guest number early part) (resides : part.operation ≡ Residence) where
  abbrev shape : GuestShape
  shape = guest.shape

  abbrev start : CoreState
  start = opening guest number

  abbrev v : ℕ
  v = part.actor

  abbrev back : IdealGuest
  back = home_before guest number early part

  -- Step by step.

  abbrev GoingAt : List Made → Type 0
  GoingAt pre =
      IsUnkicked shape (state_at guest number early part pre) v → (p_at guest number early part pre).failed ≡ false → (p_at guest number early part pre).scanned ≡ false → Enters shape back v part.lrs (p_at guest number early part pre)

  module _ (pre late : List Made) (made : Made) (e : part.steps ≡ pre ++ made ∷ late) (inside : IsInside guest number early part pre (made ∷ late)) where
    abbrev state : CoreState
    state = state_at guest number early part pre

    abbrev p : Progress
    p = p_at guest number early part pre

    acts : IsNextOf guest number (so_far early part pre) v (makes made)
    acts = next_so guest number early part lone pre late made e

    is : IsStep shape (state_at guest number early part pre) (followed_in guest number (so_far early part pre)).ideal v made.step made.found made.left made.tables
    is = is_step shape lone.good.sound.shape (state_at guest number early part pre) (followed_in guest number (so_far early part pre)) (progress_on shape (opening_progress guest number) (so_far early part pre)) v made acts.at acts.acts

    abbrev q : Progress
    q = with_made shape v made p (changed_by shape v made.step made.found (succeeds shape v p.local made.step made.found) p)

    abbrev next_track : Track
    next_track = (follow shape state (followed_in guest number (so_far early part pre)) (moment_by v (makes made))).track

    state_is : state_at guest number early part (pre ++ made ∷ []) ≡ after_moment shape (state_at guest number early part pre) (moment_by v (makes made))
    state_is = ap (end_of_moments shape start) (one_on guest number early part pre made) ∙ end_more shape start (so_far early part pre) (moment_by v (makes made))

    followed_is : followed_in guest number (so_far early part (pre ++ made ∷ [])) ≡ follow shape (state_at guest number early part pre) (followed_in guest number (so_far early part pre)) (moment_by v (makes made))
    followed_is = ap (followed_in guest number) (one_on guest number early part pre made) ∙ followed_more guest number (so_far early part pre) (moment_by v (makes made))

    p_is : p_at guest number early part (pre ++ made ∷ []) ≡ stepped shape v made (p_at guest number early part pre)
    p_is = p_on guest number early part pre made

    free_on : IsUnkicked shape (state_at guest number early part (pre ++ made ∷ [])) v → IsUnkicked shape (later is) v
    free_on free = subst (λ s. IsUnkicked shape s v) state_is free

    failed_q : (p_at guest number early part (pre ++ made ∷ [])).failed ≡ false → q.failed ≡ false
    failed_q failed = sym (ap (λ (r : Progress). r.failed) p_is ∙ failed_on shape v q) ∙ failed

    untrapped_q : (p_at guest number early part (pre ++ made ∷ [])).scanned ≡ false → q.scanned ≡ false
    untrapped_q untrapped = sym (ap (λ (r : Progress). r.scanned) p_is ∙ kept_on (λ (r : Progress). r.scanned) (λ r scan regs trapping. refl) shape v q) ∙ untrapped

    local_q : (p_at guest number early part (pre ++ made ∷ [])).local ≡ q.local
    local_q = ap (λ (r : Progress). r.local) p_is ∙ local_on shape v q

    ready_q : IsUnkicked shape (state_at guest number early part (pre ++ made ∷ [])) v → IsScanning q.local → IsReady shape back (later is) next_track v q.local
    ready_q free scanning =
        subst (IsReady shape back (later is) next_track v) local_q
        (subst (λ (f : Followed). IsReady shape back (later is) f.track v (p_at guest number early part (pre ++ made ∷ [])).local) followed_is
        (subst (λ s. IsReady shape back s (followed_in guest number (so_far early part (pre ++ made ∷ []))).track v (p_at guest number early part (pre ++ made ∷ [])).local) state_is
        (ready_at guest number early part lone resides (pre ++ made ∷ []) late (e_on guest number early part lone resides pre late made e) (inside_on guest number early part lone resides pre late made e inside).along free (subst IsScanning (sym local_q) scanning))))

    covers_q : IsUnkicked shape (later is) v → q.failed ≡ false → Covers shape (later is) next_track v q q.scan
    unfolding is
    covers_q free failed =
        leaves lone.few (followed_in guest number (so_far early part pre)).track next_track acts.at.told p (seat_so guest number v lone.good (so_far early part pre) made acts) made.step is
        (lasts shape lone.good.sound.shape (state_at guest number early part pre) (followed_in guest number (so_far early part pre)) (progress_on shape (opening_progress guest number) (so_far early part pre)) v made acts.at acts.acts)
        (proper_so guest number v lone.good (so_far early part pre) made acts) (scans_overlook_none guest number (so_far early part pre) v lone.good acts.before lone.few) free failed

    lrs_q : q.lrs ≡ part.lrs
    lrs_q = lrs_made shape v made p ∙ inside.lrs

    -- once the step is made, the scan goes on
    then_on : IsUnkicked shape (state_at guest number early part (pre ++ made ∷ [])) v → (p_at guest number early part (pre ++ made ∷ [])).failed ≡ false → Enters shape back v part.lrs q → Enters shape back v part.lrs (p_at guest number early part (pre ++ made ∷ []))
    then_on free failed now =
        subst (Enters shape back v part.lrs) (sym p_is)
        (enters_on shape lone.good.sound.shape back (later is) next_track v part.lrs lone.few q lrs_q (ready_q free) now (covers_q (free_on free) (failed_q failed)))

    -- a look at an interrupt
    seen : (k : Key) → made.step ≡ Look (Irq k) → IsTrue (has_interrupt shape k) × ((irq_of made.found).holder ≡ None → (irq_of made.found).want ≡ false → offer_as k (irq_of made.found) ≡ offer_home back k)
    seen k step_is =
        let here : IsTrue (has_interrupt shape k) = subst (CanStep shape v) step_is is.takes.can in
        let irq : irq_of made.found ≡ record_in shape state k = ap irq_of (is.takes.found ∙ ap (λ s. word_in shape state (word_of shape v s)) step_is) in (
          here,
          λ free unwanted.
              ap (offer_as k) irq ∙ seen_at guest number early part lone resides pre (made ∷ late) e inside.along k here (ap (λ i. i.holder) (sym irq) ∙ free),
        )

    -- each step after the look for a kick
    going_on : is_poll made.step ≡ false → GoingAt pre → GoingAt (pre ++ made ∷ [])
    going_on no_poll going free failed untrapped =
        let before = unkicked_before is v lone.few (ap (λ b. b && v == v) no_poll) (free_on free) in
        let done = succeeds shape v p.local made.step made.found in
        let now = going before.0 (failed_before shape v made.found done p made.step no_poll before.1 (failed_q failed)) (untrapped_before shape v made.found done p made.step no_poll (untrapped_q untrapped)) in
        then_on free failed
        (enters_made shape lone.good.sound.shape back v part.lrs p made.found made.left made.tables made.step no_poll (proper_so guest number v lone.good (so_far early part pre) made acts) (no_end guest number early part lone resides pre inside.along) seen (failed_q failed) (untrapped_q untrapped) now)

    -- and that look
    going_looks : made.step ≡ Poll None None → GoingAt (pre ++ made ∷ [])
    going_looks step_is free failed untrapped = then_on free failed (takes 0 scan_is (record { empty = empty; stays = stays }))
      where
        scan_is : q.scan ≡ taking planned 0
        scan_is = ap (λ s. (changed_by shape v s made.found (succeeds shape v p.local s made.found) p).scan) step_is ∙ ap (λ o. (begun (unwrap_or o false) p).scan) inside.far

        empty : q.local.at ≡ []
        empty =
            ap (λ s. (local_after shape v p.local s made.found).at) step_is ∙ ap (λ (l : Local). l.at) (seat_so guest number v lone.good (so_far early part pre) made acts).local
            ∙ subst (λ s. Meets shape v (seat_at state v).local (seat_at state v).own s) step_is is.takes.meets

        stays : is_folding q.local.phase ≡ false
        stays = ap (λ s. is_folding (local_after shape v p.local s made.found).phase) step_is

  goes_all : (late pre : List Made) → part.steps ≡ pre ++ late → IsInside guest number early part pre late → IsTrue (list_all (λ made. not (looks_for_kick made.step)) late) → GoingAt pre → GoingAt part.steps
  goes_all [] pre e inside last going = subst GoingAt (sym (e ∙ append-nil pre)) going
  goes_all (made ∷ late) pre e inside last going =
      let two = and_parts (not (looks_for_kick made.step)) (list_all (λ made. not (looks_for_kick made.step)) late) last in
      goes_all late (pre ++ made ∷ []) (e_on guest number early part lone resides pre late made e) (inside_on guest number early part lone resides pre late made e inside) two.1 (going_on pre late made e inside (same_look made.step (inverse (looks_for_kick made.step) two.0)) going)
    where
      same_look : (step : CoreStep) → looks_for_kick step ≡ false → is_poll step ≡ false
      same_look (Poll reg write) h = h
      same_look step h = refl

  -- At its end.

  ends_now : IsNextOf guest number (so_far early part part.steps) v (ends part.answer)
  ends_now = next_at guest number lone.good (so_far early part part.steps) v (ends part.answer) (subst (IsProperRun guest number) (whole_is guest number early part) lone.proper)

  ends_idle : is_idle (p_at guest number early part part.steps).scan ≡ true
  ends_idle = (subst (λ r. IsProperEnd r) (progress_is shape (so_far early part part.steps) (opening_progress guest number) v) ends_now.acts.proper).scan

  p_whole : progress_in guest number (early ++ moments_in part) v ≡ progressed shape v (p_at guest number early part part.steps) (ends part.answer)
  p_whole = ap (λ ms. progress_in guest number ms v) (whole_is guest number early part) ∙ progress_more guest number (so_far early part part.steps) v (ends part.answer)

  state_whole : end_of_moments shape start (early ++ moments_in part) ≡ state_at guest number early part part.steps
  state_whole = ap (end_of_moments shape start) (whole_is guest number early part) ∙ end_more shape start (so_far early part part.steps) (moment_by v (ends part.answer))

  last_whole : last_of guest (ideal_of shape start (early ++ moments_in part)) ≡ last_of guest (ideal_of shape start (so_far early part part.steps))
  last_whole =
      ap (λ ms. last_of guest (ideal_of shape start ms)) (whole_is guest number early part) ∙ ap (last_of guest) (ideal_append shape start (so_far early part part.steps) (moment_by v (ends part.answer) ∷ []))
      ∙ ap (λ (c : Course). c.ideal) (fold-append gone_on (opening_course guest) (ideal_of shape start (so_far early part part.steps)) (End v part.answer ∷ []))

  module _ (entry : IsEntry part) where
    inside_look : IsInside guest number early part entry.before (entry.look ∷ entry.after)
    inside_look = inside_all guest number early part lone resides entry.before (entry.look ∷ entry.after) [] entry.steps (subst (IsInside guest number early part []) entry.steps (opens_inside guest number early part lone resides))

    goes_so : GoingAt part.steps
    goes_so =
        goes_all entry.after (entry.before ++ entry.look ∷ []) (e_on guest number early part lone resides entry.before entry.after entry.look entry.steps) (inside_on guest number early part lone resides entry.before entry.after entry.look entry.steps inside_look) entry.last
        (going_looks entry.before entry.after entry.look entry.steps inside_look entry.scans)

    home_whole : home (last_of guest (ideal_of shape start (early ++ moments_in part))) ≡ back
    home_whole =
        ap home last_whole
        ∙ home_at guest number early part lone resides part.steps [] (sym (append-nil part.steps))
        (subst (IsAlong guest number early part) (sym entry.steps) (inside_all guest number early part lone resides (entry.look ∷ entry.after) [] entry.before (entry.steps ∙ ap (λ xs. entry.before ++ xs) (sym (append-nil (entry.look ∷ entry.after)))) (subst (IsInside guest number early part entry.before) (sym (append-nil (entry.look ∷ entry.after))) inside_look)).along)

    has_plan : HasEntered guest.shape (end_of_moments guest.shape (opening guest number) (early ++ moments_in part)) part.actor (progress_in guest number (early ++ moments_in part) part.actor) → HasPlan shape back v part.lrs (p_at guest number early part part.steps).regs
    has_plan entered =
        of (goes_so (subst (λ s. IsUnkicked shape s v) state_whole entered.unkicked) (sym (ap (λ (r : Progress). r.failed) p_whole) ∙ entered.none_failed) (sym (ap (λ (r : Progress). r.scanned) p_whole) ∙ entered.untrapped))
      where
        of : Enters shape back v part.lrs (p_at guest number early part part.steps) → HasPlan shape back v part.lrs (p_at guest number early part part.steps).regs
        of (takes words e scanning) = absurd (true≢false (sym ends_idle ∙ ap is_idle e))
        of (looks from offers e are scanning) = absurd (true≢false (sym ends_idle ∙ ap is_idle e))
        of (has e plan) = plan

    shows : HasEntered guest.shape (end_of_moments guest.shape (opening guest number) (early ++ moments_in part)) part.actor (progress_in guest number (early ++ moments_in part) part.actor)
        → ShowsRegisters (home (last_of guest (ideal_of guest.shape (opening guest number) (early ++ moments_in part)))) part.actor part.lrs (progress_in guest number (early ++ moments_in part) part.actor).regs
    shows entered = subst (λ g. ShowsRegisters g v part.lrs (progress_in guest number (early ++ moments_in part) v).regs) (sym home_whole) (record { planned = is; shown = sym (ap (λ (r : IchRegs). r.hcr ∷ take part.lrs r.lr) is) })
      where
        same : back.shape ≡ shape
        same =
            ap (λ (g : IdealGuest). g.shape) (home_rest (last_of guest (ideal_of shape start early)))
            ∙ (history_tidy guest (ideal_of shape start early) lone.good (goes_before (opening_course guest) (ideal_of shape start early) (ideal_of shape (end_of_moments shape start early) (moments_in part)) (subst (IsHistory guest) (ideal_append shape start early (moments_in part)) lone.history)).0).shape_is

        is : (progress_in guest number (early ++ moments_in part) v).regs ≡ regs_of (plan (offers_of back) v (cpu_at back v) back.shape part.lrs) (cpu_at back v) part.lrs
        is =
            ap (λ (r : Progress). r.regs) p_whole ∙ has_plan entered
            ∙ sym (ap (λ s. regs_of (plan (offers_of back) v (cpu_at back v) s part.lrs) (cpu_at back v) part.lrs) same ∙ ap (λ xs. regs_of (plan xs v (cpu_at back v) shape part.lrs) (cpu_at back v) part.lrs) (offers_are shape back same))

pub entries_show_home : EntriesShowHome
entries_show_home guest number early part good proper calls first ease few entry entered =
    let before = proper_before guest number early (moments_in part) proper in
    shows guest number early part
    (record {
      good = good;
      proper = proper;
      history = (runs_history guest number (early ++ moments_in part) good proper.parted calls).history;
      rest = λ actor there. record { operation = ease.nobody actor there; wants = rests_unwanted guest number early actor good before (ease.nobody actor there) };
      first = first;
      up = ease_is_up_to_date guest number early good before first ease;
      few = few;
    }) entry.operation entry entered
