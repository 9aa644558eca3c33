-- A guest to which more was done.
use Rattle.std.proofs.Common.{◌≡◌, ℕ, ◌<◌, true, false, All, List, [], ◌∷◌, ◌++◌, Option, refl, sym, ap, ◌∙◌, subst}
use Rattle.std.proofs.lemmas.List.{append-nil, append_assoc}
use Rattle.std.proofs.lemmas.List.Elements.{All-append, All-head, All-tail}
use Rattle.law_found_parts_are_calls.specs.Calls.{Operation, Residence}
use Rattle.law_found_parts_are_calls.specs.Histories.{IsHistory, last_of, opening_course, home, IdealGuest, CanOpen}
use Rattle.law_found_parts_are_calls.proofs.LawHistories.CourseLemmas.{goes_before}
use Rattle.law_found_parts_are_calls.specs.Core.{CoreState, IsRun, opening, end_of_moments, ideal_of, CoreMoment, progress_in, IsProperRun}
use Rattle.seq_guest.specs.PortSeq.Told.{GuestTold}
use Rattle.law_found_parts_are_calls.proofs.CoreProper.PartLemmas.{ideal_append}
use Rattle.law_found_parts_are_calls.specs.LawCoreIsHistory.Laws.{AreCalls}
use Rattle.law_found_parts_are_calls.proofs.LawCoreIsHistory.HistorySteps.{runs_history}
use Rattle.law_found_parts_are_calls.proofs.LawScansMissNone.RunFrame.{proper_before}
use Rattle.law_found_parts_are_calls.specs.LawLateOnesLeave.Late.{AccessesComeFirst}
use Rattle.law_found_parts_are_calls.specs.LawLoneAccessesFindAll.Lone.{AreAtEase, IsAtEase}
use Rattle.law_found_parts_are_calls.specs.LawLoneCallsAreEager.LoneCalls.{IsEagerCall}
use Rattle.law_found_parts_are_calls.specs.LawLoneCallsAreEager.Runs.{AnswerEagerly, IsGoodCall, eager_after_all}
use Rattle.law_found_parts_are_calls.specs.LawSerialIsEager.Serial.{AreFit, IsFit, WholePart, calls_of, is_icc, moments_in, moments_of}
use Rattle.law_found_parts_are_calls.proofs.LawSerialIsEager.AloneRuns.{AllRest, rest_after, rest_opens}
use Rattle.law_found_parts_are_calls.proofs.LawSerialIsEager.SerialRuns.{first_next}
use Rattle.law_found_parts_are_calls.specs.Found.{AreEagerCalls, AreFoundParts}
use Rattle.law_found_parts_are_calls.proofs.EagerRuns.{found_runs_are_eager}
use Rattle.seq_guest.specs.LawEntriesArePlans.Entry.{HasEntered, IsEntry, ShowsRegisters}
use Rattle.seq_guest.proofs.LawEntriesArePlans.EntryRuns.{entries_show_home}
use Rattle.seq_guest.specs.declared.vcpus.Vcpus.{Vcpus}
use Rattle.seq_guest.specs.PePlace.Parts.{AreResidences, HaveCall, IsOfGuest, by_actor, entries_in, progress_after}
use Rattle.seq_guest.specs.Guest.{GoesOn, NoneKicked}
use Rattle.seq_guest.proofs.GuestLemmas.{followed_as}
use Rattle.seq_guest.proofs.PePlace.PartsLemmas.{entries_append}
use Rattle.law_one_thread_is_eager.specs.Done.{AreSerial, HasDone, home_after}
use Rattle.law_one_thread_is_eager.proofs.EagerLemmas.{calls_append, eager_append, answers_append, residences_do_nothing, one_call_does}
use Rattle.law_one_thread_is_eager.proofs.EaseLemmas.{all_at_ease}
use Rattle.law_one_thread_is_eager.proofs.FollowLemmas.{parts_follow, state_is}
use Rattle.law_one_thread_is_eager.proofs.MomentLemmas.{entries_parts, moments_append}
use Rattle.law_one_thread_is_eager.proofs.ProperLemmas.{progress_both, proper_more}

fits_append : (guest : IdealGuest) (number : ℕ) (base : List CoreMoment) (early late : List WholePart) → AreFit guest number base early → AreFit guest number (base ++ moments_of early) late → AreFit guest number base (early ++ late)
fits_append guest number base [] late first next = subst (λ ms. AreFit guest number ms late) (append-nil base) next
fits_append guest number base (part ∷ early) late first next =
    (first.0, fits_append guest number (base ++ moments_in part) early late first.1 (subst (λ ms. AreFit guest number ms late) (sym (append_assoc base (moments_in part) (moments_of early))) next))

found_append : (guest : IdealGuest) (number : ℕ) (base : List CoreMoment) (early late : List WholePart) → AreFoundParts guest number base early → AreFoundParts guest number (base ++ moments_of early) late → AreFoundParts guest number base (early ++ late)
found_append guest number base [] late first next = subst (λ ms. AreFoundParts guest number ms late) (append-nil base) next
found_append guest number base (part ∷ early) late first next =
    (first.0, found_append guest number (base ++ moments_in part) early late first.1 (subst (λ ms. AreFoundParts guest number ms late) (sym (append_assoc base (moments_in part) (moments_of early))) next))

-- they are their calls, and fit
pub fitted : (guest : IdealGuest) (number lrs : ℕ) (parts : List WholePart) → AreSerial guest number lrs parts → AreEagerCalls guest number parts
fitted guest number lrs parts serial = found_runs_are_eager guest number parts serial.good serial.proper serial.found serial.fits

module _ (old new : GuestTold) (before after : Vcpus) (Are : List WholePart → Type 0) (goes : GoesOn Are old new before after) (early : List WholePart) (run : IsRun new.guest.shape (opening new.guest new.number) new.world) where
  abbrev both : List WholePart
  both = early ++ goes.parts

  -- by the guest as it is told
  more_here : HasDone old.guest old.number old before early → AreFit old.guest old.number (moments_of early) goes.parts → HasDone old.guest old.number new after both
  more_here done about =
      let guest = old.guest in
      let number = old.number in
      let serial = done.serial in
      let progress = progress_in guest number (moments_of early) in
      let world : new.world ≡ entries_in both = goes.world ∙ ap (λ xs. xs ++ entries_in goes.parts) done.world ∙ sym (entries_append early goes.parts) in
      let ran : IsRun guest.shape (opening guest number) (entries_in both)
      = subst (λ (g : IdealGuest). IsRun g.shape (opening g number) (entries_in both)) goes.same.guest
      (subst (λ n. IsRun new.guest.shape (opening new.guest n) (entries_in both)) goes.same.number (subst (IsRun new.guest.shape (opening new.guest new.number)) world run)) in
      let formed : All (IsOfGuest guest.shape before.lrs) both = All-append (IsOfGuest guest.shape before.lrs) early goes.parts serial.formed goes.formed in
      let proper = proper_more guest number before.lrs early goes.parts before.some before.most ran formed serial.proper (λ actor there. goes.proper progress done.followed actor there) in
      let joined = moments_append early goes.parts in
      let found = parts_follow old (moments_of early) goes.parts serial.good (entries_parts early ∙ sym done.world) (subst (IsProperRun guest number) joined proper) goes.calls in
      record {
        guest_is = goes.same.guest;
        number_is = goes.same.number;
        world = world;
        serial =
            record {
              good = serial.good;
              formed = subst (λ n. All (IsOfGuest guest.shape n) both) (sym goes.lrs) formed;
              proper = proper;
              found = found_append guest number [] early goes.parts serial.found found;
              fits = fits_append guest number [] early goes.parts serial.fits about;
            };
        at = goes.at;
        followed =
            followed_as new after (progress_after guest.shape goes.parts progress) (progress_in guest number (moments_of both)) (λ actor. sym (progress_both guest number early goes.parts actor)) (goes.goes_on progress done.followed);
      }

  -- and by one that is the same
  pub more_done : (guest : IdealGuest) (number : ℕ) → HasDone guest number old before early → AreFit guest number (moments_of early) goes.parts → HasDone guest number new after both
  more_done guest number done =
      subst (λ g. HasDone g number old before early → AreFit g number (moments_of early) goes.parts → HasDone g number new after both) done.guest_is
      (subst (λ n. HasDone old.guest n old before early → AreFit old.guest n (moments_of early) goes.parts → HasDone old.guest n new after both) done.number_is more_here)
      done

-- The guest with all taken back.

record GoesEagerly (guest : IdealGuest) (number : ℕ) (early late : List WholePart) : Type 0 where
  home_is : home_after guest number (early ++ late) ≡ eager_after_all (calls_of guest.shape (end_of_moments guest.shape (opening guest number) (moments_of early)) late) (home_after guest number early)
  answers : AnswerEagerly (calls_of guest.shape (end_of_moments guest.shape (opening guest number) (moments_of early)) late) (home_after guest number early)

goes_eagerly : (guest : IdealGuest) (number lrs : ℕ) (early late : List WholePart) → AreSerial guest number lrs early → AreSerial guest number lrs (early ++ late) → GoesEagerly guest number early late
goes_eagerly guest number lrs early late first all =
    let start = opening guest number in
    let before = (fitted guest number lrs early first).eager in
    let after = (fitted guest number lrs (early ++ late) all).eager in
    let mine = calls_of guest.shape start early in
    let more = calls_of guest.shape (end_of_moments guest.shape start (moments_of early)) late in
    let split : calls_of guest.shape start (early ++ late) ≡ mine ++ more = calls_append guest.shape start early late in
    let joined = answers_append mine more guest (subst (λ calls. AnswerEagerly calls guest) split after.answers) in
    record {
      home_is = after.ends ∙ ap (λ calls. eager_after_all calls guest) split ∙ eager_append mine more guest ∙ ap (eager_after_all more) (sym before.ends);
      answers = subst (AnswerEagerly more) (sym before.ends) joined;
    }

-- residences leave it as it is
pub home_stays : (guest : IdealGuest) (number lrs : ℕ) (early late : List WholePart) → AreSerial guest number lrs early → AreSerial guest number lrs (early ++ late) → AreResidences late → home_after guest number (early ++ late) ≡ home_after guest number early
home_stays guest number lrs early late first all resides =
    (goes_eagerly guest number lrs early late first all).home_is ∙ residences_do_nothing guest.shape (end_of_moments guest.shape (opening guest number) (moments_of early)) late (home_after guest number early) resides.each

-- a call does to it what the eager controller does
pub home_goes :
    (guest : IdealGuest) (number lrs actor : ℕ) (operation : Operation) (answer : Option ℕ) (early late : List WholePart) → AreSerial guest number lrs early → AreSerial guest number lrs (early ++ late) → HaveCall actor operation answer late
    → IsEagerCall actor operation answer (home_after guest number early) (home_after guest number (early ++ late))
home_goes guest number lrs actor operation answer early late first all have =
    let eager = goes_eagerly guest number lrs early late first all in
    let mid = end_of_moments guest.shape (opening guest number) (moments_of early) in
    let call = one_call_does guest.shape mid actor operation answer late (home_after guest number early) have eager.answers in
    record { goes = eager.home_is ∙ call.goes; answers = call.answers }

-- What is asked of residences, and of a call among them.

Resides : WholePart → Type 0
Resides one = one.operation ≡ Residence

one_about : (guest : IdealGuest) (number : ℕ) (early : List CoreMoment) (part : WholePart) → part.operation ≡ Residence → IsFit guest number early part
one_about guest number early part is = record { ease = λ icc. absurd (never (sym (ap is_icc is) ∙ icc)); good = subst (IsGoodCall guest.shape part.actor) (sym is) tt }
  where
    never : false ≡ true → ⊥
    never e = cc

about_after : (guest : IdealGuest) (number : ℕ) (base : List CoreMoment) (early late : List WholePart) → All (λ (one : WholePart). one.operation ≡ Residence) early → AreFit guest number (base ++ moments_of early) late → AreFit guest number base (early ++ late)
about_after guest number base [] late all next = subst (λ ms. AreFit guest number ms late) (append-nil base) next
about_after guest number base (part ∷ early) late all next = (
  one_about guest number base part (All-head (λ (one : WholePart). one.operation ≡ Residence) part early all),
  about_after guest number (base ++ moments_in part) early late (All-tail (λ (one : WholePart). one.operation ≡ Residence) part early all)
      (subst (λ ms. AreFit guest number ms late) (sym (append_assoc base (moments_in part) (moments_of early))) next),
)

pub residences_about : (guest : IdealGuest) (number : ℕ) (base : List CoreMoment) (parts : List WholePart) → AreResidences parts → AreFit guest number base parts
residences_about guest number base parts resides = subst (AreFit guest number base) (append-nil parts) (about_after guest number base parts [] resides.each tt)

pub call_about :
    (guest : IdealGuest) (number : ℕ) (base : List CoreMoment) (parts : List WholePart) (actor : ℕ) (operation : Operation) (answer : Option ℕ) (have : HaveCall actor operation answer parts) → (is_icc operation ≡ true → have.early ≡ [])
    → ((vcpu : ℕ) → vcpu < guest.shape.vcpus → IsAtEase guest.shape (end_of_moments guest.shape (opening guest number) base) vcpu (progress_in guest number base vcpu)) → IsGoodCall guest.shape actor operation → AreFit guest number base parts
call_about guest number base parts actor operation answer have first ease good =
    let whole = by_actor actor have.call in
    let mid = base ++ moments_of have.early in
    let same : is_icc operation ≡ true → base ≡ mid = λ icc. sym (ap (λ parts. base ++ moments_of parts) (first icc) ∙ append-nil base) in
    let about : IsFit guest number mid whole
    = record {
      ease = λ icc.
          subst (λ ms. (vcpu : ℕ) → vcpu < guest.shape.vcpus → IsAtEase guest.shape (end_of_moments guest.shape (opening guest number) ms) vcpu (progress_in guest number ms vcpu)) (same (sym (ap is_icc have.operation_is) ∙ icc)) ease;
      good = subst (IsGoodCall guest.shape actor) (sym have.operation_is) good;
    } in
    subst (AreFit guest number base) (sym have.split)
    (about_after guest number base have.early (whole ∷ have.late) have.before.each (about, residences_about guest number (mid ++ moments_in whole) have.late have.after))

-- each vCPU is at ease after what was done
pub ease_after : (guest : IdealGuest) (number : ℕ) (told : GuestTold) (vcpus : Vcpus) (parts : List WholePart) → HasDone guest number told vcpus parts → NoneKicked told vcpus → (vcpu : ℕ) → vcpu < guest.shape.vcpus
    → IsAtEase guest.shape (end_of_moments guest.shape (opening guest number) (moments_of parts)) vcpu (progress_in guest number (moments_of parts) vcpu)
ease_after guest number told vcpus parts done quiet =
    let Ease : IdealGuest → ℕ → Type 0
    = λ g n. (vcpu : ℕ) → vcpu < g.shape.vcpus → IsAtEase g.shape (end_of_moments g.shape (opening g n) (moments_of parts)) vcpu (progress_in guest number (moments_of parts) vcpu) in
    subst (λ g. Ease g number) done.guest_is
    (subst (Ease told.guest) done.number_is
    (λ vcpu there.
    subst (λ (state : CoreState). IsAtEase told.guest.shape state vcpu (progress_in guest number (moments_of parts) vcpu)) (sym (state_is told (moments_of parts) (entries_parts parts ∙ sym done.world)))
    (all_at_ease told vcpus (progress_in guest number (moments_of parts)) done.at done.followed quiet vcpu there)))

-- Accesses come first in what was done.

first_after : (guest : IdealGuest) (number : ℕ) (good : CanOpen guest) (parts : List WholePart) (early : List CoreMoment) → IsProperRun guest number (early ++ moments_of parts) → IsHistory guest (ideal_of guest.shape (opening guest number) (early ++ moments_of parts))
    → AllRest guest number early → AccessesComeFirst guest number early → AccessesComeFirst guest number (early ++ moments_of parts) × AllRest guest number (early ++ moments_of parts)
first_after guest number good [] early proper history rest first =
    (subst (AccessesComeFirst guest number) (sym (append-nil early)) first, subst (AllRest guest number) (sym (append-nil early)) rest)
first_after guest number good (part ∷ parts) early proper history rest first =
    let start = opening guest number in
    let next = early ++ moments_in part in
    let all : early ++ (moments_in part ++ moments_of parts) ≡ next ++ moments_of parts = sym (append_assoc early (moments_in part) (moments_of parts)) in
    let proper_all = subst (IsProperRun guest number) all proper in
    let proper_now = proper_before guest number next (moments_of parts) proper_all in
    let history_all = subst (λ ms. IsHistory guest (ideal_of guest.shape start ms)) all history in
    let history_now = (goes_before (opening_course guest) (ideal_of guest.shape start next) (ideal_of guest.shape (end_of_moments guest.shape start next) (moments_of parts)) (subst (IsHistory guest) (ideal_append guest.shape start next (moments_of parts)) history_all)).0 in
    let later = first_after guest number good parts next proper_all history_all (rest_after guest number early part proper_now rest) (first_next guest number good early part proper_now history_now rest first) in
    (subst (AccessesComeFirst guest number) (sym all) later.0, subst (AllRest guest number) (sym all) later.1)

pub serial_first : (guest : IdealGuest) (number lrs : ℕ) (parts : List WholePart) → AreSerial guest number lrs parts → AccessesComeFirst guest number (moments_of parts) × AllRest guest number (moments_of parts)
serial_first guest number lrs parts serial =
    first_after guest number serial.good parts [] serial.proper (runs_history guest number (moments_of parts) serial.good serial.proper.parted (fitted guest number lrs parts serial).calls).history (rest_opens guest number) refl

-- What a vCPU shows after it entered, with all else as it was.
pub entry_shows :
    (guest : IdealGuest) (number lrs : ℕ) (told : GuestTold) (vcpus : Vcpus) (early : List WholePart) (part : WholePart) → HasDone guest number told vcpus early → NoneKicked told vcpus → AreSerial guest number lrs (early ++ part ∷ []) → part.actor < guest.shape.vcpus → IsEntry part
    → HasEntered guest.shape (end_of_moments guest.shape (opening guest number) (moments_of (early ++ part ∷ []))) part.actor (progress_in guest number (moments_of (early ++ part ∷ [])) part.actor)
    → ShowsRegisters (home_after guest number (early ++ part ∷ [])) part.actor part.lrs (progress_in guest number (moments_of (early ++ part ∷ [])) part.actor).regs
entry_shows guest number lrs told vcpus early part done quiet serial few entry entered =
    let before = moments_of early in
    let all : moments_of (early ++ part ∷ []) ≡ before ++ moments_in part = moments_append early (part ∷ []) ∙ ap (λ ms. before ++ ms) (append-nil (moments_in part)) in
    let first = serial_first guest number vcpus.lrs early done.serial in
    let ease : AreAtEase guest number before = record { nobody = λ actor there. (first.1 actor there).operation; ease = ease_after guest number told vcpus early done quiet } in
    subst (λ ms. ShowsRegisters (home (last_of guest (ideal_of guest.shape (opening guest number) ms))) part.actor part.lrs (progress_in guest number ms part.actor).regs) (sym all)
    (entries_show_home guest number before part serial.good (subst (IsProperRun guest number) all serial.proper) (subst (AreCalls guest.shape (opening guest number) (opening_course guest)) all (fitted guest number lrs (early ++ part ∷ []) serial).calls) first.0 ease few entry
    (subst (λ ms. HasEntered guest.shape (end_of_moments guest.shape (opening guest number) ms) part.actor (progress_in guest number ms part.actor)) all entered))
