-- Runs of whole parts, one after the other, are the eager controller's.
use Rattle.std.proofs.Common.{◌≡◌, ℕ, ◌<◌, ◌⊎◌, inl, inr, true, false, cond, All, List, [], ◌∷◌, ◌++◌, length, map, Option, Some, None, refl, sym, ap, ◌∙◌, subst}
use Rattle.std.proofs.lemmas.Bool.{lt-ltb}
use Rattle.std.proofs.lemmas.List.{append-nil, append_assoc}
use Rattle.std.proofs.lemmas.List.Elements.{All-nil, All-cons, All-head, All-tail}
use Rattle.std.proofs.lemmas.List.Sums.{fold-append}
use Rattle.law_lone_calls_are_eager.specs.Words.{IccReg, Icc, GuestShape}
use Rattle.law_lone_calls_are_eager.specs.Calls.{Cpu, Operation, Access, icc_raises, Beside, Happened, IsCall, named_of}
use Rattle.law_lone_calls_are_eager.specs.LoneCalls.{AllShow}
use Rattle.law_lone_calls_are_eager.specs.Histories.{IsHistory, last_of, opening_course, vcpu_of, home, IdealGuest, CanOpen}
use Rattle.law_lone_calls_are_eager.proofs.LawHistories.CourseLemmas.{goes_before}
use Rattle.law_lone_calls_are_eager.proofs.LawEagerIsHistory.FreshLemmas.{is_no_access}
use Rattle.law_lone_calls_are_eager.specs.Runs.{ArePassing, IsGoodCall, moments_in as call_moments}
use Rattle.law_lone_calls_are_eager.proofs.PassLemmas.{raises_all}
use Rattle.law_lone_calls_are_eager.proofs.RunLaws.{runs_pass_home}
use Rattle.law_lone_calls_are_eager.proofs.RunLemmas.{IsLoneEnded, events_of, lone_ended}
use Rattle.law_lone_accesses_find_all.specs.Core.{actor_count, CoreState, opening, seat_at, after_moment, end_of_moments, ideal_of, CoreMoment, begins, makes, ends, Progress, IsProperRun}
use Rattle.law_lone_accesses_find_all.proofs.CoreProper.PartLemmas.{ideal_append}
use Rattle.law_lone_accesses_find_all.proofs.LawCoreIsHistory.HistorySteps.{runs_history}
use Rattle.law_lone_accesses_find_all.specs.LawScansMissNone.Excuse.{followed_in}
use Rattle.law_lone_accesses_find_all.proofs.LawScansMissNone.RunFrame.{proper_before}
use Rattle.law_lone_accesses_find_all.specs.LawAccessesShowHome.UpToDate.{IsUpToDate}
use Rattle.law_lone_accesses_find_all.specs.LawLateOnesLeave.Late.{AccessesComeFirst}
use Rattle.law_lone_accesses_find_all.proofs.EaseRuns.{ease_is_up_to_date}
use Rattle.law_lone_accesses_find_all.proofs.HereLemmas.{end_is, p_is}
use Rattle.law_serial_is_eager.specs.Serial.{AreFit, SerialRunsAreEager, WholePart, call_of, calls_of, is_icc, moment_by, moments_in, moments_of, piece_of}
use Rattle.law_serial_is_eager.proofs.AloneRuns.{AllRest, rest_after, rest_opens}
use Rattle.law_serial_is_eager.proofs.AccessRuns.{rests_first}
use Rattle.law_serial_is_eager.proofs.PartLemmas.{part_stands, parts_stand}
use Rattle.law_serial_is_eager.proofs.QuietLemmas.{call_quiet, named_so}
use Rattle.law_serial_is_eager.proofs.ShowRuns.{part_shows, quiet_shows}

-- Actors of parts.

pub all_late : (P : CoreMoment → Type 0) (early late : List CoreMoment) → All P (early ++ late) → All P late
all_late P [] late all = all
all_late P (moment ∷ early) late all = all_late P early late (All-tail P moment (early ++ late) all)

abbrev pub IsThere : ℕ → CoreMoment → Type 0
IsThere n moment = moment.actor < n

pub part_there : (n : ℕ) (part : WholePart) (late : List CoreMoment) → All (IsThere n) (moments_in part ++ late) → part.actor < n
part_there n part late all =
    All-head (IsThere n) (moment_by part.actor (begins part.operation part.lrs)) (map (moment_by part.actor) (map makes part.steps ++ ends part.answer ∷ []) ++ late) all

parts_there : (n : ℕ) (parts : List WholePart) → All (IsThere n) (moments_of parts) → All (λ (part : WholePart). part.actor < n) parts
parts_there n [] all = All-nil (λ (part : WholePart). part.actor < n)
parts_there n (part ∷ parts) all =
    All-cons (λ (one : WholePart). one.actor < n) part parts (part_there n part (moments_of parts) all) (parts_there n parts (all_late (IsThere n) (moments_in part) (moments_of parts) all))

-- What a call is for.

record IsIcc (operation : Operation) : Type 0 where
  pub reg : IccReg
  pub write : Option ℕ
  pub is : operation ≡ Access (Icc reg write)

icc_or_not : (operation : Operation) → (is_icc operation ≡ false) ⊎ IsIcc operation
icc_or_not (Access (Icc reg write)) = inr (record { reg = reg; write = write; is = refl })
icc_or_not operation = inl refl

-- an access of a CPU interface is named first
named_first : (shape : GuestShape) (beside : Beside) (actor : ℕ) (reg : IccReg) (write : Option ℕ) (piece : List Happened) (answer : Option ℕ) → actor < shape.vcpus → IsCall shape beside (vcpu_of shape actor) (Access (Icc reg write)) piece answer
    → events_of (named_of (Some actor) piece) ≡ Cpu actor reg write ∷ icc_raises shape actor reg write
named_first shape beside actor reg write piece answer few is = (subst (λ o. IsCall shape beside o (Access (Icc reg write)) piece answer) (ap (λ b. cond b (Some actor) None) (lt-ltb actor shape.vcpus few)) is).made.events_are

-- One part.

module _ (guest : IdealGuest) (number : ℕ) (good : CanOpen guest) (early : List CoreMoment) (part : WholePart) (proper : IsProperRun guest number (early ++ moments_in part))
    (history : IsHistory guest (ideal_of guest.shape (opening guest number) (early ++ moments_in part))) (rest : AllRest guest number early) (first : AccessesComeFirst guest number early) where
  abbrev shape : GuestShape
  shape = guest.shape

  abbrev start : CoreState
  start = opening guest number

  abbrev before : CoreState
  before = end_of_moments shape start early

  abbrev piece : List Happened
  piece = piece_of shape before part

  proper_early : IsProperRun guest number early
  proper_early = proper_before guest number early (moments_in part) proper

  there : part.actor < actor_count shape
  there =
      part_there (actor_count shape) part [] (subst (All (IsThere (actor_count shape))) (sym (append-nil (moments_in part))) (all_late (IsThere (actor_count shape)) early (moments_in part) proper.parted.actors))

  pub ideal_next : ideal_of shape start (early ++ moments_in part) ≡ ideal_of shape start early ++ call_moments (call_of shape before part)
  ideal_next =
      ideal_append shape start early (moments_in part)
      ∙ ap (λ ms. ideal_of shape start early ++ ms) (part_stands shape before part (subst (λ n. part.actor < n) (sym (end_is guest number good early proper_early).sound.actors) there))

  ended : IsLoneEnded guest (ideal_of shape start early) part.actor part.operation piece part.answer
  ended = lone_ended guest (ideal_of shape start early) part.actor part.operation piece part.answer good (subst (IsHistory guest) ideal_next history)

  pub first_next : AccessesComeFirst guest number (early ++ moments_in part)
  first_next =
      rests_first guest (ideal_of shape start (early ++ moments_in part)) good history
      (λ actor within.
      (end_is guest number good (early ++ moments_in part) proper).calls actor within ∙ ap (λ (q : Progress). q.operation) (p_is guest number (early ++ moments_in part) good proper actor) ∙ (rest_after guest number early part proper rest actor within).operation)

  pub shows_so : (is_icc part.operation ≡ true → IsUpToDate shape (followed_in guest number early)) → IsGoodCall shape part.actor part.operation → AllShow part.actor (last_of guest (ideal_of shape start early)) piece
  shows_so up able = elim (icc_or_not part.operation) [
    | inl other ↦ quiet_shows part.actor piece (last_of guest (ideal_of shape start early)) (call_quiet shape ended.ended.beside (vcpu_of shape part.actor) part.operation piece part.answer other ended.is_call)
    | inr icc ↦
        let few = (subst (IsGoodCall shape part.actor) icc.is able).0 in
        part_shows guest number early part icc.reg icc.write (record { good = good; proper = proper; history = history; rest = rest; first = first; up = up (ap is_icc icc.is); few = few }) icc.is (icc_raises shape part.actor icc.reg icc.write) (raises_all is_no_access named_so shape part.actor icc.reg icc.write)
        (seat_at before part.actor).local (seat_at before part.actor).own refl
        (named_first shape ended.ended.beside part.actor icc.reg icc.write piece part.answer few (subst (λ op. IsCall shape ended.ended.beside (vcpu_of shape part.actor) op piece part.answer) icc.is ended.is_call))
  ]

-- Part by part.

module _ (guest : IdealGuest) (number : ℕ) (good : CanOpen guest) where
  passing :
      (parts : List WholePart) (early : List CoreMoment) → IsProperRun guest number (early ++ moments_of parts) → IsHistory guest (ideal_of guest.shape (opening guest number) (early ++ moments_of parts)) → AllRest guest number early → AccessesComeFirst guest number early
      → AreFit guest number early parts → ArePassing guest (ideal_of guest.shape (opening guest number) early) (calls_of guest.shape (end_of_moments guest.shape (opening guest number) early) parts)
  passing [] early proper history rest first fit = tt
  passing (part ∷ parts) early proper history rest first fit =
      let start = opening guest number in
      let next = early ++ moments_in part in
      let all : early ++ (moments_in part ++ moments_of parts) ≡ next ++ moments_of parts = sym (append_assoc early (moments_in part) (moments_of parts)) in
      let proper_all = subst (IsProperRun guest number) all proper in
      let proper_now = proper_before guest number next (moments_of parts) proper_all in
      let history_all = subst (λ ms. IsHistory guest (ideal_of guest.shape start ms)) all history in
      let history_now = (goes_before (opening_course guest) (ideal_of guest.shape start next) (ideal_of guest.shape (end_of_moments guest.shape start next) (moments_of parts)) (subst (IsHistory guest) (ideal_append guest.shape start next (moments_of parts)) history_all)).0 in
      let up = λ (icc : is_icc part.operation ≡ true). ease_is_up_to_date guest number early good (proper_before guest number early (moments_in part) proper_now) first (record { nobody = λ actor there. (rest actor there).operation; ease = fit.0.ease icc }) in
      let shows = shows_so guest number good early part proper_now history_now rest first up fit.0.good in
      let later = passing parts next proper_all history_all (rest_after guest number early part proper_now rest) (first_next guest number good early part proper_now history_now rest first) fit.1 in (
        record { good = fit.0.good; shows = shows },
        subst (λ ms. ArePassing guest ms (calls_of guest.shape (end_of_moments guest.shape (end_of_moments guest.shape start early) (moments_in part)) parts)) (ideal_next guest number good early part proper_now history_now rest first)
            (subst (λ s. ArePassing guest (ideal_of guest.shape start next) (calls_of guest.shape s parts)) (fold-append (after_moment guest.shape) start early (moments_in part)) later),
      )

pub serial_runs_are_eager : SerialRunsAreEager
serial_runs_are_eager guest number parts good proper calls fit =
    let history = (runs_history guest number (moments_of parts) good proper.parted calls).history in
    let passes = passing guest number good parts [] proper history (rest_opens guest number) refl fit in
    let seats = (end_is guest number good [] (proper_before guest number [] (moments_of parts) proper)).sound.actors in
    let same = parts_stand guest.shape parts (opening guest number) (parts_there (length (opening guest number).seats) parts (subst (λ n. All (IsThere n) (moments_of parts)) (sym seats) proper.parted.actors)) in
    let law = runs_pass_home guest (calls_of guest.shape (opening guest number) parts) good (subst (IsHistory guest) same history) passes in
    record { ends = ap (λ ms. home (last_of guest ms)) same ∙ law.0; answers = law.1 }
