-- What stays so along a part: the guest with all taken back while interrupts only move and actors read; and an actor between parts wants nothing.
use Rattle.std.proofs.Common.{◌≡◌, ℕ, true≢false, true, IsTrue, All, List, [], ◌∷◌, None, is_some, refl, sym, ap, ◌∙◌, subst}
use Rattle.std.proofs.lemmas.List.Elements.{All-head, All-tail}
use Rattle.law_serial_is_eager.specs.Words.{GuestShape}
use Rattle.law_serial_is_eager.specs.Calls.{Event, Reach, Take, Leave, Moment, Begin, Happens, CanHappen}
use Rattle.law_serial_is_eager.specs.GicCall.declared.event.Event.TheVariants.{Read}
use Rattle.law_serial_is_eager.specs.GicCall.declared.event.Moment.TheVariants.{End}
use Rattle.law_serial_is_eager.specs.Histories.{Course, GoesOn, IsNext, course_of, gone_on, happened, home, is_allowed, IdealGuest, CanOpen}
use Rattle.law_serial_is_eager.proofs.LawHomeCommutes.HomeLaws.{moment_tidy, move_keeps}
use Rattle.law_serial_is_eager.proofs.LawHomeCommutes.SpotLemmas.{IsTidy}
use Rattle.law_serial_is_eager.specs.Core.{CoreState, after_moment, Act, begins, makes, ends, CoreMoment, Progress, progress_in, progressed, IsProperRun}
use Rattle.law_serial_is_eager.specs.LawRegistersStand.Followed.{Followed}
use Rattle.law_serial_is_eager.proofs.LawScansMissNone.Frame.{IsActing, IsAt, IsKeptBy, follow, runs_keep}
use Rattle.law_serial_is_eager.proofs.LawScansMissNone.ProgressLemmas.{operation_on}
use Rattle.law_serial_is_eager.specs.LawAccessesShowHome.UpToDate.{changes_nothing, moves_or_reads}
use Rattle.law_serial_is_eager.proofs.AloneRuns.{none_wanted}

-- The guest.

module _ (shape : GuestShape) where
  event_stays : (course : Course) (actor : ℕ) (event : Event) → IsTidy shape course.ideal → CanHappen shape event → IsTrue (is_allowed course.ideal actor event) → moves_or_reads event ≡ true → home (happened actor event course.ideal) ≡ home course.ideal
  event_stays course actor (Reach key vcpu) tidy can allowed quiet = move_keeps shape course.ideal tidy actor (Reach key vcpu) refl can allowed
  event_stays course actor (Take key vcpu) tidy can allowed quiet = move_keeps shape course.ideal tidy actor (Take key vcpu) refl can allowed
  event_stays course actor (Leave key vcpu) tidy can allowed quiet = move_keeps shape course.ideal tidy actor (Leave key vcpu) refl can allowed
  event_stays course actor (Read place) tidy can allowed quiet = refl
  event_stays course actor event tidy can allowed quiet = absurd (cc)

  moment_stays : (course : Course) (moment : Moment) → IsNext course moment → IsTidy shape course.ideal → IsTrue (changes_nothing moment) → home (gone_on course moment).ideal ≡ home course.ideal
  moment_stays course (Begin actor operation) next tidy quiet = refl
  moment_stays course (End actor answer) next tidy quiet = refl
  moment_stays course (Happens actor event found) next tidy quiet = event_stays course actor event tidy (subst (λ s. CanHappen s event) tidy.shape_is next.can) next.allowed quiet

  pub home_stays : (course : Course) (moments : List Moment) → GoesOn course moments → IsTidy shape course.ideal → All (λ moment. IsTrue (changes_nothing moment)) moments → home (course_of course moments).ideal ≡ home course.ideal
  home_stays course [] going tidy quiet = refl
  home_stays course (moment ∷ moments) going tidy quiet =
      home_stays (gone_on course moment) moments going.1 (moment_tidy shape course moment going.0 tidy) (All-tail (λ m. IsTrue (changes_nothing m)) moment moments quiet)
      ∙ moment_stays course moment going.0 tidy (All-head (λ m. IsTrue (changes_nothing m)) moment moments quiet)

-- An actor that is in no part wants nothing.

abbrev Rests : CoreState → Followed → Progress → Type 0
Rests state at p = p.operation ≡ None → p.wants ≡ []

rests_kept : (shape : GuestShape) (actor : ℕ) → IsKeptBy shape actor Rests
rests_kept shape actor = record { other = λ state at progress other act apart here acts rests. rests; own = own }
  where
    own :
        (state : CoreState) (at : Followed) (progress : ℕ → Progress) (act : Act) → IsAt shape state at progress → IsActing shape state progress actor act → Rests state at (progress actor)
        → Rests (after_moment shape state (record { actor = actor; act = act })) (follow shape state at (record { actor = actor; act = act })) (progressed shape actor (progress actor) act)
    own state at progress (begins operation lrs) here acts rests none = absurd (cc)
    own state at progress (makes made) here acts rests none = absurd (true≢false (sym acts.fit ∙ ap is_some (sym (operation_on shape actor made (progress actor)) ∙ none)))
    own state at progress (ends answer) here acts rests none = none_wanted (progress actor).wants acts.proper.want

pub rests_unwanted : (guest : IdealGuest) (number : ℕ) (moments : List CoreMoment) (actor : ℕ) → CanOpen guest → IsProperRun guest number moments → (progress_in guest number moments actor).operation ≡ None → (progress_in guest number moments actor).wants ≡ []
rests_unwanted guest number moments actor good proper none = (runs_keep guest number actor Rests good (rests_kept guest.shape actor) (λ h. refl) moments proper).keeps none
