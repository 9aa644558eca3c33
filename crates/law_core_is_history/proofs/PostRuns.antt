-- A device in a line signals what it found there.
use Rattle.std.proofs.Common.{◌≡◌, ℕ, ◌-◌, ◌<◌, ◌==◌, ◌&&◌, true≢false, not, Bool, true, false, IsTrue, Option, Some, None, nat_lt, if◌then◌else◌, refl, sym, ap, subst, ◌∙◌, arith}
use Rattle.std.specs.Option.{option_map_or}
use Rattle.std.proofs.lemmas.Bool.{and_from, eq-eqb, le-ltb, lt-ltb, ne_eqb}
use Rattle.law_lines_translate.specs.Words.{GuestShape, Msi, is_number}
use Rattle.law_lines_translate.specs.Registers.{enabled_in, queue_of, translated}
use Rattle.law_lines_translate.specs.Calls.{Device, ItsCtlr, Ram, its_from, its_word_of, place_of_plain, plain_at, plain_count, vcpu_word_of, vcpus_from}
use Rattle.law_lines_translate.specs.GicHistory.History.{has_midway, is_midway, signalled_by}
use Rattle.law_lines_translate.specs.Histories.{Call, Course, call_of, course_of, opening_course, word_at}
use Rattle.law_lines_translate.specs.Core.{Entered, Line, Plain, Queue, CoreState, actor_count, entries_of, fault_place, has_word, line_count, opening, seat_at, end_of_moments, ideal_of, word_in, IsSound}
use Rattle.law_core_is_history.specs.Related.{Related}
use Rattle.law_lines_translate.proofs.CoreProper.PartLemmas.{same_end}
use Rattle.law_core_is_history.proofs.HistorySteps.{run_leads}
use Rattle.law_lines_translate.proofs.PortCore.StepTies.{number_self}
use Rattle.law_lines_translate.specs.Lines.{AreTrue, becomes, has_changed, its_ctlr}
use Rattle.law_core_is_history.specs.Posts.{PostsAreSignals}
use Rattle.law_lines_translate.proofs.LineRuns.{runs_are_true}
use Rattle.law_core_is_history.proofs.MidwayRuns.{AreMidway, are_midway}

-- GITS_CTLR's word is stored at its place
ctlr_is : (shape : GuestShape) → plain_at shape (place_of_plain shape ItsCtlr) ≡ ItsCtlr
ctlr_is shape =
    ap (λ b. if b then Ram (its_from shape) else (if nat_lt (its_from shape) (its_from shape) then vcpu_word_of (its_from shape - vcpus_from shape) else its_word_of (its_from shape - its_from shape))) (le-ltb (its_from shape) (vcpus_from shape) (omega arith))
    ∙ ap (λ b. if b then vcpu_word_of (its_from shape - vcpus_from shape) else its_word_of (its_from shape - its_from shape)) (le-ltb (its_from shape) (its_from shape) (omega arith))
    ∙ ap its_word_of none
  where
    none : its_from shape - its_from shape ≡ 0
    none = omega arith

-- the ideal controller translates as the core's words and maps do
becomes_so : (shape : GuestShape) (state : CoreState) (course : Course) → Related shape state course.ideal → (device event : ℕ) → signalled_by course.ideal (Device (Msi device event)) ≡ becomes shape state (device, event)
becomes_so shape state course related device event =
    let ctlr = place_of_plain shape ItsCtlr in
    let there : IsTrue (has_word shape (Plain ctlr)) = lt-ltb ctlr (plain_count shape) (omega arith) in
    let stored = (related.words (Plain ctlr) there).stored (ne_eqb ctlr (fault_place shape) (λ e. omega (arith, e))) in
    ap (λ n. translated course.ideal.guest.tables (enabled_in n) device event) (ap (word_at course.ideal.guest) (sym (ctlr_is shape)) ∙ stored) ∙ ap (λ maps. translated maps (enabled_in (its_ctlr shape state)) device event) related.maps

module _ (shape : GuestShape) (state : CoreState) (course : Course) (sound : IsSound shape state) (related : Related shape state course.ideal) (lines : AreTrue shape state) (midway : AreMidway state course) (actor : ℕ) (within : actor < actor_count shape) (entered : Entered) (is : (seat_at state actor).local.line ≡ Some entered) where
  -- nobody that has changed an LPI has the ITS
  no_change : (other : ℕ) → other < actor_count shape → IsTrue (seat_at state other).local.turn → IsTrue (has_changed (seat_at state other).own) → ⊥
  no_change other there turn changed =
      let has : IsTrue (has_word shape (Line entered.line)) = lt-ltb entered.line (line_count shape) ((sound.locals actor within).line entered is).there in
      true≢false
      (sym (ap (λ o. option_map_or (λ (x : Entered). x.line == entered.line) o false) is ∙ eq-eqb entered.line entered.line refl) ∙ ((lines.changed other there turn changed).each entered.line has).nobody actor within)

  -- so no command is midway
  none_midway : has_midway course ≡ false
  none_midway = of course.ideal.has_its refl
    where
      call_midway : (other : ℕ) → course.ideal.has_its ≡ Some other → (o : Option Call) → call_of course other ≡ o → option_map_or (λ (call : Call). is_midway call.piece) o false ≡ false
      call_midway other has None is = refl
      call_midway other has (Some call) is = of_call (is_midway call.piece) refl
        where
          turn_in : (queue_of (word_in shape state Queue)).turn ≡ Some other
          turn_in = sym (related.words Queue refl).turn ∙ has

          there : other < actor_count shape
          there = (sound.words Queue refl).1 other turn_in

          of_call : (b : Bool) → is_midway call.piece ≡ b → b ≡ false
          of_call false e = refl
          of_call true e = absurd (no_change other there (sym (sound.ties other Queue there refl) ∙ ap (is_number other) turn_in ∙ number_self other) (midway other call is e))

      of : (o : Option ℕ) → course.ideal.has_its ≡ o → option_map_or (λ other. option_map_or (λ (call : Call). is_midway call.piece) (call_of course other) false) o false ≡ false
      of None e = refl
      of (Some other) e = call_midway other e (call_of course other) refl

  signals : IsTrue (is_number entered.lpi (signalled_by course.ideal (Device (Msi entered.pair.0 entered.pair.1))) && not (has_midway course))
  signals =
      and_from (is_number entered.lpi (signalled_by course.ideal (Device (Msi entered.pair.0 entered.pair.1)))) (not (has_midway course))
      (ap (is_number entered.lpi) (becomes_so shape state course related entered.pair.0 entered.pair.1 ∙ lines.actors actor within entered is) ∙ number_self entered.lpi) (ap not none_midway)

pub posts_signal : PostsAreSignals
posts_signal guest number moments actor entered good parted calls within is =
    let leads = run_leads guest number moments good parted calls in
    let state = end_of_moments guest.shape (opening guest number) moments in
    let lines = subst (AreTrue guest.shape) (sym (same_end guest.shape (opening guest number) moments)) (runs_are_true guest number (entries_of moments) good parted.run) in
    signals guest.shape state (course_of (opening_course guest) (ideal_of guest.shape (opening guest number) moments)) leads.at.sound leads.at.related lines (are_midway guest number good moments parted calls) actor within entered is
