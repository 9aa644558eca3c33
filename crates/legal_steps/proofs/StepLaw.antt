-- A legal list goes on one moment at a time.
use Rattle.std.proofs.Common.{◌≡◌, ◌≢◌, ℕ, ◌&&◌, ◌==◌, Bool, true, false, cond, List, [], ◌∷◌, ◌++◌, fold, Option, option_map, Some, refl, sym, ap, ◌∙◌, subst, inl, inr, eqb-true}
use Rattle.std.specs.Prelude.{None}
use Rattle.std.proofs.lemmas.Bool.{and_parts, and_from, cases_eq, false_from_ne_true}
use Rattle.std.proofs.lemmas.Grind.{fold-append}
use Rattle.std.proofs.lemmas.Option.{none-some, same_Some}
use Rattle.legal_lists.specs.Words.{GuestShape}
use Rattle.legal_lists.specs.Calls.{Moment, Begin, Happens}
use Rattle.legal_lists.specs.GicCall.declared.event.Moment.TheVariants.{End}
use Rattle.legal_lists.specs.Histories.{IdealGuest, Ideal, Call, Course, opening_course, call_of, gone_on, course_of, happened, seeing, signals_after, with_signal, IsNext, GoesOn, Track, tracked, after_moment, of_event, of_end, is_fresh_at_interface, is_fresh_at_end, is_kept, is_kept_from}
use Rattle.legal_lists.specs.Legal.{IsBegun, IsLegal}
use Rattle.legal_lists.proofs.CourseLemmas.{begun_other, ended_other, made_other, course_both, goes_before, nobody_opens}
use Rattle.legal_steps.specs.Step.{Pass, opening_pass, passed, pass_of, may_all_be_answered, actor_of, GoesOnLegally}
use Rattle.legal_steps.specs.Laws.{LegalListsGoOn}
use Rattle.legal_steps.proofs.ListLemmas.{and_assoc, and_true}
use Rattle.legal_steps.proofs.PassLaw.{state_after, pass_course, one_pass}
use Rattle.legal_steps.proofs.WiderLemmas.{begun_wider, seen_wider}

none_legal : (guest : IdealGuest) → IsLegal guest []
none_legal guest = record { history = tt; begun = λ actor call e. absurd (none-some call (sym (nobody_opens guest actor) ∙ e)); acknowledge = refl; interface = refl; end = refl; deactivation = refl }

-- Others' calls.

mapped_some : {X : Type 0} (f : X → X) (o : Option X) (y : X) → option_map f o ≡ Some y → (x : X) × (o ≡ Some x) × (f x ≡ y)
mapped_some f None y h = absurd (none-some y h)
mapped_some f (Some x) y h = (x, refl, same_Some _ _ h)

signals_stay : (course : Course) (actor other : ℕ) (signals : Bool) → other ≢ actor → with_signal course actor signals other ≡ course.signals other
signals_stay course actor other signals differ = ap (λ b. cond b signals (course.signals other)) (false_from_ne_true (other == actor) (λ t. differ (eqb-true other actor t)))

module _ (shape : GuestShape) (course : Course) (other : ℕ) (begun : (call : Call) → call_of course other ≡ Some call → IsBegun (course.signals other) shape other call) where
  others_begun : (moment : Moment) → other ≢ actor_of moment → (call : Call) → call_of (gone_on course moment) other ≡ Some call → IsBegun ((gone_on course moment).signals other) shape other call
  others_begun (Begin actor operation) differ call e = subst (λ signals. IsBegun signals shape other call) (sym (signals_stay course actor other false differ)) (begun call (sym (begun_other course actor operation other differ) ∙ e))
  others_begun (End actor answer) differ call e = subst (λ signals. IsBegun signals shape other call) (sym (signals_stay course actor other false differ)) (begun call (sym (ended_other course actor answer other differ) ∙ e))
  others_begun (Happens actor event found) differ call e =
      let after = happened actor event course.ideal in
      let was = mapped_some (seeing after) (call_of course other) call (sym (made_other course actor event found other differ) ∙ e) in
      subst (λ signals. IsBegun signals shape other call) (sym (signals_stay course actor other (signals_after course actor event) differ))
      (subst (IsBegun (course.signals other) shape other) was.2 (begun_wider (course.signals other) shape other was.0 (seeing after was.0) (seen_wider after was.0) (begun was.0 was.1)))

-- Clauses of each moment.

kept_one : (clause : Ideal → Track → Moment → Bool) (pass : Pass) (moments : List Moment) (moment : Moment)
    → is_kept_from clause pass.course.ideal pass.track (moments ++ moment ∷ []) ≡ (is_kept_from clause pass.course.ideal pass.track moments && clause (fold passed pass moments).course.ideal (fold passed pass moments).track moment)
kept_one clause pass [] moment = sym (and_true (clause pass.course.ideal pass.track moment))
kept_one clause pass (first ∷ moments) moment =
    let ideal = pass.course.ideal in
    let last = fold passed (passed pass first) moments in
    ap (λ b. clause ideal pass.track first && b)
    (subst (λ state. is_kept_from clause state (tracked ideal first pass.track) (moments ++ moment ∷ []) ≡ (is_kept_from clause state (tracked ideal first pass.track) moments && clause last.course.ideal last.track moment))
    (state_after pass.course first) (kept_one clause (passed pass first) moments moment))
    ∙ sym (and_assoc (clause ideal pass.track first) (is_kept_from clause (after_moment ideal first) (tracked ideal first pass.track) moments) (clause last.course.ideal last.track moment))

goes_after : (course : Course) (early late : List Moment) → GoesOn course early → GoesOn (course_of course early) late → GoesOn course (early ++ late)
goes_after course [] late early-goes late-goes = late-goes
goes_after course (moment ∷ early) late early-goes late-goes = (early-goes.0, goes_after (gone_on course moment) early late early-goes.1 late-goes)

module _ (guest : IdealGuest) (moments : List Moment) (moment : Moment) where
  abbrev all : List Moment
  all = moments ++ moment ∷ []

  abbrev pass : Pass
  pass = pass_of guest moments

  course_is : pass.course ≡ course_of (opening_course guest) moments
  course_is = pass_course (opening_pass guest) moments

  later_is : course_of (opening_course guest) all ≡ gone_on pass.course moment
  later_is = course_both (opening_course guest) moments (moment ∷ []) ∙ ap (λ course. gone_on course moment) (sym course_is)

  later_pass : pass_of guest all ≡ passed pass moment
  later_pass = fold-append passed (opening_pass guest) moments (moment ∷ [])

  kept_all : (clause : Ideal → Track → Moment → Bool) → is_kept clause guest all ≡ (is_kept clause guest moments && clause pass.course.ideal pass.track moment)
  kept_all clause = kept_one clause (opening_pass guest) moments moment

  at_it : (clause : Ideal → Track → Moment → Bool) → is_kept clause guest all ≡ true → clause pass.course.ideal pass.track moment ≡ true
  at_it clause h = (and_parts (is_kept clause guest moments) (clause pass.course.ideal pass.track moment) (sym (kept_all clause) ∙ h)).1

  with_it : (clause : Ideal → Track → Moment → Bool) → is_kept clause guest moments ≡ true → clause pass.course.ideal pass.track moment ≡ true → is_kept clause guest all ≡ true
  with_it clause h k = kept_all clause ∙ and_from (is_kept clause guest moments) (clause pass.course.ideal pass.track moment) h k

  abbrev IsBegunIn : Course → ℕ → Type 0
  IsBegunIn course actor = (call : Call) → call_of course actor ≡ Some call → IsBegun (course.signals actor) guest.shape actor call

  goes : IsLegal guest all → GoesOnLegally guest pass moment
  goes is = record {
    next = subst (λ course. IsNext course moment) (sym course_is) (goes_before (opening_course guest) moments (moment ∷ []) is.history).1.0;
    begun = subst (λ course. IsBegunIn course (actor_of moment)) later_is (is.begun (actor_of moment));
    answered = ap (may_all_be_answered guest) (sym later_pass) ∙ (sym (one_pass guest all) ∙ is.acknowledge);
    interface = at_it (of_event is_fresh_at_interface) is.interface;
    end = at_it (of_event is_fresh_at_end) is.end;
    deactivation = at_it of_end is.deactivation;
  }

  begun_all : IsLegal guest moments → GoesOnLegally guest pass moment → (actor : ℕ) → IsBegunIn (gone_on pass.course moment) actor
  begun_all is goes actor = elim (cases_eq actor (actor_of moment)) [
    | inl same ↦ subst (IsBegunIn (gone_on pass.course moment)) (sym same) goes.begun
    | inr differ ↦ others_begun guest.shape pass.course actor (subst (λ course. IsBegunIn course actor) (sym course_is) (is.begun actor)) moment differ
  ]

  legal : IsLegal guest moments → GoesOnLegally guest pass moment → IsLegal guest all
  legal is goes = record {
    history = goes_after (opening_course guest) moments (moment ∷ []) is.history (subst (λ course. IsNext course moment) course_is goes.next, tt);
    begun = λ actor. subst (λ course. IsBegunIn course actor) (sym later_is) (begun_all is goes actor);
    acknowledge = one_pass guest all ∙ (ap (may_all_be_answered guest) later_pass ∙ goes.answered);
    interface = with_it (of_event is_fresh_at_interface) is.interface goes.interface;
    end = with_it (of_event is_fresh_at_end) is.end goes.end;
    deactivation = with_it of_end is.deactivation goes.deactivation;
  }

pub go_on : LegalListsGoOn
go_on = record { none = none_legal; one = λ guest moments moment is. (goes guest moments moment, legal guest moments moment is) }
