-- Whoever stores where the queue is, or changes for which vCPU an LPI is, has the ITS.
use Rattle.std.proofs.Common.{◌≡◌, ℕ, ◌⊎◌, inl, inr, ◌||◌, not, Bool, true, false, IsTrue, List, [], ◌∷◌, ◌++◌, fold, length, Option, option_map, Some, None, is_none, refl, sym, ap, ◌∙◌, subst, slice_set, arith}
use Rattle.std.proofs.lemmas.Bool.{and_parts, cases_eq, cases_lt}
use Rattle.std.proofs.lemmas.Grind.{fold-append}
use Rattle.std.proofs.lemmas.List.{append_assoc, map-append, length-set, get_or_past}
use Rattle.floor_histories.specs.Words.{GuestShape}
use Rattle.floor_histories.specs.Calls.{Cbaser, Event, Put, ItsBegin, Found, Moment, Begin, Happens, Happened}
use Rattle.floor_histories.specs.GicCall.declared.event.Event.TheVariants.{ItsEnd}
use Rattle.floor_histories.specs.GicCall.declared.event.Moment.TheVariants.{End}
use Rattle.floor_histories.specs.Histories.{Ideal, is_allowed, happened, Call, Course, vcpu_of, call_of, begun, made, seeing, gone_on, course_of, opening_course, IsHappening, IsNext, GoesOn, IsHistory, IsWhole, last_of, IdealGuest, CanOpen}
use Rattle.law_histories.specs.Held.{BasesAreHeld}
use Rattle.law_histories.proofs.CourseLemmas.{IsCourse, opens, nobody_opens, nobody, begun_here, begun_other, ended_here, ended_other, made_here, made_other, noted_piece, call_is, goes, mark_is, course_both, goes_before}
use Rattle.law_histories.proofs.HeldCalls.{is_owned, are_held, held_later, call_held}
use Rattle.law_histories.proofs.ScanCalls.{holds}
use Rattle.law_histories.proofs.SpreadLemmas.{events_of}
use Rattle.law_histories.proofs.SyncLaw.{finally, goes_all}
use Rattle.law_histories.proofs.TurnSteps.{events_more, TurnKind, plain, takes_turn, frees_turn, kind_of}

-- a call that took the ITS and did not give it back has it
abbrev HaveIt : Course → Type 0
HaveIt course = (actor : ℕ) (call : Call) → call_of course actor ≡ Some call → fold holds false (events_of call.piece) ≡ true → course.ideal.has_its ≡ Some actor

pub none_some : {X : Type 0} {T : Type 0} {x : X} {o : Option X} → o ≡ None → o ≡ Some x → T
none_some n s = absurd (cc)

pub same_call : (one other : Call) → Some one ≡ Some other → one ≡ other
same_call one other e = cc

pub same_number : (m n : ℕ) → Some m ≡ Some n → m ≡ n
same_number m n e = cc

-- who has it after an event had it before, or takes it
came : (event : Event) (b : Bool) → holds b event ≡ true → (b ≡ true) ⊎ (event ≡ ItsBegin)
came ItsBegin b h = inr refl
came ItsEnd b h = absurd (cc)
came event b h = inl h

module _ (shape : GuestShape) (course : Course) (at : IsCourse shape course) (have : HaveIt course) where
  event_has : (actor : ℕ) (event : Event) (found : Found) → IsHappening course actor event found → HaveIt (gone_on course (Happens actor event found))
  event_has actor event found next other call is held = elim (cases_eq other actor) [
    | inl e ↦ mine e
    | inr differ ↦ others differ (call_of course other) refl (sym (made_other course actor event found other differ) ∙ is)
  ]
    where
      later : Ideal
      later = happened actor event course.ideal

      by_kind : TurnKind actor event course.ideal → holds true event ≡ true → course.ideal.has_its ≡ Some actor → later.has_its ≡ Some actor
      by_kind (plain p) h before = p.has_its ∙ before
      by_kind (takes_turn e) h before = ap (λ ev. (happened actor ev course.ideal).has_its) e
      by_kind (frees_turn e) h before = absurd (over (sym (ap (holds true) e) ∙ h))
        where
          over : false ≡ true → ⊥
          over e = cc

      mine : other ≡ actor → later.has_its ≡ Some other
      mine e =
          let before = call_is (call_of course actor) next.within in
          let now : call ≡ seeing later (made course.ideal event found before.0) = same_call call (seeing later (made course.ideal event found before.0)) (sym is ∙ ap (call_of (gone_on course (Happens actor event found))) e ∙ made_here course actor event found before.0 before.1) in
          let last : holds (fold holds false (events_of before.0.piece)) event ≡ true =
          sym (fold-append holds false (events_of before.0.piece) (event ∷ [])) ∙ ap (fold holds false) (sym (events_more course.ideal event found before.0)) ∙ ap (λ (c : Call). fold holds false (events_of c.piece)) (sym now) ∙ held in
          elim (came event (fold holds false (events_of before.0.piece)) last) [
            | inl so ↦ by_kind (kind_of actor event course.ideal) (ap (λ b. holds b event) (sym so) ∙ last) (have actor before.0 before.1 so) ∙ ap Some (sym e)
            | inr takes ↦ ap (λ ev. (happened actor ev course.ideal).has_its) takes ∙ ap Some (sym e)
          ]

      stays : (other ≡ actor → ⊥) → course.ideal.has_its ≡ Some other → TurnKind actor event course.ideal → later.has_its ≡ Some other
      stays differ before (plain p) = p.has_its ∙ before
      stays differ before (takes_turn e) = absurd (free course.ideal.has_its before (subst (λ ev. IsTrue (is_allowed course.ideal actor ev)) e next.allowed))
        where
          free : (o : Option ℕ) → o ≡ Some other → IsTrue (is_none o) → ⊥
          free None e h = cc
          free (Some n) e h = cc
      stays differ before (frees_turn e) = absurd (differ (same_number other actor (sym before ∙ mark_is actor course.ideal.has_its (subst (λ ev. IsTrue (is_allowed course.ideal actor ev)) e next.allowed))))

      others : (other ≡ actor → ⊥) → (o : Option Call) → call_of course other ≡ o → option_map (seeing later) o ≡ Some call → later.has_its ≡ Some other
      others differ None e h = absurd (cc)
      others differ (Some before) e h =
          stays differ (have other before e (ap (λ (c : Call). fold holds false (events_of c.piece)) (same_call (seeing later before) call h) ∙ held)) (kind_of actor event course.ideal)

  moment_has : (moment : Moment) → IsNext course moment → HaveIt (gone_on course moment)
  moment_has (Begin actor operation) next other call is held = elim (cases_eq other actor) [
    | inl e ↦ fresh e
    | inr differ ↦ have other call (sym (begun_other course actor operation other differ) ∙ is) held
  ]
    where
      none_yet : (c : Call) → c ≡ begun course.ideal operation → fold holds false (events_of c.piece) ≡ true → {T : Type 0} → T
      none_yet c e h = absurd (over (ap (λ (c : Call). fold holds false (events_of c.piece)) (sym e) ∙ h))
        where
          over : false ≡ true → ⊥
          over e = cc

      fresh : other ≡ actor → course.ideal.has_its ≡ Some other
      fresh e = elim (cases_lt actor (length course.calls)) [
        | inl within ↦ none_yet call (same_call call (begun course.ideal operation) (sym is ∙ ap (call_of (gone_on course (Begin actor operation))) e ∙ begun_here course actor operation within)) held
        | inr past ↦ none_some (get_or_past (slice_set course.calls actor (Some (begun course.ideal operation))) actor None (omega (arith, past, length-set course.calls actor (Some (begun course.ideal operation))))) (ap (call_of (gone_on course (Begin actor operation))) (sym e) ∙ is)
      ]
  moment_has (End actor answer) next other call is held = elim (cases_eq other actor) [
    | inl e ↦ none_some (ended_here course actor answer) (ap (call_of (gone_on course (End actor answer))) (sym e) ∙ is)
    | inr differ ↦ have other call (sym (ended_other course actor answer other differ) ∙ is) held
  ]
  moment_has (Happens actor event found) next other call is held = event_has actor event found next other call is held

all_have : (shape : GuestShape) (course : Course) (moments : List Moment) → IsCourse shape course → GoesOn course moments → HaveIt course → HaveIt (course_of course moments)
all_have shape course [] at going have = have
all_have shape course (moment ∷ moments) at going have = all_have shape (gone_on course moment) moments (goes shape course moment at) going.1 (moment_has shape course at have moment going.0)

-- whoever makes such an event has the ITS
pub owned_are_held : (guest : IdealGuest) (early late : List Moment) (actor : ℕ) (event : Event) (found : Found) → is_owned event ≡ true → CanOpen guest → IsHistory guest (early ++ Happens actor event found ∷ late) → IsWhole guest (early ++ Happens actor event found ∷ late)
    → (last_of guest early).has_its ≡ Some actor
owned_are_held guest early late actor event found owned good history whole =
    let shape = guest.shape in
    let one : Happened = record { event = event; found = found } in
    let opened = opens guest good in
    let course = course_of (opening_course guest) early in
    let at = goes_all shape (opening_course guest) early opened in
    let split = goes_before (opening_course guest) early (Happens actor event found ∷ late) history in
    let next = split.1.0 in
    let before = call_is (call_of course actor) next.within in
    let now = seeing (happened actor event course.ideal) (made course.ideal event found before.0) in
    let none = ap (λ c. call_of c actor) (sym (course_both (opening_course guest) early (Happens actor event found ∷ late))) ∙ nobody (course_of (opening_course guest) (early ++ Happens actor event found ∷ late)).calls actor whole in
    let is = finally shape actor (gone_on course (Happens actor event found)) late now (goes shape course (Happens actor event found) at) split.1.1 (made_here course actor event found before.0 before.1) none in
    let pieces : is.last.piece ≡ before.0.piece ++ one ∷ is.rest = is.piece_is ∙ ap (λ p. (p ++ one ∷ []) ++ is.rest) (noted_piece course.ideal event before.0) ∙ append_assoc before.0.piece (one ∷ []) is.rest in
    let events : events_of is.last.piece ≡ events_of before.0.piece ++ event ∷ events_of is.rest = ap events_of pieces ∙ map-append (λ (x : Happened). x.event) before.0.piece (one ∷ is.rest) in
    let held = call_held shape is.ended.beside (vcpu_of shape actor) is.last.operation is.last.piece is.answer is.ended.is_call in
    let here = held_later false (events_of before.0.piece) (event ∷ events_of is.rest) (subst (λ es. IsTrue (are_held false es)) events held) in
    let b = fold holds false (events_of before.0.piece) in
    all_have shape (opening_course guest) early opened split.0 nothing actor before.0 before.1 (ap (λ o. not o || b) (sym owned) ∙ (and_parts (not (is_owned event) || b) (are_held (holds b event) (events_of is.rest)) here).0)
  where
    nothing : HaveIt (opening_course guest)
    nothing other call is held = none_some (nobody_opens guest other) is

pub bases_are_held : BasesAreHeld
bases_are_held guest early late actor value found good history whole = owned_are_held guest early late actor (Put Cbaser value) found refl good history whole
