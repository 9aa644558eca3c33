-- What the eager controller makes of some parts after others.
use Rattle.std.proofs.Common.{◌≡◌, ℕ, All, List, [], ◌∷◌, ◌++◌, Option, refl, sym, ap, ◌∙◌, subst}
use Rattle.std.proofs.lemmas.List.Elements.{All-head, All-tail}
use Rattle.std.proofs.lemmas.List.Sums.{fold-append}
use Rattle.law_found_parts_are_calls.specs.Words.{GuestShape}
use Rattle.law_found_parts_are_calls.specs.Calls.{Operation, Residence}
use Rattle.law_found_parts_are_calls.specs.Histories.{IdealGuest, after_events}
use Rattle.law_found_parts_are_calls.specs.Core.{CoreState, after_moment, end_of_moments}
use Rattle.law_found_parts_are_calls.specs.LawLoneCallsAreEager.LoneCalls.{IsEagerCall, eager_events, eager_read}
use Rattle.law_found_parts_are_calls.specs.LawLoneCallsAreEager.Runs.{AnswerEagerly, LoneCall, eager_after, eager_after_all}
use Rattle.law_found_parts_are_calls.specs.LawSerialIsEager.Serial.{WholePart, call_of, calls_of, moments_in, moments_of}
use Rattle.seq_guest.specs.PePlace.Parts.{HaveCall, by_actor}

pub calls_append : (shape : GuestShape) (state : CoreState) (early late : List WholePart) → calls_of shape state (early ++ late) ≡ calls_of shape state early ++ calls_of shape (end_of_moments shape state (moments_of early)) late
calls_append shape state [] late = refl
calls_append shape state (part ∷ early) late =
    ap (λ calls. call_of shape state part ∷ calls)
    (calls_append shape (end_of_moments shape state (moments_in part)) early late
    ∙ ap (λ after. calls_of shape (end_of_moments shape state (moments_in part)) early ++ calls_of shape after late) (sym (fold-append (after_moment shape) state (moments_in part) (moments_of early))))

pub eager_append : (early late : List LoneCall) (guest : IdealGuest) → eager_after_all (early ++ late) guest ≡ eager_after_all late (eager_after_all early guest)
eager_append [] late guest = refl
eager_append (call ∷ early) late guest = eager_append early late (eager_after call guest)

pub answers_append : (early late : List LoneCall) (guest : IdealGuest) → AnswerEagerly (early ++ late) guest → AnswerEagerly late (eager_after_all early guest)
answers_append [] late guest answers = answers
answers_append (call ∷ early) late guest answers = answers_append early late (eager_after call guest) answers.1

-- Residences do nothing.

abbrev Resides : WholePart → Type 0
Resides one = one.operation ≡ Residence

pub residences_do_nothing : (shape : GuestShape) (state : CoreState) (parts : List WholePart) (guest : IdealGuest) → All Resides parts → eager_after_all (calls_of shape state parts) guest ≡ guest
residences_do_nothing shape state [] guest all = refl
residences_do_nothing shape state (part ∷ parts) guest all =
    let next = end_of_moments shape state (moments_in part) in
    let rest = residences_do_nothing shape next parts guest (All-tail Resides part parts all) in
    ap (λ operation. eager_after_all (calls_of shape next parts) (after_events (eager_events operation part.actor guest) guest)) (All-head Resides part parts all) ∙ rest

-- One call among them does what it does, and answers that.

pub one_call_does : (shape : GuestShape) (state : CoreState) (actor : ℕ) (operation : Operation) (answer : Option ℕ) (parts : List WholePart) (guest : IdealGuest) → HaveCall actor operation answer parts → AnswerEagerly (calls_of shape state parts) guest
    → IsEagerCall actor operation answer guest (eager_after_all (calls_of shape state parts) guest)
one_call_does shape state actor operation answer parts guest have answers =
    let whole = by_actor actor have.call in
    let mid = end_of_moments shape state (moments_of have.early) in
    let after = end_of_moments shape mid (moments_in whole) in
    let first = calls_of shape state have.early in
    let then = calls_of shape after have.late in
    let one : LoneCall = call_of shape mid whole in
    let split : calls_of shape state parts ≡ first ++ one ∷ then = ap (calls_of shape state) have.split ∙ calls_append shape state have.early (whole ∷ have.late) in
    let still : eager_after_all first guest ≡ guest = residences_do_nothing shape state have.early guest have.before.each in
    let read = answers_append first (one ∷ then) guest (subst (λ calls. AnswerEagerly calls guest) split answers) in
    record {
      goes =
          ap (λ calls. eager_after_all calls guest) split
          ∙ eager_append first (one ∷ then) guest
          ∙ ap (λ g. eager_after_all then (eager_after one g)) still
          ∙ residences_do_nothing shape after have.late (eager_after one guest) have.after.each
          ∙ ap (λ op. after_events (eager_events op actor guest) guest) have.operation_is;
      answers = sym have.answer_is ∙ read.0 ∙ ap (λ g. eager_read have.call.operation actor g) still ∙ ap (λ op. eager_read op actor guest) have.operation_is;
    }
