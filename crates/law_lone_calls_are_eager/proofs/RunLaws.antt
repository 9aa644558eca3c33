-- Calls, one after the other, while nobody else acts.
use Rattle.std.proofs.Common.{◌≡◌, ℕ, ◌<◌, zero, suc, IsTrue, List, [], ◌∷◌, ◌++◌, fold, replicate, slice_index_or, Option, None, is_none, refl, sym, ap, ◌∙◌, subst}
use Rattle.std.specs.List.{range_with_len}
use Rattle.std.proofs.lemmas.List.{append-nil, append_assoc}
use Rattle.std.proofs.lemmas.List.Elements.{All-replicate}
use Rattle.law_home_commutes.specs.Words.{GuestShape}
use Rattle.law_home_commutes.specs.Calls.{Moment, Operation, Access, Device, Residence, is_good_op, is_good_event}
use Rattle.law_home_commutes.specs.Histories.{IdealGuest, after_events, Ideal, Standing, after_leave, emptied, home, Call, IsHistory, IsWhole, actor_count, opening_course, last_of, CanOpen}
use Rattle.law_home_commutes.specs.GicHistory.State.{opening as opening_ideal}
use Rattle.law_home_commutes.proofs.LawHistories.CourseLemmas.{goes_before}
use Rattle.law_lone_calls_are_eager.specs.LoneCalls.{eager_events, IsLoneCall, IsEagerCall, IsAtRest}
use Rattle.law_lone_calls_are_eager.specs.Runs.{LoneCall, moments_in, moments_of, IsGoodCall, ArePassing, eager_after_all, AnswerEagerly, RunsPassHome}
use Rattle.law_lone_calls_are_eager.proofs.CallLaws.{calls_pass_home}
use Rattle.law_lone_calls_are_eager.proofs.EndLemmas.{calls_end_again}
use Rattle.law_lone_calls_are_eager.proofs.RestLaws.{rest_stays}
use Rattle.law_lone_calls_are_eager.proofs.RunLemmas.{lone_run}

-- As a guest opens, nothing stands at an interface.

none_stands : (count vcpu : ℕ) → slice_index_or (replicate {A = List Standing} count []) vcpu [] ≡ []
none_stands zero vcpu = refl
none_stands (suc count) zero = refl
none_stands (suc count) (suc vcpu) = none_stands count vcpu

none_leaves : (guest : IdealGuest) (vcpus : List ℕ) → fold emptied (opening_ideal guest) vcpus ≡ opening_ideal guest
none_leaves guest [] = refl
none_leaves guest (vcpu ∷ vcpus) =
    ap (λ state. fold emptied state vcpus) (ap (λ (at : List Standing). fold (λ now standing. after_leave standing.key vcpu now) (opening_ideal guest) at) (none_stands guest.shape.vcpus vcpu)) ∙ none_leaves guest vcpus

home_opening : (guest : IdealGuest) → home (opening_ideal guest) ≡ guest
home_opening guest = ap (λ (state : Ideal). state.guest) (none_leaves guest (range_with_len 0 guest.shape.vcpus))

opens_whole : (guest : IdealGuest) → IsWhole guest []
opens_whole guest = All-replicate (λ (call : Option Call). IsTrue (is_none call)) (actor_count guest.shape) None refl

-- A guest is at rest after each call.

rest_after : (shape : GuestShape) (actor : ℕ) (operation : Operation) (guest : IdealGuest) → guest.shape ≡ shape → IsAtRest guest → IsGoodCall shape actor operation → (after : IdealGuest) → after ≡ after_events (eager_events operation actor guest) guest → IsAtRest after
rest_after shape actor (Access op) guest same rest good after goes =
    subst IsAtRest (sym goes) (rest_stays.accesses guest actor op rest (subst (λ (s : GuestShape). actor < s.vcpus) (sym same) good.0) (subst (λ s. IsTrue (is_good_op s op)) (sym same) good.1))
rest_after shape actor (Device op) guest same rest good after goes = subst IsAtRest (sym goes) (rest_stays.devices guest op rest (subst (λ s. IsTrue (is_good_event s op)) (sym same) good))
rest_after shape actor Residence guest same rest good after goes = subst IsAtRest (sym goes) rest

-- Call by call.

runs_on :
    (guest : IdealGuest) (calls : List LoneCall) (moments : List Moment) → CanOpen guest → IsWhole guest moments → IsHistory guest (moments ++ moments_of calls) → IsAtRest (home (last_of guest moments)) → ArePassing guest moments calls
    → (home (last_of guest (moments ++ moments_of calls)) ≡ eager_after_all calls (home (last_of guest moments))) × AnswerEagerly calls (home (last_of guest moments))
runs_on guest [] moments good whole history rest passing = (ap (λ ms. home (last_of guest ms)) (append-nil moments), tt)
runs_on guest (call ∷ calls) moments good whole history rest passing =
    let next = moments ++ moments_in call in
    let all : moments ++ (moments_in call ++ moments_of calls) ≡ next ++ moments_of calls = sym (append_assoc moments (moments_in call) (moments_of calls)) in
    let later : IsHistory guest (next ++ moments_of calls) = subst (IsHistory guest) all history in
    let lone : IsLoneCall guest moments call.actor call.operation call.piece call.answer = record { good = good; whole = whole; history = (goes_before (opening_course guest) next (moments_of calls) later).0; shows = passing.0.shows } in
    let run = lone_run guest moments call.actor call.operation call.piece call.answer lone in
    let eager : IsEagerCall call.actor call.operation call.answer (home (last_of guest moments)) (home (last_of guest next)) = calls_pass_home call.operation guest moments call.actor call.piece call.answer lone rest in
    let ends : IsWhole guest next = calls_end_again guest moments call.actor call.operation call.piece call.answer lone in
    let rests : IsAtRest (home (last_of guest next)) = rest_after guest.shape call.actor call.operation (home (last_of guest moments)) run.shape_is rest passing.0.good (home (last_of guest next)) eager.goes in
    let on = runs_on guest calls next good ends later rests passing.1 in (
      ap (λ ms. home (last_of guest ms)) all ∙ on.0 ∙ ap (eager_after_all calls) eager.goes,
      (eager.answers, subst (AnswerEagerly calls) eager.goes on.1),
    )

pub runs_pass_home : RunsPassHome
runs_pass_home guest calls good history passing =
    let rest : IsAtRest (home (last_of guest [])) = subst IsAtRest (sym (home_opening guest)) (rest_stays.opens guest good) in
    let on = runs_on guest calls [] good (opens_whole guest) history rest passing in
    (on.0 ∙ ap (eager_after_all calls) (home_opening guest), subst (AnswerEagerly calls) (home_opening guest) on.1)
