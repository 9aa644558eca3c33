-- Events that say nothing which can be.
use Rattle.std.proofs.Common.{◌≡◌, ℕ, true, false, List, ◌∷◌, map, Option, Some, sym, ap, ◌∙◌, subst, true≢false}
use Rattle.std.specs.Prelude.{option_and_then}
use Rattle.std.proofs.lemmas.Option.{cond_some}
use Rattle.trace_read.specs.declared.trace.Act.{Act}
use Rattle.legal_play.specs.Calls.{Event, Moment, Happens, Operation, Happened, CanHappen}
use Rattle.legal_play.specs.Histories.{Ideal, vcpu_of, course_of, handed_out, GoesOn}
use Rattle.legal_play.proofs.LegalSteps.CourseLemmas.{goes_before}
use Rattle.trace_told.specs.Given.{gives}
use Rattle.trace_told.specs.Told.{event_told, reading, places_before, places_after, moments_round, with_reads, event_moments}
use Rattle.trace_told.specs.Untold.{IsEventUntold}
use Rattle.trace_told.proofs.ReadLemmas.{reads_keep}

-- what it says is this event's
said : (ideal : Ideal) (actor : ℕ) (operation : Option Operation) (piece : List Happened) (act : Act) (event : Event) (moments : List Moment) → event_told ideal (vcpu_of ideal.guest.shape actor) operation piece act ≡ Some event
    → event_moments ideal actor operation piece act ≡ Some moments → (gives act (handed_out ideal event) ≡ true) × (moments_round ideal actor piece event ≡ moments)
said ideal actor operation piece act event moments is told =
    cond_some (gives act (handed_out ideal event)) (moments_round ideal actor piece event) moments (sym (ap (option_and_then (with_reads ideal actor piece act)) is) ∙ told)

-- the guest cannot have it
pub cannot : (ideal : Ideal) (actor : ℕ) (operation : Option Operation) (piece : List Happened) (act : Act) (event : Event) → event_told ideal (vcpu_of ideal.guest.shape actor) operation piece act ≡ Some event
    → (CanHappen ideal.guest.shape event → ⊥) → IsEventUntold ideal actor operation piece act
cannot ideal actor operation piece act event is never course moments same told goes =
    let found = handed_out ideal event in
    let before = map (reading ideal actor) (places_before ideal (vcpu_of ideal.guest.shape actor) piece event) in
    let after = map (reading ideal actor) (places_after event found) in
    let rest = (goes_before course before (Happens actor event found ∷ after) (subst (GoesOn course) (sym (said ideal actor operation piece act event moments is told).1) goes)).1 in
    let here : (course_of course before).ideal ≡ ideal = reads_keep ideal actor course (places_before ideal (vcpu_of ideal.guest.shape actor) piece event) ∙ same in
    never (subst (λ state. CanHappen state.guest.shape event) here rest.0.can)

-- what is given is not what is there
pub ungiven : (ideal : Ideal) (actor : ℕ) (operation : Option Operation) (piece : List Happened) (act : Act) (event : Event) → event_told ideal (vcpu_of ideal.guest.shape actor) operation piece act ≡ Some event
    → gives act (handed_out ideal event) ≡ false → IsEventUntold ideal actor operation piece act
ungiven ideal actor operation piece act event is no-gives course moments same told goes = true≢false (sym (said ideal actor operation piece act event moments is told).0 ∙ no-gives)
