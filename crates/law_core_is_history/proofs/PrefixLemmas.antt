-- The beginning of a run with its parts is one too.
use Rattle.std.proofs.Common.{◌≡◌, ℕ, ◌<◌, ◌==◌, ◌&&◌, not, Bool, true, false, IsTrue, All, List, [], ◌∷◌, ◌++◌, map, filter, fold, Option, option_map, Some, None, is_some, is_none, refl, sym, ap, ◌∙◌, subst}
use Rattle.std.proofs.lemmas.Bool.{and_parts, and_from}
use Rattle.std.proofs.lemmas.List.{map-append, get_or-replicate}
use Rattle.std.proofs.lemmas.List.Elements.{All-nil, All-cons, All-head, All-tail, All-from_get_or, filter-append, filter_map-append}
use Rattle.law_lines_translate.specs.Words.{GuestShape}
use Rattle.law_lines_translate.specs.Histories.{Call, Course, call_of, course_of, opening_course, IsWhole, IdealGuest, CanOpen}
use Rattle.law_lines_translate.specs.Core.{actor_count, CoreState, opening, seat_at, IsRun, after_moment, ideal_moments, ideal_of, Act, begins, makes, ends, CoreMoment, own_acts, step_of, entry_by, entries_of, are_parts, has_registers, IsPartedRun}
use Rattle.law_lines_translate.proofs.PortCore.RunLemmas.{run_splits}
use Rattle.law_core_is_history.specs.Laws.{AreCalls}
use Rattle.law_core_is_history.specs.Whole.{within_after, AreEnded}
use Rattle.law_core_is_history.proofs.HistorySteps.{run_leads}

entries_both : (early late : List CoreMoment) → entries_of (early ++ late) ≡ entries_of early ++ entries_of late
entries_both early late = filter_map-append (λ (moment : CoreMoment). option_map (entry_by moment.actor) (step_of moment.act)) early late

pub own_both : (actor : ℕ) (early late : List CoreMoment) → own_acts actor (early ++ late) ≡ own_acts actor early ++ own_acts actor late
own_both actor early late =
    ap (map (λ (moment : CoreMoment). moment.act)) (filter-append (λ (moment : CoreMoment). moment.actor == actor) early late)
    ∙ map-append (λ (moment : CoreMoment). moment.act) (filter (λ (moment : CoreMoment). moment.actor == actor) early) (filter (λ (moment : CoreMoment). moment.actor == actor) late)

parts_before : (shape : GuestShape) (actor : ℕ) (within : Bool) (early late : List Act) → are_parts shape actor within (early ++ late) ≡ true → are_parts shape actor within early ≡ true
parts_before shape actor within [] late h = refl
parts_before shape actor within (begins operation lrs ∷ acts) late h =
    let parts = and_parts (not within && has_registers shape actor lrs) (are_parts shape actor true (acts ++ late)) h in
    and_from (not within && has_registers shape actor lrs) (are_parts shape actor true acts) parts.0 (parts_before shape actor true acts late parts.1)
parts_before shape actor within (makes made ∷ acts) late h =
    let parts = and_parts within (are_parts shape actor within (acts ++ late)) h in and_from within (are_parts shape actor within acts) parts.0 (parts_before shape actor within acts late parts.1)
parts_before shape actor within (ends answer ∷ acts) late h =
    let parts = and_parts within (are_parts shape actor false (acts ++ late)) h in and_from within (are_parts shape actor false acts) parts.0 (parts_before shape actor false acts late parts.1)

all_before : (P : CoreMoment → Type 0) (early late : List CoreMoment) → All P (early ++ late) → All P early
all_before P [] late all = All-nil P
all_before P (moment ∷ moments) late all = All-cons P moment moments (All-head P moment (moments ++ late) all) (all_before P moments late (All-tail P moment (moments ++ late) all))

pub parted_before : (guest : IdealGuest) (number : ℕ) (early late : List CoreMoment) → IsPartedRun guest number (early ++ late) → IsPartedRun guest number early
parted_before guest number early late parted = record {
  run = (run_splits guest.shape (opening guest number) (entries_of early) (entries_of late) (subst (IsRun guest.shape (opening guest number)) (entries_both early late) parted.run)).0;
  actors = all_before (λ (moment : CoreMoment). moment.actor < actor_count guest.shape) early late parted.actors;
  parts = λ actor there. parts_before guest.shape actor false (own_acts actor early) (own_acts actor late) (ap (are_parts guest.shape actor false) (sym (own_both actor early late)) ∙ parted.parts actor there);
}

pub calls_before : (shape : GuestShape) (state : CoreState) (course : Course) (early late : List CoreMoment) → AreCalls shape state course (early ++ late) → AreCalls shape state course early
calls_before shape state course [] late calls = tt
calls_before shape state course (moment ∷ moments) late calls =
    (calls.0, calls_before shape (after_moment shape state moment) (course_of course (ideal_moments shape (seat_at state moment.actor) moment.actor moment.act)) moments late calls.1)

-- A run whose parts have all ended stands for a history whose calls have.

not_some : (o : Option Call) → is_some o ≡ false → IsTrue (is_none o)
not_some None e = refl
not_some (Some call) e = absurd (cc)

pub whole_is : (guest : IdealGuest) (number : ℕ) (moments : List CoreMoment) → CanOpen guest → IsPartedRun guest number moments → AreCalls guest.shape (opening guest number) (opening_course guest) moments → AreEnded guest.shape moments
    → IsWhole guest (ideal_of guest.shape (opening guest number) moments)
whole_is guest number moments good parted calls ended =
    let leads = run_leads guest number moments good parted calls in
    All-from_get_or (λ (call : Option Call). IsTrue (is_none call)) (course_of (opening_course guest) (ideal_of guest.shape (opening guest number) moments)).calls None
    (λ actor within.
    let there : actor < actor_count guest.shape = subst (λ n. actor < n) leads.at.each within in
    let none : is_some (call_of (opening_course guest) actor) ≡ false = ap is_some (get_or-replicate (actor_count guest.shape) actor None None there) in
    not_some (call_of (course_of (opening_course guest) (ideal_of guest.shape (opening guest number) moments)) actor) (leads.calls actor there ∙ ap (λ b. fold within_after b (own_acts actor moments)) none ∙ ended actor there))
