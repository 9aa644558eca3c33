-- What actors do side by side is a history of the ideal controller, in which each makes its calls.
use Rattle.std.proofs.Common.{◌≡◌, ℕ, ◌<◌, ◌≤◌, ◌==◌, Bool, true, false, cond, if◌then◌else◌, All, List, [], ◌∷◌, ◌++◌, filter, fold, map, Option, Some, None, refl, sym, ap, ◌∙◌, subst, arith}
use Rattle.std.proofs.lemmas.List.Elements.{All-head, All-tail}
use Rattle.law_ends_agree.specs.Words.{GuestShape}
use Rattle.law_ends_agree.specs.Calls.{Moment, Operation, Residence, Happened}
use Rattle.law_ends_agree.specs.Histories.{IdealGuest}
use Rattle.law_found_parts_are_calls.specs.LawEagerIsHistory.Calls.{Made as MadeCall, calls_by, made_of}
use Rattle.law_ends_agree.specs.Core.{Local, Made, actor_count, Seen, CoreState, end_of, opening, opening_local_of, seat_at, stands_for, after_moment, event_moments, ideal_of, Act, CoreMoment, begins, ends, makes, own_acts}
use Rattle.law_ends_agree.proofs.PortCore.OpeningLemmas.{seat_opens}
use Rattle.law_found_parts_are_calls.proofs.CoreProper.PartLemmas.{same_end}
use Rattle.law_found_parts_are_calls.specs.LawCoreIsHistory.Whole.{AreEnded, within_after}
use Rattle.law_found_parts_are_calls.proofs.LawCoreIsHistory.HistorySteps.{own_other, runs_history}
use Rattle.law_found_parts_are_calls.proofs.LawCoreIsHistory.PrefixLemmas.{whole_is}
use Rattle.law_ends_agree.specs.End.{AreEmpty}
use Rattle.law_runs_are_fresh.proofs.FreshRuns.{fresh_runs}
use Rattle.law_ends_agree.proofs.EndRuns.{runs_end}
use Rattle.pe_place.specs.Calls.{calls_in}
use Rattle.pe_place.specs.Parts.{AreCalls, Part, acts_in}
use Rattle.law_threads_are_history.specs.History.{ThreadsAreAHistory}
use Rattle.law_threads_are_history.specs.Woven.{ActorHasDone}
use Rattle.law_threads_are_history.proofs.ThreadRuns.{calls_open}
use Rattle.law_threads_are_history.proofs.ToldParts.{IsIdle, told_by}
use Rattle.law_threads_are_history.proofs.WeaveRuns.{threads_weave}

-- The calls of an actor in a history.

-- those of some acts, where the actor began this one last
abbrev acts_calls : Operation → List Act → List MadeCall
acts_calls current [] = []
acts_calls current (begins operation lrs ∷ acts) = acts_calls operation acts
acts_calls current (makes made ∷ acts) = acts_calls current acts
acts_calls current (ends answer ∷ acts) = made_of current answer (acts_calls current acts)

-- an event is in a call
past_events : (actor other : ℕ) (current : Operation) (o : Option Happened) (rest : List Moment) → calls_by actor current (event_moments other o ++ rest) ≡ calls_by actor current rest
past_events actor other current None rest = refl
past_events actor other current (Some one) rest = refl

module _ (shape : GuestShape) (actor : ℕ) where
  calls_along : (moments : List CoreMoment) (state : CoreState) (current : Operation) → calls_by actor current (ideal_of shape state moments) ≡ acts_calls current (own_acts actor moments)
  calls_along [] state current = refl
  calls_along (moment ∷ moments) state current = by moment.act (calls_along moments)
    where
      begun : (operation : Operation) (lrs : ℕ) (b : Bool) → ((state : CoreState) (current : Operation) → calls_by actor current (ideal_of shape state moments) ≡ acts_calls current (own_acts actor moments))
          → (if b then calls_by actor operation (ideal_of shape state moments) else calls_by actor current (ideal_of shape state moments)) ≡ acts_calls current (map (λ (m : CoreMoment). m.act) (cond b (record { actor = moment.actor; act = begins operation lrs } ∷ filter (λ (m : CoreMoment). m.actor == actor) moments) (filter (λ (m : CoreMoment). m.actor == actor) moments)))
      begun operation lrs true later = later state operation
      begun operation lrs false later = later state current

      made_on : (made : Made) (b : Bool) (next : CoreState) → ((state : CoreState) (current : Operation) → calls_by actor current (ideal_of shape state moments) ≡ acts_calls current (own_acts actor moments))
          → calls_by actor current (ideal_of shape next moments) ≡ acts_calls current (map (λ (m : CoreMoment). m.act) (cond b (record { actor = moment.actor; act = makes made } ∷ filter (λ (m : CoreMoment). m.actor == actor) moments) (filter (λ (m : CoreMoment). m.actor == actor) moments)))
      made_on made true next later = later next current
      made_on made false next later = later next current

      ended : (answer : Option ℕ) (b : Bool) → ((state : CoreState) (current : Operation) → calls_by actor current (ideal_of shape state moments) ≡ acts_calls current (own_acts actor moments))
          → (if b then made_of current answer (calls_by actor current (ideal_of shape state moments)) else calls_by actor current (ideal_of shape state moments)) ≡ acts_calls current (map (λ (m : CoreMoment). m.act) (cond b (record { actor = moment.actor; act = ends answer } ∷ filter (λ (m : CoreMoment). m.actor == actor) moments) (filter (λ (m : CoreMoment). m.actor == actor) moments)))
      ended answer true later = ap (made_of current answer) (later state current)
      ended answer false later = later state current

      by : (act : Act) → ((state : CoreState) (current : Operation) → calls_by actor current (ideal_of shape state moments) ≡ acts_calls current (own_acts actor moments))
          → calls_by actor current (ideal_of shape state (record { actor = moment.actor; act = act } ∷ moments)) ≡ acts_calls current (own_acts actor (record { actor = moment.actor; act = act } ∷ moments))
      by (begins operation lrs) later = begun operation lrs (moment.actor == actor) later
      by (makes made) later =
          past_events actor moment.actor current (stands_for shape moment.actor (seat_at state moment.actor).local (seat_at state moment.actor).own made.step made.found) _
          ∙ made_on made (moment.actor == actor) (after_moment shape state (record { actor = moment.actor; act = makes made })) later
      by (ends answer) later = ended answer (moment.actor == actor) later

-- those of its parts
part_calls : (current : Operation) (steps : List Made) (answer : Option ℕ) (rest : List Act) → acts_calls current ((map makes steps ++ ends answer ∷ []) ++ rest) ≡ made_of current answer (acts_calls current rest)
part_calls current [] answer rest = refl
part_calls current (made ∷ steps) answer rest = part_calls current steps answer rest

parts_calls : (parts : List Part) (current : Operation) → acts_calls current (acts_in parts) ≡ calls_in parts
parts_calls [] current = refl
parts_calls (part ∷ parts) current = part_calls part.operation part.steps part.answer (acts_in parts) ∙ ap (made_of part.operation part.answer) (parts_calls parts part.operation)

-- an actor that the guest has not does nothing
none_other : (count n : ℕ) (moments : List CoreMoment) → count ≤ n → All (λ (moment : CoreMoment). moment.actor < count) moments → own_acts n moments ≡ []
none_other count n [] past all = refl
none_other count n (moment ∷ moments) past all =
    let there = All-head (λ (moment : CoreMoment). moment.actor < count) moment moments all in
    own_other moment.actor n moment.act moments (λ e. absurd (omega (arith, e, there, past))) ∙ none_other count n moments past (All-tail (λ (moment : CoreMoment). moment.actor < count) moment moments all)

-- All parts end.

part_over : (steps : List Made) (answer : Option ℕ) (rest : List Act) → fold within_after true ((map makes steps ++ ends answer ∷ []) ++ rest) ≡ fold within_after false rest
part_over [] answer rest = refl
part_over (made ∷ steps) answer rest = part_over steps answer rest

parts_over : (parts : List Part) → fold within_after false (acts_in parts) ≡ false
parts_over [] = refl
parts_over (part ∷ parts) = part_over part.steps part.answer (acts_in parts) ∙ parts_over parts

-- As the guest opens.

module _ (guest : IdealGuest) (number actor : ℕ) (there : actor < actor_count guest.shape) (own : List Made) (parts : List Part) (done : ActorHasDone guest number actor own parts) where
  abbrev from : Seen
  from = done.from

  told_is : done.from ≡ told_by guest actor done.from (seat_at (opening guest number) actor)
  told_is =
      ap (λ (g : IdealGuest). told_by g from.actor from (record { local = from.local; own = from.own })) done.guest_is
      ∙ ap (λ a. told_by guest a from (record { local = from.local; own = from.own })) done.actor_is
      ∙ ap (λ (l : Local). told_by guest actor from (record { local = l; own = from.own })) done.local_is
      ∙ ap (λ (o : List Made). told_by guest actor from (record { local = opening_local_of guest number actor; own = o })) done.own_is
      ∙ ap (told_by guest actor from) (sym (seat_opens guest number actor there))

  opens_idle : (acts : List Act) → acts ≡ acts_in parts → IsIdle guest actor (seat_at (opening guest number) actor) acts
  opens_idle acts are = record {
    base = from;
    parts = parts;
    acts_are = are;
    told = subst (λ seen. AreCalls seen parts) told_is done.calls;
  }

-- The history.

pub threads_are_a_history : ThreadsAreAHistory
threads_are_a_history guest number world parts good run done =
    let weaves = threads_weave guest number world parts good run done in
    let moments = weaves.moments in
    let woven = weaves.woven in
    let parted = weaves.proper.parted in
    let calls = calls_open guest number moments good parted (λ n there. opens_idle guest number n there _ (parts n) (done n there) (own_acts n moments) (woven.own n there)) in
    let ended : AreEnded guest.shape moments = λ n there. ap (fold within_after false) (woven.own n there) ∙ parts_over (parts n) in
    let state = same_end guest.shape (opening guest number) moments ∙ ap (end_of guest.shape (opening guest number)) woven.entries in
    record {
      moments = moments;
      woven = woven;
      proper = weaves.proper;
      are_calls = calls;
      is = runs_history guest number moments good parted calls;
      fresh = fresh_runs guest number moments good weaves.proper calls ended;
      whole = whole_is guest number moments good parted calls ended;
      calls = record {
        each = λ n there. calls_along guest.shape n moments (opening guest number) Residence ∙ ap (acts_calls Residence) (woven.own n there) ∙ parts_calls (parts n) Residence;
        others = λ n past. calls_along guest.shape n moments (opening guest number) Residence ∙ ap (acts_calls Residence) (none_other (actor_count guest.shape) n moments past parted.actors);
      };
      state = state;
      end = λ empty. runs_end guest number moments good parted calls (subst (AreEmpty guest.shape) (sym state) empty);
    }
