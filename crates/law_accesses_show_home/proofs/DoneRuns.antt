-- What a call that goes on changed at an interface is among what it has done, in each state of a history.
use Rattle.std.proofs.Common.{◌≡◌, ℕ, ◌+◌, ◌<◌, ◌≤◌, ◌==◌, ◌&&◌, inl, inr, true≢false, not, true, IsTrue, List, [], ◌∷◌, fold, length, replicate, slice_index_or, zero, suc, Contains, Option, Some, None, is_some, refl, sym, ap, ◌∙◌, subst, arith, false}
use Rattle.std.proofs.lemmas.Bool.{cases_eq, and_parts, eqb-true}
use Rattle.std.proofs.lemmas.List.{length-replicate, length-set}
use Rattle.law_home_commutes.specs.Words.{Key, GuestShape, has_interrupt, interrupt_count, place_of, IsShape}
use Rattle.law_home_commutes.specs.Calls.{Event, Reach, Leave, Found, Moment, Begin, Happens, Entry, CanHappen}
use Rattle.law_home_commutes.specs.GicCall.declared.event.Moment.TheVariants.{End}
use Rattle.law_home_commutes.specs.Histories.{Turn, Doing, Changes, doing_of, changes_of, changed_by, with_doing, Call, Course, GoesOn, IsCallEnded, IsNext, actor_count, call_of, gone_on, opening_course, is_allowed, Ideal, is_of, standing_at, IdealGuest, CanOpen}
use Rattle.law_home_commutes.proofs.LawHistories.CourseLemmas.{IsCourse, goes, opens}
use Rattle.law_home_commutes.proofs.LawHistories.StandLemmas.{of_key, standing_of_key, any_nowhere}
use Rattle.law_home_commutes.proofs.SpotLemmas.{Spot, IsSpot, IsTidy}
use Rattle.law_scans_miss_none.proofs.VcpuRefill.ElementLemmas.{Contains-nothing}
use Rattle.law_scans_miss_none.specs.Excuse.{is_current}
use Rattle.law_scans_miss_none.specs.LawRegistersStand.Followed.{Followed, follows, opening_followed, followed_by}
use Rattle.law_scans_miss_none.proofs.TrackLemmas.{doing_here, doing_other, happens_doings, since_reach}
use Rattle.law_accesses_show_home.specs.Done.{ChangesAreDone}
use Rattle.law_accesses_show_home.proofs.DoneLemmas.{numbers_up, turns_before, still_done, now_done}
use Rattle.law_accesses_show_home.proofs.ListLemmas.{none_passes, some_in_range}
use Rattle.law_accesses_show_home.proofs.StayEvents.{since_is}
use Rattle.law_accesses_show_home.proofs.StayRuns.{IsAlong, moment_along, opens_along}
use Rattle.law_accesses_show_home.proofs.StoodLemmas.{Stood, came, stood, stood_by}

-- what a change of an interrupt says of the call that made it: its number is no later than the actor's, and where the interrupt stands at an interface and the call goes on it has done an event of it
pub record AreDone (shape : GuestShape) (at : Followed) : Type 0 where
  pub actors : length at.track.doings ≡ actor_count shape
  pub numbers : (key : Key) → IsTrue (has_interrupt shape key) → (turn : Turn) → Contains (changes_of shape at.track key).since turn → turn.number ≤ (doing_of at.track turn.actor).number
  pub done :
      (key : Key) → IsTrue (has_interrupt shape key) → (vcpu : ℕ) (entry : Entry) → of_key at.ideal key vcpu ≡ standing_of_key key entry ∷ [] → (turn : Turn) → Contains (changes_of shape at.track key).since turn → IsTrue (is_current at.track turn)
      → Contains (doing_of at.track turn.actor).done key

module _ (shape : GuestShape) (good : IsShape shape) where
  -- an actor's call begins or ends: no turn of its calls before goes on
  module _ (at : Followed) (are : AreDone shape at) (actor : ℕ) (doing : Doing) (in_it : actor < length at.track.doings) (later : (doing_of at.track actor).number ≤ doing.number)
      (over : (turn : Turn) → turn.number ≤ (doing_of at.track actor).number → IsTrue (is_some doing.operation && doing.number == turn.number) → ⊥) where
    turned : AreDone shape (record { ideal = at.ideal; track = with_doing actor doing at.track })
    turned = record {
      actors = length-set at.track.doings actor doing ∙ are.actors;
      numbers = λ key there turn h. elim (cases_eq turn.actor actor) [
        | inl e ↦ subst (λ (d : Doing). turn.number ≤ d.number) (sym (subst (λ n. doing_of (with_doing actor doing at.track) n ≡ doing) (sym e) (doing_here actor doing at.track in_it))) (omega (arith, later, subst (λ n. turn.number ≤ (doing_of at.track n).number) e (are.numbers key there turn h)))
        | inr differ ↦ subst (λ (d : Doing). turn.number ≤ d.number) (sym (doing_other actor turn.actor doing at.track differ)) (are.numbers key there turn h)
      ];
      done = λ key there vcpu entry here turn h current. elim (cases_eq turn.actor actor) [
        | inl e ↦ absurd (over turn (subst (λ n. turn.number ≤ (doing_of at.track n).number) e (are.numbers key there turn h)) (subst (λ (d : Doing). IsTrue (is_some d.operation && d.number == turn.number)) (subst (λ n. doing_of (with_doing actor doing at.track) n ≡ doing) (sym e) (doing_here actor doing at.track in_it)) current))
        | inr differ ↦ subst (λ (d : Doing). Contains d.done key) (sym (doing_other actor turn.actor doing at.track differ)) (are.done key there vcpu entry here turn h (subst (λ (d : Doing). IsTrue (is_some d.operation && d.number == turn.number)) (doing_other actor turn.actor doing at.track differ) current))
      ];
    }

  -- An event.

  module _ (course : Course) (at : Followed) (along : IsAlong shape course at) (are : AreDone shape at) (actor : ℕ) (found : Found) (in_it : actor < length at.track.doings) where
    event_done : (event : Event) → CanHappen shape event → IsTrue (is_allowed at.ideal actor event) → AreDone shape (follows at (Happens actor event found))
    event_done event can allowed = record {
      actors = happens_doings shape good at.ideal actor event found at.track along.tidy.shape_is can ∙ are.actors;
      numbers = λ key there turn h. elim (turns_before shape good at.ideal at.track actor event found along.tidy.shape_is can along.each in_it key there turn h) [
        | inl old ↦ omega (arith, are.numbers key there turn old, numbers_up shape good at.ideal at.track actor event found along.tidy.shape_is can along.each in_it turn.actor)
        | inr new ↦ subst (λ (t : Turn). t.number ≤ (doing_of (follows at (Happens actor event found)).track t.actor).number) (sym new.0) (numbers_up shape good at.ideal at.track actor event found along.tidy.shape_is can along.each in_it actor)
      ];
      done = λ key there vcpu entry here turn h current. elim (turns_before shape good at.ideal at.track actor event found along.tidy.shape_is can along.each in_it key there turn h) [
        | inl old ↦ still_done shape good at.ideal at.track actor event found along.tidy.shape_is can along.each in_it turn (are.numbers key there turn old) current key (λ before. by_old key there turn old before vcpu (stood_by shape good at along.tidy along.each along.all actor found event can allowed key vcpu entry here) h)
        | inr new ↦ subst (λ (t : Turn). Contains (doing_of (follows at (Happens actor event found)).track t.actor).done key) (sym new.0) (now_done shape good at.ideal at.track actor event found along.tidy.shape_is can along.each in_it key new.1 (λ w e. not_left key vcpu (stood_by shape good at along.tidy along.each along.all actor found event can allowed key vcpu entry here) w e new.1))
      ];
    }
      where
        not_left : (key : Key) (vcpu : ℕ) → Stood at.ideal event key vcpu → (w : ℕ) → event ≡ Leave key w → changed_by event ≡ Some key → ⊥
        not_left key vcpu (came v e) w f changed = absurd (cc)
        not_left key vcpu (stood before stays) w f changed = stays w f

        by_old : (key : Key) → IsTrue (has_interrupt shape key) → (turn : Turn) → Contains (changes_of shape at.track key).since turn → IsTrue (is_current at.track turn) → (vcpu : ℕ) → Stood at.ideal event key vcpu
            → Contains (changes_of shape (follows at (Happens actor event found)).track key).since turn → Contains (doing_of at.track turn.actor).done key
        by_old key there turn old before vcpu (stood stands stays) h = are.done key there vcpu stands.entry stands.here turn old before
        by_old key there turn old before vcpu (came w e) h = absurd (Contains-nothing turn (subst (λ (ts : List Turn). Contains ts turn) (came_none w e) h))
          where
            came_none : (w : ℕ) → event ≡ Reach key w → (changes_of shape (follows at (Happens actor event found)).track key).since ≡ []
            came_none w e = since_is shape good at along.tidy along.each along.all actor event found can key ∙ since_reach shape good actor event at.track can key there along.each w e

  -- Along a history.

  pub record IsAlongDone (course : Course) (at : Followed) : Type 0 where
    pub along : IsAlong shape course at
    pub are : AreDone shape at
    pub is_course : IsCourse shape course

  pub in_range : (course : Course) (at : Followed) → IsAlongDone course at → (actor : ℕ) → actor < actor_count shape → actor < length at.track.doings
  in_range course at is actor h = subst (λ n. actor < n) (sym is.are.actors) h

  pub moment_done : (course : Course) (at : Followed) (moment : Moment) → IsNext course moment → IsAlongDone course at → IsAlongDone (gone_on course moment) (follows at moment)
  moment_done course at (Begin actor operation) next is = record {
    along = moment_along shape good course at (Begin actor operation) next is.along;
    are = turned at is.are actor (record { operation = Some operation; number = (doing_of at.track actor).number + 1; done = []; fetched = false }) (in_range course at is actor (subst (λ (s : GuestShape). actor < actor_count s) is.is_course.shape_is next.0)) (omega arith)
        (λ turn low current. let both = and_parts true ((doing_of at.track actor).number + 1 == turn.number) current in absurd (omega (arith, low, eqb-true ((doing_of at.track actor).number + 1) turn.number both.1)));
    is_course = goes shape course (Begin actor operation) is.is_course;
  }
  moment_done course at (Happens actor event found) next is = record {
    along = moment_along shape good course at (Happens actor event found) next is.along;
    are = event_done course at is.along is.are actor found (in_range course at is actor (subst (λ n. actor < n) is.is_course.each (called (call_of course actor) refl next.within))) event (subst (λ s. CanHappen s event) is.is_course.shape_is next.can) (subst (λ (i : Ideal). IsTrue (is_allowed i actor event)) is.along.same next.allowed);
    is_course = goes shape course (Happens actor event found) is.is_course;
  }
    where
      called : (o : Option Call) → call_of course actor ≡ o → IsTrue (is_some o) → actor < length course.calls
      called None e h = absurd (cc)
      called (Some call) e h = some_in_range course.calls actor (ap is_some e)
  moment_done course at (End actor answer) next is = record {
    along = moment_along shape good course at (End actor answer) next is.along;
    are = turned at is.are actor (record (doing_of at.track actor) { operation = None }) (in_range course at is actor (subst (λ n. actor < n) is.is_course.each (called (call_of course actor) refl next))) (omega arith) (λ turn low current. absurd (cc));
    is_course = goes shape course (End actor answer) is.is_course;
  }
    where
      called : (o : Option Call) → call_of course actor ≡ o → IsCallEnded (course.signals actor) course.ideal.guest.shape actor o answer → actor < length course.calls
      called None e h = absurd h
      called (Some call) e h = some_in_range course.calls actor (ap is_some e)

  moments_done : (course : Course) (at : Followed) (moments : List Moment) → GoesOn course moments → IsAlongDone course at → AreDone shape (fold follows at moments) × IsTidy shape (fold follows at moments).ideal
  moments_done course at [] going is = (is.are, is.along.tidy)
  moments_done course at (moment ∷ moments) going is = moments_done (gone_on course moment) (follows at moment) moments going.1 (moment_done course at moment going.0 is)

pub opens_done : (guest : IdealGuest) → (good : CanOpen guest) → IsAlongDone guest.shape good.sound.shape (opening_course guest) (opening_followed guest)
opens_done guest good = record {
  along = opens_along guest good;
  are = record {
    actors = length-replicate (actor_count guest.shape) _;
    numbers = λ key there turn h. absurd (Contains-nothing turn (subst (λ (c : Changes). Contains c.since turn) (none_changed (interrupt_count guest.shape) (place_of guest.shape key)) h));
    done = λ key there vcpu entry here turn h current. absurd (Contains-nothing turn (subst (λ (c : Changes). Contains c.since turn) (none_changed (interrupt_count guest.shape) (place_of guest.shape key)) h));
  };
  is_course = opens guest good;
}
  where
    none_changed : (n place : ℕ) → slice_index_or (replicate n (let c : Changes = record { last = None; since = [] } in c)) place (record { last = None; since = [] }) ≡ record { last = None; since = [] }
    none_changed zero place = refl
    none_changed (suc n) zero = refl
    none_changed (suc n) (suc place) = none_changed n place

pub changes_are_done : ChangesAreDone
changes_are_done guest moments key turn good history there away changed current = of (so.1.placed key).spot (so.1.placed key).is
  where
    so : AreDone guest.shape (followed_by guest moments) × IsTidy guest.shape (followed_by guest moments).ideal
    so = moments_done guest.shape good.sound.shape (opening_course guest) (opening_followed guest) moments history (opens_done guest good)

    of : (spot : Option Spot) → IsSpot guest.shape key (of_key (followed_by guest moments).ideal key) spot → Contains (doing_of (followed_by guest moments).track turn.actor).done key
    of None is = absurd (true≢false (sym (ap not (any_nowhere (is_of key) (followed_by guest moments).ideal.at (λ n. none_passes (is_of key) (standing_at (followed_by guest moments).ideal n) (is n)))) ∙ away))
    of (Some one) is = so.0.done key there one.vcpu one.entry is.here turn changed current
