-- What stands at an interface and was not changed since it got there stands as it was reached, in each state of a history.
use Rattle.std.proofs.Common.{◌≡◌, ℕ, true≢false, false, IsTrue, List, [], ◌∷◌, fold, filter, length, Option, option_map, Some, None, refl, sym, ap, ◌∙◌, subst}
use Rattle.std.specs.Option.{option_map_or}
use Rattle.std.proofs.lemmas.Bool.{and_parts}
use Rattle.std.proofs.lemmas.List.{length-replicate}
use Rattle.law_home_commutes.specs.Words.{Key, GuestShape, interrupt_count, IsShape}
use Rattle.law_home_commutes.specs.Calls.{Event, Up, Down, Touch, Reach, Take, Leave, Enable, Cpu, Put, CtlrBegin, CtlrEnd, ItsBegin, Found, Moment, Begin, Happens, Entry, may_reach, may_take, CanHappen}
use Rattle.law_home_commutes.specs.GicCall.declared.event.Event.TheVariants.{Raise, Read, ItsEnd, Queue}
use Rattle.law_home_commutes.specs.GicCall.declared.event.Moment.TheVariants.{End}
use Rattle.law_home_commutes.specs.Histories.{irq_at, cpu_at, Course, GoesOn, IsHistory, IsNext, gone_on, opening_course, is_allowed, happened, Ideal, is_home, is_of, IdealGuest, CanOpen}
use Rattle.law_home_commutes.specs.GicHistory.State.{opening}
use Rattle.law_home_commutes.proofs.LawHistories.LatchLaw.{empty_at}
use Rattle.law_home_commutes.proofs.LawHistories.StandLemmas.{of_key, standing_of_key}
use Rattle.law_home_commutes.proofs.HomeLaws.{opens_tidy, moment_tidy}
use Rattle.law_home_commutes.proofs.SpotLemmas.{Spot, IsSpot, IsTidy, IsFoundAt, moved_of, not_found, is_found, found_at}
use Rattle.law_scans_miss_none.specs.LawRegistersStand.Followed.{Followed, follows, opening_followed, followed_by}
use Rattle.law_scans_miss_none.proofs.TrackLemmas.{happens_changes, changes_each}
use Rattle.law_accesses_show_home.specs.Stay.{StandsAsReached}
use Rattle.law_accesses_show_home.proofs.StayAccess.{access_stays}
use Rattle.law_accesses_show_home.proofs.StayEvents.{AllAsReached, other_stays, reach_stays, take_stays, leave_stays}
use Rattle.law_accesses_show_home.proofs.StayLemmas.{stands_so}

-- An event.

module _ (shape : GuestShape) (good : IsShape shape) (at : Followed) (tidy : IsTidy shape at.ideal) (each : length at.track.changes ≡ interrupt_count shape) (before : AllAsReached shape at) (actor : ℕ) (found : Found) where
  -- where one may be taken it stands there
  taken_at :
      (key : Key) (w : ℕ) → CanHappen shape (Take key w) → IsTrue (is_allowed at.ideal actor (Take key w)) → (spot : Option Spot) → IsSpot shape key (of_key at.ideal key) spot → IsFoundAt at.ideal key w spot
      → AllAsReached shape (follows at (Happens actor (Take key w) found))
  taken_at key w can allowed spot is (not_found none empty) =
      absurd (true≢false (sym allowed ∙ ap (λ o. option_map_or (λ moved. may_take at.ideal.guest.shape key moved w (cpu_at at.ideal.guest w)) (option_map (moved_of at.ideal key) o) false) none))
  taken_at key w can allowed None is (is_found one e same f) = absurd (cc)
  taken_at key w can allowed (Some spot) is (is_found one e same f) =
      let so : spot ≡ one = some_same spot one e in
      let there : spot.vcpu ≡ w = ap (λ (s : Spot). s.vcpu) so ∙ same in
      take_stays shape good at tidy each before actor key w found can.1 can.0 spot.entry (subst (λ v. of_key at.ideal key v ≡ standing_of_key key spot.entry ∷ []) there is.here)
      (subst (λ (s : GuestShape). IsTrue (may_take s key (record { irq = irq_at at.ideal.guest key; entry = spot.entry }) w (cpu_at at.ideal.guest w))) tidy.shape_is
      (subst (λ (n : Entry). IsTrue (may_take at.ideal.guest.shape key (record { irq = irq_at at.ideal.guest key; entry = n }) w (cpu_at at.ideal.guest w))) (ap (λ (s : Spot). s.entry) (sym so))
      (sym (ap (λ o. option_map_or (λ moved. may_take at.ideal.guest.shape key moved w (cpu_at at.ideal.guest w)) (option_map (moved_of at.ideal key) o) false) f) ∙ allowed)))
    where
      some_same : (a b : Spot) → Some a ≡ Some b → a ≡ b
      some_same a b e = cc

  event_stays : (event : Event) → CanHappen shape event → IsTrue (is_allowed at.ideal actor event) → AllAsReached shape (follows at (Happens actor event found))
  event_stays (Reach key w) can allowed =
      let both = and_parts (is_home at.ideal key) (may_reach at.ideal.guest.shape key (irq_at at.ideal.guest key) w (cpu_at at.ideal.guest w)) allowed in
      reach_stays shape good at tidy each before actor key w found can.1 can.0 both.0 (subst (λ (s : GuestShape). IsTrue (may_reach s key (irq_at at.ideal.guest key) w (cpu_at at.ideal.guest w))) tidy.shape_is both.1)
  event_stays (Take key w) can allowed = taken_at key w can allowed (tidy.placed key).spot (tidy.placed key).is (found_at shape at.ideal key w (tidy.placed key).spot (tidy.placed key).is)
  event_stays (Leave key w) can allowed = leave_stays shape good at tidy each before actor key w found can.1 can.0
  event_stays (Cpu w reg write) can allowed = access_stays shape good at tidy each before actor w reg write found can
  event_stays (Raise key) can allowed = other_stays shape good at tidy each before actor (Raise key) found can refl
  event_stays (Up key) can allowed = other_stays shape good at tidy each before actor (Up key) found can refl
  event_stays (Down key) can allowed = other_stays shape good at tidy each before actor (Down key) found can refl
  event_stays (Enable w) can allowed = other_stays shape good at tidy each before actor (Enable w) found can refl
  event_stays (Touch key touching) can allowed = other_stays shape good at tidy each before actor (Touch key touching) found can refl
  event_stays (Read place) can allowed = other_stays shape good at tidy each before actor (Read place) found can refl
  event_stays (Put word value) can allowed = other_stays shape good at tidy each before actor (Put word value) found can refl
  event_stays (CtlrBegin enables) can allowed = other_stays shape good at tidy each before actor (CtlrBegin enables) found can refl
  event_stays CtlrEnd can allowed = other_stays shape good at tidy each before actor CtlrEnd found can refl
  event_stays ItsBegin can allowed = other_stays shape good at tidy each before actor ItsBegin found can refl
  event_stays ItsEnd can allowed = other_stays shape good at tidy each before actor ItsEnd found can refl
  event_stays (Queue offset change) can allowed = other_stays shape good at tidy each before actor (Queue offset change) found can refl

-- Along a history.

-- a state of a history, with what the history says of its interrupts
pub record IsAlong (shape : GuestShape) (course : Course) (at : Followed) : Type 0 where
  pub same : course.ideal ≡ at.ideal
  pub tidy : IsTidy shape at.ideal
  pub each : length at.track.changes ≡ interrupt_count shape
  pub all : AllAsReached shape at

module _ (shape : GuestShape) (good : IsShape shape) where
  pub moment_along : (course : Course) (at : Followed) (moment : Moment) → IsNext course moment → IsAlong shape course at → IsAlong shape (gone_on course moment) (follows at moment)
  moment_along course at (Begin actor operation) next is =
      record { same = is.same; tidy = is.tidy; each = is.each; all = λ key vcpu entry here none. let so = is.all key vcpu entry here none in record { pending = so.pending; leaves = so.leaves } }
  moment_along course at (End actor answer) next is =
      record { same = is.same; tidy = is.tidy; each = is.each; all = λ key vcpu entry here none. let so = is.all key vcpu entry here none in record { pending = so.pending; leaves = so.leaves } }
  moment_along course at (Happens actor event found) next is =
      let can : CanHappen shape event = subst (λ s. CanHappen s event) (ap (λ (i : Ideal). i.guest.shape) is.same ∙ is.tidy.shape_is) next.can in
      record {
        same = ap (happened actor event) is.same;
        tidy = subst (λ (i : Ideal). IsTidy shape (happened actor event i)) is.same (moment_tidy shape course (Happens actor event found) next (subst (IsTidy shape) (sym is.same) is.tidy));
        each = ap length (happens_changes shape good at.ideal actor event found at.track is.tidy.shape_is can) ∙ changes_each shape good actor event at.track can ∙ is.each;
        all = event_stays shape good at is.tidy is.each is.all actor found event can (subst (λ (i : Ideal). IsTrue (is_allowed i actor event)) is.same next.allowed);
      }

  moments_along : (course : Course) (at : Followed) (moments : List Moment) → GoesOn course moments → IsAlong shape course at → AllAsReached shape (fold follows at moments) × IsTidy shape (fold follows at moments).ideal
  moments_along course at [] going is = (is.all, is.tidy)
  moments_along course at (moment ∷ moments) going is = moments_along (gone_on course moment) (follows at moment) moments going.1 (moment_along course at moment going.0 is)

pub opens_along : (guest : IdealGuest) → CanOpen guest → IsAlong guest.shape (opening_course guest) (opening_followed guest)
opens_along guest good = record {
  same = refl;
  tidy = opens_tidy guest good;
  each = length-replicate (interrupt_count guest.shape) _;
  all = λ key vcpu entry here none. absurd (let empty : of_key (opening guest) key vcpu ≡ [] = ap (filter (is_of key)) (empty_at guest.shape.vcpus vcpu) in cc);
}

-- so it is of all at the end of a history
pub stand_so : (guest : IdealGuest) (moments : List Moment) → CanOpen guest → IsHistory guest moments → AllAsReached guest.shape (followed_by guest moments) × IsTidy guest.shape (followed_by guest moments).ideal
stand_so guest moments good history = moments_along guest.shape good.sound.shape (opening_course guest) (opening_followed guest) moments history (opens_along guest good)

pub stands_as_reached : StandsAsReached
stands_as_reached guest moments vcpu standing good history few there none =
    let along = stand_so guest moments good history in
    along.0 standing.key vcpu standing.entry (stands_so guest.shape (followed_by guest moments).ideal along.1 vcpu standing there) none
