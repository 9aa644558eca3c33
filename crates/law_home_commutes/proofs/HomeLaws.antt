-- Each state of a history is tidy, and so the laws of the guest with all taken back hold in it.
use Rattle.std.proofs.Common.{◌≡◌, ℕ, false, IsTrue, List, [], ◌∷◌, filter, Option, None, refl, sym, ap, ◌∙◌, subst}
use Rattle.std.specs.Option.{option_map_or}
use Rattle.std.proofs.lemmas.Bool.{and_parts}
use Rattle.std.proofs.lemmas.List.{length-replicate}
use Rattle.law_histories.specs.Words.{Key, GuestShape}
use Rattle.law_histories.specs.Calls.{Event, Up, Down, Touch, Reach, Take, Leave, Enable, Cpu, Put, CtlrBegin, CtlrEnd, ItsBegin, Moment, Begin, Happens, may_reach, may_take, CanHappen}
use Rattle.law_histories.specs.GicCall.declared.event.Event.TheVariants.{Raise, Read, ItsEnd, Queue}
use Rattle.law_histories.specs.GicCall.declared.event.Moment.TheVariants.{End}
use Rattle.law_histories.specs.Histories.{irq_at, cpu_at, Course, IsNext, GoesOn, IsHistory, gone_on, course_of, opening_course, last_of, is_allowed, happened, home, Ideal, is_of, is_home, moved_at, IdealGuest, CanOpen}
use Rattle.law_histories.specs.GicHistory.State.{opening}
use Rattle.law_histories.proofs.LatchLaw.{empty_at, seats_after}
use Rattle.law_histories.proofs.StandLemmas.{of_key}
use Rattle.law_histories.proofs.StateLemmas.{guest_is, take_cases, leave_cases}
use Rattle.law_home_commutes.specs.Home.{is_move}
use Rattle.law_home_commutes.specs.Laws.{MovesKeepHome, EventsPassHome, AccessesPassHome}
use Rattle.law_home_commutes.proofs.AccessLemmas.{cpu_tidy, access_passes}
use Rattle.law_home_commutes.proofs.EventLemmas.{other_tidy, other_passes}
use Rattle.law_home_commutes.proofs.HomeLemmas.{with_irqs, home_irq, home_is, home_rest, home_whole}
use Rattle.law_home_commutes.proofs.MoveLemmas.{IsMoved, tidy_moved, reaches, takes, leaves}
use Rattle.law_home_commutes.proofs.SpotLemmas.{Spot, IsSpot, IsTidy}

-- As a guest opens.

pub opens_tidy : (guest : IdealGuest) → CanOpen guest → IsTidy guest.shape (opening guest)
opens_tidy guest good = record {
  shape_is = refl;
  whole = record { shape = good.sound.shape; each = good.sound.irqs };
  seats = length-replicate guest.shape.vcpus [];
  placed = λ key. record { spot = None; is = λ vcpu. ap (filter (is_of key)) (empty_at guest.shape.vcpus vcpu) };
  records = λ key there. record { valid = (good.sound.records key there).valid; owner = good.own key there };
}

-- A move.

module _ (shape : GuestShape) (state : Ideal) (tidy : IsTidy shape state) (actor : ℕ) where
  moves : (event : Event) → IsTrue (is_move event) → CanHappen shape event → IsTrue (is_allowed state actor event) → (key : Key) (spot : Option Spot) → IsSpot shape key (of_key state key) spot → IsMoved shape key state (happened actor event state) spot
  moves (Raise other) h can allowed key spot is = absurd (cc)
  moves (Up other) h can allowed key spot is = absurd (cc)
  moves (Down other) h can allowed key spot is = absurd (cc)
  moves (Touch other touching) h can allowed key spot is = absurd (cc)
  moves (Reach other vcpu) h can allowed key spot is =
      let both = and_parts (is_home state other) (may_reach state.guest.shape other (irq_at state.guest other) vcpu (cpu_at state.guest vcpu)) allowed in
      reaches shape state tidy vcpu can.1 key other can.0 both.0 (subst (λ s. IsTrue (may_reach s other (irq_at state.guest other) vcpu (cpu_at state.guest vcpu))) tidy.shape_is both.1) spot is
  moves (Take other vcpu) h can allowed key spot is =
      takes shape state tidy vcpu can.1 key other (subst (λ s. IsTrue (option_map_or (λ moved. may_take s other moved vcpu (cpu_at state.guest vcpu)) (moved_at state vcpu other) false)) tidy.shape_is allowed) spot is
  moves (Leave other vcpu) h can allowed key spot is = leaves shape state tidy vcpu can.1 key other spot is
  moves (Enable vcpu) h can allowed key spot is = absurd (cc)
  moves (Cpu vcpu reg write) h can allowed key spot is = absurd (cc)
  moves (Read place) h can allowed key spot is = absurd (cc)
  moves (Put word value) h can allowed key spot is = absurd (cc)
  moves (CtlrBegin enables) h can allowed key spot is = absurd (cc)
  moves CtlrEnd h can allowed key spot is = absurd (cc)
  moves ItsBegin h can allowed key spot is = absurd (cc)
  moves ItsEnd h can allowed key spot is = absurd (cc)
  moves (Queue offset change) h can allowed key spot is = absurd (cc)

  pub move_tidy : (event : Event) → IsTrue (is_move event) → CanHappen shape event → IsTrue (is_allowed state actor event) → IsTidy shape (happened actor event state)
  move_tidy event h can allowed = tidy_moved shape state (happened actor event state) tidy (guest_is actor event state) (seats_after actor event state) (moves event h can allowed)

  -- a move changes records alone
  move_rest : (event : Event) → IsTrue (is_move event) → with_irqs (happened actor event state).guest [] ≡ with_irqs state.guest []
  move_rest (Raise other) h = absurd (cc)
  move_rest (Up other) h = absurd (cc)
  move_rest (Down other) h = absurd (cc)
  move_rest (Touch other touching) h = absurd (cc)
  move_rest (Reach other vcpu) h = refl
  move_rest (Take other vcpu) h = take_cases (λ s. with_irqs s.guest [] ≡ with_irqs state.guest []) state other vcpu refl (λ irq standing. refl)
  move_rest (Leave other vcpu) h = leave_cases (λ s. with_irqs s.guest [] ≡ with_irqs state.guest []) state other vcpu refl (λ irq standing. refl)
  move_rest (Enable vcpu) h = absurd (cc)
  move_rest (Cpu vcpu reg write) h = absurd (cc)
  move_rest (Read place) h = absurd (cc)
  move_rest (Put word value) h = absurd (cc)
  move_rest (CtlrBegin enables) h = absurd (cc)
  move_rest CtlrEnd h = absurd (cc)
  move_rest ItsBegin h = absurd (cc)
  move_rest ItsEnd h = absurd (cc)
  move_rest (Queue offset change) h = absurd (cc)

  pub move_keeps : (event : Event) → IsTrue (is_move event) → CanHappen shape event → IsTrue (is_allowed state actor event) → home (happened actor event state) ≡ home state
  move_keeps event h can allowed =
      home_is shape (happened actor event state) (home state) (move_tidy event h can allowed) (home_whole state tidy.whole) (move_rest event h ∙ sym (home_rest state))
      (λ key there.
      let placed = tidy.placed key in
      let moved = moves event h can allowed key placed.spot placed.is in
      record { spot = moved.then; is = moved.is; irq_is = moved.irq_is there ∙ sym (home_irq shape state tidy key there placed.spot placed.is) })

  -- Each event.

  pub event_tidy : (event : Event) → CanHappen shape event → IsTrue (is_allowed state actor event) → IsTidy shape (happened actor event state)
  event_tidy (Raise other) can allowed = other_tidy shape state tidy actor (Raise other) refl can
  event_tidy (Up other) can allowed = other_tidy shape state tidy actor (Up other) refl can
  event_tidy (Down other) can allowed = other_tidy shape state tidy actor (Down other) refl can
  event_tidy (Touch other touching) can allowed = other_tidy shape state tidy actor (Touch other touching) refl can
  event_tidy (Reach other vcpu) can allowed = move_tidy (Reach other vcpu) refl can allowed
  event_tidy (Take other vcpu) can allowed = move_tidy (Take other vcpu) refl can allowed
  event_tidy (Leave other vcpu) can allowed = move_tidy (Leave other vcpu) refl can allowed
  event_tidy (Enable vcpu) can allowed = other_tidy shape state tidy actor (Enable vcpu) refl can
  event_tidy (Cpu vcpu reg write) can allowed = cpu_tidy shape state tidy vcpu can.0 actor reg write
  event_tidy (Read place) can allowed = other_tidy shape state tidy actor (Read place) refl can
  event_tidy (Put word value) can allowed = other_tidy shape state tidy actor (Put word value) refl can
  event_tidy (CtlrBegin enables) can allowed = other_tidy shape state tidy actor (CtlrBegin enables) refl can
  event_tidy CtlrEnd can allowed = other_tidy shape state tidy actor CtlrEnd refl can
  event_tidy ItsBegin can allowed = other_tidy shape state tidy actor ItsBegin refl can
  event_tidy ItsEnd can allowed = other_tidy shape state tidy actor ItsEnd refl can
  event_tidy (Queue offset change) can allowed = other_tidy shape state tidy actor (Queue offset change) refl can

-- Along a history.

pub moment_tidy : (shape : GuestShape) (course : Course) (moment : Moment) → IsNext course moment → IsTidy shape course.ideal → IsTidy shape (gone_on course moment).ideal
moment_tidy shape course (Begin actor operation) next tidy = tidy
moment_tidy shape course (End actor answer) next tidy = tidy
moment_tidy shape course (Happens actor event found) next tidy = event_tidy shape course.ideal tidy actor event (subst (λ s. CanHappen s event) tidy.shape_is next.can) next.allowed

pub moments_tidy : (shape : GuestShape) (course : Course) (moments : List Moment) → GoesOn course moments → IsTidy shape course.ideal → IsTidy shape (course_of course moments).ideal
moments_tidy shape course [] going tidy = tidy
moments_tidy shape course (moment ∷ moments) going tidy = moments_tidy shape (gone_on course moment) moments going.1 (moment_tidy shape course moment going.0 tidy)

pub history_tidy : (guest : IdealGuest) (moments : List Moment) → CanOpen guest → IsHistory guest moments → IsTidy guest.shape (last_of guest moments)
history_tidy guest moments good history = moments_tidy guest.shape (opening_course guest) moments history (opens_tidy guest good)

pub moves_keep_home : MovesKeepHome
moves_keep_home guest moments actor event good history h can allowed = move_keeps guest.shape (last_of guest moments) (history_tidy guest moments good history) actor event h can allowed

pub events_pass_home : EventsPassHome
events_pass_home guest moments actor event good history h can allowed = other_passes guest.shape (last_of guest moments) (history_tidy guest moments good history) actor event h can allowed

pub accesses_pass_home : AccessesPassHome
accesses_pass_home guest moments actor vcpu reg write good history can shows =
    access_passes guest.shape (last_of guest moments) (history_tidy guest moments good history) vcpu can.0 actor reg write shows
