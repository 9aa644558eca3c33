-- Each state of a history is sound, whatever its ITS has mapped.
use Rattle.std.proofs.Common.{◌≡◌, ℕ, ◌<◌, ◌==◌, ◌||◌, not, Bool, true, false, cond, IsTrue, inl, inr, All, List, [], ◌∷◌, map, find, length, Option, option_map, Some, None, is_none, refl, sym, subst}
use Rattle.std.specs.Option.{option_map_or}
use Rattle.std.proofs.lemmas.Bool.{cases_lt}
use Rattle.std.proofs.lemmas.List.{get_or_past}
use Rattle.std.proofs.lemmas.List.Elements.{All-nil, All-head, All-tail, All-get_or, All-replicate, All-set, All-push, All-weaker, All-map, All-filter}
use Rattle.std.proofs.lemmas.Option.{same_Some}
use Rattle.port_ops.specs.Words.{IccReg, Key, GuestShape, has_interrupt, intid_of, IsShape, Irq, cleared, has_active_state}
use Rattle.port_ops.proofs.GicBase.KeyLemmas.{same_key}
use Rattle.port_ops.specs.Registers.{Candidate, taken_by, deactivated_by, AtInterface, candidates_at, acknowledged_entry, deactivated_entry, acknowledged_at, deactivated_at}
use Rattle.port_ops.specs.Calls.{Event, Up, Down, Touch, Reach, Take, Leave, Enable, Cpu, Put, CtlrBegin, CtlrEnd, ItsBegin, Moment, Begin, Happens, Runs, Done, Stalls, Entry, Moved, reached, taken, left, IsEntryOf, IsMovedOf, CanHappen, has_wire}
use Rattle.port_ops.specs.GicCall.declared.event.Event.TheVariants.{Raise, Read, ItsEnd, Queue}
use Rattle.port_ops.specs.GicCall.declared.event.Moment.TheVariants.{End}
use Rattle.guest_end.proofs.GicCall.MoveLemmas.{reached_valid, taken_valid, left_valid}
use Rattle.law_core_is_history.specs.Histories.{IdealGuest, irq_at, cpu_at, IsIdealRecord, IsSound, Course, GoesOn, gone_on, course_of, opening_course, IsHistory, last_of, happened, after_take, after_leave, with_entry, without, standing_of, Ideal, Standing, standing_at, is_of, shown_at, interface_at, with_irq, with_standing, CanOpen}
use Rattle.guest_end.proofs.IdealGuests.OpeningLemmas.{empty_valid}
use Rattle.guest_end.proofs.IdealGuests.SoundLemmas.{sound_with_maps, sound_put, sound_with_cpu, cpu_valid, cpu_after_valid}
use Rattle.law_core_is_history.specs.GicHistory.Moves.{after_access}
use Rattle.law_core_is_history.specs.GicHistory.State.{opening}
use Rattle.guest_end.proofs.GicIdeal.SoundEvents.{sound_event}
use Rattle.law_core_is_history.proofs.LawHistories.LatchMoves.{acked, ended, acked_each, ended_each}
use Rattle.law_core_is_history.specs.Core.{no_maps}

-- Moves.

no_rise : (key : Key) → IsTrue (has_wire key || not false)
no_rise key = of (has_wire key)
  where
    of : (b : Bool) → IsTrue (b || true)
    of true = refl
    of false = refl

either_rise : (b one two : Bool) → IsTrue (b || not one) → IsTrue (b || not two) → IsTrue (b || not (one || two))
either_rise true one two h k = refl
either_rise false true two h k = h
either_rise false false two h k = k

-- an interrupt at an interface: its record is valid, the interface has of it what it can have, and nothing rose that has no wire
record IsMove (shape : GuestShape) (key : Key) (moved : Moved) : Type 0 where
  pub irq : IsIdealRecord shape key moved.irq
  pub entry : IsEntryOf key moved.entry
  pub wired : IsTrue (has_wire key || not moved.entry.rise)

reached_so : (shape : GuestShape) (key : Key) (irq : Irq) → IsIdealRecord shape key irq → IsMove shape key (reached irq)
reached_so shape key irq is = of (is_none irq.act_by) (reached_valid shape key irq is.valid)
  where
    of : (b : Bool) → IsMovedOf shape key (cond b (record { irq = cleared irq; entry = record { pending = true; active = false; rise = irq.rise; soft = irq.soft } }) (record { irq = irq; entry = record { pending = false; active = true; rise = false; soft = false } }))
        → IsMove shape key (cond b (record { irq = cleared irq; entry = record { pending = true; active = false; rise = irq.rise; soft = irq.soft } }) (record { irq = irq; entry = record { pending = false; active = true; rise = false; soft = false } }))
    of true valid = record { irq = record { valid = valid.irq; home = record { unheld = is.home.unheld; unwanted = is.home.unwanted }; unrisen = no_rise key }; entry = valid.entry; wired = is.unrisen }
    of false valid = record { irq = is; entry = valid.entry; wired = no_rise key }

taken_so : (shape : GuestShape) (key : Key) (moved : Moved) → IsMove shape key moved → IsMove shape key (taken moved)
taken_so shape key moved is =
    let valid = taken_valid shape key moved (record { irq = is.irq.valid; entry = is.entry }) in
    record { irq = record { valid = valid.irq; home = record { unheld = is.irq.home.unheld; unwanted = is.irq.home.unwanted }; unrisen = no_rise key }; entry = valid.entry; wired = is.irq.unrisen }

left_so : (shape : GuestShape) (key : Key) (vcpu : ℕ) (moved : Moved) → IsShape shape → vcpu < shape.vcpus → IsMove shape key moved → IsIdealRecord shape key (left vcpu moved)
left_so shape key vcpu moved good there is =
    record {
      valid = left_valid shape key vcpu moved good there (record { irq = is.irq.valid; entry = is.entry });
      home = record { unheld = is.irq.home.unheld; unwanted = is.irq.home.unwanted };
      unrisen = either_rise (has_wire key) moved.irq.rise moved.entry.rise is.irq.unrisen is.wired;
    }

-- States.

-- the guest with nothing mapped
abbrev pub unmapped : IdealGuest → IdealGuest
unmapped guest = record guest { tables = no_maps }

pub record CanStand (one : Standing) : Type 0 where
  pub entry : IsEntryOf one.key one.entry
  pub wired : IsTrue (has_wire one.key || not one.entry.rise)

pub record IsSteady (state : Ideal) : Type 0 where
  pub guest : IsSound (unmapped state.guest)
  pub standing : All (All CanStand) state.at

steady_moved : (state : Ideal) (key : Key) (vcpu : ℕ) (irq : Irq) (standing : List Standing) → IsSteady state → IsIdealRecord state.guest.shape key irq → All CanStand standing → IsSteady (with_standing (with_irq state key irq) vcpu standing)
steady_moved state key vcpu irq standing steady valid stand =
    record { guest = sound_put (unmapped state.guest) key irq steady.guest (λ there. valid); standing = All-set (All CanStand) state.at vcpu standing stand steady.standing }

here_stand : (state : Ideal) (vcpu : ℕ) → IsSteady state → All CanStand (standing_at state vcpu)
here_stand state vcpu steady = elim (cases_lt vcpu (length state.at)) [
  | inl l ↦ All-get_or (All CanStand) state.at vcpu [] l steady.standing
  | inr past ↦ subst (All CanStand) (sym (get_or_past state.at vcpu [] past)) (All-nil CanStand)
]

-- what is found of an interrupt there
found_stand : (key : Key) (xs : List Standing) (one : Standing) → All CanStand xs → find (is_of key) xs ≡ Some one → CanStand (record one { key = key })
found_stand key [] one all e = absurd (cc)
found_stand key (x ∷ xs) one all e = of (is_of key x) refl e (found_stand key xs one (All-tail CanStand x xs all))
  where
    of : (b : Bool) → is_of key x ≡ b → cond b (Some x) (find (is_of key) xs) ≡ Some one → (find (is_of key) xs ≡ Some one → CanStand (record one { key = key })) → CanStand (record one { key = key })
    of true same e later = subst (λ (s : Standing). CanStand (record s { key = key })) (same_Some x one e) (subst (λ k. CanStand (record x { key = k })) (same_key x.key key same) (All-head CanStand x xs all))
    of false same e later = later e

abbrev put_entry : Key → Entry → Standing → Standing
put_entry key entry one = cond (is_of key one) (record one { entry = entry }) one

entry_stand : (key : Key) (entry : Entry) (xs : List Standing) → IsEntryOf key entry → IsTrue (has_wire key || not entry.rise) → All CanStand xs → All CanStand (with_entry key entry xs)
entry_stand key entry xs is wired all = All-map CanStand (put_entry key entry) xs (All-weaker CanStand (λ x. CanStand (put_entry key entry x)) put_stands xs all)
  where
    put_stands : (x : Standing) → CanStand x → CanStand (put_entry key entry x)
    put_stands x can = of (is_of key x) refl
      where
        of : (b : Bool) → is_of key x ≡ b → CanStand (cond b (record x { entry = entry }) x)
        of true same = subst (λ k. CanStand (record { key = k; entry = entry })) (sym (same_key x.key key same)) (record { entry = is; wired = wired })
        of false same = can

-- an interrupt that stands there, with its record
abbrev moved_by : Ideal → Key → Standing → Moved
moved_by state key one = record { irq = irq_at state.guest key; entry = one.entry }

here_move : (state : Ideal) (vcpu : ℕ) (key : Key) (one : Standing) → IsSteady state → IsTrue (has_interrupt state.guest.shape key) → find (is_of key) (standing_at state vcpu) ≡ Some one → IsMove state.guest.shape key (moved_by state key one)
here_move state vcpu key one steady there e = let can = found_stand key (standing_at state vcpu) one (here_stand state vcpu steady) e in record { irq = steady.guest.records key there; entry = can.entry; wired = can.wired }

steady_take : (state : Ideal) (key : Key) (vcpu : ℕ) → IsTrue (has_interrupt state.guest.shape key) → IsSteady state → IsSteady (after_take key vcpu state)
steady_take state key vcpu there steady = of (find (is_of key) (standing_at state vcpu)) refl
  where
    of : (o : Option Standing) → find (is_of key) (standing_at state vcpu) ≡ o
        → IsSteady (option_map_or (λ (moved : Moved). with_standing (with_irq state key (taken moved).irq) vcpu (with_entry key (taken moved).entry (standing_at state vcpu))) (option_map (moved_by state key) o) state)
    of None e = steady
    of (Some one) e =
        let moved = taken_so state.guest.shape key (moved_by state key one) (here_move state vcpu key one steady there e) in
        steady_moved state key vcpu (taken (moved_by state key one)).irq (with_entry key (taken (moved_by state key one)).entry (standing_at state vcpu)) steady moved.irq
        (entry_stand key (taken (moved_by state key one)).entry (standing_at state vcpu) moved.entry moved.wired (here_stand state vcpu steady))

steady_leave : (state : Ideal) (key : Key) (vcpu : ℕ) → IsTrue (has_interrupt state.guest.shape key) → vcpu < state.guest.shape.vcpus → IsSteady state → IsSteady (after_leave key vcpu state)
steady_leave state key vcpu there few steady = of (find (is_of key) (standing_at state vcpu)) refl
  where
    of : (o : Option Standing) → find (is_of key) (standing_at state vcpu) ≡ o
        → IsSteady (option_map_or (λ (moved : Moved). with_standing (with_irq state key (left vcpu moved)) vcpu (without key (standing_at state vcpu))) (option_map (moved_by state key) o) state)
    of None e = steady
    of (Some one) e =
        steady_moved state key vcpu (left vcpu (moved_by state key one)) (without key (standing_at state vcpu)) steady
        (left_so state.guest.shape key vcpu (moved_by state key one) steady.guest.shape few (here_move state vcpu key one steady there e))
        (All-filter (λ one. not (is_of key one)) CanStand (standing_at state vcpu) (here_stand state vcpu steady))

-- Accesses of a CPU interface.

abbrev CanShow : AtInterface → Type 0
CanShow at = CanStand (standing_of at)

acked_show : (taken : Option Candidate) (one : AtInterface) → CanShow one → CanShow (acked taken one)
acked_show None one can = can
acked_show (Some found) one can = of (intid_of one.key == found.id)
  where
    kind : (b : Bool) → IsTrue (not b || b)
    kind true = refl
    kind false = refl

    of : (b : Bool) → CanShow (cond b (acknowledged_entry one) one)
    of true = record { entry = record { kind = kind (has_active_state one.key); causes = refl }; wired = no_rise one.key }
    of false = can

ended_show : (id : Option ℕ) (one : AtInterface) → CanShow one → CanShow (ended id one)
ended_show None one can = can
ended_show (Some id) one can = of (intid_of one.key == id)
  where
    of : (b : Bool) → CanShow (cond b (deactivated_entry one) one)
    of true = record { entry = record { kind = refl; causes = can.entry.causes }; wired = can.wired }
    of false = can

accessed_stand : (taken : Option Candidate) (id : Option ℕ) (at : List AtInterface) → All CanShow at → All CanStand (map standing_of (deactivated_at id (acknowledged_at taken at)))
accessed_stand taken id at all =
    All-map CanStand standing_of (deactivated_at id (acknowledged_at taken at))
    (subst (All CanShow) (sym (ended_each id (acknowledged_at taken at)))
    (All-map CanShow (ended id) (acknowledged_at taken at) (All-weaker CanShow (λ one. CanShow (ended id one)) (ended_show id) (acknowledged_at taken at)
    (subst (All CanShow) (sym (acked_each taken at)) (All-map CanShow (acked taken) at (All-weaker CanShow (λ one. CanShow (acked taken one)) (acked_show taken) at all))))))

steady_access : (state : Ideal) (vcpu : ℕ) (reg : IccReg) (write : Option ℕ) → IsSteady state → IsSteady (after_access vcpu reg write state)
steady_access state vcpu reg write steady =
    let cpu = cpu_at state.guest vcpu in
    let among = candidates_at (interface_at state vcpu) in
    record {
      guest = sound_with_cpu (unmapped state.guest) vcpu _ steady.guest (cpu_after_valid reg write cpu among (cpu_valid state.guest.cpus vcpu steady.guest.interfaces));
      standing =
          All-set (All CanStand) state.at vcpu _
          (accessed_stand (taken_by reg write cpu among) (deactivated_by reg write cpu) (map (shown_at state) (standing_at state vcpu)) (All-map CanShow (shown_at state) (standing_at state vcpu) (here_stand state vcpu steady)))
          steady.standing;
    }

-- Histories.

steady_event : (actor : ℕ) (event : Event) (state : Ideal) → CanHappen state.guest.shape event → IsSteady state → IsSteady (happened actor event state)
steady_event actor (Reach key vcpu) state can steady =
    let moved = reached_so state.guest.shape key (irq_at state.guest key) (steady.guest.records key can.0) in
    steady_moved state key vcpu (reached (irq_at state.guest key)).irq _ steady moved.irq
    (All-push CanStand (standing_at state vcpu) (record { key = key; entry = (reached (irq_at state.guest key)).entry }) (here_stand state vcpu steady) (record { entry = moved.entry; wired = moved.wired }))
steady_event actor (Take key vcpu) state can steady = steady_take state key vcpu can.0 steady
steady_event actor (Leave key vcpu) state can steady = steady_leave state key vcpu can.0 can.1 steady
steady_event actor (Cpu vcpu reg write) state can steady = steady_access state vcpu reg write steady
steady_event actor (Raise key) state can steady = record { guest = sound_event (unmapped state.guest) (Raise key) steady.guest can; standing = steady.standing }
steady_event actor (Up key) state can steady = record { guest = sound_event (unmapped state.guest) (Up key) steady.guest can; standing = steady.standing }
steady_event actor (Down key) state can steady = record { guest = sound_event (unmapped state.guest) (Down key) steady.guest can; standing = steady.standing }
steady_event actor (Touch key touching) state can steady = record { guest = sound_event (unmapped state.guest) (Touch key touching) steady.guest can; standing = steady.standing }
steady_event actor (Enable vcpu) state can steady = record { guest = sound_event (unmapped state.guest) (Enable vcpu) steady.guest can; standing = steady.standing }
steady_event actor (Put word value) state can steady = record { guest = sound_event (unmapped state.guest) (Put word value) steady.guest can; standing = steady.standing }
steady_event actor (CtlrBegin enables) state can steady = record { guest = sound_event (unmapped state.guest) (CtlrBegin enables) steady.guest can; standing = steady.standing }
steady_event actor (Queue offset Runs) state can steady = record { guest = sound_event (unmapped state.guest) (Queue offset Runs) steady.guest can; standing = steady.standing }
steady_event actor (Queue offset (Done words)) state can steady = record { guest = sound_event (unmapped state.guest) (Queue offset Runs) steady.guest can; standing = steady.standing }
steady_event actor (Queue offset (Stalls fault)) state can steady = record { guest = sound_event (unmapped state.guest) (Queue offset (Stalls fault)) steady.guest can; standing = steady.standing }
steady_event actor (Read place) state can steady = steady
steady_event actor CtlrEnd state can steady = record { guest = steady.guest; standing = steady.standing }
steady_event actor ItsBegin state can steady = record { guest = steady.guest; standing = steady.standing }
steady_event actor ItsEnd state can steady = record { guest = steady.guest; standing = steady.standing }

steady_goes : (course : Course) (moments : List Moment) → IsSteady course.ideal → GoesOn course moments → IsSteady (course_of course moments).ideal
steady_goes course [] steady going = steady
steady_goes course (Begin actor operation ∷ moments) steady going = steady_goes (gone_on course (Begin actor operation)) moments steady going.1
steady_goes course (Happens actor event found ∷ moments) steady going = steady_goes (gone_on course (Happens actor event found)) moments (steady_event actor event course.ideal going.0.can steady) going.1
steady_goes course (End actor answer ∷ moments) steady going = steady_goes (gone_on course (End actor answer)) moments steady going.1

steady_opens : (guest : IdealGuest) → CanOpen guest → IsSteady (opening guest)
steady_opens guest good = record { guest = sound_with_maps guest no_maps good.sound (empty_valid guest.shape); standing = All-replicate (All CanStand) guest.shape.vcpus [] (All-nil CanStand) }

pub steady_last : (guest : IdealGuest) (moments : List Moment) → CanOpen guest → IsHistory guest moments → IsSteady (last_of guest moments)
steady_last guest moments good history = steady_goes (opening_course guest) moments (steady_opens guest good) history
