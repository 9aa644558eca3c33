-- What an event leaves of the records, and of what GICD_CTLR and the ITS have.
use Rattle.std.proofs.Common.{◌≡◌, ℕ, Bool, true, false, cond, IsTrue, List, Option, Some, None, refl, sym, ap, ◌∙◌}
use Rattle.std.specs.Option.{option_map_or}
use Rattle.floor_histories.specs.Words.{Key, has_interrupt, is_same_key, Irq, raised, wire_up, wire_down}
use Rattle.floor_histories.proofs.GicBase.KeyLemmas.{same_key}
use Rattle.floor_histories.specs.Calls.{Event, Up, Down, Touch, Reach, Take, Leave, Enable, Cpu, Put, CtlrBegin, CtlrEnd, ItsBegin, Runs, Done, Stalls, Moved, reached, taken, left, touched}
use Rattle.floor_histories.specs.GicCall.declared.event.Event.TheVariants.{Raise, Read, ItsEnd, Queue}
use Rattle.floor_histories.specs.Histories.{IdealGuest, irq_at, changed_irq, Ideal, Standing, standing_at, moved_at, with_irq, with_standing, after_take, after_leave, with_entry, without, happened}
use Rattle.floor_histories.proofs.IdealGuests.KeyLemmas.{IsWhole, whole_changed, irq_changed}

-- Moves.

-- whatever holds of a state and of each that has another record and others at an interface holds after a take and a leave
module _ (P : Ideal → Type 0) (state : Ideal) (key : Key) (vcpu : ℕ) (same : P state) (move : (irq : Irq) (standing : List Standing) → P (with_standing (with_irq state key irq) vcpu standing)) where
  pub take_cases : P (after_take key vcpu state)
  take_cases = of (moved_at state vcpu key)
    where
      of : (o : Option Moved) → P (option_map_or (λ moved. with_standing (with_irq state key (taken moved).irq) vcpu (with_entry key (taken moved).entry (standing_at state vcpu))) o state)
      of None = same
      of (Some moved) = move _ _

  pub leave_cases : P (after_leave key vcpu state)
  leave_cases = of (moved_at state vcpu key)
    where
      of : (o : Option Moved) → P (option_map_or (λ moved. with_standing (with_irq state key (left vcpu moved)) vcpu (without key (standing_at state vcpu))) o state)
      of None = same
      of (Some moved) = move _ _

-- The records.

-- the record of an interrupt after an event
abbrev pub record_after : Event → Ideal → Key → Irq
record_after (Raise other) state key = cond (is_same_key key other) (raised (irq_at state.guest key)) (irq_at state.guest key)
record_after (Up other) state key = cond (is_same_key key other) (wire_up (irq_at state.guest key)) (irq_at state.guest key)
record_after (Down other) state key = cond (is_same_key key other) (wire_down (irq_at state.guest key)) (irq_at state.guest key)
record_after (Touch other touching) state key = cond (is_same_key key other) (touched state.guest.shape other touching (irq_at state.guest key)) (irq_at state.guest key)
record_after (Reach other vcpu) state key = cond (is_same_key key other) (reached (irq_at state.guest key)).irq (irq_at state.guest key)
record_after (Take other vcpu) state key = cond (is_same_key key other) (option_map_or (λ moved. (taken moved).irq) (moved_at state vcpu key) (irq_at state.guest key)) (irq_at state.guest key)
record_after (Leave other vcpu) state key = cond (is_same_key key other) (option_map_or (left vcpu) (moved_at state vcpu key) (irq_at state.guest key)) (irq_at state.guest key)
record_after event state key = irq_at state.guest key

module _ (state : Ideal) (key : Key) (whole : IsWhole state.guest) (there : IsTrue (has_interrupt state.guest.shape key)) where
  -- a record that is put
  put_is : (other : Key) (irq mine : Irq) → (other ≡ key → irq ≡ mine) → irq_at (changed_irq other (λ before. irq) state.guest) key ≡ cond (is_same_key key other) mine (irq_at state.guest key)
  put_is other irq mine same = irq_changed state.guest other key (λ before. irq) whole there ∙ of (is_same_key key other) refl
    where
      of : (b : Bool) → is_same_key key other ≡ b → cond b irq (irq_at state.guest key) ≡ cond b mine (irq_at state.guest key)
      of true e = same (sym (same_key key other e))
      of false e = refl

  reach_is : (other : Key) → irq_at (changed_irq other (λ before. (reached (irq_at state.guest other)).irq) state.guest) key ≡ cond (is_same_key key other) (reached (irq_at state.guest key)).irq (irq_at state.guest key)
  reach_is other = put_is other (reached (irq_at state.guest other)).irq (reached (irq_at state.guest key)).irq (λ e. ap (λ k. (reached (irq_at state.guest k)).irq) e)

  -- a move of another that is not there, or is
  move_is : (other : Key) (vcpu : ℕ) (change : Moved → Irq) (standing : Moved → List Standing)
      → irq_at (option_map_or (λ moved. with_standing (with_irq state other (change moved)) vcpu (standing moved)) (moved_at state vcpu other) state).guest key
      ≡ cond (is_same_key key other) (option_map_or change (moved_at state vcpu key) (irq_at state.guest key)) (irq_at state.guest key)
  move_is other vcpu change standing = first (moved_at state vcpu other) refl
    where
      mine : (o : Option Moved) → moved_at state vcpu other ≡ o → other ≡ key → option_map_or change o (irq_at state.guest key) ≡ option_map_or change (moved_at state vcpu key) (irq_at state.guest key)
      mine o e same = ap (λ m. option_map_or change m (irq_at state.guest key)) (sym e ∙ ap (moved_at state vcpu) same)

      unmoved : (b : Bool) (irq : Irq) → is_same_key key other ≡ b → (other ≡ key → irq_at state.guest key ≡ irq) → irq_at state.guest key ≡ cond b irq (irq_at state.guest key)
      unmoved true irq e same = same (sym (same_key key other e))
      unmoved false irq e same = refl

      first : (o : Option Moved) → moved_at state vcpu other ≡ o
          → irq_at (option_map_or (λ moved. with_standing (with_irq state other (change moved)) vcpu (standing moved)) o state).guest key
          ≡ cond (is_same_key key other) (option_map_or change (moved_at state vcpu key) (irq_at state.guest key)) (irq_at state.guest key)
      first None e = unmoved (is_same_key key other) _ refl (mine None e)
      first (Some moved) e = put_is other (change moved) _ (mine (Some moved) e)

  pub record_is : (actor : ℕ) (event : Event) → irq_at (happened actor event state).guest key ≡ record_after event state key
  record_is actor (Raise other) = irq_changed state.guest other key raised whole there
  record_is actor (Up other) = irq_changed state.guest other key wire_up whole there
  record_is actor (Down other) = irq_changed state.guest other key wire_down whole there
  record_is actor (Touch other touching) = irq_changed state.guest other key (touched state.guest.shape other touching) whole there
  record_is actor (Reach other vcpu) = reach_is other
  record_is actor (Take other vcpu) = move_is other vcpu (λ moved. (taken moved).irq) (λ moved. with_entry other (taken moved).entry (standing_at state vcpu))
  record_is actor (Leave other vcpu) = move_is other vcpu (left vcpu) (λ moved. without other (standing_at state vcpu))
  record_is actor (Enable vcpu) = refl
  record_is actor (Cpu vcpu reg write) = refl
  record_is actor (Read place) = refl
  record_is actor (Put word value) = refl
  record_is actor (CtlrBegin enables) = refl
  record_is actor CtlrEnd = refl
  record_is actor ItsBegin = refl
  record_is actor ItsEnd = refl
  record_is actor (Queue offset Runs) = refl
  record_is actor (Queue offset (Done words)) = refl
  record_is actor (Queue offset (Stalls fault)) = refl

-- there is a record for each interrupt still, of a guest of the same shape
pub record IsSameGuest (before after : IdealGuest) : Type 0 where
  pub shape : after.shape ≡ before.shape
  pub whole : IsWhole before → IsWhole after

changed_same : (key : Key) (change : Irq → Irq) (guest : IdealGuest) → IsSameGuest guest (changed_irq key change guest)
changed_same key change guest = record { shape = refl; whole = whole_changed key change guest }

pub guest_is : (actor : ℕ) (event : Event) (state : Ideal) → IsSameGuest state.guest (happened actor event state).guest
guest_is actor (Raise other) state = changed_same other raised state.guest
guest_is actor (Up other) state = changed_same other wire_up state.guest
guest_is actor (Down other) state = changed_same other wire_down state.guest
guest_is actor (Touch other touching) state = changed_same other (touched state.guest.shape other touching) state.guest
guest_is actor (Reach other vcpu) state = changed_same other (λ before. (reached (irq_at state.guest other)).irq) state.guest
guest_is actor (Take other vcpu) state = take_cases (λ after. IsSameGuest state.guest after.guest) state other vcpu (record { shape = refl; whole = λ w. w }) (λ irq standing. changed_same other (λ before. irq) state.guest)
guest_is actor (Leave other vcpu) state = leave_cases (λ after. IsSameGuest state.guest after.guest) state other vcpu (record { shape = refl; whole = λ w. w }) (λ irq standing. changed_same other (λ before. irq) state.guest)
guest_is actor (Enable vcpu) state = record { shape = refl; whole = λ w. record { shape = w.shape; each = w.each } }
guest_is actor (Cpu vcpu reg write) state = record { shape = refl; whole = λ w. record { shape = w.shape; each = w.each } }
guest_is actor (Read place) state = record { shape = refl; whole = λ w. w }
guest_is actor (Put word value) state = record { shape = refl; whole = λ w. record { shape = w.shape; each = w.each } }
guest_is actor (CtlrBegin enables) state = record { shape = refl; whole = λ w. record { shape = w.shape; each = w.each } }
guest_is actor CtlrEnd state = record { shape = refl; whole = λ w. w }
guest_is actor ItsBegin state = record { shape = refl; whole = λ w. w }
guest_is actor ItsEnd state = record { shape = refl; whole = λ w. w }
guest_is actor (Queue offset Runs) state = record { shape = refl; whole = λ w. record { shape = w.shape; each = w.each } }
guest_is actor (Queue offset (Done words)) state = record { shape = refl; whole = λ w. record { shape = w.shape; each = w.each } }
guest_is actor (Queue offset (Stalls fault)) state = record { shape = refl; whole = λ w. record { shape = w.shape; each = w.each } }
