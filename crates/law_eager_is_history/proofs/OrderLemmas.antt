-- The places of the queue of an ITS stay in order.
use Rattle.std.proofs.Common.{◌≡◌, ℕ, ◌+◌, ◌<◌, zero, suc, Bool, true, false, cond, nat_lt, List, [], ◌∷◌, map, length, Option, Some, None, refl, sym, ap, ◌∙◌, subst, arith}
use Rattle.std.specs.Option.{option_map_or}
use Rattle.std.proofs.lemmas.Grind.{fold-append}
use Rattle.floor_histories.proofs.GicFrame.TestLemmas.{under}
use Rattle.floor_histories.specs.Words.{IccReg, Key, key_of, acknowledged, deactivated}
use Rattle.floor_histories.specs.Registers.{queue_bytes, Candidate, taken_by, deactivated_by, advanced, fault_number}
use Rattle.floor_histories.specs.Calls.{plain_count, Cbaser, Cwriter, Fault, Done, Stalls, lpi_event, command_parts, command_words, command_events, queue_event, next_offset, takes_command}
use Rattle.floor_histories.specs.ItsCmd.Command.{decoded}
use Rattle.floor_histories.specs.GicCall.declared.event.Event.TheVariants.{Queue}
use Rattle.floor_histories.specs.Histories.{IdealGuest, view_of, cpu_at, word_at, candidates, changed_irq, after_acknowledge, after_deactivation, after_event, after_events, after_command, after_commands, IsQueueInOrder, IsSound}
use Rattle.floor_histories.specs.IdealGuests.Ideal.{after_access}
use Rattle.floor_histories.proofs.IdealGuests.QueueLemmas.{kept_parts}
use Rattle.gic_ideal.proofs.SoundEvents.{sound_events}
use Rattle.gic_ideal.proofs.StepLemmas.{command_follows}
use Rattle.law_eager_is_history.proofs.EventLemmas.{shape_events}
use Rattle.law_eager_is_history.proofs.QueueLemmas.{order_as, word_kept}

-- An access of a CPU interface changes none of it.

order_taken : (taken : Option Candidate) (guest : IdealGuest) (vcpu : ℕ) → IsQueueInOrder guest → IsQueueInOrder (after_acknowledge taken guest vcpu)
order_taken None guest vcpu order = order
order_taken (Some found) guest vcpu order = of (key_of found.id vcpu guest.shape)
  where
    of : (o : Option Key) → IsQueueInOrder (option_map_or (λ key. changed_irq key (acknowledged key vcpu) guest) o guest)
    of None = order
    of (Some key) = order_as guest _ order refl refl refl

order_ended : (ended : Option ℕ) (guest : IdealGuest) (vcpu : ℕ) → IsQueueInOrder guest → IsQueueInOrder (after_deactivation ended guest vcpu)
order_ended None guest vcpu order = order
order_ended (Some id) guest vcpu order = of (key_of id vcpu guest.shape)
  where
    of : (o : Option Key) → IsQueueInOrder (option_map_or (λ key. changed_irq key (deactivated vcpu) guest) o guest)
    of None = order
    of (Some key) = order_as guest _ order refl refl refl

pub order_access : (reg : IccReg) (write : Option ℕ) (guest : IdealGuest) (vcpu : ℕ) → IsQueueInOrder guest → IsQueueInOrder (after_access reg write guest vcpu)
order_access reg write guest vcpu order =
    let middle = after_acknowledge (taken_by reg write (cpu_at guest vcpu) (candidates guest vcpu)) guest vcpu in
    let last = order_ended (deactivated_by reg write (cpu_at guest vcpu)) middle vcpu (order_taken (taken_by reg write (cpu_at guest vcpu) (candidates guest vcpu)) guest vcpu order) in
    record { next = last.next; writer = last.writer; place = last.place }

-- A command moves the queue one place on, or stalls it.

advanced_within : (offset bytes : ℕ) → 0 < bytes → advanced offset bytes < bytes
advanced_within offset bytes some = of (nat_lt (offset + 32) bytes) refl
  where
    of : (b : Bool) → nat_lt (offset + 32) bytes ≡ b → cond b (offset + 32) 0 < bytes
    of true e = under (offset + 32) bytes e
    of false e = some

some_bytes : (cbaser : ℕ) → 0 < queue_bytes cbaser
some_bytes cbaser = omega arith

order_done : (guest middle : IdealGuest) (words : List ℕ) → IsQueueInOrder middle → (view_of guest).words Cbaser ≡ word_at middle Cbaser → IsQueueInOrder (after_event middle (Queue (next_offset (view_of guest)) (Done words)))
order_done guest middle words order same =
    record {
      next = subst (λ w. next_offset (view_of guest) < queue_bytes w) same (advanced_within guest.offset (queue_bytes (word_at guest Cbaser)) (some_bytes (word_at guest Cbaser)));
      writer = order.writer;
      place = order.place;
    }

order_stalled : (middle : IdealGuest) (offset fault : ℕ) → length middle.words ≡ plain_count middle.shape → IsQueueInOrder middle → offset ≡ middle.offset → IsQueueInOrder (after_event middle (Queue offset (Stalls fault)))
order_stalled middle offset fault each order same =
    order_as middle (after_event middle (Queue offset (Stalls fault))) order (word_kept middle Fault Cbaser fault each refl refl (omega arith) (λ e. absurd (omega (arith, e)))) (word_kept middle Fault Cwriter fault each refl refl (omega arith) (λ e. absurd (omega (arith, e)))) same

order_command : (guest : IdealGuest) → IsSound guest → IsQueueInOrder guest → IsQueueInOrder (after_command guest)
order_command guest sound order =
    let view = view_of guest in
    let parts = command_parts guest.shape view in
    let events = map (lpi_event guest.shape view view.targets) parts in
    let middle = after_events events guest in
    let cbaser = kept_parts (λ g. word_at g Cbaser) (λ g irqs. refl) guest.shape view view.targets parts guest in
    let cwriter = kept_parts (λ g. word_at g Cwriter) (λ g irqs. refl) guest.shape view view.targets parts guest in
    let offset = kept_parts (λ g. g.offset) (λ g irqs. refl) guest.shape view view.targets parts guest in
    let each : length middle.words ≡ plain_count middle.shape = kept_parts (λ g. length g.words) (λ g irqs. refl) guest.shape view view.targets parts guest ∙ sound.words ∙ ap plain_count (sym (shape_events events guest)) in
    let so_far : IsQueueInOrder middle = order_as guest middle order cbaser cwriter offset in
    subst IsQueueInOrder (sym (fold-append after_event guest events (queue_event guest.shape view ∷ [])))
    (elim (fault_number guest.shape view.maps (decoded (command_words guest.shape view))) as (λ o. IsQueueInOrder (after_event middle (option_map_or (λ fault. Queue view.offset (Stalls fault)) o (Queue (next_offset view) (Done (command_words guest.shape view)))))) [
      | None ↦ order_done guest middle (command_words guest.shape view) so_far (sym cbaser)
      | Some fault ↦ order_stalled middle view.offset fault each so_far (sym offset)
    ])

pub order_commands : (most : ℕ) (guest : IdealGuest) → IsSound guest → IsQueueInOrder guest → IsQueueInOrder (after_commands most guest)
order_commands zero guest sound order = order
order_commands (suc most) guest sound order = of (order_commands most (after_command guest) (sound_events guest (command_events guest.shape (view_of guest)) sound (command_follows guest sound)) (order_command guest sound order)) (takes_command (view_of guest))
  where
    of : IsQueueInOrder (after_commands most (after_command guest)) → (b : Bool) → IsQueueInOrder (cond b (after_commands most (after_command guest)) guest)
    of later true = later
    of later false = order
