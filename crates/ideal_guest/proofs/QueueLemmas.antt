-- The commands of a queue, one after the other.
use Rattle.std.proofs.Common.{◌≡◌, ◌≢◌, ℕ, zero, suc, ◌+◌, ◌-◌, ◌*◌, ◌/◌, ◌%◌, ◌<◌, ◌≤◌, ◌==◌, ◌&&◌, ◌⊎◌, inl, inr, not, Bool, true, false, cond, nat_lt, is_none, IsTrue, Option, Some, None, option_map, Ok, List, [], ◌∷◌, map, refl, sym, ap, ◌∙◌, subst, arith, true≢false}
use Rattle.std.specs.Option.{option_map_or}
use Rattle.std.proofs.lemmas.Grind.{common_steps}
use Rattle.std.proofs.lemmas.Bool.{eq-eqb, cases_lt}
use Rattle.floor_calls.proofs.GicFrame.TestLemmas.{under}
use Rattle.std.proofs.lemmas.List.Sums.{fold-append}
use Rattle.floor_calls.specs.Words.{Irq, GuestShape, field_at}
use Rattle.floor_calls.specs.Registers.{queue_bytes, advanced, Command, Maps, number_of, fault_of, fault_number, maps_after}
use Rattle.floor_calls.specs.ItsCmd.Command.{decoded}
use Rattle.floor_calls.specs.Calls.{Cbaser, Cwriter, Fault, Done, Stalls, Event, Part, Map, Clear, View, is_its_enabled, lpi_event, is_queue_valid, queue_places, takes_command, command_words, decoded_parts, command_parts, parts, maps_done, maps_by, queue_event, next_offset}
use Rattle.floor_calls.specs.GicCall.declared.event.Event.TheVariants.{Queue}
use Rattle.floor_calls.specs.GicCall.declared.command.Part.TheVariants.{Forget, Retarget, Raise, Configure}
use Rattle.ideal_guest.specs.declared.guest.IdealGuest.{IdealGuest}
use Rattle.ideal_guest.specs.Ideal.{view_of, word_at, with_word, with_queue, after_event, after_events, after_command, after_commands, after_queued}
use Rattle.ideal_guest.specs.Queue.{QueuesRunDry, BadCommandsStall}

-- where no command is taken, none is done; where one is, the others follow it
pub commands_end : (most : ℕ) (guest : IdealGuest) → takes_command (view_of guest) ≡ false → after_commands most guest ≡ guest
commands_end zero guest h = refl
commands_end (suc most) guest h = ap (λ b. cond b (after_commands most (after_command guest)) guest) h

pub commands_step : (places done : ℕ) (guest : IdealGuest) → done < places → takes_command (view_of guest) ≡ true → after_commands (places - done) guest ≡ after_commands (places - (done + 1)) (after_command guest)
commands_step places done guest more h =
    let left : places - done ≡ suc (places - (done + 1)) = omega arith in
    ap (λ n. after_commands n guest) left ∙ ap (λ b. cond b (after_commands (places - (done + 1)) (after_command guest)) guest) h

-- what the record of no interrupt matters to, the parts of a command leave
module _ {X : Type 0} (f : IdealGuest → X) (kept : (guest : IdealGuest) (irqs : List Irq) → f (record guest { irqs = irqs }) ≡ f guest) (shape : GuestShape) (view : View) (targets : ℕ → Option ℕ) where
  kept_part : (part : Part) (guest : IdealGuest) → f (after_event guest (lpi_event shape view targets part)) ≡ f guest
  kept_part (Forget id) guest = kept guest _
  kept_part (Map id target) guest = kept guest _
  kept_part (Retarget id target) guest = kept guest _
  kept_part (Raise id) guest = kept guest _
  kept_part (Clear id) guest = kept guest _
  kept_part (Configure id) guest = kept guest _

  pub kept_parts : (parts : List Part) (guest : IdealGuest) → f (after_events (map (lpi_event shape view targets) parts) guest) ≡ f guest
  kept_parts [] guest = refl
  kept_parts (part ∷ parts) guest = kept_parts parts (after_event guest (lpi_event shape view targets part)) ∙ kept_part part guest

-- the guest after the parts of its next command
abbrev after_parts : IdealGuest → IdealGuest
after_parts guest = let view = view_of guest in after_events (map (lpi_event guest.shape view view.targets) (command_parts guest.shape view)) guest

-- its fault, and the event with which it ends
abbrev next_fault : IdealGuest → Option ℕ
next_fault guest = fault_number guest.shape guest.tables (decoded (command_words guest.shape (view_of guest)))

last_event : (guest : IdealGuest) → after_command guest ≡ after_event (after_parts guest) (queue_event guest.shape (view_of guest))
last_event guest = let view = view_of guest in fold-append after_event guest (map (lpi_event guest.shape view view.targets) (command_parts guest.shape view)) (queue_event guest.shape view ∷ [])

-- a command with a fault
pub bad_command : BadCommandsStall
bad_command guest fault h =
    let view : View = view_of guest in
    let words = command_words guest.shape view in
    let none : command_parts guest.shape view ≡ [] = ap (λ o. cond (is_none o) (decoded_parts guest.shape view (decoded words)) []) h in
    let stalls : queue_event guest.shape view ≡ Queue view.offset (Stalls fault) = ap (λ o. option_map_or (λ n. Queue view.offset (Stalls n)) o (Queue (next_offset view) (Done words))) h in
    last_event guest
    ∙ ap (λ e. after_event (after_parts guest) e) stalls
    ∙ ap (λ ps. after_event (after_events (map (lpi_event guest.shape view view.targets) ps) guest) (Queue view.offset (Stalls fault))) none

-- a command without one: its parts, and then the maps
abbrev pub carried_out : IdealGuest → Command → IdealGuest
carried_out guest command =
    record (after_events (map (lpi_event guest.shape (view_of guest) (view_of guest).targets) (parts guest.shape guest.tables (view_of guest).targets command)) guest) { tables = maps_after guest.tables command }

-- and then the queue goes on
done_command : (guest : IdealGuest) (command : Command) → decoded (command_words guest.shape (view_of guest)) ≡ Ok command → fault_of guest.shape guest.tables command ≡ None
    → after_command guest
    ≡ with_queue (carried_out guest command) (advanced guest.offset (queue_bytes (word_at guest Cbaser))) false
done_command guest command next good =
    let view : View = view_of guest in
    let event : Part → Event = lpi_event guest.shape view view.targets in
    let words = command_words guest.shape view in
    let offset = advanced guest.offset (queue_bytes (word_at guest Cbaser)) in
    let none : next_fault guest ≡ None = ap (fault_number guest.shape guest.tables) next ∙ ap (option_map number_of) good in
    let goes_on : queue_event guest.shape view ≡ Queue offset (Done words) = ap (λ o. option_map_or (λ n. Queue view.offset (Stalls n)) o (Queue (next_offset view) (Done words))) none in
    let are : command_parts guest.shape view ≡ parts guest.shape guest.tables view.targets command = ap (λ o. cond (is_none o) (decoded_parts guest.shape view (decoded words)) []) none ∙ ap (decoded_parts guest.shape view) next in
    let tables : (after_parts guest).tables ≡ guest.tables = kept_parts (λ g. g.tables) (λ g irqs. refl) guest.shape view view.targets (command_parts guest.shape view) guest in
    let maps : maps_done (after_parts guest).tables words ≡ maps_after guest.tables command = ap (λ t. maps_done t words) tables ∙ ap (maps_by guest.tables) next in
    last_event guest
    ∙ ap (λ e. after_event (after_parts guest) e) goes_on
    ∙ ap (queued_with (after_parts guest) offset) maps
    ∙ ap (λ ps. queued_with (after_events (map event ps) guest) offset (maps_after guest.tables command)) are
  where
    queued_with : IdealGuest → ℕ → Maps → IdealGuest
    queued_with g offset maps = record (with_queue g offset false) { tables = maps }

pub command_done : (guest now : IdealGuest) (command : Command) (offset : ℕ) → decoded (command_words guest.shape (view_of guest)) ≡ Ok command → fault_of guest.shape guest.tables command ≡ None
    → now ≡ carried_out guest command → offset ≡ advanced guest.offset (queue_bytes (word_at guest Cbaser)) → with_queue now offset false ≡ after_command guest
command_done guest now command offset next good is at = ap (λ g. with_queue g offset false) is ∙ ap (λ n. with_queue (carried_out guest command) n false) at ∙ sym (done_command guest command next good)

-- then its registers stay
record GoesOn (guest after : IdealGuest) : Type 0 where
  cbaser : word_at after Cbaser ≡ word_at guest Cbaser
  cwriter : word_at after Cwriter ≡ word_at guest Cwriter
  offset : after.offset ≡ advanced guest.offset (queue_bytes (word_at guest Cbaser))

good_command : (guest : IdealGuest) → next_fault guest ≡ None → GoesOn guest (after_command guest)
good_command guest h =
    let view : View = view_of guest in
    let words = command_words guest.shape view in
    let parts = command_parts guest.shape view in
    let done : queue_event guest.shape view ≡ Queue (next_offset view) (Done words) = ap (λ o. option_map_or (λ n. Queue view.offset (Stalls n)) o (Queue (next_offset view) (Done words))) h in
    let is : after_command guest ≡ after_event (after_parts guest) (Queue (next_offset view) (Done words)) = last_event guest ∙ ap (λ e. after_event (after_parts guest) e) done in
    subst (GoesOn guest) (sym is)
    (record {
      cbaser = kept_parts (λ g. word_at g Cbaser) (λ g irqs. refl) guest.shape view view.targets parts guest;
      cwriter = kept_parts (λ g. word_at g Cwriter) (λ g irqs. refl) guest.shape view view.targets parts guest;
      offset = refl;
    })

-- what holds where the queue is then, holds of the guest
of_after : (P : ℕ → ℕ → ℕ → Type 0) (guest after : IdealGuest) → GoesOn guest after → P (word_at guest Cbaser) (advanced guest.offset (queue_bytes (word_at guest Cbaser))) (word_at guest Cwriter) → P (word_at after Cbaser) after.offset (word_at after Cwriter)
of_after P guest after goes h =
    subst (λ cbaser. P cbaser after.offset (word_at after Cwriter)) (sym goes.cbaser)
    (subst (λ offset. P (word_at guest Cbaser) offset (word_at after Cwriter)) (sym goes.offset) (subst (λ writer. P (word_at guest Cbaser) (advanced guest.offset (queue_bytes (word_at guest Cbaser))) writer) (sym goes.cwriter) h))

-- what keeps a command from being taken, and what one that is taken says
stalled : (a b d : Bool) → (a && b && false && d) ≡ false
stalled true true d = refl
stalled true false d = refl
stalled false b d = refl

at_end : (a b c : Bool) → (a && b && c && false) ≡ false
at_end true true true = refl
at_end true true false = refl
at_end true false c = refl
at_end false b c = refl

last_true : (a b c d : Bool) → (a && b && c && d) ≡ true → d ≡ true
last_true true true true d h = h
last_true true true false d h = absurd (true≢false (sym h))
last_true true false c d h = absurd (true≢false (sym h))
last_true false b c d h = absurd (true≢false (sym h))

not_taken : (b : Bool) → b ≡ false → IsTrue (not b)
not_taken b h = ap not h

-- no command is taken where the queue is stalled, nor where all are done; and where one is taken, not all are done
stalled_takes_none : (guest : IdealGuest) (offset : ℕ) → takes_command (view_of (with_queue guest offset true)) ≡ false
stalled_takes_none guest offset = stalled (is_its_enabled (view_of guest)) (is_queue_valid (word_at guest Cbaser)) (not (offset == word_at guest Cwriter))

end_takes_none : (guest : IdealGuest) → guest.offset ≡ word_at guest Cwriter → takes_command (view_of guest) ≡ false
end_takes_none guest h =
    let view : View = view_of guest in
    ap (λ b. is_its_enabled view && is_queue_valid (view.words Cbaser) && not view.is_stalled && not b) (eq-eqb guest.offset (word_at guest Cwriter) h)
    ∙ at_end (is_its_enabled view) (is_queue_valid (view.words Cbaser)) (not view.is_stalled)

set_from_not : (b : Bool) → not b ≡ true → b ≡ false
set_from_not true h = absurd (true≢false (sym h))
set_from_not false h = refl

taken_before_end : (guest : IdealGuest) → takes_command (view_of guest) ≡ true → guest.offset ≢ word_at guest Cwriter
taken_before_end guest h e =
    let view : View = view_of guest in
    let apart : (guest.offset == word_at guest Cwriter) ≡ false = set_from_not (guest.offset == word_at guest Cwriter) (last_true (is_its_enabled view) (is_queue_valid (view.words Cbaser)) (not view.is_stalled) (not (guest.offset == word_at guest Cwriter)) h) in
    true≢false (sym (eq-eqb guest.offset (word_at guest Cwriter) e) ∙ apart)

-- GITS_CWRITER is at most so many places further, around the end of the queue or not
record IsAhead (bytes offset writer most : ℕ) : Type 0 where
  count : ℕ
  within : count ≤ most
  reached : (offset + 32 * count ≡ writer) ⊎ (offset + 32 * count ≡ writer + bytes)

-- the places of a queue: all are multiples of the bytes of a command
record ArePlaces (pages offset writer : ℕ) : Type 0 where
  next : offset < 4096 * pages
  writer_next : writer < 4096 * pages
  place : offset % 32 ≡ 0
  writer_place : writer % 32 ≡ 0

ahead_at_first : (pages offset writer : ℕ) → ArePlaces pages offset writer → IsAhead (4096 * pages) offset writer (128 * pages)
ahead_at_first pages offset writer are = elim (cases_lt writer offset) [
  | inl before ↦ record { count = writer / 32 + 128 * pages - offset / 32; within = omega arith; reached = inr (omega arith) }
  | inr after ↦ record { count = writer / 32 - offset / 32; within = omega arith; reached = inl (omega arith) }
]

ahead_none : (bytes offset writer : ℕ) → offset < bytes → IsAhead bytes offset writer 0 → offset ≡ writer
ahead_none bytes offset writer next ahead = elim ahead.reached [
  | inl e ↦ omega arith
  | inr e ↦ absurd (omega arith)
]

-- one place further
module _ (pages offset writer : ℕ) (are : ArePlaces pages offset writer) where
  one_further : (b : Bool) → nat_lt (offset + 32) (4096 * pages) ≡ b → (b ≡ true) × (offset + 32 < 4096 * pages) ⊎ (b ≡ false) × (offset + 32 ≡ 4096 * pages)
  one_further true h = inl (refl, under (offset + 32) (4096 * pages) h)
  one_further false h = let past : 4096 * pages ≤ offset + 32 = not_below (offset + 32) (4096 * pages) h in inr (refl, omega arith)
    where
      not_below : (a b : ℕ) → nat_lt a b ≡ false → b ≤ a
      not_below a b h = grind (arith, common_steps)

  further : (P : ℕ → Type 0) → (offset + 32 < 4096 * pages → P (offset + 32)) → (offset + 32 ≡ 4096 * pages → P 0) → P (advanced offset (4096 * pages))
  further P inside around = elim (one_further (nat_lt (offset + 32) (4096 * pages)) refl) [
    | inl h ↦ subst (λ b. P (cond b (offset + 32) 0)) (sym h.0) (inside h.1)
    | inr h ↦ subst (λ b. P (cond b (offset + 32) 0)) (sym h.0) (around h.1)
  ]

  places_next : ArePlaces pages (advanced offset (4096 * pages)) writer
  places_next =
      further (λ next. ArePlaces pages next writer) (λ h. record { next = h; writer_next = are.writer_next; place = omega arith; writer_place = are.writer_place })
      (λ h. record { next = omega arith; writer_next = are.writer_next; place = refl; writer_place = are.writer_place })

  ahead_next : (most : ℕ) → offset ≢ writer → IsAhead (4096 * pages) offset writer (suc most) → IsAhead (4096 * pages) (advanced offset (4096 * pages)) writer most
  ahead_next most apart ahead = of ahead.count ahead.within ahead.reached
    where
      of : (count : ℕ) → count ≤ suc most → (offset + 32 * count ≡ writer) ⊎ (offset + 32 * count ≡ writer + 4096 * pages) → IsAhead (4096 * pages) (advanced offset (4096 * pages)) writer most
      of zero within (inl e) = absurd (apart (omega (arith, e)))
      of zero within (inr e) = let next = are.next in absurd (omega (arith, e))
      of (suc count) within (inl e) =
          let writer_next = are.writer_next in
          further (λ next. IsAhead (4096 * pages) next writer most) (λ h. record { count = count; within = omega arith; reached = inl (omega (arith, e)) })
          (λ h. absurd (omega (arith, e)))
      of (suc count) within (inr e) =
          further (λ next. IsAhead (4096 * pages) next writer most) (λ h. record { count = count; within = omega arith; reached = inr (omega (arith, e)) })
          (λ h. record { count = count; within = omega arith; reached = inl (omega (arith, e)) })

-- the pages of a queue
abbrev pages_of : IdealGuest → ℕ
pages_of guest = field_at (word_at guest Cbaser) 0 8 + 1

-- so many commands are done, or the queue stalls: then no further one is taken
run_dry : (most : ℕ) (guest : IdealGuest) → ArePlaces (pages_of guest) guest.offset (word_at guest Cwriter) → IsAhead (4096 * pages_of guest) guest.offset (word_at guest Cwriter) most → takes_command (view_of (after_commands most guest)) ≡ false
run_dry zero guest are ahead = end_takes_none guest (ahead_none (4096 * pages_of guest) guest.offset (word_at guest Cwriter) are.next ahead)
run_dry (suc most) guest are ahead = elim (takes_command (view_of guest)) as (λ b. takes_command (view_of guest) ≡ b → takes_command (view_of (cond b (after_commands most (after_command guest)) guest)) ≡ false) [
  | false ↦ λ t. t
  | true ↦ λ t. elim (next_fault guest) as (λ o. next_fault guest ≡ o → takes_command (view_of (after_commands most (after_command guest))) ≡ false) [
    | (Some fault) ↦ λ h.
        let stopped = with_word guest Fault fault in
        let none = stalled_takes_none stopped guest.offset in
        subst (λ g. takes_command (view_of (after_commands most g)) ≡ false) (sym (bad_command guest fault h))
        (subst (λ g. takes_command (view_of g) ≡ false) (sym (commands_end most (with_queue stopped guest.offset true) none)) none)
    | None ↦ λ h.
        let after = after_command guest in
        let goes = good_command guest h in
        let places = places_next (pages_of guest) guest.offset (word_at guest Cwriter) are in
        let further = ahead_next (pages_of guest) guest.offset (word_at guest Cwriter) are most (taken_before_end guest t) ahead in
        run_dry most after (of_after (λ cbaser offset writer. ArePlaces (field_at cbaser 0 8 + 1) offset writer) guest after goes places)
        (of_after (λ cbaser offset writer. IsAhead (4096 * (field_at cbaser 0 8 + 1)) offset writer most) guest after goes further)
  ] refl
] refl

pub all_run_dry : QueuesRunDry
all_run_dry guest sound order =
    let are : ArePlaces (pages_of guest) guest.offset (word_at guest Cwriter) = record { next = order.next; writer_next = order.writer; place = sound.place; writer_place = order.place } in
    not_taken (takes_command (view_of (after_queued guest))) (run_dry (queue_places (word_at guest Cbaser)) guest are (ahead_at_first (pages_of guest) guest.offset (word_at guest Cwriter) are))
