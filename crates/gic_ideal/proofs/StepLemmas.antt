-- A step is its events, and each of them can follow those before it.
use Rattle.std.proofs.Common.{◌≡◌, ◌≢◌, ◌⊎◌, ℕ, zero, suc, ◌<◌, inl, inr, Bool, true, false, cond, eqb, ◌&&◌, nat_lt, IsTrue, Option, Some, None, List, [], ◌∷◌, ◌++◌, All, map, refl, sym, ap, subst, ◌∙◌, arith}
use Rattle.std.specs.List.{slice_get, slice_set}
use Rattle.std.specs.Option.{option_map, option_map_or}
use Rattle.std.proofs.lemmas.Bool.Decides.{eqb_tells}
use Rattle.std.proofs.lemmas.Grind.{common_steps}
use Rattle.std.proofs.lemmas.List.Elements.{All-head, All-tail, All-set, All-map}
use Rattle.std.proofs.lemmas.List.Sums.{fold-append}
use Rattle.std.proofs.lemmas.Option.{same_Some, slice_get-map}
use Rattle.ideal_guest.specs.Words.{GuestShape, GuestOp, Icc, Mem}
use Rattle.ideal_guest.specs.Calls.{Cbaser, passes, is_good_op, is_good_event, Event, Up, Down, Enable, Touch, Reach, Take, Leave, Cpu, Put, CtlrBegin, CtlrEnd, ItsBegin, Runs, Done, Stalls, HappensFreely, View, takes_command, lpi_event, command_parts, command_events, command_words, queue_event, queue_places, icc_events, access_events, device_events}
use Rattle.ideal_guest.specs.ItsCmd.Command.{decoded}
use Rattle.ideal_guest.specs.Registers.{fault_number}
use Rattle.scn_base.specs.declared.step.Step.{Step}
use Rattle.scn_base.specs.declared.step.Step.TheVariants.{Vcpu, Device, Pe}
use Rattle.scn_base.specs.declared.step.Mode.{Mode}
use Rattle.scn_base.specs.Good.{is_formed}
use Rattle.ideal_guest.specs.GicCall.declared.event.Event.TheVariants.{Raise, Read, ItsEnd, Queue}
use Rattle.ideal_guest.specs.GicCall.Call.{starts_commands}
use Rattle.ideal_guest.proofs.GicCall.CallLemmas.{IsFineView, access_valid, icc_valid, device_valid}
use Rattle.ideal_guest.proofs.GicCall.CommandLemmas.{IsDone, command_valid, queue_valid}
use Rattle.ideal_guest.specs.declared.guest.IdealGuest.{IdealGuest}
use Rattle.ideal_guest.specs.Opening.{opening}
use Rattle.ideal_guest.specs.Ideal.{view_of, word_at, after_event, after_events, after_command, after_commands, after_queued}
use Rattle.ideal_guest.specs.Call.{after_op, after_device}
use Rattle.gic_ideal.specs.Eager.{at_guest, after_step, after_steps, state_shapes}
use Rattle.ideal_guest.specs.Sound.{IsSound}
use Rattle.gic_ideal.specs.Deeds.{queued_events, op_events, step_events, steps_events}
use Rattle.gic_ideal.specs.Laws.{CanFollow, CanFollowAll, AreFormed, StepsAreEvents, StepsCanFollow, RunsAreSound}
use Rattle.ideal_guest.proofs.KeyLemmas.{tables_access}
use Rattle.gic_ideal.proofs.EffectLemmas.{shape_event}
use Rattle.ideal_guest.proofs.OpeningLemmas.{empty_valid, sound_opening}
use Rattle.gic_ideal.proofs.SoundEvents.{sound_events}
use Rattle.gic_ideal.proofs.StateLemmas.{sound_got, shapes_opening}

-- Events of parts, one after the other.

events_append : (first next : List Event) (guest : IdealGuest) → after_events (first ++ next) guest ≡ after_events next (after_events first guest)
events_append first next guest = fold-append after_event guest first next

-- the commands that are taken are their events
commands_are_events : (most : ℕ) (guest : IdealGuest) → after_events (queued_events most guest) guest ≡ after_commands most guest
commands_are_events zero guest = refl
commands_are_events (suc most) guest = of (commands_are_events most (after_command guest)) (takes_command (view_of guest))
  where
    of : after_events (queued_events most (after_command guest)) (after_command guest) ≡ after_commands most (after_command guest) → (b : Bool) → after_events (cond b (command_events guest.shape (view_of guest) ++ queued_events most (after_command guest)) []) guest ≡ cond b (after_commands most (after_command guest)) guest
    of later true = events_append (command_events guest.shape (view_of guest)) (queued_events most (after_command guest)) guest ∙ later
    of later false = refl

pub op_is_events : (op : GuestOp) (guest : IdealGuest) (vcpu : ℕ) → after_events (op_events op guest vcpu) guest ≡ after_op op guest vcpu
op_is_events (Icc reg write) guest vcpu = refl
op_is_events (Mem frame offset size write) guest vcpu = events_append events (cond starts (queued_events (queue_places (word_at changed Cbaser)) changed) []) guest ∙ of starts
  where
    events : List Event
    events = access_events guest.shape (view_of guest) frame offset size write

    starts : Bool
    starts = starts_commands guest.shape (view_of guest) frame offset size write

    changed : IdealGuest
    changed = after_events events guest

    of : (b : Bool) → after_events (cond b (queued_events (queue_places (word_at changed Cbaser)) changed) []) changed ≡ cond b (after_queued changed) changed
    of true = commands_are_events (queue_places (word_at changed Cbaser)) changed
    of false = refl

-- Steps, in the guest of a number.

set_there : (guests : List IdealGuest) (n : ℕ) (next guest : IdealGuest) → slice_get guests n ≡ Some guest → slice_get (slice_set guests n next) n ≡ Some next
set_there [] n next guest h = absurd (cc)
set_there (one ∷ guests) zero next guest h = refl
set_there (one ∷ guests) (suc n) next guest h = set_there guests n next guest h

set_other : (guests : List IdealGuest) (g n : ℕ) (next : IdealGuest) → g ≢ n → slice_get (slice_set guests g next) n ≡ slice_get guests n
set_other [] g n next h = refl
set_other (one ∷ guests) zero zero next h = absurd (h refl)
set_other (one ∷ guests) zero (suc n) next h = refl
set_other (one ∷ guests) (suc g) zero next h = refl
set_other (one ∷ guests) (suc g) (suc n) next h = set_other guests g n next (λ e. h (ap (λ k. suc k) e))

at_same : (n : ℕ) (change : IdealGuest → IdealGuest) (guests : List IdealGuest) (guest : IdealGuest) → slice_get guests n ≡ Some guest → slice_get (at_guest n change guests) n ≡ Some (change guest)
at_same n change guests guest h = rw h (set_there guests n (change guest) guest h)

at_other : (g n : ℕ) (change : IdealGuest → IdealGuest) (guests : List IdealGuest) → g ≢ n → slice_get (at_guest g change guests) n ≡ slice_get guests n
at_other g n change guests h = elim (slice_get guests g) as (λ o. slice_get (option_map_or (λ guest. slice_set guests g (change guest)) o guests) n ≡ slice_get guests n) [ None ↦ refl | Some guest ↦ set_other guests g n (change guest) h ]

at_guest_events : (g : ℕ) (change : IdealGuest → IdealGuest) (events : List Event) (guests : List IdealGuest) (n : ℕ) (guest : IdealGuest) → slice_get guests n ≡ Some guest → after_events events guest ≡ change guest
    → slice_get (at_guest g change guests) n ≡ Some (after_events (cond (eqb g n) events []) guest)
at_guest_events g change events guests n guest h e =
    elim (eqb_tells g n) [
      | inl same ↦ rw same.0 (subst (λ m. slice_get (at_guest m change guests) n ≡ Some (after_events events guest)) (sym same.1) (at_same n change guests guest h ∙ ap Some (sym e)))
      | inr differ ↦ rw differ.0 (at_other g n change guests differ.1 ∙ h)
    ]

pub step_is_events : (step : Step) (guests : List IdealGuest) (n : ℕ) (guest : IdealGuest) → slice_get guests n ≡ Some guest → slice_get (after_step step guests) n ≡ Some (after_events (step_events n step guest) guest)
step_is_events (Vcpu g vcpu op) guests n guest h = at_guest_events g (λ state. after_op op state vcpu) (op_events op guest vcpu) guests n guest h (op_is_events op guest vcpu)
step_is_events (Device g device op) guests n guest h = at_guest_events g (after_device op) (device_events (view_of guest) op) guests n guest h refl
step_is_events (Pe pe op) guests n guest h = h

pub steps_are_events : StepsAreEvents
steps_are_events guests [] n guest h = h
steps_are_events guests (step ∷ steps) n guest h =
    let events = step_events n step guest in
    steps_are_events (after_step step guests) steps n (after_events events guest) (step_is_events step guests n guest h)
    ∙ ap Some (sym (events_append events (steps_events n steps (after_events events guest)) guest))

-- What can follow.

-- an event that happens whatever the ITS has mapped can follow
free_follows : (guest : IdealGuest) (event : Event) → HappensFreely guest.shape event → CanFollow guest event
free_follows guest (Raise key) can = can
free_follows guest (Up key) can = can
free_follows guest (Down key) can = can
free_follows guest (Enable vcpu) can = can
free_follows guest (Touch key touch) can = can
free_follows guest (Reach key vcpu) can = can
free_follows guest (Take key vcpu) can = can
free_follows guest (Leave key vcpu) can = can
free_follows guest (Cpu vcpu reg write) can = can
free_follows guest (Read place) can = can
free_follows guest (Put word value) can = can
free_follows guest (CtlrBegin enables) can = can
free_follows guest CtlrEnd can = can
free_follows guest ItsBegin can = can
free_follows guest ItsEnd can = can
free_follows guest (Queue offset Runs) can = can
free_follows guest (Queue offset (Done words)) can = absurd can
free_follows guest (Queue offset (Stalls fault)) can = can

pub free_follow : (guest : IdealGuest) (events : List Event) → All (HappensFreely guest.shape) events → CanFollowAll guest events
free_follow guest [] can = tt
free_follow guest (event ∷ events) can =
    record {
      can = free_follows guest event (All-head (HappensFreely guest.shape) event events can);
      rest = free_follow (after_event guest event) events (subst (λ shape. All (HappensFreely shape) events) (sym (shape_event event guest)) (All-tail (HappensFreely guest.shape) event events can));
    }

follow_append : (first next : List Event) (guest : IdealGuest) → CanFollowAll guest first → CanFollowAll (after_events first guest) next → CanFollowAll guest (first ++ next)
follow_append [] next guest can then = then
follow_append (event ∷ first) next guest can then = record { can = can.can; rest = follow_append first next (after_event guest event) can.rest then }

-- such events leave the shape and the maps
shape_events : (events : List Event) (guest : IdealGuest) → (after_events events guest).shape ≡ guest.shape
shape_events [] guest = refl
shape_events (event ∷ events) guest = shape_events events (after_event guest event) ∙ shape_event event guest

tables_event : (event : Event) (guest : IdealGuest) → HappensFreely guest.shape event → (after_event guest event).tables ≡ guest.tables
tables_event (Raise key) guest can = refl
tables_event (Up key) guest can = refl
tables_event (Down key) guest can = refl
tables_event (Enable vcpu) guest can = refl
tables_event (Touch key touch) guest can = refl
tables_event (Reach key vcpu) guest can = refl
tables_event (Take key vcpu) guest can = refl
tables_event (Leave key vcpu) guest can = refl
tables_event (Cpu vcpu reg write) guest can = tables_access reg write guest vcpu
tables_event (Read place) guest can = refl
tables_event (Put word value) guest can = refl
tables_event (CtlrBegin enables) guest can = refl
tables_event CtlrEnd guest can = refl
tables_event ItsBegin guest can = refl
tables_event ItsEnd guest can = refl
tables_event (Queue offset Runs) guest can = refl
tables_event (Queue offset (Done words)) guest can = absurd can
tables_event (Queue offset (Stalls fault)) guest can = refl

tables_events : (events : List Event) (guest : IdealGuest) → All (HappensFreely guest.shape) events → (after_events events guest).tables ≡ guest.tables
tables_events [] guest can = refl
tables_events (event ∷ events) guest can =
    tables_events events (after_event guest event) (subst (λ shape. All (HappensFreely shape) events) (sym (shape_event event guest)) (All-tail (HappensFreely guest.shape) event events can))
    ∙ tables_event event guest (All-head (HappensFreely guest.shape) event events can)

-- what a sound guest shows
fine_view : (guest : IdealGuest) → IsSound guest → IsFineView guest.shape (view_of guest)
fine_view guest sound = record { records = λ key there. (sound.records key there).valid; offset = record { place = sound.place; within = sound.offset }; maps = sound.maps }

-- the next command
pub command_follows : (guest : IdealGuest) → IsSound guest → CanFollowAll guest (command_events guest.shape (view_of guest))
command_follows guest sound = follow_append parts (queue_event guest.shape view ∷ []) guest (free_follow guest parts free) (record { can = last (queue_valid guest.shape view (fine_view guest sound).offset); rest = tt })
  where
    view : View
    view = view_of guest

    parts : List Event
    parts = map (lpi_event guest.shape view view.targets) (command_parts guest.shape view)

    free : All (HappensFreely guest.shape) parts
    free = command_valid guest.shape view sound.maps

    end : IdealGuest
    end = after_events parts guest

    last : HappensFreely guest.shape (queue_event guest.shape view) ⊎ IsDone guest.shape view → CanFollow end (queue_event guest.shape view)
    last (inl can) = free_follows end (queue_event guest.shape view) (subst (λ shape. HappensFreely shape (queue_event guest.shape view)) (sym (shape_events parts guest)) can)
    last (inr done) =
        subst (CanFollow end) (sym done.is)
        (done.next, ap (λ shape. fault_number shape end.tables (decoded (command_words guest.shape view))) (shape_events parts guest) ∙ ap (λ maps. fault_number guest.shape maps (decoded (command_words guest.shape view))) (tables_events parts guest free) ∙ done.good)

commands_follow : (most : ℕ) (guest : IdealGuest) → IsSound guest → CanFollowAll guest (queued_events most guest)
commands_follow zero guest sound = tt
commands_follow (suc most) guest sound =
    let first = command_follows guest sound in
    of first (commands_follow most (after_command guest) (sound_events guest (command_events guest.shape (view_of guest)) sound first)) (takes_command (view_of guest))
  where
    of : CanFollowAll guest (command_events guest.shape (view_of guest)) → CanFollowAll (after_command guest) (queued_events most (after_command guest))
        → (b : Bool) → CanFollowAll guest (cond b (command_events guest.shape (view_of guest) ++ queued_events most (after_command guest)) [])
    of first later true = follow_append (command_events guest.shape (view_of guest)) (queued_events most (after_command guest)) guest first later
    of first later false = tt

-- an operation that the guest can do
pub op_follows : (op : GuestOp) (guest : IdealGuest) (vcpu : ℕ) → IsSound guest → vcpu < guest.shape.vcpus → IsTrue (is_good_op guest.shape op) → CanFollowAll guest (op_events op guest vcpu)
op_follows (Icc reg write) guest vcpu sound there good = free_follow guest (icc_events guest.shape vcpu reg write) (icc_valid guest.shape vcpu reg write there good)
op_follows (Mem frame offset size write) guest vcpu sound there good =
    follow_append events (cond starts (queued_events (queue_places (word_at changed Cbaser)) changed) []) guest can (of starts)
  where
    events : List Event
    events = access_events guest.shape (view_of guest) frame offset size write

    starts : Bool
    starts = starts_commands guest.shape (view_of guest) frame offset size write

    changed : IdealGuest
    changed = after_events events guest

    can : CanFollowAll guest events
    can = free_follow guest events (access_valid guest.shape (view_of guest) frame offset size write sound.shape (fine_view guest sound) good)

    of : (b : Bool) → CanFollowAll changed (cond b (queued_events (queue_places (word_at changed Cbaser)) changed) [])
    of true = commands_follow (queue_places (word_at changed Cbaser)) changed (sound_events guest events sound can)
    of false = tt

both : (a b : Bool) → (a && b) ≡ true → (a ≡ true) × (b ≡ true)
both true b h = (refl, h)
both false b h = absurd (cc)

below : (a b : ℕ) → nat_lt a b ≡ true → a < b
below a b h = grind (arith, common_steps, h)

-- the shape of a guest passes what the shape of its number does
passes_at : (test : GuestShape → Bool) (guests : List IdealGuest) (n : ℕ) (guest : IdealGuest) → slice_get guests n ≡ Some guest → passes test (slice_get (state_shapes guests) n) ≡ true → test guest.shape ≡ true
passes_at test guests n guest h p = sym (ap (passes test) (slice_get-map (λ g. g.shape) guests n ∙ ap (option_map (λ g. g.shape)) h)) ∙ p

pub step_follows : (mode : Mode) (pes : ℕ) (step : Step) (guests : List IdealGuest) (n : ℕ) (guest : IdealGuest) → IsSound guest → IsTrue (is_formed mode pes (state_shapes guests) step) → slice_get guests n ≡ Some guest → CanFollowAll guest (step_events n step guest)
step_follows mode pes (Vcpu g vcpu op) guests n guest sound formed h =
    elim (eqb_tells g n) [
      | inl same ↦
          rw same.0
          (let tests = both (nat_lt vcpu guest.shape.vcpus) (is_good_op guest.shape op) (passes_at (λ shape. nat_lt vcpu shape.vcpus && is_good_op shape op) guests n guest h (subst (λ m. passes (λ shape. nat_lt vcpu shape.vcpus && is_good_op shape op) (slice_get (state_shapes guests) m) ≡ true) same.1 formed)) in
          op_follows op guest vcpu sound (below vcpu guest.shape.vcpus tests.0) tests.1)
      | inr differ ↦ rw differ.0 tt
    ]
step_follows mode pes (Device g device op) guests n guest sound formed h =
    elim (eqb_tells g n) [
      | inl same ↦
          rw same.0
          (let tests = both (nat_lt device guest.shape.devices) (is_good_event guest.shape op) (passes_at (λ shape. nat_lt device shape.devices && is_good_event shape op) guests n guest h (subst (λ m. passes (λ shape. nat_lt device shape.devices && is_good_event shape op) (slice_get (state_shapes guests) m) ≡ true) same.1 formed)) in
          free_follow guest (device_events (view_of guest) op) (device_valid guest.shape (view_of guest) op sound.maps tests.1))
      | inr differ ↦ rw differ.0 tt
    ]
step_follows mode pes (Pe pe op) guests n guest sound formed h = tt

-- All steps.

-- the shapes of the guests stay
shapes_at : (g : ℕ) (change : IdealGuest → IdealGuest) (guests : List IdealGuest) → ((guest : IdealGuest) → (change guest).shape ≡ guest.shape) → state_shapes (at_guest g change guests) ≡ state_shapes guests
shapes_at g change guests same = elim (slice_get guests g) as (λ o. slice_get guests g ≡ o → state_shapes (option_map_or (λ guest. slice_set guests g (change guest)) o guests) ≡ state_shapes guests) [ None ↦ λ e. refl | Some guest ↦ λ e. of guests g guest e ] refl
  where
    of : (guests : List IdealGuest) (g : ℕ) (guest : IdealGuest) → slice_get guests g ≡ Some guest → state_shapes (slice_set guests g (change guest)) ≡ state_shapes guests
    of [] g guest e = refl
    of (one ∷ guests) zero guest e = ap (λ shape. shape ∷ state_shapes guests) (same guest ∙ ap (λ g. g.shape) (sym (same_Some one guest e)))
    of (one ∷ guests) (suc g) guest e = ap (λ shapes. one.shape ∷ shapes) (of guests g guest e)

pub shapes_step : (step : Step) (guests : List IdealGuest) → state_shapes (after_step step guests) ≡ state_shapes guests
shapes_step (Vcpu g vcpu op) guests = shapes_at g (λ state. after_op op state vcpu) guests (λ guest. ap (λ g. g.shape) (sym (op_is_events op guest vcpu)) ∙ shape_events (op_events op guest vcpu) guest)
shapes_step (Device g device op) guests = shapes_at g (after_device op) guests (λ guest. shape_events (device_events (view_of guest) op) guest)
shapes_step (Pe pe op) guests = refl

-- the guests stay sound
pub sound_step : (mode : Mode) (pes : ℕ) (step : Step) (guests : List IdealGuest) → All IsSound guests → IsTrue (is_formed mode pes (state_shapes guests) step) → All IsSound (after_step step guests)
sound_step mode pes (Vcpu g vcpu op) guests sound formed = of (slice_get guests g) refl
  where
    of : (o : Option IdealGuest) → slice_get guests g ≡ o → All IsSound (option_map_or (λ state. slice_set guests g (after_op op state vcpu)) o guests)
    of None e = sound
    of (Some guest) e =
        let one = sound_got guests g guest sound e in
        let tests = both (nat_lt vcpu guest.shape.vcpus) (is_good_op guest.shape op) (passes_at (λ shape. nat_lt vcpu shape.vcpus && is_good_op shape op) guests g guest e formed) in
        All-set IsSound guests g (after_op op guest vcpu)
        (subst IsSound (op_is_events op guest vcpu) (sound_events guest (op_events op guest vcpu) one (op_follows op guest vcpu one (below vcpu guest.shape.vcpus tests.0) tests.1))) sound
sound_step mode pes (Device g device op) guests sound formed = of (slice_get guests g) refl
  where
    of : (o : Option IdealGuest) → slice_get guests g ≡ o → All IsSound (option_map_or (λ state. slice_set guests g (after_device op state)) o guests)
    of None e = sound
    of (Some guest) e =
        let one = sound_got guests g guest sound e in
        let tests = both (nat_lt device guest.shape.devices) (is_good_event guest.shape op) (passes_at (λ shape. nat_lt device shape.devices && is_good_event shape op) guests g guest e formed) in
        All-set IsSound guests g (after_device op guest)
        (sound_events guest (device_events (view_of guest) op) one (free_follow guest (device_events (view_of guest) op) (device_valid guest.shape (view_of guest) op one.maps tests.1))) sound
sound_step mode pes (Pe pe op) guests sound formed = sound

pub steps_can_follow : StepsCanFollow
steps_can_follow mode pes guests [] n guest sound formed h = tt
steps_can_follow mode pes guests (step ∷ steps) n guest sound formed h =
    let first = step_follows mode pes step guests n guest (sound_got guests n guest sound h) (All-head (λ step. IsTrue (is_formed mode pes (state_shapes guests) step)) step steps formed) h in
    follow_append (step_events n step guest) (steps_events n steps (after_events (step_events n step guest) guest)) guest first
    (steps_can_follow mode pes (after_step step guests) steps n (after_events (step_events n step guest) guest) (sound_step mode pes step guests sound (All-head (λ step. IsTrue (is_formed mode pes (state_shapes guests) step)) step steps formed))
    (subst (λ shapes. All (λ step. IsTrue (is_formed mode pes shapes step)) steps) (sym (shapes_step step guests)) (All-tail (λ step. IsTrue (is_formed mode pes (state_shapes guests) step)) step steps formed)) (step_is_events step guests n guest h))

sound_steps : (mode : Mode) (pes : ℕ) (steps : List Step) (guests : List IdealGuest) → All IsSound guests → AreFormed mode pes guests steps → All IsSound (after_steps steps guests)
sound_steps mode pes [] guests sound formed = sound
sound_steps mode pes (step ∷ steps) guests sound formed =
    sound_steps mode pes steps (after_step step guests) (sound_step mode pes step guests sound (All-head (λ step. IsTrue (is_formed mode pes (state_shapes guests) step)) step steps formed))
    (subst (λ shapes. All (λ step. IsTrue (is_formed mode pes shapes step)) steps) (sym (shapes_step step guests)) (All-tail (λ step. IsTrue (is_formed mode pes (state_shapes guests) step)) step steps formed))

pub runs_sound : RunsAreSound
runs_sound mode pes guests steps good formed =
    sound_steps mode pes steps (map opening guests) (All-map IsSound opening guests (λ k d h. let guest = good k d h in sound_opening _ guest (empty_valid _)))
    (subst (λ shapes. All (λ step. IsTrue (is_formed mode pes shapes step)) steps) (sym (shapes_opening guests)) formed)
