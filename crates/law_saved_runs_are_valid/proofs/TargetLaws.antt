-- An LPI that the maps give a vCPU is for one, in each state that the ideal controller reaches.
use Rattle.std.proofs.Common.{◌≡◌, ℕ, zero, suc, ◌==◌, Bool, true, false, cond, is_some, IsTrue, List, [], ◌∷◌, map, Option, Some, None, Result, Ok, Err, refl, sym, ap, ◌∙◌, subst}
use Rattle.std.specs.List.{list_all}
use Rattle.std.proofs.lemmas.Bool.{and_parts}
use Rattle.std.proofs.lemmas.Option.{none-some}
use Rattle.law_unmapped_lpis.specs.Words.{Private, Spi, Lpi, SetPending, GuestOp, Icc, Mem, DeviceOp, Irq, raised, acknowledged, deactivated, has_interrupt, is_same_key, is_number, target_in}
use Rattle.law_unmapped_lpis.specs.ItsCmd.Command.{decoded}
use Rattle.law_unmapped_lpis.specs.Registers.{Command, BadCommand, maps_after, has_target, number_of, fault_of, fault_number, queue_bytes, advanced}
use Rattle.law_unmapped_lpis.specs.Calls.{Cbaser, is_good_op, Event, Up, Down, Enable, Touch, Reach, Take, Leave, Cpu, Put, CtlrBegin, CtlrEnd, ItsBegin, Runs, Done, Stalls, Register, Enables, touched, parts, lpi_event, icc_events, access_events, device_events, takes_command, command_events, command_words, queue_places}
use Rattle.law_unmapped_lpis.specs.GicCall.declared.event.Event.TheVariants.{Raise, Read, ItsEnd, Queue}
use Rattle.law_unmapped_lpis.specs.Histories.{IdealGuest, irq_at, word_at, view_of, after_event, after_events, after_command, after_commands, after_queued, IsSound}
use Rattle.law_unmapped_lpis.proofs.IdealGuests.KeyLemmas.{IsWhole, tables_access}
use Rattle.law_unmapped_lpis.proofs.IdealGuests.SoundLemmas.{whole_of}
use Rattle.law_unmapped_lpis.proofs.IdealGuests.QueueLemmas.{bad_command, carried_out, command_done}
use Rattle.law_unmapped_lpis.proofs.ItsTab.TableLemmas.{unmapped}
use Rattle.law_unmapped_lpis.proofs.CalmLemmas.{access_calm, icc_calm, device_calm}
use Rattle.law_unmapped_lpis.proofs.EventLemmas.{is_calm}
use Rattle.law_unmapped_lpis.proofs.LawLoneCallsAreEager.MomentLemmas.{target_at, guest_whole}
use Rattle.eager_rest.specs.LawSavesGoOn.RunsSplit.GicIdeal.Deeds.{acknowledges}
use Rattle.eager_rest.specs.LawSavesGoOn.RunsSplit.GicIdeal.IdealGuests.Call.{after_op, after_device}
use Rattle.eager_rest.specs.LawSavesGoOn.RunsSplit.GicIdeal.IdealGuests.GicCall.Call.{starts_commands}
use Rattle.eager_rest.proofs.LawSavesGoOn.RunsSplit.GicIdeal.IdealGuests.GicCall.CallLemmas.{IsFineView, access_valid}
use Rattle.eager_rest.proofs.LawSavesGoOn.RunsSplit.GicIdeal.EffectLemmas.{is_ended, changed_by, event_effect, shape_event}
use Rattle.eager_rest.proofs.LawSavesGoOn.RunsSplit.GicIdeal.SoundEvents.{sound_events}
use Rattle.eager_rest.proofs.LawSavesGoOn.RunsSplit.GicIdeal.StepLemmas.{free_follow, command_follows}
use Rattle.eager_rest.proofs.LawSavesGoOn.StoredLemmas.{same_shape}
use Rattle.law_saved_runs_are_valid.proofs.PartTargets.{parts_some}
use Rattle.law_saved_runs_are_valid.proofs.CommandTargets.{command_ends}

abbrev pub AreForSome : IdealGuest → Type 0
AreForSome guest = (id : ℕ) → IsTrue (has_interrupt guest.shape (Lpi id)) → has_target guest.tables id ≡ true → is_some (target_at guest id) ≡ true

-- ---- events that move no LPI

cond_route : (b : Bool) (one irq : Irq) → one.route ≡ irq.route → (cond b one irq).route ≡ irq.route
cond_route true one irq same = same
cond_route false one irq same = refl

route_by : (guest : IdealGuest) (event : Event) (id : ℕ) (irq : Irq) → is_calm event ≡ true → (changed_by event guest (Lpi id) irq).route ≡ irq.route
route_by guest (Raise j) id irq calm = cond_route (is_same_key (Lpi id) j) (raised irq) irq refl
route_by guest (Up j) id irq calm = cond_route (is_same_key (Lpi id) j) _ irq refl
route_by guest (Down j) id irq calm = cond_route (is_same_key (Lpi id) j) _ irq refl
route_by guest (Touch (Private v i) touch) id irq calm = refl
route_by guest (Touch (Spi i) touch) id irq calm = refl
route_by guest (Touch (Lpi i) (Register SetPending value)) id irq calm = cond_route (is_same_key (Lpi id) (Lpi i)) (touched guest.shape (Lpi i) (Register SetPending value) irq) irq (cond_route (value == 1) (raised irq) irq refl)
route_by guest (Touch (Lpi i) (Enables en0 en1)) id irq calm = cond_route (is_same_key (Lpi id) (Lpi i)) _ irq refl
route_by guest (Touch (Lpi i) touch) id irq calm = absurd (cc)
route_by guest (Cpu vcpu reg write) id irq calm =
    let next = cond (acknowledges (Cpu vcpu reg write) guest (Lpi id)) (acknowledged (Lpi id) vcpu irq) irq in
    cond_route (is_ended reg write guest vcpu (Lpi id)) (deactivated vcpu next) next (cond_route (is_number vcpu next.act_by) (record next { act_by = None }) next refl)
    ∙ cond_route (acknowledges (Cpu vcpu reg write) guest (Lpi id)) (acknowledged (Lpi id) vcpu irq) irq refl
route_by guest (Enable vcpu) id irq calm = refl
route_by guest (Reach j vcpu) id irq calm = refl
route_by guest (Take j vcpu) id irq calm = refl
route_by guest (Leave j vcpu) id irq calm = refl
route_by guest (Read place) id irq calm = refl
route_by guest (Put word value) id irq calm = refl
route_by guest (CtlrBegin enables) id irq calm = refl
route_by guest CtlrEnd id irq calm = refl
route_by guest ItsBegin id irq calm = refl
route_by guest ItsEnd id irq calm = refl
route_by guest (Queue offset Runs) id irq calm = refl
route_by guest (Queue offset (Done words)) id irq calm = absurd (cc)
route_by guest (Queue offset (Stalls fault)) id irq calm = refl

tables_by : (guest : IdealGuest) (event : Event) → is_calm event ≡ true → (after_event guest event).tables ≡ guest.tables
tables_by guest (Raise j) calm = refl
tables_by guest (Up j) calm = refl
tables_by guest (Down j) calm = refl
tables_by guest (Touch j touch) calm = refl
tables_by guest (Cpu vcpu reg write) calm = tables_access reg write guest vcpu
tables_by guest (Enable vcpu) calm = refl
tables_by guest (Reach j vcpu) calm = refl
tables_by guest (Take j vcpu) calm = refl
tables_by guest (Leave j vcpu) calm = refl
tables_by guest (Read place) calm = refl
tables_by guest (Put word value) calm = refl
tables_by guest (CtlrBegin enables) calm = refl
tables_by guest CtlrEnd calm = refl
tables_by guest ItsBegin calm = refl
tables_by guest ItsEnd calm = refl
tables_by guest (Queue offset Runs) calm = refl
tables_by guest (Queue offset (Done words)) calm = absurd (cc)
tables_by guest (Queue offset (Stalls fault)) calm = refl

event_some : (guest : IdealGuest) (event : Event) → IsWhole guest → is_calm event ≡ true → AreForSome guest → AreForSome (after_event guest event)
event_some guest event whole calm some id there has =
    let shape = shape_event event guest in
    let here : IsTrue (has_interrupt guest.shape (Lpi id)) = ap (λ s. has_interrupt s (Lpi id)) (sym shape) ∙ there in
    ap (λ (irq : Irq). is_some (target_in irq.route (after_event guest event).shape)) (event_effect event guest (Lpi id) whole here)
    ∙ ap (λ route. is_some (target_in route (after_event guest event).shape)) (route_by guest event id (irq_at guest (Lpi id)) calm)
    ∙ ap (λ s. is_some (target_in (irq_at guest (Lpi id)).route s)) shape
    ∙ some id here (ap (λ maps. has_target maps id) (sym (tables_by guest event calm)) ∙ has)

events_some : (events : List Event) (guest : IdealGuest) → IsWhole guest → list_all is_calm events ≡ true → AreForSome guest → AreForSome (after_events events guest)
events_some [] guest whole calm some = some
events_some (event ∷ events) guest whole calm some =
    let both = and_parts (is_calm event) (list_all is_calm events) calm in
    events_some events (after_event guest event) (guest_whole event guest whole) both.1 (event_some guest event whole both.0 some)

-- ---- commands

module _ (guest : IdealGuest) (sound : IsSound guest) (some : AreForSome guest) where
  done_some : (command : Command) → decoded (command_words guest.shape (view_of guest)) ≡ Ok command → fault_of guest.shape guest.tables command ≡ None → AreForSome (after_command guest)
  done_some command is good =
      let offset = advanced guest.offset (queue_bytes (word_at guest Cbaser)) in
      subst AreForSome (command_done guest (carried_out guest command) command offset is good refl refl) at_end
    where
      at_end : (id : ℕ) → IsTrue (has_interrupt (carried_out guest command).shape (Lpi id)) → has_target (maps_after guest.tables command) id ≡ true → is_some (target_at (carried_out guest command) id) ≡ true
      at_end id there has =
          let made = map (lpi_event guest.shape (view_of guest) (view_of guest).targets) (parts guest.shape guest.tables (view_of guest).targets command) in
          let here : IsTrue (has_interrupt guest.shape (Lpi id)) = ap (λ s. has_interrupt s (Lpi id)) (sym (same_shape made guest)) ∙ there in
          parts_some id guest.shape (view_of guest) (view_of guest).targets (parts guest.shape guest.tables (view_of guest).targets command) guest (whole_of guest sound) here
          ∙ command_ends guest.shape guest.tables (view_of guest).targets id sound.maps (some id here) command good has

  stalled_some : (fault : ℕ) → fault_number guest.shape guest.tables (decoded (command_words guest.shape (view_of guest))) ≡ Some fault → AreForSome (after_command guest)
  stalled_some fault e = subst AreForSome (sym (bad_command guest fault e)) some

  command_some : AreForSome (after_command guest)
  command_some = of (decoded (command_words guest.shape (view_of guest))) refl (fault_number guest.shape guest.tables (decoded (command_words guest.shape (view_of guest)))) refl
    where
      of : (r : Result Command BadCommand) → decoded (command_words guest.shape (view_of guest)) ≡ r → (o : Option ℕ) → fault_number guest.shape guest.tables (decoded (command_words guest.shape (view_of guest))) ≡ o → AreForSome (after_command guest)
      of r is (Some fault) e = stalled_some fault e
      of (Ok command) is None e = done_some command is (unmapped number_of (fault_of guest.shape guest.tables command) (ap (fault_number guest.shape guest.tables) (sym is) ∙ e))
      of (Err bad) is None e = absurd (none-some 10 (sym (ap (fault_number guest.shape guest.tables) (sym is) ∙ e)))

commands_some : (most : ℕ) (guest : IdealGuest) → IsSound guest → AreForSome guest → AreForSome (after_commands most guest)
commands_some zero guest sound some = some
commands_some (suc most) guest sound some =
    either (takes_command (view_of guest)) (after_commands most (after_command guest)) guest
    (commands_some most (after_command guest) (sound_events guest (command_events guest.shape (view_of guest)) sound (command_follows guest sound)) (command_some guest sound some)) some
  where
    either : (b : Bool) (one other : IdealGuest) → AreForSome one → AreForSome other → AreForSome (cond b one other)
    either true one other first second = first
    either false one other first second = second

-- ---- operations

pub op_some : (op : GuestOp) (guest : IdealGuest) (vcpu : ℕ) → IsSound guest → IsTrue (is_good_op guest.shape op) → AreForSome guest → AreForSome (after_op op guest vcpu)
op_some (Icc reg write) guest vcpu sound good some = events_some (icc_events guest.shape vcpu reg write) guest (whole_of guest sound) (icc_calm guest.shape vcpu reg write) some
op_some (Mem frame offset size write) guest vcpu sound good some = either (starts_commands guest.shape (view_of guest) frame offset size write)
  where
    events : List Event
    events = access_events guest.shape (view_of guest) frame offset size write

    changed : IdealGuest
    changed = after_events events guest

    written : AreForSome changed
    written = events_some events guest (whole_of guest sound) (access_calm guest.shape (view_of guest) frame offset size write) some

    fine : IsFineView guest.shape (view_of guest)
    fine = record { records = λ key there. (sound.records key there).valid; offset = record { place = sound.place; within = sound.offset }; maps = sound.maps }

    sound_changed : IsSound changed
    sound_changed = sound_events guest events sound (free_follow guest events (access_valid guest.shape (view_of guest) frame offset size write sound.shape fine good))

    either : (b : Bool) → AreForSome (cond b (after_queued changed) changed)
    either true = commands_some (queue_places (word_at changed Cbaser)) changed sound_changed written
    either false = written

pub device_some : (op : DeviceOp) (guest : IdealGuest) → IsSound guest → AreForSome guest → AreForSome (after_device op guest)
device_some op guest sound some = events_some (device_events (view_of guest) op) guest (whole_of guest sound) (device_calm (view_of guest) op) some
