-- Each event that can follow keeps a guest sound.
use Rattle.std.proofs.Common.{◌≡◌, ℕ, ◌&&◌, Bool, true, false, cond, IsTrue, List, [], ◌∷◌, Option, Some, None, refl, sym, ap, subst}
use Rattle.ideal_guest.specs.Words.{raised, wire_up, wire_down, IccReg, has_interrupt}
use Rattle.ideal_guest.specs.Registers.{taken_by, deactivated_by, cpu_after, Command, BadCommand, fault_number, fault_of, IsValid, CpuRec, CmdFault, number_of}
use Rattle.ideal_guest.specs.Calls.{has_wire, Event, Up, Down, Enable, Touch, Reach, Take, Leave, Cpu, Put, CtlrBegin, CtlrEnd, ItsBegin, Runs, Done, Stalls, maps_by, maps_done, touched, place_of_plain}
use Rattle.std.specs.Prelude.{Result, Ok, Err}
use Rattle.ideal_guest.specs.ItsCmd.Command.{decoded}
use Rattle.ideal_guest.specs.GicCall.declared.event.Event.TheVariants.{Raise, Read, ItsEnd, Queue}
use Rattle.ideal_guest.proofs.ItsTab.AfterLemmas.{kept_valid}
use Rattle.std.specs.Option.{option_map}
use Rattle.std.specs.List.{slice_set}
use Rattle.ideal_guest.specs.declared.guest.IdealGuest.{IdealGuest}
use Rattle.ideal_guest.specs.Ideal.{irq_at, cpu_at, candidates, after_acknowledge, after_deactivation, after_access, after_event, with_queue}
use Rattle.ideal_guest.specs.Sound.{IsIdealCpu, IsSound}
use Rattle.gic_ideal.specs.Laws.{CanFollow, EventsKeepSound}
use Rattle.ideal_guest.proofs.CandidateLemmas.{taken_was}
use Rattle.ideal_guest.proofs.SoundLemmas.{sound_changed, sound_with_cpu, sound_with_enables, sound_with_queue, sound_with_word, sound_with_maps, sound_stalled, sound_acknowledged, sound_deactivated, cpu_valid, cpu_after_valid, vcpu_there, ideal_raised, ideal_wire_up, ideal_wire_down, ideal_touch}

-- a command without a fault keeps the maps valid
done_valid : (guest : IdealGuest) (words : List ℕ) → IsSound guest → fault_number guest.shape guest.tables (decoded words) ≡ None → IsValid guest.shape (maps_done guest.tables words)
done_valid guest words sound h = of (decoded words) h
  where
    none : (o : Option CmdFault) → option_map number_of o ≡ None → o ≡ None
    none None e = refl
    none (Some fault) e = absurd (cc)

    of : (r : Result Command BadCommand) → fault_number guest.shape guest.tables r ≡ None → IsValid guest.shape (maps_by guest.tables r)
    of (Ok command) e = kept_valid guest.shape guest.tables command sound.maps (none (fault_of guest.shape guest.tables command) e)
    of (Err bad) e = absurd (cc)

-- an access of a CPU interface register
sound_access : (reg : IccReg) (write : Option ℕ) (guest : IdealGuest) (vcpu : ℕ) → IsSound guest → IsSound (after_access reg write guest vcpu)
sound_access reg write guest vcpu sound =
    let cpu = cpu_at guest vcpu in
    let among = candidates guest vcpu in
    let taken = taken_by reg write cpu among in
    let middle = after_acknowledge taken guest vcpu in
    let named = deactivated_by reg write cpu in
    let first = sound_acknowledged taken guest vcpu sound (λ found e. vcpu_there guest vcpu found sound (taken_was reg write guest vcpu found sound e)) in
    sound_with_cpu (after_deactivation named middle vcpu) vcpu (cpu_after reg write cpu among) (sound_deactivated named middle vcpu first) (cpu_after_valid reg write cpu among (cpu_valid guest.cpus vcpu sound.interfaces))

-- EnableLPIs is 1 in the record of an interface
enabled_valid : (cpu : CpuRec) → IsIdealCpu cpu → IsIdealCpu (record cpu { lpis = true })
enabled_valid cpu is = record { points = record { group_0 = is.points.group_0; group_1 = is.points.group_1 }; levels = record { group_0 = is.levels.group_0; group_1 = is.levels.group_1 } }

pub sound_event : (guest : IdealGuest) (event : Event) → IsSound guest → CanFollow guest event → IsSound (after_event guest event)
sound_event guest (Raise key) sound can = sound_changed guest key raised sound (λ there. ideal_raised guest.shape key (irq_at guest key))
sound_event guest (Up key) sound can = sound_changed guest key wire_up sound (λ there. ideal_wire_up guest.shape key (irq_at guest key) (wired (has_wire key) (has_interrupt guest.shape key) can))
  where
    wired : (a b : Bool) → IsTrue (a && b) → IsTrue a
    wired true b h = refl
    wired false b h = absurd (cc)
sound_event guest (Down key) sound can = sound_changed guest key wire_down sound (λ there. ideal_wire_down guest.shape key (irq_at guest key))
sound_event guest (Enable vcpu) sound can = sound_with_cpu guest vcpu (record (cpu_at guest vcpu) { lpis = true }) sound (enabled_valid (cpu_at guest vcpu) (cpu_valid guest.cpus vcpu sound.interfaces))
sound_event guest (Touch key touch) sound can = sound_changed guest key (touched guest.shape key touch) sound (λ there. ideal_touch guest.shape key touch (irq_at guest key) sound.shape can)
sound_event guest (Cpu vcpu reg write) sound can = sound_access reg write guest vcpu sound
sound_event guest (Put word value) sound can =
    subst (λ words. IsSound (record guest { words = words })) (sym (ap (λ b. cond b (slice_set guest.words (place_of_plain guest.shape word) value) guest.words) can.0)) (sound_with_word guest word value sound can.0 can.1)
sound_event guest (CtlrBegin enables) sound can = sound_with_enables guest enables sound
sound_event guest (Queue offset Runs) sound can = sound_with_queue guest offset false sound can
sound_event guest (Queue offset (Done words)) sound can = sound_with_maps (with_queue guest offset false) (maps_done guest.tables words) (sound_with_queue guest offset false sound can.0) (done_valid guest words sound can.1)
sound_event guest (Queue offset (Stalls fault)) sound can = sound_stalled guest offset fault sound can.0 can.1
sound_event guest (Reach key vcpu) sound can = sound
sound_event guest (Take key vcpu) sound can = sound
sound_event guest (Leave key vcpu) sound can = sound
sound_event guest (Read place) sound can = sound
sound_event guest CtlrEnd sound can = sound
sound_event guest ItsBegin sound can = sound
sound_event guest ItsEnd sound can = sound

pub sound_events : EventsKeepSound
sound_events guest [] sound can = sound
sound_events guest (event ∷ events) sound can = sound_events (after_event guest event) events (sound_event guest event sound can.can) can.rest
