-- What is saved of a run of the ideal controller, between two of its steps (own choice).
use Rattle.std.specs.Prelude.{ℕ, ◌+◌, ◌*◌, ◌/◌, ◌==◌, ◌&&◌, List, [], ◌∷◌, map, fold, drop, take, count_by, Bool, if◌then◌else◌, nat_eq, Option, Some, None}
use Rattle.std.specs.Option.{option_and_then, option_eq}
use Rattle.std.specs.Bool.{beq}
use Rattle.std.specs.List.{slice_index_or, range_with_len, filter_map}
use Rattle.saved_guest.specs.IdealGuests.Words.{GuestShape, Key, Private, Spi, Lpi, interrupt_count, key_at, bit_of, group_number, Irq, Route, Affinity, Target}
use Rattle.saved_guest.specs.IdealGuests.Registers.{CpuRec, Enables, has_lpis, enabled_in, baser_of, Devices, Collections}
use Rattle.saved_guest.specs.IdealGuests.Calls.{GuestSpec, shapes_of, irq_in, irqs_of, DevEnd, EvtEnd, ColEnd, Ram, Propbaser, Pendbaser, ItsCtlr, Cbaser, Cwriter, Baser0, Baser1, Fault}
use Rattle.saved_guest.specs.IdealGuests.declared.guest.IdealGuest.{IdealGuest}
use Rattle.saved_guest.specs.IdealGuests.Ideal.{irq_at, word_at}
use Rattle.saved_guest.specs.ScnSaved.ScnBase.declared.scenario.Scenario.{Scenario}
use Rattle.saved_guest.specs.ScnSaved.ScnBase.declared.step.Step.{Step}
use Rattle.saved_guest.specs.ScnSaved.ScnBase.declared.standing.MovedWire.{MovedWire}
use Rattle.saved_guest.specs.ScnSaved.ScnBase.declared.standing.Standing.{Standing}
use Rattle.saved_guest.specs.ScnSaved.ScnBase.Standing.{wire_count, opening_standing, standing_after}
use Rattle.saved_guest.specs.ScnSaved.Read.{is_read}
use Rattle.saved_guest.specs.ScnSaved.declared.saved.Saved.{Saved}
use Rattle.saved_guest.specs.ScnSaved.declared.state.GuestState.{GuestState}
use Rattle.saved_guest.specs.ScnSaved.declared.state.CpuState.{CpuState}
use Rattle.saved_guest.specs.ScnSaved.declared.state.RecState.{RecState}
use Rattle.saved_guest.specs.ScnSaved.declared.state.RedistState.{RedistState}
use Rattle.saved_guest.specs.ScnSaved.declared.state.ItsState.{ItsState}
use Rattle.saved_guest.specs.ScnSaved.declared.state.RamState.{RamState}
use Rattle.saved_guest.specs.Standing.{no_device}

-- what is said of whom an interrupt is for: nothing of a private one
abbrev pub said_route : Key → Route → Option ℕ
said_route (Private vcpu id) route = None
said_route (Spi id) (Affinity affinity) = Some affinity
said_route (Spi id) (Target target) = None
said_route (Lpi id) (Affinity affinity) = None
said_route (Lpi id) (Target target) = target

-- the device that moved a wire, if one of the guest's did
abbrev pub mover_of : Option MovedWire → Option ℕ
mover_of wire = option_and_then (λ wire. if wire.device == no_device then None else Some wire.device) wire

-- an interrupt, with its wire
abbrev pub rec_of : Key → Irq → Option MovedWire → RecState
rec_of key irq wire =
    record {
      key = key;
      enabled = irq.enabled;
      group = group_number irq.group;
      prio = irq.prio;
      edge = irq.edge;
      line = irq.line;
      rise = irq.rise;
      soft = irq.soft;
      act = irq.act_by;
      route = said_route key irq.route;
      en0 = irq.en0;
      en1 = irq.en1;
      mover = mover_of wire;
    }

-- the two say the same of one interrupt
abbrev pub is_same_rec : RecState → RecState → Bool
is_same_rec a b =
    beq a.enabled b.enabled && a.group == b.group && a.prio == b.prio && beq a.edge b.edge && beq a.line b.line && beq a.rise b.rise && beq a.soft b.soft
    && option_eq nat_eq a.act b.act && option_eq nat_eq a.route b.route && beq a.en0 b.en0 && beq a.en1 b.en1 && option_eq nat_eq a.mover b.mover

-- the interrupt at a place now, and as the guest opened
abbrev pub rec_now : List (Option MovedWire) → IdealGuest → ℕ → RecState
rec_now wires state place = let key = key_at state.shape place in rec_of key (irq_at state key) (slice_index_or wires place None)

abbrev pub rec_opened : GuestShape → List Irq → ℕ → RecState
rec_opened shape opened place = let key = key_at shape place in rec_of key (irq_in shape opened key) None

-- the interrupt at a place, where it is not as the guest opened, or its wire was moved
abbrev pub rec_at : List Irq → List (Option MovedWire) → IdealGuest → ℕ → Option RecState
rec_at opened wires state place = if is_same_rec (rec_opened state.shape opened place) (rec_now wires state place) then None else Some (rec_now wires state place)

-- all such interrupts, in key order
abbrev pub recs_of : List Irq → List (Option MovedWire) → IdealGuest → ℕ → List RecState
recs_of opened wires state count = filter_map (rec_at opened wires state) (range_with_len 0 count)

-- GICD_CTLR's two enables, at their bits
abbrev pub gicd_of : Enables → ℕ
gicd_of enables = bit_of enables.group0 + 2 * bit_of enables.group1

abbrev pub cpu_state : CpuRec → CpuState
cpu_state cpu =
    record {
      pmr = cpu.pmr;
      bpr0 = cpu.bpr0;
      bpr1 = cpu.bpr1;
      cbpr = cpu.cbpr;
      eoimode = cpu.eoimode;
      en0 = cpu.en0;
      en1 = cpu.en1;
      lpis = cpu.lpis;
      ap0 = cpu.ap0;
      ap1 = cpu.ap1;
    }

abbrev pub redist_state : IdealGuest → ℕ → RedistState
redist_state state vcpu = record { propbaser = word_at state (Propbaser vcpu); pendbaser = word_at state (Pendbaser vcpu) }

-- the ITS: its tables' registers as they read, and the number of the fault at which its queue is stalled
abbrev pub its_state : IdealGuest → ItsState
its_state state =
    record {
      enabled = enabled_in (word_at state ItsCtlr);
      cbaser = word_at state Cbaser;
      cwriter = word_at state Cwriter;
      offset = state.offset;
      stalled = state.is_stalled;
      fault = if state.is_stalled then word_at state Fault else 0;
      baser0 = baser_of Devices (word_at state Baser0);
      baser1 = baser_of Collections (word_at state Baser1);
    }

-- a word of memory that is not 0
abbrev pub ram_at : IdealGuest → ℕ → Option RamState
ram_at state index = if word_at state (Ram index) == 0 then None else Some (record { index = index; word = word_at state (Ram index) })

-- what is mapped
abbrev pub dev_of : ℕ × ℕ → DevEnd
dev_of pair = record { device = pair.0; bits = pair.1 }

abbrev pub evt_of : (ℕ × ℕ) × (ℕ × ℕ) → EvtEnd
evt_of pair = record { device = pair.0.0; event = pair.0.1; id = pair.1.0; icid = pair.1.1 }

abbrev pub col_of : ℕ × ℕ → ColEnd
col_of pair = record { icid = pair.0; vcpu = pair.1 }

-- the words of memory that are not 0, among so many
abbrev pub rams_of : IdealGuest → ℕ → List RamState
rams_of state count = filter_map (ram_at state) (range_with_len 0 count)

-- what is saved of a guest that is in this state, and whose wires are so
abbrev pub taken_of : GuestSpec → List (Option MovedWire) → IdealGuest → GuestState
taken_of guest wires state =
    record {
      gicd = gicd_of state.enables;
      cpu = map cpu_state state.cpus;
      rec = recs_of (irqs_of guest) wires state (interrupt_count state.shape);
      redist = map (redist_state state) (range_with_len 0 state.shape.vcpus);
      its = if has_lpis state.shape then Some (its_state state) else None;
      dev = map dev_of state.tables.devices;
      evt = map evt_of state.tables.events;
      col = map col_of state.tables.collections;
      ram = rams_of state (state.shape.ram / 8);
    }

-- the wires of a guest, by the place of the interrupt
abbrev pub wires_at : Standing → ℕ → List (Option MovedWire)
wires_at standing number = drop (wire_count (take number standing.shapes)) standing.wires

-- of all guests, the first of which has this number
abbrev pub all_taken : Standing → ℕ → List GuestSpec → List IdealGuest → List GuestState
all_taken standing number [] states = []
all_taken standing number (guest ∷ guests) [] = []
all_taken standing number (guest ∷ guests) (state ∷ states) = taken_of guest (wires_at standing number) state ∷ all_taken standing (number + 1) guests states

-- the standing after some of the steps
abbrev pub stands_after : List Step → Standing → Standing
stands_after steps standing = fold (λ standing step. standing_after step standing) standing steps

-- the standing after so many steps of a scenario
abbrev pub standing_at : Scenario → ℕ → Standing
standing_at scenario done = stands_after (take done scenario.steps) (opening_standing scenario.pes (shapes_of scenario.guests))

-- what is saved of a scenario of which so many steps were done, which left the guests so
abbrev pub saved_of : Scenario → ℕ → List IdealGuest → Saved
saved_of scenario done states =
    record {
      scenario = record scenario { steps = drop done scenario.steps };
      done = done;
      reads = count_by is_read (take done scenario.steps);
      on_pe = (standing_at scenario done).pes;
      state = all_taken (standing_at scenario done) 0 scenario.guests states;
    }
