-- How a guest opens (own choice of all opening values).
use Rattle.std.specs.Prelude.{◌≡◌, ◌≢◌, ℕ, ◌==◌, List, length, map, fold, slice_set, replicate, Bool, true, false, IsTrue, nat_lt, if◌then◌else◌, Some, None}
use Rattle.std.specs.List.{slice_index_or, range_with_len}
use Rattle.std.specs.Option.{option_map_or}
use Rattle.gic_guest.specs.Words.{GuestShape, IsShape, Key, Private, Spi, Lpi, has_interrupt, interrupt_count, key_at, place_of, G0, G1, Route, Affinity, Target, Irq, IsRecordOf, IsHome}
use Rattle.gic_guest.specs.GicWord.declared.record.Group.{Group}
use Rattle.gic_prio.specs.declared.cpu.CpuRec.{CpuRec}
use Rattle.gic_guest.specs.declared.guest.GuestSpec.{GuestSpec}
use Rattle.gic_guest.specs.declared.preset.Preset.{Preset}
use Rattle.gic_guest.specs.Good.{preset_key, IsGoodGuest}

-- a record without a cause, inactive and disabled; on says whether GICD_CTLR opens with both group enables
abbrev pub idle_irq : Bool → Group → Bool → Route → Irq
idle_irq on group edge route =
    record {
      prio = 0;
      enabled = false;
      group = group;
      edge = edge;
      line = false;
      rise = false;
      soft = false;
      act_by = None;
      holder = None;
      want = false;
      en0 = on;
      en1 = on;
      route = route;
    }

-- the record that an interrupt opens with, where no preset names it
abbrev pub opening_irq : Bool → Key → Irq
opening_irq on (Private vcpu id) = idle_irq on G0 (nat_lt id 16) (Target (Some vcpu))
opening_irq on (Spi id) = idle_irq on G0 false (Affinity 0)
opening_irq on (Lpi id) = idle_irq on G1 true (Target None)

-- the group of a number
abbrev pub group_of : ℕ → Group
group_of n = if n == 0 then G0 else G1

-- the record that a preset makes of the opening one: enabled, and as the preset says
abbrev pub with_preset : Preset → Irq → Irq
with_preset preset irq =
    record irq {
      prio = preset.prio;
      enabled = true;
      group = group_of preset.group;
      edge = preset.edge;
      route = option_map_or Affinity preset.to irq.route;
    }

-- the record of an interrupt, among those of all in key order; of one that the guest does not have, an opening one
abbrev pub irq_in : GuestShape → List Irq → Key → Irq
irq_in shape irqs key = if has_interrupt shape key then slice_index_or irqs (place_of shape key) (opening_irq false key) else opening_irq false key

-- the records with this one of an interrupt; where the guest does not have the interrupt, as they were
abbrev pub with_irq_in : GuestShape → Key → Irq → List Irq → List Irq
with_irq_in shape key irq irqs = if has_interrupt shape key then slice_set irqs (place_of shape key) irq else irqs

-- the records after one more preset
abbrev pub after_preset : GuestShape → List Irq → Preset → List Irq
after_preset shape irqs preset = let key = preset_key preset in with_irq_in shape key (with_preset preset (irq_in shape irqs key)) irqs

-- the records in key order, before any preset
abbrev pub opening_irqs : Bool → GuestShape → List Irq
opening_irqs on shape = map (λ place. opening_irq on (key_at shape place)) (range_with_len 0 (interrupt_count shape))

-- the records in key order as a guest opens: after its presets
abbrev pub irqs_of : GuestSpec → List Irq
irqs_of guest = fold (after_preset guest.shape) (opening_irqs guest.on guest.shape) guest.presets

-- the record that a vCPU's CPU interface opens with
abbrev pub opening_cpu : Bool → CpuRec
opening_cpu on =
    record {
      pmr = if on then 0xF0 else 0;
      bpr0 = 2;
      bpr1 = 3;
      cbpr = false;
      eoimode = false;
      en0 = false;
      en1 = on;
      lpis = false;
      ap0 = 0;
      ap1 = 0;
    }

-- the records of the CPU interfaces as a guest opens
abbrev pub cpus_of : GuestSpec → List CpuRec
cpus_of guest = replicate guest.shape.vcpus (opening_cpu guest.on)

-- EnableGrp0 and EnableGrp1 as a guest opens, at the bits 0 and 1 (IHI 0069, GICD_CTLR)
abbrev pub opening_enables : Bool → ℕ
opening_enables on = if on then 3 else 0

-- a record that is written is read where it was written, and nowhere else
abbrev pub RecordsAreApart : Type 0
RecordsAreApart =
    (shape : GuestShape) (irqs : List Irq) (j k : Key) (irq : Irq) → IsShape shape → length irqs ≡ interrupt_count shape →
    (IsTrue (has_interrupt shape j) → irq_in shape (with_irq_in shape j irq irqs) j ≡ irq) × (j ≢ k → irq_in shape (with_irq_in shape j irq irqs) k ≡ irq_in shape irqs k)

-- each record with which a good guest opens is one that its interrupt can have, and its interrupt is at no interface
abbrev pub OpeningsAreValid : Type 0
OpeningsAreValid =
    (guest : GuestSpec) (key : Key) → IsGoodGuest guest → IsTrue (has_interrupt guest.shape key) →
    IsRecordOf guest.shape key (irq_in guest.shape (irqs_of guest) key) × IsHome (irq_in guest.shape (irqs_of guest) key)
