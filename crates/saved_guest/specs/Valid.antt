-- States that can have been saved: which an image may tell (own choice of the form; the ranges are those of the registers of IHI 0069).
use Rattle.std.specs.Prelude.{◌≡◌, ℕ, ◌<◌, ◌≤◌, ◌^◌, ◌/◌, ◌%◌, ◌&&◌, ◌||◌, ◌==◌, not, nat_lt, nat_le, List, [], length, map, All, Bool, true, false, IsTrue, IfSome, Option, None, is_some, is_none}
use Rattle.std.specs.Option.{option_map_or}
use Rattle.std.specs.Ordering.{nat_cmp}
use Rattle.std.specs.List.Sorted.{IsStrictlySortedBy}
use Rattle.ideal_guest.specs.Words.{GuestShape, Key, Private, Spi, Lpi, has_interrupt, place_of, is_vcpu_or_none, target_in}
use Rattle.ideal_guest.specs.Registers.{has_lpis, enables_in, propbaser_bits, pendbaser_bits, cbaser_bits, queue_bytes, baser_of, Devices, Collections, IsValid, has_target}
use Rattle.ideal_guest.specs.Calls.{GuestSpec, has_wire, irq_in, EvtEnd, ColEnd}
use Rattle.ideal_guest.specs.CanOpen.{copy_in, is_own}
use Rattle.scn_saved.specs.declared.state.GuestState.{GuestState}
use Rattle.scn_saved.specs.declared.state.CpuState.{CpuState}
use Rattle.scn_saved.specs.declared.state.RecState.{RecState}
use Rattle.scn_saved.specs.declared.state.RedistState.{RedistState}
use Rattle.scn_saved.specs.declared.state.ItsState.{ItsState}
use Rattle.scn_saved.specs.declared.state.RamState.{RamState}
use Rattle.saved_guest.specs.State.{irqs_with, maps_of}

-- ---- rows

-- the registers of a CPU interface hold what writes can leave in them (IHI 0069, ICC_PMR, ICC_BPR0, ICC_BPR1, ICC_AP0R<n>, ICC_AP1R<n>), and
-- GICR_CTLR.EnableLPIs is 0 in a guest without LPIs
pub record IsValidCpu (shape : GuestShape) (cpu : CpuState) : Type 0 where
  pub pmr : cpu.pmr ≤ 248
  pub pmr_bits : cpu.pmr % 8 ≡ 0
  pub least_bpr0 : 2 ≤ cpu.bpr0
  pub bpr0 : cpu.bpr0 ≤ 7
  pub least_bpr1 : 3 ≤ cpu.bpr1
  pub bpr1 : cpu.bpr1 ≤ 7
  pub lpis : IsTrue (has_lpis shape || not cpu.lpis)
  pub ap0 : cpu.ap0 < 2 ^ 32
  pub ap1 : cpu.ap1 < 2 ^ 32

-- an SGI is edge-triggered; an LPI is too, of group 1, and not active (IHI 0069, "INTIDs")
abbrev pub is_of_its_kind : RecState → Key → Bool
is_of_its_kind rec (Private vcpu id) = not (nat_lt id 16) || rec.edge
is_of_its_kind rec (Spi id) = true
is_of_its_kind rec (Lpi id) = rec.edge && rec.group == 1 && is_none rec.act

-- an SPI has an affinity of 32 bits, an LPI is for a vCPU of the guest or for none, and of a private interrupt nothing is said
abbrev pub is_route : GuestShape → Key → Option ℕ → Bool
is_route shape (Private vcpu id) route = is_none route
is_route shape (Spi id) route = option_map_or (λ affinity. nat_lt affinity (2 ^ 32)) route false
is_route shape (Lpi id) route = is_vcpu_or_none shape route

-- there is no such number, or it is that of one of the guest's devices
abbrev pub is_device_or_none : GuestShape → Option ℕ → Bool
is_device_or_none shape device = option_map_or (λ device. nat_lt device shape.devices) device true

-- nothing is said of a wire: it is down, did not rise, and nobody moved it
abbrev pub is_unwired : RecState → Bool
is_unwired rec = not rec.line && not rec.rise && is_none rec.mover

-- the record is one that its interrupt can have, which the guest has
pub record IsValidRec (shape : GuestShape) (rec : RecState) : Type 0 where
  pub there : IsTrue (has_interrupt shape rec.key)
  pub group : rec.group ≤ 1
  pub prio : rec.prio ≤ 248
  pub prio_bits : rec.prio % 8 ≡ 0
  pub kind : IsTrue (is_of_its_kind rec rec.key)
  -- SGIs and LPIs have no wires
  pub wire : IsTrue (has_wire rec.key || is_unwired rec)
  -- a private interrupt is active by its own vCPU or by none
  pub active : IsTrue (is_vcpu_or_none shape rec.act)
  pub own : IsTrue (is_own rec.key rec.act)
  pub route : IsTrue (is_route shape rec.key rec.route)
  pub mover : IsTrue (is_device_or_none shape rec.mover)

-- the registers of a redistributor have no bits that are not stored (IHI 0069, GICR_PROPBASER and GICR_PENDBASER)
pub record IsValidRedist (redist : RedistState) : Type 0 where
  pub propbaser : redist.propbaser ≡ propbaser_bits redist.propbaser
  pub pendbaser : redist.pendbaser ≡ pendbaser_bits redist.pendbaser

-- the number of a fault of a command, or 0 where the queue is not stalled
abbrev pub is_fault : Bool → ℕ → Bool
is_fault false fault = fault == 0
is_fault true fault = (nat_le 1 fault && nat_le fault 8) || fault == 10

-- the registers of the ITS have no bits that are not stored, and the places in its queue are of commands (IHI 0069, GITS_CBASER, GITS_CWRITER,
-- GITS_CREADR, GITS_BASER<n>)
pub record IsValidIts (its : ItsState) : Type 0 where
  pub cbaser : its.cbaser ≡ cbaser_bits its.cbaser
  pub cwriter : its.cwriter < queue_bytes its.cbaser
  pub cwriter_place : its.cwriter % 32 ≡ 0
  pub offset : its.offset < queue_bytes its.cbaser
  pub offset_place : its.offset % 32 ≡ 0
  pub fault : IsTrue (is_fault its.stalled its.fault)
  pub baser0 : its.baser0 ≡ baser_of Devices its.baser0
  pub baser1 : its.baser1 ≡ baser_of Collections its.baser1

-- the guest has this word of memory, and it has 64 bits
pub record IsValidWord (shape : GuestShape) (ram : RamState) : Type 0 where
  pub there : ram.index < shape.ram / 8
  pub fits : ram.word < 2 ^ 64

-- ---- a guest

-- the state is one that this guest can have between two steps
pub record IsValidState (guest : GuestSpec) (state : GuestState) : Type 0 where
  -- EnableGrp0 and EnableGrp1 are two bits
  pub gicd : state.gicd ≤ 3
  -- each vCPU has a CPU interface and a redistributor
  pub cpus : length state.cpu ≡ guest.shape.vcpus
  pub each_cpu : All (IsValidCpu guest.shape) state.cpu
  pub redists : length state.redist ≡ guest.shape.vcpus
  pub each_redist : All IsValidRedist state.redist
  -- each interrupt stands once, in key order
  pub rec_order : IsStrictlySortedBy nat_cmp (map (λ (rec : RecState). place_of guest.shape rec.key) state.rec)
  pub each_rec : All (IsValidRec guest.shape) state.rec
  -- each record has copies of GICD_CTLR's enables: where these are not as the guest opened, each record stands here
  pub copies : (key : Key) → IsTrue (has_interrupt guest.shape key) → copy_in (irq_in guest.shape (irqs_with guest state.rec) key) ≡ enables_in state.gicd
  -- an ITS is there exactly where the guest has LPIs, and without one nothing is mapped
  pub its : is_some state.its ≡ has_lpis guest.shape
  pub its_valid : IfSome state.its IsValidIts
  pub no_dev : state.its ≡ None → state.dev ≡ []
  pub no_col : state.its ≡ None → state.col ≡ []
  -- devices, events and collections stand in order, once each; an event is of a mapped device and its number in range, no two events have one
  -- INTID, and each has that of an LPI of the guest; collections have vCPUs of the guest
  pub maps : IsValid guest.shape (maps_of state)
  -- numbers of collections have 16 bits
  pub event_collections : All (λ (evt : EvtEnd). evt.icid < 65536) state.evt
  pub collections : All (λ (col : ColEnd). col.icid < 65536) state.col
  -- an LPI has a target exactly where it has an event, whose collection is mapped
  pub targets : (id : ℕ) → IsTrue (has_interrupt guest.shape (Lpi id)) → is_some (target_in (irq_in guest.shape (irqs_with guest state.rec) (Lpi id)).route guest.shape) ≡ has_target (maps_of state) id
  -- words of memory stand in order, once each
  pub ram_order : IsStrictlySortedBy nat_cmp (map (λ (ram : RamState). ram.index) state.ram)
  pub each_word : All (IsValidWord guest.shape) state.ram
