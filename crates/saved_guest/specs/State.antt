-- The guest of the ideal controller that a saved state tells (own choice of what is saved; the registers are those of IHI 0069).
use Rattle.std.specs.Prelude.{ℕ, ◌/◌, ◌++◌, List, [], ◌∷◌, map, fold, replicate, slice_set, unwrap_or, false, Option, Some, None}
use Rattle.std.specs.Option.{option_map_or}
use Rattle.std.specs.List.{flat_map}
use Rattle.ideal_guest.specs.Words.{GuestShape, Key, Private, Spi, Lpi, bit_of, Irq, Route, Affinity, Target}
use Rattle.ideal_guest.specs.Registers.{CpuRec, Maps, enables_in, baser_bits}
use Rattle.ideal_guest.specs.Calls.{GuestSpec, group_of, irqs_of, with_irq_in, DevEnd, EvtEnd, ColEnd}
use Rattle.ideal_guest.specs.declared.guest.IdealGuest.{IdealGuest}
use Rattle.scn_saved.specs.declared.state.GuestState.{GuestState}
use Rattle.scn_saved.specs.declared.state.CpuState.{CpuState}
use Rattle.scn_saved.specs.declared.state.RecState.{RecState}
use Rattle.scn_saved.specs.declared.state.RedistState.{RedistState}
use Rattle.scn_saved.specs.declared.state.ItsState.{ItsState}
use Rattle.scn_saved.specs.declared.state.RamState.{RamState}

-- whom an interrupt is for: a private one for its vCPU, an SPI by its affinity, an LPI for its target
abbrev pub route_of : Key → Option ℕ → Route
route_of (Private vcpu id) route = Target (Some vcpu)
route_of (Spi id) route = Affinity (unwrap_or route 0)
route_of (Lpi id) route = Target route

-- the record of an interrupt: no interface holds it, and no access waits for it
abbrev pub record_of : RecState → Irq
record_of rec =
    record {
      prio = rec.prio;
      enabled = rec.enabled;
      group = group_of rec.group;
      edge = rec.edge;
      line = rec.line;
      rise = rec.rise;
      soft = rec.soft;
      act_by = rec.act;
      holder = None;
      want = false;
      en0 = rec.en0;
      en1 = rec.en1;
      route = route_of rec.key rec.route;
    }

-- the records with this one in its place
abbrev pub with_rec : GuestShape → List Irq → RecState → List Irq
with_rec shape irqs rec = with_irq_in shape rec.key (record_of rec) irqs

-- the records in key order: as the guest opens, but for those that were saved
abbrev pub irqs_with : GuestSpec → List RecState → List Irq
irqs_with guest recs = fold (with_rec guest.shape) (irqs_of guest) recs

-- the record of a CPU interface
abbrev pub cpu_of : CpuState → CpuRec
cpu_of cpu =
    record {
      pmr = cpu.pmr;
      bpr0 = cpu.bpr0;
      bpr1 = cpu.bpr1;
      cbpr = cpu.cbpr;
      eoimode = cpu.eoimode;
      en0 = cpu.en0;
      en1 = cpu.en1;
      lpis = cpu.lpis;
      ap0 = cpu.ap0;
      ap1 = cpu.ap1;
    }

-- memory: a word that was not saved is 0
abbrev pub memory_of : GuestShape → List RamState → List ℕ
memory_of shape words = fold (λ memory ram. slice_set memory ram.index ram.word) (replicate (shape.ram / 8) 0) words

-- GICR_PROPBASER and GICR_PENDBASER of each vCPU
abbrev pub redist_words : List RedistState → List ℕ
redist_words redists = flat_map (λ redist. redist.propbaser ∷ redist.pendbaser ∷ []) redists

-- GITS_CTLR, GITS_CBASER, GITS_CWRITER, the two GITS_BASER as they are stored, and the number of a fault; 0 each in a guest without LPIs
abbrev pub its_words : Option ItsState → List ℕ
its_words None = 0 ∷ 0 ∷ 0 ∷ 0 ∷ 0 ∷ 0 ∷ []
its_words (Some its) = bit_of its.enabled ∷ its.cbaser ∷ its.cwriter ∷ baser_bits its.baser0 ∷ baser_bits its.baser1 ∷ its.fault ∷ []

-- the plain words, by place
abbrev pub words_of : GuestShape → GuestState → List ℕ
words_of shape state = memory_of shape state.ram ++ (redist_words state.redist ++ its_words state.its)

-- what the ITS has mapped
abbrev pub maps_of : GuestState → Maps
maps_of state =
    record {
      devices = map (λ (dev : DevEnd). (dev.device, dev.bits)) state.dev;
      events = map (λ (evt : EvtEnd). ((evt.device, evt.event), (evt.id, evt.icid))) state.evt;
      collections = map (λ (col : ColEnd). (col.icid, col.vcpu)) state.col;
    }

-- the guest
abbrev pub state_of : GuestSpec → GuestState → IdealGuest
state_of guest state =
    record {
      shape = guest.shape;
      irqs = irqs_with guest state.rec;
      cpus = map cpu_of state.cpu;
      enables = enables_in state.gicd;
      words = words_of guest.shape state;
      offset = option_map_or (λ its. its.offset) state.its 0;
      is_stalled = option_map_or (λ its. its.stalled) state.its false;
      tables = maps_of state;
    }
