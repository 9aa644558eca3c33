-- Physical interrupts that are linked to virtual ones, and what happens to both (IHI 0069, "Usage model for the List registers" and
-- "Interrupt handling state machine"; own choice of the model: edge-triggered SPIs of group 1, and one PE that the vCPUs take in turn).
use Rattle.std.specs.Prelude.{ℕ, ◌==◌, ◌&&◌, ◌||◌, not, Bool, true, false, if◌then◌else◌, Option, Some, None, List, [], ◌∷◌, map, filter, find, replicate, slice_set}
use Rattle.std.specs.List.{slice_index_or}
use Rattle.std.specs.Option.{option_map_or}
use Rattle.gic_ich.specs.Words.{IccReg, Spi, G1, intid_of}
use Rattle.gic_ich.specs.GicPrio.declared.cpu.CpuRec.{CpuRec}
use Rattle.gic_ich.specs.GicPrio.Interface.{AtInterface, InterfaceState, interface_after}
use Rattle.gic_open.specs.Opening.{opening_cpu}
use Rattle.gic_host.specs.declared.link.Link.{Link}
use Rattle.gic_host.specs.declared.step.PhysSet.{PhysSet}
use Rattle.gic_host.specs.declared.step.PhysSet.TheVariants.{Pend, Clear, Enable, Disable}
use Rattle.gic_host.specs.declared.step.HostStep.{HostStep}
use Rattle.gic_host.specs.declared.step.HostStep.TheVariants.{Phys, Icc, Enter, Exit, Lrs}
use Rattle.gic_host.specs.declared.scenario.HostScenario.{HostScenario}
use Rattle.gic_host.specs.declared.state.Virtual.{Virtual}
use Rattle.gic_host.specs.declared.state.Virtual.TheVariants.{Idle, Pending, Active}
use Rattle.gic_host.specs.declared.state.LinkState.{LinkState}

-- the links with their interrupts, the CPU record of each vCPU, and the vCPU that is loaded
pub record HostState : Type 0 where
  pub links : List LinkState
  pub cpus : List CpuRec
  pub loaded : Option ℕ

-- ---- the opening: nothing is pending or active, all physical interrupts are enabled, and vCPU 0 is loaded

abbrev pub opening_link : Link → LinkState
opening_link link = record { link = link; enabled = true; latch = false; active = false; state = Idle }

abbrev pub opening : HostScenario → HostState
opening scenario = record { links = map opening_link scenario.links; cpus = replicate scenario.vcpus (opening_cpu true); loaded = Some 0 }

-- ---- physical interrupts

-- the hypervisor takes a physical interrupt that is latched, enabled and not active: it acknowledges it, and makes the virtual one pending
abbrev pub settled_link : LinkState → LinkState
settled_link l = if l.latch && l.enabled && not l.active then record l { latch = false; active = true; state = Pending } else l

abbrev pub settled : HostState → HostState
settled host = record host { links = map settled_link host.links }

-- a physical interrupt is made pending, cleared, enabled or disabled (IHI 0069, GICD_ISPENDR, GICD_ICPENDR, GICD_ISENABLER, GICD_ICENABLER)
abbrev pub set_by : PhysSet → LinkState → LinkState
set_by Pend l = record l { latch = true }
set_by Clear l = record l { latch = false }
set_by Enable l = record l { enabled = true }
set_by Disable l = record l { enabled = false }

-- the link is of this physical interrupt
abbrev pub is_of : ℕ → LinkState → Bool
is_of phys l = l.link.phys == phys

-- a link after a step on a physical interrupt
abbrev pub with_set : ℕ → PhysSet → LinkState → LinkState
with_set phys set l = if is_of phys l then set_by set l else l

-- ---- virtual interrupts

abbrev pub is_pending : Virtual → Bool
is_pending Pending = true
is_pending state = false

abbrev pub is_active : Virtual → Bool
is_active Active = true
is_active state = false

-- the virtual interrupt is at the interface of this vCPU
abbrev pub is_at : ℕ → LinkState → Bool
is_at vcpu l = l.link.vcpu == vcpu && (is_pending l.state || is_active l.state)

-- as it stands there
abbrev pub entry_of : LinkState → AtInterface
entry_of l =
    record {
      key = Spi l.link.vid;
      prio = l.link.prio;
      group = G1;
      pending = is_pending l.state;
      active = is_active l.state;
      rise = is_pending l.state;
      soft = false;
    }

-- the record of a vCPU
abbrev pub cpu_at : List CpuRec → ℕ → CpuRec
cpu_at cpus vcpu = slice_index_or cpus vcpu (opening_cpu true)

-- the interface of a vCPU with this record
abbrev pub interface_of : CpuRec → ℕ → List LinkState → InterfaceState
interface_of cpu vcpu links = record { cpu = cpu; at = map entry_of (filter (is_at vcpu) links) }

abbrev pub interface_at : HostState → ℕ → InterfaceState
interface_at host vcpu = interface_of (cpu_at host.cpus vcpu) vcpu host.links

-- a link, where its virtual interrupt stands so after an access: what is neither pending nor active was deactivated, and its physical
-- interrupt with it
abbrev pub left_as : LinkState → AtInterface → LinkState
left_as l entry =
    if entry.pending then record l { state = Pending } else (if entry.active then record l { state = Active } else record l { state = Idle; active = false })

-- a link after an access of a vCPU that left this at its interface
abbrev pub accessed : ℕ → List AtInterface → LinkState → LinkState
accessed vcpu at l = if is_at vcpu l then option_map_or (left_as l) (find (λ entry. intid_of entry.key == l.link.vid) at) l else l

-- a vCPU reads a register of its CPU interface, or writes a value to it
abbrev pub after_access : IccReg → Option ℕ → ℕ → HostState → HostState
after_access reg write vcpu host =
    let interface = interface_after reg write (interface_at host vcpu) in
    record host { links = map (accessed vcpu interface.at) host.links; cpus = slice_set host.cpus vcpu interface.cpu }

-- ---- steps

-- what a step does, before the hypervisor takes what it can
abbrev pub moved : HostStep → HostState → HostState
moved (Phys phys None) host = host
moved (Phys phys (Some set)) host = record host { links = map (with_set phys set) host.links }
moved (Icc reg write) host = option_map_or (λ vcpu. after_access reg write vcpu host) host.loaded host
moved (Enter vcpu) host = record host { loaded = Some vcpu }
moved Exit host = record host { loaded = None }
moved Lrs host = host

abbrev pub after : HostStep → HostState → HostState
after step host = settled (moved step host)

abbrev pub after_all : List HostStep → HostState → HostState
after_all [] host = host
after_all (step ∷ steps) host = after_all steps (after step host)
