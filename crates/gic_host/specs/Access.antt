-- How the program carries out an access: which interrupts stand in list registers for it, and what is read back from them (own choice).
use Rattle.std.specs.Prelude.{ℕ, ◌≡◌, ◌<◌, ◌==◌, ◌&&◌, Bool, true, false, IfSome, if◌then◌else◌, Option, Some, None, List, map, find, length, position, All, option_to_list, option_and_then, slice_get}
use Rattle.std.specs.Option.{option_map, option_map_or}
use Rattle.gic_ich.specs.Words.{IccReg, Iar0, Iar1, Hppir0, Hppir1, GuestShape}
use Rattle.gic_ich.specs.GicWord.Record.{is_number}
use Rattle.gic_ich.specs.GicLr.declared.entry.LrState.{LrState}
use Rattle.gic_ich.specs.GicLr.Entry.{unpacked, state_has_pending, state_has_active}
use Rattle.gic_ich.specs.GicPrio.declared.cpu.CpuRec.{CpuRec}
use Rattle.gic_ich.specs.GicPrio.Priority.{HasBinaryPoints}
use Rattle.gic_ich.specs.GicPrio.Access.{deactivated_by}
use Rattle.floor_lists.specs.Lists.{Offer, plan, first_among}
use Rattle.gic_host.specs.declared.link.Link.{Link}
use Rattle.gic_host.specs.declared.state.Virtual.TheVariants.{Idle, Pending, Active}
use Rattle.gic_host.specs.declared.state.LinkState.{LinkState}
use Rattle.gic_host.specs.State.{HostState, is_active, is_at}
use Rattle.gic_host.specs.Text.{offer_of, offers_at}
use Rattle.gic_host.specs.Good.{are_good_links}

-- a register whose read asks which interrupt comes first
abbrev pub asks_first : IccReg → Bool
asks_first Iar0 = true
asks_first Iar1 = true
asks_first Hppir0 = true
asks_first Hppir1 = true
asks_first reg = false

-- the virtual interrupt is the active one with this INTID at a vCPU
abbrev pub is_named : ℕ → ℕ → LinkState → Bool
is_named vcpu id l = l.link.vcpu == vcpu && l.link.vid == id && is_active l.state

-- that interrupt, if there is one
abbrev pub named_at : List LinkState → ℕ → ℕ → Option Offer
named_at links vcpu id = option_map offer_of (find (is_named vcpu id) links)

-- the one interrupt that an access needs in trap mode: the first that is deliverable, or the active one that it deactivates
abbrev pub needed : List LinkState → ℕ → CpuRec → GuestShape → IccReg → Option ℕ → Option Offer
needed links vcpu cpu shape reg None = if asks_first reg then first_among (offers_at links vcpu) vcpu cpu shape else None
needed links vcpu cpu shape reg (Some value) = option_map_or (named_at links vcpu) (deactivated_by reg (Some value) cpu) None

-- the interrupts that are planned for an access: all that are at the interface, or in trap mode the one that it needs
abbrev pub offers_for : List LinkState → ℕ → CpuRec → GuestShape → ℕ → IccReg → Option ℕ → List Offer
offers_for links vcpu cpu shape n reg write =
    if (plan (offers_at links vcpu) vcpu cpu shape n).trapping then option_to_list (needed links vcpu cpu shape reg write) else offers_at links vcpu

-- a list register names a physical interrupt
abbrev pub names : ℕ → ℕ → Bool
names phys word = is_number phys (unpacked word).hw

-- a link whose virtual interrupt a list register shows in this State; one that became 0 from 2 deactivates the physical interrupt
abbrev pub left_in : LinkState → LrState → LinkState
left_in l state =
    if state_has_pending state then record l { state = Pending } else (if state_has_active state then record l { state = Active } else record l { state = Idle; active = false })

-- a link after an access of a vCPU that found these list registers and left others
abbrev pub read_back : ℕ → List ℕ → List ℕ → LinkState → LinkState
read_back vcpu before after l =
    if is_at vcpu l then option_map_or (λ word. left_in l (unpacked word).state) (option_and_then (slice_get after) (position (names l.link.phys) before)) l else l

-- links of so many vCPUs are good
pub record HasGoodLinks (links : List Link) : Type 0 where
  pub vcpus : ℕ
  pub good : are_good_links vcpus links ≡ true

-- the links of a state are these, which are good ones; each vCPU has a record with binary points of three bits, the loaded one too
pub record IsRunning (links : List Link) (vcpus : ℕ) (host : HostState) : Type 0 where
  pub links_are : map (λ l. l.link) host.links ≡ links
  pub good : are_good_links vcpus links ≡ true
  pub cpus : length host.cpus ≡ vcpus
  pub points : All HasBinaryPoints host.cpus
  pub loaded : IfSome host.loaded (λ vcpu. vcpu < vcpus)
