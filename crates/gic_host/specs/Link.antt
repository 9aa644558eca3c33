-- Which physical interrupt a list register names (IHI 0069, ICH_LR<n>_EL2: HW and pINTID).
use Rattle.std.specs.Prelude.{ℕ, ◌<◌, ◌^◌, ◌==◌, ◌&&◌, Bool, false, List, map, find, Option, IsSome, IfSome, All}
use Rattle.std.specs.Option.{option_map}
use Rattle.floor_lists.specs.Lists.{LrEntry, IsEntry, Choice, Fill}
use Rattle.gic_host.specs.declared.link.Link.{Link}

-- the link is to the interrupt with this INTID of a vCPU
abbrev pub is_to : ℕ → ℕ → Link → Bool
is_to vcpu id link = link.vcpu == vcpu && link.vid == id

-- the link to an interrupt of a vCPU
abbrev pub link_to : List Link → ℕ → ℕ → Option Link
link_to links vcpu id = find (is_to vcpu id) links

-- what was chosen for a list register, with HW 1 and the link's physical INTID, and so without EOI
abbrev pub linked_choice : List Link → ℕ → Choice → Choice
linked_choice links vcpu choice =
    record choice { entry = record choice.entry { eoi = false; hw = option_map (λ link. link.phys) (link_to links vcpu choice.entry.id) } }

-- a plan for a vCPU with its links
abbrev pub linked_fill : List Link → ℕ → Fill → Fill
linked_fill links vcpu fill = record fill { choice = map (option_map (linked_choice links vcpu)) fill.choice }

-- each interrupt that was chosen has a link to it
abbrev pub AreLinked : List Link → ℕ → Fill → Type 0
AreLinked links vcpu fill = All (λ place. IfSome place (λ choice. IsSome (link_to links vcpu choice.entry.id))) fill.choice

-- each list register names a physical interrupt
abbrev pub HaveLinks : Fill → Type 0
HaveLinks fill = All (λ place. IfSome place (λ choice. IsSome choice.entry.hw)) fill.choice

-- each physical INTID has 13 bits (pINTID)
abbrev pub FitRegisters : List Link → Type 0
FitRegisters links = All (λ link. link.phys < 2 ^ 13) links

-- a list register has room for the entry: 32 bits for its INTID and eight for its priority
pub record FitsRegister (entry : LrEntry) : Type 0 where
  pub entry_is : IsEntry entry
  pub id : entry.id < 2 ^ 32
  pub prio : entry.prio < 2 ^ 8

-- it has for each that was chosen
abbrev pub FitPlaces : Fill → Type 0
FitPlaces fill = All (λ place. IfSome place (λ choice. FitsRegister choice.entry)) fill.choice
