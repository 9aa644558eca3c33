-- What holds of links and steps that can be run (own choice of the limits).
use Rattle.std.specs.Prelude.{ℕ, ◌%◌, ◌==◌, ◌&&◌, ◌||◌, not, Bool, true, false, nat_lt, nat_le, find, Option, Some, None, is_none, List, [], ◌∷◌, length}
use Rattle.std.specs.List.{list_all, list_any}
use Rattle.gic_ich.specs.Words.{IccReg, Sgi1r, is_readable, is_writable}
use Rattle.scn_read.specs.ScnBase.Codes.{unknown_register_code, unknown_actor_code, not_loaded_code, pe_busy_code, first_met}
use Rattle.gic_host.specs.declared.link.Link.{Link}
use Rattle.gic_host.specs.declared.step.HostStep.{HostStep}
use Rattle.gic_host.specs.declared.step.HostStep.TheVariants.{Phys, Icc, Enter, Exit, Lrs}
use Rattle.gic_host.specs.declared.scenario.HostScenario.{HostScenario}

-- the INTID is that of an SPI (IHI 0069, "INTIDs")
abbrev pub is_spi : ℕ → Bool
is_spi id = nat_le 32 id && nat_le id 1019

-- the priority has five bits
abbrev pub is_priority : ℕ → Bool
is_priority prio = nat_le prio 248 && prio % 8 == 0

-- a link of one of so many vCPUs
abbrev pub is_good_link : ℕ → Link → Bool
is_good_link vcpus link = is_spi link.phys && is_spi link.vid && is_priority link.prio && nat_lt link.vcpu vcpus

-- two links have one physical interrupt, or one virtual interrupt of a vCPU
abbrev pub clash : Link → Link → Bool
clash one other = one.phys == other.phys || (one.vid == other.vid && one.vcpu == other.vcpu)

abbrev pub has_clash : List Link → Bool
has_clash [] = false
has_clash (link ∷ links) = list_any (clash link) links || has_clash links

-- a register can be read, or written; SGI1R cannot, since a vCPU of this model has no SGIs
abbrev pub is_usable : IccReg → Option ℕ → Bool
is_usable Sgi1r write = false
is_usable reg None = is_readable reg
is_usable reg (Some value) = is_writable reg

-- the fault of a step, with these links and so many vCPUs, where one is loaded or none
abbrev pub step_fault : List Link → ℕ → Bool → HostStep → Option ℕ
step_fault links vcpus loaded (Phys phys set) = first_met ((is_none (find (λ link. link.phys == phys) links), unknown_actor_code) ∷ [])
step_fault links vcpus loaded (Icc reg write) = first_met ((not (is_usable reg write), unknown_register_code) ∷ (not loaded, not_loaded_code) ∷ [])
step_fault links vcpus loaded (Enter vcpu) = first_met ((not (nat_lt vcpu vcpus), unknown_actor_code) ∷ (loaded, pe_busy_code) ∷ [])
step_fault links vcpus loaded Exit = first_met ((not loaded, not_loaded_code) ∷ [])
step_fault links vcpus loaded Lrs = None

-- a vCPU is loaded after a step
abbrev pub is_loaded_after : HostStep → Bool → Bool
is_loaded_after (Enter vcpu) loaded = true
is_loaded_after Exit loaded = false
is_loaded_after step loaded = loaded

-- no step has a fault
abbrev pub are_good_steps : List Link → ℕ → Bool → List HostStep → Bool
are_good_steps links vcpus loaded [] = true
are_good_steps links vcpus loaded (step ∷ steps) =
    is_none (step_fault links vcpus loaded step) && are_good_steps links vcpus (is_loaded_after step loaded) steps

-- the numbers are in their ranges, and no two links clash
abbrev pub are_good_links : ℕ → List Link → Bool
are_good_links vcpus links = nat_le (length links) 64 && list_all (is_good_link vcpus) links && not (has_clash links)

-- what is run has no fault
abbrev pub is_good : HostScenario → Bool
is_good scenario =
    nat_le 1 scenario.vcpus
    && nat_le scenario.vcpus 8
    && nat_le 1 scenario.lrs
    && nat_le scenario.lrs 16
    && are_good_links scenario.vcpus scenario.links
    && nat_le (length scenario.steps) 100000
    && are_good_steps scenario.links scenario.vcpus true scenario.steps
