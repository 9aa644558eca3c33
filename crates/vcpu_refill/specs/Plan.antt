-- The plan: which interrupts stand in the list registers of a PE while a vCPU is loaded there, and what ICH_HCR asks for
-- (own choice, over IHI 0069, "Usage model for the List registers", ICH_LR<n>_EL2 and ICH_HCR_EL2).
use Rattle.std.specs.Prelude.{ℕ, ◌+◌, ◌-◌, ◌^◌, ◌&&◌, ◌||◌, ◌==◌, not, min, nat_lt, Bool, if◌then◌else◌, Option, None, List, [], ◌++◌, length, map, take, All, IfSome}
use Rattle.std.specs.List.{filter_map}
use Rattle.std.specs.Option.{option_map, option_map_or}
use Rattle.gic_ich.specs.Words.{is_pending, GuestShape, HeldIrq, intid_of}
use Rattle.gic_ich.specs.GicLr.declared.entry.LrState.{LrState}
use Rattle.gic_ich.specs.GicLr.declared.entry.LrState.TheVariants.{Pending, Active, Both}
use Rattle.gic_ich.specs.GicLr.Entry.{IsEntry, packed, state_number, state_has_pending, state_has_active}
use Rattle.gic_ich.specs.GicPrio.declared.cpu.CpuRec.{CpuRec}
use Rattle.gic_ich.specs.GicPrio.Interface.{AtInterface, InterfaceState}
use Rattle.gic_ich.specs.declared.regs.IchRegs.{IchRegs}
use Rattle.gic_ich.specs.Vmcr.{vmcr_of}
use Rattle.gic_ich.specs.Hcr.{hcr_en, hcr_npie, hcr_vgrp0eie, hcr_vgrp0die, hcr_vgrp1eie, hcr_vgrp1die, hcr_tc, hcr_tall0, hcr_tall1, hcr_tdir}
use Rattle.vcpu_refill.specs.declared.offer.Offer.{Offer}
use Rattle.vcpu_refill.specs.declared.fill.Choice.{Choice}
use Rattle.vcpu_refill.specs.declared.fill.Fill.{Fill}
use Rattle.vcpu_refill.specs.Order.{is_deliverable_once_inactive, active_among, deliverable_among}
use Rattle.vcpu_refill.specs.Ranking.{in_places}

-- trap mode: the active interrupts do not all fit into n list registers, or fill them all while an interrupt is deliverable
abbrev pub is_trapping : List Offer → List Offer → ℕ → Bool
is_trapping active deliverable n = nat_lt n (length active + min 1 (length deliverable))

-- cut, out of trap mode: the deliverable interrupts do not all fit beside the active ones
abbrev pub is_cut : List Offer → List Offer → ℕ → Bool
is_cut active deliverable n = not (is_trapping active deliverable n) && nat_lt (n - length active) (length deliverable)

-- the State of an active interrupt: pending and active where it would be deliverable, were it not active, and nothing is cut off
-- that it could hide; else active
abbrev pub active_state : Bool → ℕ → CpuRec → GuestShape → Offer → LrState
active_state cut vcpu cpu shape offer = if not cut && is_deliverable_once_inactive vcpu cpu shape offer then Both else Active

-- the end of the interrupt is to be seen: that of a level interrupt, which may have to come back, and that of one which is pending
-- while its State is 2, active alone
abbrev pub sees_end : LrState → Offer → Bool
sees_end state offer = not offer.irq.edge || (is_pending offer.irq && state_number state == 2)

-- an interrupt in a list register with this State
abbrev pub chosen_as : LrState → Offer → Choice
chosen_as state offer =
    record {
      key = offer.key;
      irq = offer.irq;
      entry = record { id = intid_of offer.key; prio = offer.irq.prio; group = offer.irq.group; state = state; eoi = sees_end state offer; hw = None };
    }

-- an active interrupt in its list register
abbrev pub active_choice : Bool → ℕ → CpuRec → GuestShape → Offer → Choice
active_choice cut vcpu cpu shape offer = chosen_as (active_state cut vcpu cpu shape offer) offer

-- a deliverable interrupt in its list register
abbrev pub pending_choice : Offer → Choice
pending_choice offer = chosen_as Pending offer

-- what stands in the list registers, from the first on: all active interrupts, then as many of the first deliverable ones as fit
abbrev pub choices_of : List Offer → List Offer → Bool → ℕ → CpuRec → GuestShape → ℕ → List Choice
choices_of active deliverable cut vcpu cpu shape n = map (active_choice cut vcpu cpu shape) active ++ map pending_choice (take (n - length active) deliverable)

-- ICH_HCR: En; NPIE where something is cut off; the maintenance interrupt of a change of each group's enable; and in trap mode TC,
-- TALL0, TALL1 and TDIR
abbrev pub hcr_of : CpuRec → Bool → Bool → ℕ
hcr_of cpu cut trapping =
    2 ^ hcr_en
    + (if cut then 2 ^ hcr_npie else 0)
    + (if cpu.en0 then 2 ^ hcr_vgrp0die else 2 ^ hcr_vgrp0eie)
    + (if cpu.en1 then 2 ^ hcr_vgrp1die else 2 ^ hcr_vgrp1eie)
    + (if trapping then 2 ^ hcr_tc + 2 ^ hcr_tall0 + 2 ^ hcr_tall1 + 2 ^ hcr_tdir else 0)

-- the plan from the active and the deliverable interrupts, each in delivery order; in trap mode nothing stands in the list registers
abbrev pub plan_from : List Offer → List Offer → ℕ → CpuRec → GuestShape → ℕ → Fill
plan_from active deliverable vcpu cpu shape n =
    let trapping = is_trapping active deliverable n in
    let cut = is_cut active deliverable n in
    record {
      choice = in_places (if trapping then [] else choices_of active deliverable cut vcpu cpu shape n);
      cut = cut;
      trapping = trapping;
      hcr = hcr_of cpu cut trapping;
    }

-- the plan for a vCPU of a guest with this CPU record and n list registers, from the records of interrupts
abbrev pub plan : List Offer → ℕ → CpuRec → GuestShape → ℕ → Fill
plan offers vcpu cpu shape n = plan_from (active_among offers vcpu) (deliverable_among offers vcpu cpu shape) vcpu cpu shape n

-- the word of a list register: 0 where nothing was chosen for it
abbrev pub word_of : Option Choice → ℕ
word_of place = option_map_or (λ choice. packed choice.entry) place 0

-- the words of n list registers
abbrev pub words_of : Fill → ℕ → List ℕ
words_of fill n = take n (map word_of fill.choice)

-- the registers of a PE with n list registers that an entry stores: ICH_VMCR and the active levels are the CPU record's
abbrev pub regs_of : Fill → CpuRec → ℕ → IchRegs
regs_of fill cpu n = record { lr = map word_of fill.choice; n = n; vmcr = vmcr_of cpu; hcr = fill.hcr; ap0r = cpu.ap0; ap1r = cpu.ap1 }

-- an interrupt as it is held: it brings the latched causes of its record where it is pending there, and none with State 2
abbrev pub held_as : Choice → HeldIrq
held_as choice =
    let brings = state_has_pending choice.entry.state in
    record { key = choice.key; rise = brings && choice.irq.rise; soft = brings && choice.irq.soft; edge = choice.irq.edge }

-- what the vCPU holds after the entry, each interrupt at the place of its list register
abbrev pub held_of : Fill → List (Option HeldIrq)
held_of fill = map (option_map held_as) fill.choice

-- an interrupt as it stands at the interface after the entry, with its record's priority and group
abbrev pub entry_of : Choice → AtInterface
entry_of choice =
    let held = held_as choice in
    record {
      key = choice.key;
      prio = choice.irq.prio;
      group = choice.irq.group;
      pending = state_has_pending choice.entry.state;
      active = state_has_active choice.entry.state;
      rise = held.rise;
      soft = held.soft;
    }

-- the interface after the entry
abbrev pub interface_of : Fill → CpuRec → InterfaceState
interface_of fill cpu = record { cpu = cpu; at = filter_map (option_map entry_of) fill.choice }

-- each list register can hold what was chosen for it
abbrev pub HasEntries : List (Option Choice) → Type 0
HasEntries places = All (λ place. IfSome place (λ choice. IsEntry choice.entry)) places
