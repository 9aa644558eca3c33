-- Interrupts in delivery order (IHI 0069, "Interrupt prioritization").
use Rattle.std.specs.Prelude.{ℕ, List, [], ◌∷◌, fold, filter, slice_get, Bool, if◌then◌else◌, Option, None}
use Rattle.gic_ich.specs.Words.{GuestShape, intid_of, is_number}
use Rattle.gic_ich.specs.GicPrio.declared.candidate.Candidate.{Candidate}
use Rattle.gic_ich.specs.GicPrio.declared.cpu.CpuRec.{CpuRec}
use Rattle.gic_ich.specs.GicPrio.Delivery.{is_before, is_deliverable}
use Rattle.vcpu_refill.specs.declared.offer.Offer.{Offer}

-- an offered interrupt as a candidate, which the delivery order compares
abbrev pub candidate_of : Offer → Candidate
candidate_of offer = record { id = intid_of offer.key; prio = offer.irq.prio; group = offer.irq.group }

-- one offered interrupt is delivered before another
abbrev pub goes_before : Offer → Offer → Bool
goes_before one other = is_before (candidate_of one) (candidate_of other)

-- ordered interrupts with one more, which stands in front of those that it is delivered before
abbrev pub inserted : Offer → List Offer → List Offer
inserted one [] = one ∷ []
inserted one (other ∷ others) = if goes_before one other then one ∷ other ∷ others else other ∷ inserted one others

-- the interrupts in delivery order
abbrev pub ordered : List Offer → List Offer
ordered offers = fold (λ before one. inserted one before) [] offers

-- the interrupt is active by the vCPU
abbrev pub is_active_by : ℕ → Offer → Bool
is_active_by vcpu offer = is_number vcpu offer.irq.act_by

-- the interrupt is deliverable to the vCPU of a guest
abbrev pub is_deliverable_to : ℕ → CpuRec → GuestShape → Offer → Bool
is_deliverable_to vcpu cpu shape offer = is_deliverable offer.key offer.irq vcpu cpu shape

-- the interrupt would be deliverable to the vCPU, were it not active
abbrev pub is_deliverable_once_inactive : ℕ → CpuRec → GuestShape → Offer → Bool
is_deliverable_once_inactive vcpu cpu shape offer = is_deliverable offer.key (record offer.irq { act_by = None }) vcpu cpu shape

-- the interrupts that are active by the vCPU, in delivery order
abbrev pub active_among : List Offer → ℕ → List Offer
active_among offers vcpu = ordered (filter (is_active_by vcpu) offers)

-- the interrupts that are deliverable to the vCPU, in delivery order
abbrev pub deliverable_among : List Offer → ℕ → CpuRec → GuestShape → List Offer
deliverable_among offers vcpu cpu shape = ordered (filter (is_deliverable_to vcpu cpu shape) offers)

-- the first of the interrupts that are deliverable to the vCPU
abbrev pub first_among : List Offer → ℕ → CpuRec → GuestShape → Option Offer
first_among offers vcpu cpu shape = slice_get (deliverable_among offers vcpu cpu shape) 0
