-- What every plan keeps.
use Rattle.std.specs.Prelude.{ℕ, ◌≡◌, ◌≢◌, ◌≤◌, ◌⊎◌, IsTrue, false, Some, List, ◌∷◌, ◌++◌, map, filter, slice_get, ◌<◌, ◌^◌, Contains, All, AllPairs, IsPermutation}
use Rattle.std.specs.Option.{option_map}
use Rattle.gic_ich.specs.Words.{GuestShape, intid_of}
use Rattle.gic_ich.specs.GicLr.declared.entry.LrState.TheVariants.{Pending, Both}
use Rattle.gic_ich.specs.GicLr.Entry.{state_has_active}
use Rattle.gic_ich.specs.GicPrio.declared.cpu.CpuRec.{CpuRec}
use Rattle.gic_ich.specs.GicPrio.Delivery.{first_of}
use Rattle.gic_ich.specs.Place.{StandFor}
use Rattle.vcpu_refill.specs.declared.offer.Offer.{Offer}
use Rattle.vcpu_refill.specs.declared.fill.Choice.{Choice}
use Rattle.vcpu_refill.specs.declared.fill.Fill.{Fill}
use Rattle.vcpu_refill.specs.Order.{candidate_of, goes_before, ordered, is_active_by, is_deliverable_to, first_among}
use Rattle.vcpu_refill.specs.Plan.{plan, chosen_as, regs_of, held_of, interface_of}

-- a list has the interrupts of another, and none of them is delivered before one that stands earlier
pub record IsSortingOf (offers sorted : List Offer) : Type 0 where
  pub same : IsPermutation offers sorted
  pub in_order : AllPairs (λ one later. goes_before later one ≡ false) sorted

-- the interrupts in delivery order are a sorting of them
abbrev pub OrderedIsSorting : Type 0
OrderedIsSorting = (offers : List Offer) → IsSortingOf offers (ordered offers)

-- the interrupt that a choice is of
abbrev pub offer_of : Choice → Offer
offer_of choice = record { key = choice.key; irq = choice.irq }

-- an interrupt stands in a list register
pub record IsPlanned (fill : Fill) (offer : Offer) : Type 0 where
  pub choice : Choice
  pub among : Contains fill.choice (Some choice)
  pub is : offer_of choice ≡ offer

-- every interrupt that is active by the vCPU is in the plan, out of trap mode
abbrev pub EveryActiveIsPlanned : Type 0
EveryActiveIsPlanned =
    (offers : List Offer) (vcpu : ℕ) (cpu : CpuRec) (shape : GuestShape) (n : ℕ) (offer : Offer) → n ≤ 16 → Contains offers offer → IsTrue (is_active_by vcpu offer) → (plan offers vcpu cpu shape n).trapping ≡ false → IsPlanned (plan offers vcpu cpu shape n) offer

-- every interrupt that is deliverable to the vCPU is in the plan, where nothing is cut off and out of trap mode
abbrev pub EveryDeliverableIsPlanned : Type 0
EveryDeliverableIsPlanned =
    (offers : List Offer) (vcpu : ℕ) (cpu : CpuRec) (shape : GuestShape) (n : ℕ) (offer : Offer) → n ≤ 16 → Contains offers offer → IsTrue (is_deliverable_to vcpu cpu shape offer) → (plan offers vcpu cpu shape n).trapping ≡ false → (plan offers vcpu cpu shape n).cut ≡ false → IsPlanned (plan offers vcpu cpu shape n) offer

-- an interrupt is not delivered before another, and after it where they have two INTIDs (a guest's interrupts of one INTID are private
-- to two vCPUs, and not deliverable to the same)
pub record ComesAfter (left chosen : Offer) : Type 0 where
  pub not_before : goes_before left chosen ≡ false
  pub after : intid_of left.key ≢ intid_of chosen.key → IsTrue (goes_before chosen left)

-- each interrupt that is deliverable to the vCPU and left out comes after each that is in the plan with State 1
abbrev pub LeftOutComesAfter : Type 0
LeftOutComesAfter =
    (offers : List Offer) (vcpu : ℕ) (cpu : CpuRec) (shape : GuestShape) (n : ℕ) (left : Offer) (chosen : Choice) → n ≤ 16 → Contains offers left → IsTrue (is_deliverable_to vcpu cpu shape left) → (IsPlanned (plan offers vcpu cpu shape n) left → ⊥) → Contains (plan offers vcpu cpu shape n).choice (Some chosen) → chosen.entry.state ≡ Pending → ComesAfter left (offer_of chosen)

-- where an interrupt is in the plan with State 3, every interrupt that is deliverable to the vCPU is there too: one that turns pending
-- at its end hides no better one
abbrev pub BothLeavesNothingOut : Type 0
BothLeavesNothingOut =
    (offers : List Offer) (vcpu : ℕ) (cpu : CpuRec) (shape : GuestShape) (n : ℕ) (chosen : Choice) (offer : Offer) → n ≤ 16 → Contains (plan offers vcpu cpu shape n).choice (Some chosen) → chosen.entry.state ≡ Both → Contains offers offer → IsTrue (is_deliverable_to vcpu cpu shape offer) → IsPlanned (plan offers vcpu cpu shape n) offer

-- what stands in a list register was offered as it is, and the vCPU may have it with its State: 1 where it is deliverable to the vCPU,
-- 2 or 3 where it is active by the vCPU
pub record IsEarned (offers : List Offer) (vcpu : ℕ) (cpu : CpuRec) (shape : GuestShape) (chosen : Choice) : Type 0 where
  pub offered : Contains offers (offer_of chosen)
  pub whole : chosen ≡ chosen_as chosen.entry.state (offer_of chosen)
  pub state :
      ((chosen.entry.state ≡ Pending) × IsTrue (is_deliverable_to vcpu cpu shape (offer_of chosen)))
      ⊎ (IsTrue (state_has_active chosen.entry.state) × IsTrue (is_active_by vcpu (offer_of chosen)))

-- each that stands in a list register is there by right
abbrev pub PlannedIsEarned : Type 0
PlannedIsEarned =
    (offers : List Offer) (vcpu : ℕ) (cpu : CpuRec) (shape : GuestShape) (n : ℕ) (chosen : Choice) → Contains (plan offers vcpu cpu shape n).choice (Some chosen) → IsEarned offers vcpu cpu shape chosen

-- an offer that is neither active by the vCPU nor deliverable to it changes no plan, so a scan may skip it
abbrev pub OthersDoNotMatter : Type 0
OthersDoNotMatter =
    (before after : List Offer) (offer : Offer) (vcpu : ℕ) (cpu : CpuRec) (shape : GuestShape) (n : ℕ) → is_active_by vcpu offer ≡ false → is_deliverable_to vcpu cpu shape offer ≡ false → plan (before ++ offer ∷ after) vcpu cpu shape n ≡ plan (before ++ after) vcpu cpu shape n

-- the first of the deliverable interrupts is the first of them as candidates (IHI 0069, "Interrupt prioritization")
abbrev pub FirstIsFirst : Type 0
FirstIsFirst =
    (offers : List Offer) (vcpu : ℕ) (cpu : CpuRec) (shape : GuestShape) → option_map candidate_of (first_among offers vcpu cpu shape) ≡ first_of (map candidate_of (filter (is_deliverable_to vcpu cpu shape) offers))

-- no interrupt stands in two list registers, where none was offered twice
abbrev pub PlannedOnce : Type 0
PlannedOnce =
    (offers : List Offer) (vcpu : ℕ) (cpu : CpuRec) (shape : GuestShape) (n j k : ℕ) (one other : Choice) → AllPairs (λ early late. early.key ≢ late.key) offers → slice_get (plan offers vcpu cpu shape n).choice j ≡ Some (Some one) → slice_get (plan offers vcpu cpu shape n).choice k ≡ Some (Some other) → one.key ≡ other.key → j ≡ k

-- a list register has room for the INTID and the priority of the interrupt, as it has for those of each interrupt of a guest
pub record FitsRegister (offer : Offer) : Type 0 where
  pub id : intid_of offer.key < 2 ^ 32
  pub prio : offer.irq.prio < 2 ^ 8

-- the registers that an entry stores, with what is held, stand for the interface place by place
abbrev pub PlanStands : Type 0
PlanStands =
    (offers : List Offer) (vcpu : ℕ) (cpu : CpuRec) (shape : GuestShape) (n : ℕ) → n ≤ 16 → All FitsRegister offers → AllPairs (λ early late. early.key ≢ late.key) offers
    → StandFor (regs_of (plan offers vcpu cpu shape n) cpu n) (held_of (plan offers vcpu cpu shape n)) (interface_of (plan offers vcpu cpu shape n) cpu)
