-- What the record of an interrupt says (IHI 0069, "Distribution and routing of interrupts").
use Rattle.std.specs.Prelude.{ℕ, ◌==◌, ◌&&◌, ◌||◌, Bool, nat_lt, Option, Some, None, false, if◌then◌else◌}
use Rattle.gic_base.specs.declared.shape.GuestShape.{GuestShape}
use Rattle.gic_word.specs.declared.record.Group.{Group}
use Rattle.gic_word.specs.declared.record.Group.TheVariants.{G0, G1}
use Rattle.gic_word.specs.declared.record.Route.{Route}
use Rattle.gic_word.specs.declared.record.Route.TheVariants.{Affinity, Target}
use Rattle.gic_word.specs.declared.record.Irq.{Irq}

-- a group's bit (IHI 0069, GICD_IGROUPR)
abbrev pub group_number : Group → ℕ
group_number G0 = 0
group_number G1 = 1

-- pending: an edge interrupt rose, a level one has its line up, or either was pended by software
-- (IHI 0069, "Interrupt handling state machine"; own choice: a level interrupt pended by software is acknowledged away)
abbrev pub is_pending : Irq → Bool
is_pending irq = (if irq.edge then irq.rise else irq.line) || irq.soft

-- the distributor forwards the interrupt's group (IHI 0069, GICD_CTLR), by the interrupt's own copies (own choice)
abbrev pub is_forwarded : Irq → Bool
is_forwarded irq = of_group irq.group
  where
    of_group : Group → Bool
    of_group G0 = irq.en0
    of_group G1 = irq.en1

-- the vCPU that an interrupt is for: of an affinity the one that has it, if the guest has one; vCPU k has the affinity k
-- (IHI 0069, "Affinity routing"; own choice of the affinities: the number in Aff0, and 0 in Aff1, Aff2 and Aff3)
abbrev pub target_in : Route → GuestShape → Option ℕ
target_in (Affinity affinity) shape = if nat_lt affinity shape.vcpus then Some affinity else None
target_in (Target target) shape = target

-- the value is there and is this number
abbrev pub is_number : ℕ → Option ℕ → Bool
is_number n None = false
is_number n (Some m) = m == n

-- deliverable to the vCPU, but for being active there and for what the vCPU itself has enabled
-- (IHI 0069, "Interrupt prioritization")
abbrev pub is_ripe : Irq → ℕ → GuestShape → Bool
is_ripe irq vcpu shape = is_pending irq && irq.enabled && is_forwarded irq && is_number vcpu (target_in irq.route shape)
