-- The touch of an interrupt by its part of a register: what a read answers, and the record after a write, one row a kind
-- (IHI 0069, "The Distributor register map" and "The Redistributor register map").
use Rattle.std.specs.Prelude.{ℕ, ◌*◌, ◌/◌, ◌==◌, true, false, is_some, if◌then◌else◌, Option, Some, None}
use Rattle.gic_frame.specs.Words.{Kind, SetEnable, ClearEnable, SetPending, ClearPending, SetActive, ClearActive, Priority, Config, Routing, Key, GuestShape, is_sgi, G0, G1, Irq, Route, Affinity, Target, bit_of, has_bit, group_number, is_pending, target_in, raised, cleared}
use Rattle.gic_frame.specs.GicBase.declared.operation.Kind.TheVariants.{Group}
use Rattle.gic_reg.specs.Router.{router_of, affinity_in}

-- what an IROUTER reads
abbrev pub route_read : Route → ℕ
route_read (Affinity affinity) = router_of affinity
route_read (Target target) = 0

-- what the part reads
abbrev pub part_read : Kind → Irq → ℕ
part_read Group irq = group_number irq.group
part_read SetEnable irq = bit_of irq.enabled
part_read ClearEnable irq = bit_of irq.enabled
part_read SetPending irq = bit_of (is_pending irq)
part_read ClearPending irq = bit_of (is_pending irq)
part_read SetActive irq = bit_of (is_some irq.act_by)
part_read ClearActive irq = bit_of (is_some irq.act_by)
part_read Priority irq = irq.prio
part_read Config irq = if irq.edge then 2 else 0
part_read Routing irq = route_read irq.route

-- active by the vCPU that it is active by already, or else by its target, if any
abbrev pub activated : Option ℕ → Option ℕ → Option ℕ
activated (Some vcpu) target = Some vcpu
activated None target = target

-- the record after a write: the registers that set or clear do so where the bit is 1
abbrev pub part_written : Kind → Key → Irq → ℕ → GuestShape → Irq
part_written Group key irq value shape = record irq { group = if value == 1 then G1 else G0 }
part_written SetEnable key irq value shape = if value == 1 then record irq { enabled = true } else irq
part_written ClearEnable key irq value shape = if value == 1 then record irq { enabled = false } else irq
part_written SetPending key irq value shape = if value == 1 then raised irq else irq
part_written ClearPending key irq value shape = if value == 1 then cleared irq else irq
part_written SetActive key irq value shape = if value == 1 then record irq { act_by = activated irq.act_by (target_in irq.route shape) } else irq
part_written ClearActive key irq value shape = if value == 1 then record irq { act_by = None } else irq
part_written Priority key irq value shape = record irq { prio = value / 8 * 8 }
part_written Config key irq value shape = if is_sgi key then irq else record irq { edge = has_bit value 1 }
part_written Routing key irq value shape = record irq { route = Affinity (affinity_in value) }

-- a record with the fields that a register of this kind names as they are in another
abbrev pub with_named : Kind → Irq → Irq → Irq
with_named Group other irq = record irq { group = other.group }
with_named SetEnable other irq = record irq { enabled = other.enabled }
with_named ClearEnable other irq = record irq { enabled = other.enabled }
with_named SetPending other irq = record irq { soft = other.soft }
with_named ClearPending other irq = record irq { rise = other.rise; soft = other.soft }
with_named SetActive other irq = record irq { act_by = other.act_by }
with_named ClearActive other irq = record irq { act_by = other.act_by }
with_named Priority other irq = record irq { prio = other.prio }
with_named Config other irq = record irq { edge = other.edge }
with_named Routing other irq = record irq { route = other.route }
