-- What a touch leaves of the record of an interrupt.
use Rattle.std.proofs.Common.{◌≡◌, ◌<◌, ◌*◌, ◌/◌, ◌^◌, ℕ, Bool, true, false, cond, if◌then◌else◌, nat_eq, nat_lt, IsTrue, Option, Some, None, refl, arith}
use Rattle.std.proofs.lemmas.Grind.{common_steps}
use Rattle.floor_registers.specs.Words.{Kind, SetEnable, ClearEnable, SetPending, ClearPending, SetActive, ClearActive, Priority, Config, Routing, Key, Private, Spi, Lpi, GuestShape, IsShape, has_interrupt, is_sgi, G0, G1, Irq, Route, Affinity, Target, target_in, is_vcpu_or_none, is_routed_as, IsRecordOf, has_bit, raised, cleared}
use Rattle.floor_registers.specs.GicBase.declared.operation.Kind.TheVariants.{Group}
use Rattle.floor_registers.specs.GicWord.declared.record.Group.{Group as GroupOf}
use Rattle.floor_registers.specs.Registers.{part_bits, affinity_in, has_part, is_routed, shows_route, activated, part_written}
use Rattle.floor_registers.proofs.GicWord.ValidLemmas.{valid_raised, valid_cleared}
use Rattle.gic_call.specs.declared.touch.Touching.{Touching}
use Rattle.gic_call.specs.declared.touch.Touching.TheVariants.{Read, Register, Enables, MapLpi, Retarget, Configure, Forget}
use Rattle.gic_call.specs.Touch.{touched, is_shown, is_lpi, has_shown_part, is_priority, CanTouch}
use Rattle.gic_call.proofs.RecordLemmas.{seat, kind_kept, kind_free, kind_any, valid_as, valid_active, valid_prio, valid_route}

-- the route of an interrupt's record is one that its registers can have
pub routed : (shape : GuestShape) (key : Key) (route : Route) → IsTrue (has_interrupt shape key) → IsTrue (is_routed_as shape key route) → IsTrue (is_routed shape key route)
routed shape (Private vcpu id) (Affinity a) there is = is
routed shape (Private vcpu id) (Target None) there is = refl
routed shape (Private vcpu id) (Target (Some v)) there is = grind (arith, common_steps, there, is)
routed shape (Spi id) (Affinity a) there is = refl
routed shape (Spi id) (Target t) there is = is
routed shape (Lpi id) (Affinity a) there is = is
routed shape (Lpi id) (Target t) there is = is

-- the target of a route is a vCPU of the guest, or none
target_there : (shape : GuestShape) (key : Key) (route : Route) → IsTrue (has_interrupt shape key) → IsTrue (is_routed_as shape key route) → IsTrue (is_vcpu_or_none shape (target_in route shape))
target_there shape key (Affinity a) there is = by_test (nat_lt a shape.vcpus) refl
  where
    by_test : (b : Bool) → nat_lt a shape.vcpus ≡ b → IsTrue (is_vcpu_or_none shape (cond b (Some a) None))
    by_test true e = e
    by_test false e = refl
target_there shape (Private v i) (Target t) there is = routed shape (Private v i) (Target t) there is
target_there shape (Spi i) (Target t) there is = absurd (grind (arith, common_steps, is))
target_there shape (Lpi i) (Target t) there is = is

-- either of two records
either : (shape : GuestShape) (key : Key) (b : Bool) (one other : Irq) → IsRecordOf shape key one → IsRecordOf shape key other → IsRecordOf shape key (cond b one other)
either shape key true one other is_one is_other = is_one
either shape key false one other is_one is_other = is_other

-- registers but ISPENDR and ICPENDR have no part of an LPI
no_lpi : (kind : Kind) (key : Key) → IsTrue (has_part kind key) → has_part kind (Lpi 0) ≡ false → is_lpi key ≡ false
no_lpi kind (Private v i) h e = refl
no_lpi kind (Spi i) h e = refl
no_lpi Group (Lpi i) h e = absurd (cc)
no_lpi kind (Lpi i) h e = absurd (cc)

-- an IROUTER makes the route of an SPI
by_affinity : (shape : GuestShape) (key : Key) (affinity : ℕ) → IsTrue (has_part Routing key) → IsTrue (is_routed_as shape key (Affinity affinity))
by_affinity shape (Private v i) a h = h
by_affinity shape (Spi i) a h = refl
by_affinity shape (Lpi i) a h = h

-- a register's write leaves a record of the interrupt
written_valid : (shape : GuestShape) (kind : Kind) (key : Key) (irq : Irq) (value : ℕ) → IsShape shape → IsTrue (has_interrupt shape key) → IsTrue (has_part kind key) → value < 2 ^ part_bits kind → IsRecordOf shape key irq → IsRecordOf shape key (part_written kind key irq value shape)
written_valid shape Group key irq value good there part fits is =
    let group : GroupOf = if nat_eq value 1 then G1 else G0 in
    valid_as shape key irq (record irq { group = group }) refl refl refl refl (kind_free key irq (record irq { group = group }) (no_lpi Group key part refl) refl is.kind) is
written_valid shape SetEnable key irq value good there part fits is =
    either shape key (nat_eq value 1) (record irq { enabled = true }) irq (valid_as shape key irq (record irq { enabled = true }) refl refl refl refl (kind_kept key irq (record irq { enabled = true }) refl refl refl is.kind) is) is
written_valid shape ClearEnable key irq value good there part fits is =
    either shape key (nat_eq value 1) (record irq { enabled = false }) irq (valid_as shape key irq (record irq { enabled = false }) refl refl refl refl (kind_kept key irq (record irq { enabled = false }) refl refl refl is.kind) is) is
written_valid shape SetPending key irq value good there part fits is = either shape key (nat_eq value 1) (raised irq) irq (valid_raised shape key irq is) is
written_valid shape ClearPending key irq value good there part fits is = either shape key (nat_eq value 1) (cleared irq) irq (valid_cleared shape key irq is) is
written_valid shape SetActive key irq value good there part fits is =
    let by = activated irq.act_by (target_in irq.route shape) in
    either shape key (nat_eq value 1) (record irq { act_by = by }) irq (valid_active shape key irq by good (activated_there irq.act_by is.active) (kind_free key irq (record irq { act_by = by }) (no_lpi SetActive key part refl) refl is.kind) is) is
  where
    activated_there : (by : Option ℕ) → IsTrue (is_vcpu_or_none shape by) → IsTrue (is_vcpu_or_none shape (activated by (target_in irq.route shape)))
    activated_there None h = target_there shape key irq.route there is.route
    activated_there (Some v) h = h
written_valid shape ClearActive key irq value good there part fits is =
    either shape key (nat_eq value 1) (record irq { act_by = None }) irq (valid_active shape key irq None good refl (kind_free key irq (record irq { act_by = None }) (no_lpi ClearActive key part refl) refl is.kind) is) is
written_valid shape Priority key irq value good there part fits is = valid_prio shape key irq (value / 8 * 8) (omega arith) (omega arith) is
written_valid shape Config key irq value good there part fits is = by_sgi (is_sgi key) refl
  where
    by_sgi : (b : Bool) → is_sgi key ≡ b → IsRecordOf shape key (if b then irq else record irq { edge = has_bit value 1 })
    by_sgi true e = is
    by_sgi false e =
        let other : Irq = record irq { edge = has_bit value 1 } in
        valid_as shape key irq other refl refl refl refl (kind_any key other (no_lpi Config key part refl) e) is
written_valid shape Routing key irq value good there part fits is = valid_route shape key irq (Affinity (affinity_in value)) (omega arith) (by_affinity shape key (affinity_in value) part) is

-- another target of an LPI
valid_target : (shape : GuestShape) (key : Key) (irq : Irq) (target : Option ℕ) → IsShape shape → is_lpi key ≡ true → IsTrue (is_vcpu_or_none shape target) → IsRecordOf shape key irq → IsRecordOf shape key (record irq { route = Target target })
valid_target shape key irq target good lpi there is = valid_route shape key irq (Target target) (seat shape target good there) (for_lpi key lpi) is
  where
    for_lpi : (key : Key) → is_lpi key ≡ true → IsTrue (is_routed_as shape key (Target target))
    for_lpi (Private v i) e = absurd (cc)
    for_lpi (Spi i) e = absurd (cc)
    for_lpi (Lpi i) e = there

-- another configuration
valid_config : (shape : GuestShape) (key : Key) (irq : Irq) (enabled : Bool) (prio : ℕ) → IsTrue (is_priority prio) → IsRecordOf shape key irq → IsRecordOf shape key (record irq { enabled = enabled; prio = prio })
valid_config shape key irq enabled prio priority is =
    let one : Irq = record irq { prio = prio } in
    let both : Irq = record irq { enabled = enabled; prio = prio } in
    let valid = valid_prio shape key irq prio (grind (arith, common_steps, priority)) (grind (arith, common_steps, priority)) is in
    valid_as shape key one both refl refl refl refl (kind_kept key one both refl refl refl valid.kind) valid

-- a touch leaves a record of the interrupt
pub touch_valid : (shape : GuestShape) (key : Key) (touch : Touching) (irq : Irq) → IsShape shape → CanTouch shape key touch → IsRecordOf shape key irq → IsRecordOf shape key (touched shape key touch irq)
touch_valid shape key (Read kind) irq good can is = is
touch_valid shape key (Register kind value) irq good can is =
    written_valid shape kind key irq value good can.there (grind (arith, common_steps, can.fits)) (grind (arith, common_steps, can.fits)) is
touch_valid shape key (Enables en0 en1) irq good can is =
    let other : Irq = record irq { en0 = en0; en1 = en1 } in
    valid_as shape key irq other refl refl refl refl (kind_kept key irq other refl refl refl is.kind) is
touch_valid shape key (MapLpi target enabled prio) irq good can is =
    valid_config shape key (record irq { route = Target (Some target) }) enabled prio (grind (arith, common_steps, can.fits))
    (valid_target shape key irq (Some target) good (grind (arith, common_steps, can.fits)) (grind (arith, common_steps, can.fits)) is)
touch_valid shape key (Retarget target) irq good can is =
    valid_target shape key irq target good (grind (arith, common_steps, can.fits)) (grind (arith, common_steps, can.fits)) is
touch_valid shape key (Configure enabled prio) irq good can is = valid_config shape key irq enabled prio (grind (arith, common_steps, can.fits)) is
touch_valid shape key Forget irq good can is =
    let quiet : Irq = record irq { soft = false } in
    let valid = valid_as shape key irq quiet refl refl refl refl (kind_kept key irq quiet refl refl refl is.kind) is in
    valid_config shape key (record quiet { route = Target None }) false 0 refl (valid_target shape key quiet None good can.fits refl valid)

-- a record of the interrupt has what a touch of the interrupt reads
pub shown : (shape : GuestShape) (key : Key) (touch : Touching) (irq : Irq) → CanTouch shape key touch → IsRecordOf shape key irq → IsTrue (is_shown touch irq)
shown shape key (Read kind) irq can is = by_kind kind key irq.route can.fits is.route
  where
    by_kind : (kind : Kind) (key : Key) (route : Route) → IsTrue (has_shown_part kind key) → IsTrue (is_routed_as shape key route) → IsTrue (shows_route kind route)
    by_kind Routing (Private v i) route h is = absurd (cc)
    by_kind Routing (Spi i) (Affinity a) h is = refl
    by_kind Routing (Spi i) (Target t) h is = absurd (cc)
    by_kind Routing (Lpi i) route h is = absurd (cc)
    by_kind kind key route h is = refl
shown shape key (Register kind value) irq can is = refl
shown shape key touch irq can is = refl
