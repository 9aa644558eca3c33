-- Records that steps make of an interrupt's are ones that its word can have, and the vCPUs that they name are ones that it can get to.
use Rattle.std.proofs.Common.{◌≡◌, ℕ, ◌<◌, ◌==◌, ◌||◌, not, Bool, true, false, cond, nat_lt, IsTrue, Option, Some, None, is_none, refl, sym, ap, ◌∙◌, arith}
use Rattle.std.specs.Option.{option_map_or}
use Rattle.std.proofs.lemmas.Grind.{common_steps}
use Rattle.std.proofs.lemmas.Bool.{or_right, eqb-true, eq-eqb, lt-ltb}
use Rattle.core_words.specs.Words.{has_bit, GuestShape, Back, Key, Private, Spi, Lpi, Kind, SetEnable, ClearEnable, SetPending, ClearPending, SetActive, ClearActive, Priority, Config, Routing, IsShape, has_interrupt, is_of_vcpu, is_sgi, Irq, Route, Affinity, Target, is_number, target_in, raised, cleared, has_active_state, is_vcpu_or_none, is_routed_as, is_of_kind, IsRecordOf}
use Rattle.core_words.specs.GicBase.declared.operation.Kind.TheVariants.{Group}
use Rattle.core_words.specs.Registers.{part_written, activated, CpuRec}
use Rattle.core_words.specs.Calls.{Moved, Touching, Register, Enables, MapLpi, may_reach, reached, CanTouch, touched}
use Rattle.core_words.specs.GicCall.declared.touch.Touching.TheVariants.{Read, Retarget, Configure, Forget}
use Rattle.core_words.proofs.GicCall.MoveLemmas.{reached_valid}
use Rattle.core_words.proofs.GicCall.RecordLemmas.{seat, kind_kept, valid_as, valid_active}
use Rattle.core_words.proofs.GicCall.TouchLemmas.{touch_valid}
use Rattle.core_words.specs.IdealGuests.CanOpen.{is_own}
use Rattle.port_core.specs.Effect.{given_back, released}
use Rattle.port_core.proofs.StepWords.{IsOwned}

-- a vCPU of the guest that the interrupt can get to, or none
pub record IsTold (shape : GuestShape) (key : Key) (vcpu : Option ℕ) : Type 0 where
  pub there : IsTrue (is_vcpu_or_none shape vcpu)
  pub own : IsTrue (is_own key vcpu)

pub told_none : (shape : GuestShape) (key : Key) → IsTold shape key None
told_none shape key = record { there = refl; own = refl }

pub told_some : (shape : GuestShape) (key : Key) (vcpu : ℕ) → vcpu < shape.vcpus → IsTrue (is_of_vcpu vcpu key) → IsTold shape key (Some vcpu)
told_some shape key vcpu there own = record { there = lt-ltb vcpu shape.vcpus there; own = own }

pub told_active : (shape : GuestShape) (key : Key) (irq : Irq) → IsOwned shape key irq → IsTold shape key irq.act_by
told_active shape key irq is = record { there = is.record_of.active; own = is.active }

pub told_holder : (shape : GuestShape) (key : Key) (irq : Irq) → IsOwned shape key irq → IsTold shape key irq.holder
told_holder shape key irq is = record { there = is.record_of.holder; own = is.holder }

-- an SPI or an LPI can get to every vCPU
shared_spi : (id : ℕ) (vcpu : Option ℕ) → IsTrue (is_own (Spi id) vcpu)
shared_spi id None = refl
shared_spi id (Some v) = refl

shared_lpi : (id : ℕ) (vcpu : Option ℕ) → IsTrue (is_own (Lpi id) vcpu)
shared_lpi id None = refl
shared_lpi id (Some v) = refl

-- the target of an interrupt is such a vCPU
pub told_target : (shape : GuestShape) (key : Key) (route : Route) → IsTrue (has_interrupt shape key) → IsTrue (is_routed_as shape key route) → IsTold shape key (target_in route shape)
told_target shape (Private v id) (Affinity a) there routed = absurd (cc)
told_target shape (Private v id) (Target target) there routed = of target routed
  where
    of : (o : Option ℕ) → is_number v o ≡ true → IsTold shape (Private v id) o
    of None r = absurd (cc)
    of (Some m) r = told_some shape (Private v id) m (grind (arith, common_steps, r, there)) (grind (arith, common_steps, r))
told_target shape (Spi id) (Affinity a) there routed = of (nat_lt a shape.vcpus) refl
  where
    of : (b : Bool) → nat_lt a shape.vcpus ≡ b → IsTold shape (Spi id) (cond b (Some a) None)
    of true e = record { there = e; own = refl }
    of false e = told_none shape (Spi id)
told_target shape (Spi id) (Target target) there routed = absurd (cc)
told_target shape (Lpi id) (Affinity a) there routed = absurd (cc)
told_target shape (Lpi id) (Target target) there routed = record { there = routed; own = shared_lpi id target }

-- Records.

-- active by its holder or by none, of these two
by_holder : Option ℕ → Option ℕ → Bool
by_holder holder active = is_none holder || is_none active || option_map_or (λ vcpu. is_number vcpu holder) active true

-- a record that differs in nothing of it
pub owned_as :
    (shape : GuestShape) (key : Key) (irq other : Irq) → other.prio ≡ irq.prio → other.edge ≡ irq.edge → other.group ≡ irq.group → other.act_by ≡ irq.act_by → other.holder ≡ irq.holder → other.route ≡ irq.route → IsOwned shape key irq
    → IsOwned shape key other
unfolding by_holder
owned_as shape key irq other prio edge group active holder route is =
    record {
      record_of = valid_as shape key irq other prio active holder route (kind_kept key irq other edge group active is.record_of.kind) is.record_of;
      holder = ap (is_own key) holder ∙ is.holder;
      active = ap (is_own key) active ∙ is.active;
      one = ap (λ h. by_holder h other.act_by) holder ∙ ap (by_holder irq.holder) active ∙ is.one;
    }

-- a record with another holder
valid_holder : (shape : GuestShape) (key : Key) (irq : Irq) (by : Option ℕ) → IsShape shape → IsTrue (is_vcpu_or_none shape by) → IsRecordOf shape key irq → IsRecordOf shape key (record irq { holder = by })
valid_holder shape key irq by good there is =
    record {
      packable = record { prio = is.packable.prio; prio_bits = is.packable.prio_bits; active = is.packable.active; holder = seat shape by good there; route = is.packable.route };
      route = is.route;
      kind = kind_kept key irq (record irq { holder = by }) refl refl refl is.kind;
      active = is.active;
      holder = there;
    }

active_kind : (key : Key) (irq : Irq) (vcpu : ℕ) → IsTrue (is_of_kind key irq) → IsTrue (has_active_state key) → IsTrue (is_of_kind key (record irq { act_by = Some vcpu }))
active_kind (Private v i) irq vcpu h a = h
active_kind (Spi i) irq vcpu h a = h
active_kind (Lpi i) irq vcpu h a = absurd (cc)

idle_kind : (key : Key) (irq : Irq) → IsTrue (is_of_kind key irq) → IsTrue (is_of_kind key (record irq { act_by = None }))
idle_kind (Private v i) irq h = h
idle_kind (Spi i) irq h = h
idle_kind (Lpi i) irq h = grind (arith, common_steps, h)

-- what was at an interface came back
pub owned_given :
    (shape : GuestShape) (key : Key) (actor : ℕ) (back : Back) (irq : Irq) → IsShape shape → IsTold shape key (Some actor) → IsTrue (not back.active || has_active_state key) → IsTrue (is_number actor irq.holder) → IsOwned shape key irq
    → IsOwned shape key (given_back actor back irq)
owned_given shape key actor back irq good told kind held is = by_active back.active kind
  where
    given : Irq
    given = record irq { rise = irq.rise || back.rise; soft = irq.soft || back.soft }

    by_active : (b : Bool) → IsTrue (not b || has_active_state key) → IsOwned shape key (record irq { rise = irq.rise || back.rise; soft = irq.soft || back.soft; act_by = cond b (Some actor) irq.act_by })
    by_active false k = owned_as shape key irq (record irq { rise = irq.rise || back.rise; soft = irq.soft || back.soft }) refl refl refl refl refl refl is
    by_active true k =
        let more : Irq = record irq { rise = irq.rise || back.rise; soft = irq.soft || back.soft } in
        let kept = owned_as shape key irq more refl refl refl refl refl refl is in
        record {
          record_of = valid_active shape key more (Some actor) good told.there (active_kind key more actor kept.record_of.kind k) kept.record_of;
          holder = is.holder;
          active = told.own;
          one = or_right (is_none irq.holder || false) (is_number actor irq.holder) held;
        }

-- it was released
pub owned_released : (shape : GuestShape) (key : Key) (active : Bool) (irq : Irq) → IsShape shape → IsOwned shape key irq → IsOwned shape key (released active irq)
owned_released shape key true irq good is = record { record_of = valid_holder shape key irq None good refl is.record_of; holder = refl; active = is.active; one = refl }
owned_released shape key false irq good is =
    let idle = valid_active shape key irq None good refl (idle_kind key irq is.record_of.kind) is.record_of in
    record { record_of = valid_holder shape key (record irq { act_by = None }) None good refl idle; holder = refl; active = refl; one = refl }

-- it got to the interface of a vCPU
reached_active : (irq : Irq) → (reached irq).irq.act_by ≡ irq.act_by
reached_active irq = of (is_none irq.act_by)
  where
    of : (b : Bool) → (cond {A = Moved} b (record { irq = cleared irq; entry = record { pending = true; active = false; rise = irq.rise; soft = irq.soft } }) (record { irq = irq; entry = record { pending = false; active = true; rise = false; soft = false } })).irq.act_by ≡ irq.act_by
    of true = refl
    of false = refl

-- where it may, it is active by that one or by none
reach_active : (shape : GuestShape) (key : Key) (irq : Irq) (vcpu : ℕ) (cpu : CpuRec) → may_reach shape key irq vcpu cpu ≡ true → IsTrue (is_none irq.act_by || option_map_or (λ v. v == vcpu) irq.act_by true)
reach_active shape key irq vcpu cpu h = of irq.act_by h
  where
    of : (o : Option ℕ) → may_reach shape key (record irq { act_by = o }) vcpu cpu ≡ true → IsTrue (is_none o || option_map_or (λ v. v == vcpu) o true)
    of None h = refl
    of (Some v) h = grind (arith, common_steps, h)

pub owned_reached :
    (shape : GuestShape) (key : Key) (irq : Irq) (actor : ℕ) (cpu : CpuRec) → IsShape shape → IsTold shape key (Some actor) → may_reach shape key irq actor cpu ≡ true → IsOwned shape key irq → IsOwned shape key (record (reached irq).irq { holder = Some actor })
owned_reached shape key irq actor cpu good told may is =
    record {
      record_of = valid_holder shape key (reached irq).irq (Some actor) good told.there (reached_valid shape key irq is.record_of).irq;
      holder = told.own;
      active = ap (is_own key) (reached_active irq) ∙ is.active;
      one = ap (λ o. is_none o || option_map_or (λ v. actor == v) o true) (reached_active irq) ∙ turned irq.act_by (reach_active shape key irq actor cpu may);
    }
  where
    turned : (o : Option ℕ) → IsTrue (is_none o || option_map_or (λ v. v == actor) o true) → IsTrue (is_none o || option_map_or (λ v. actor == v) o true)
    turned None h = refl
    turned (Some v) h = eq-eqb actor v (sym (eqb-true v actor h))

-- Touches.

-- a touch leaves who holds the interrupt
pub touched_holder : (shape : GuestShape) (key : Key) (touch : Touching) (irq : Irq) → (touched shape key touch irq).holder ≡ irq.holder
touched_holder shape key (Read kind) irq = refl
touched_holder shape key (Register kind value) irq = written kind
  where
    either : (b : Bool) (one : Irq) → one.holder ≡ irq.holder → (cond b one irq).holder ≡ irq.holder
    either true one e = e
    either false one e = refl

    turned : (b : Bool) (one : Irq) → one.holder ≡ irq.holder → (cond b irq one).holder ≡ irq.holder
    turned true one e = refl
    turned false one e = e

    written : (kind : Kind) → (part_written kind key irq value shape).holder ≡ irq.holder
    written Group = refl
    written SetEnable = either (value == 1) (record irq { enabled = true }) refl
    written ClearEnable = either (value == 1) (record irq { enabled = false }) refl
    written SetPending = either (value == 1) (raised irq) refl
    written ClearPending = either (value == 1) (cleared irq) refl
    written SetActive = either (value == 1) (record irq { act_by = activated irq.act_by (target_in irq.route shape) }) refl
    written ClearActive = either (value == 1) (record irq { act_by = None }) refl
    written Priority = refl
    written Config = turned (is_sgi key) (record irq { edge = has_bit value 1 }) refl
    written Routing = refl
touched_holder shape key (Enables en0 en1) irq = refl
touched_holder shape key (MapLpi target enabled prio) irq = refl
touched_holder shape key (Retarget target) irq = refl
touched_holder shape key (Configure enabled prio) irq = refl
touched_holder shape key Forget irq = refl

-- and an interrupt that is active by a vCPU is active by one that it can get to
touched_active : (shape : GuestShape) (key : Key) (touch : Touching) (irq : Irq) → IsTrue (has_interrupt shape key) → IsOwned shape key irq → IsTrue (is_own key (touched shape key touch irq).act_by)
touched_active shape key (Read kind) irq there is = is.active
touched_active shape key (Register kind value) irq there is = written kind
  where
    either : (b : Bool) (one : Irq) → IsTrue (is_own key one.act_by) → IsTrue (is_own key (cond b one irq).act_by)
    either true one h = h
    either false one h = is.active

    turned : (b : Bool) (one : Irq) → IsTrue (is_own key one.act_by) → IsTrue (is_own key (cond b irq one).act_by)
    turned true one h = is.active
    turned false one h = h

    by_target : (by : Option ℕ) → IsTrue (is_own key by) → IsTrue (is_own key (activated by (target_in irq.route shape)))
    by_target None h = (told_target shape key irq.route there is.record_of.route).own
    by_target (Some v) h = h

    written : (kind : Kind) → IsTrue (is_own key (part_written kind key irq value shape).act_by)
    written Group = is.active
    written SetEnable = either (value == 1) (record irq { enabled = true }) is.active
    written ClearEnable = either (value == 1) (record irq { enabled = false }) is.active
    written SetPending = either (value == 1) (raised irq) is.active
    written ClearPending = either (value == 1) (cleared irq) is.active
    written SetActive = either (value == 1) (record irq { act_by = activated irq.act_by (target_in irq.route shape) }) (by_target irq.act_by is.active)
    written ClearActive = either (value == 1) (record irq { act_by = None }) refl
    written Priority = is.active
    written Config = turned (is_sgi key) (record irq { edge = has_bit value 1 }) is.active
    written Routing = is.active
touched_active shape key (Enables en0 en1) irq there is = is.active
touched_active shape key (MapLpi target enabled prio) irq there is = is.active
touched_active shape key (Retarget target) irq there is = is.active
touched_active shape key (Configure enabled prio) irq there is = is.active
touched_active shape key Forget irq there is = is.active

-- of an interrupt that nobody holds a touch leaves such a record
pub owned_touched : (shape : GuestShape) (key : Key) (touch : Touching) (irq : Irq) → IsShape shape → CanTouch shape key touch → irq.holder ≡ None → IsOwned shape key irq → IsOwned shape key (touched shape key touch irq)
unfolding by_holder
owned_touched shape key touch irq good can unheld is =
    let after = touched shape key touch irq in
    let none : after.holder ≡ None = touched_holder shape key touch irq ∙ unheld in
    record {
      record_of = touch_valid shape key touch irq good can is.record_of;
      holder = ap (is_own key) none;
      active = touched_active shape key touch irq can.there is;
      one = ap (λ h. by_holder h after.act_by) none;
    }
