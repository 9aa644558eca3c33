-- Records that differ in some fields are records of the same interrupt.
use Rattle.std.proofs.Common.{◌≡◌, ◌<◌, ◌/◌, ◌%◌, ◌^◌, ◌||◌, not, ℕ, false, nat_lt, IsTrue, Option, Some, None, refl, sym, ap, subst, ◌∙◌, arith}
use Rattle.std.proofs.lemmas.Grind.{common_steps}
use Rattle.floor_registers.specs.Words.{Key, Private, Spi, Lpi, GuestShape, IsShape, is_sgi, Irq, Route, IsSeat, IsRoute, is_vcpu_or_none, is_routed_as, is_of_kind, IsRecordOf}
use Rattle.gic_call.specs.Touch.{is_lpi}

-- a number of a vCPU of the guest, or none, fits its field
pub seat : (shape : GuestShape) (vcpu : Option ℕ) → IsShape shape → IsTrue (is_vcpu_or_none shape vcpu) → IsSeat vcpu
seat shape None good is = tt
seat shape (Some v) good is = grind (arith, common_steps, good.vcpus, is)

-- what the kind of an interrupt fixes is in another record too
pub kind_kept : (key : Key) (irq other : Irq) → other.edge ≡ irq.edge → other.group ≡ irq.group → other.act_by ≡ irq.act_by → IsTrue (is_of_kind key irq) → IsTrue (is_of_kind key other)
kind_kept (Private v i) irq other e f g h = ap (λ b. not (nat_lt i 16) || b) e ∙ h
kind_kept (Spi i) irq other e f g h = refl
kind_kept (Lpi i) irq other e f g h = grind (arith, common_steps, e, f, g, h)

-- of an interrupt that is no LPI, the kind fixes at most that it is edge-triggered
pub kind_free : (key : Key) (irq other : Irq) → is_lpi key ≡ false → other.edge ≡ irq.edge → IsTrue (is_of_kind key irq) → IsTrue (is_of_kind key other)
kind_free (Private v i) irq other e f h = ap (λ b. not (nat_lt i 16) || b) f ∙ h
kind_free (Spi i) irq other e f h = refl
kind_free (Lpi i) irq other e f h = absurd (cc)

-- and of one that is no SGI either, nothing
pub kind_any : (key : Key) (other : Irq) → is_lpi key ≡ false → is_sgi key ≡ false → IsTrue (is_of_kind key other)
kind_any (Private v i) other e f = ap (λ b. not b || other.edge) f
kind_any (Spi i) other e f = refl
kind_any (Lpi i) other e f = absurd (cc)

-- a record that differs in fields that no kind fixes
pub valid_as : (shape : GuestShape) (key : Key) (irq other : Irq) → other.prio ≡ irq.prio → other.act_by ≡ irq.act_by → other.holder ≡ irq.holder → other.route ≡ irq.route → IsTrue (is_of_kind key other) → IsRecordOf shape key irq → IsRecordOf shape key other
valid_as shape key irq other prio active holder route kind is =
    record {
      packable =
          record {
            prio = ap (λ n. n % 8) prio ∙ is.packable.prio;
            prio_bits = subst (λ n. n / 8 < 2 ^ 5) (sym prio) is.packable.prio_bits;
            active = subst IsSeat (sym active) is.packable.active;
            holder = subst IsSeat (sym holder) is.packable.holder;
            route = subst IsRoute (sym route) is.packable.route;
          };
      route = ap (is_routed_as shape key) route ∙ is.route;
      kind = kind;
      active = ap (is_vcpu_or_none shape) active ∙ is.active;
      holder = ap (is_vcpu_or_none shape) holder ∙ is.holder;
    }

-- a record that is active by a vCPU of the guest or by none
pub valid_active : (shape : GuestShape) (key : Key) (irq : Irq) (by : Option ℕ) → IsShape shape → IsTrue (is_vcpu_or_none shape by) → IsTrue (is_of_kind key (record irq { act_by = by })) → IsRecordOf shape key irq → IsRecordOf shape key (record irq { act_by = by })
valid_active shape key irq by good there kind is =
    record {
      packable = record { prio = is.packable.prio; prio_bits = is.packable.prio_bits; active = seat shape by good there; holder = is.packable.holder; route = is.packable.route };
      route = is.route;
      kind = kind;
      active = there;
      holder = is.holder;
    }

-- a record of another priority
pub valid_prio : (shape : GuestShape) (key : Key) (irq : Irq) (prio : ℕ) → prio % 8 ≡ 0 → prio / 8 < 2 ^ 5 → IsRecordOf shape key irq → IsRecordOf shape key (record irq { prio = prio })
valid_prio shape key irq prio whole small is =
    record {
      packable = record { prio = whole; prio_bits = small; active = is.packable.active; holder = is.packable.holder; route = is.packable.route };
      route = is.route;
      kind = kind_kept key irq (record irq { prio = prio }) refl refl refl is.kind;
      active = is.active;
      holder = is.holder;
    }

-- a record of another route
pub valid_route : (shape : GuestShape) (key : Key) (irq : Irq) (route : Route) → IsRoute route → IsTrue (is_routed_as shape key route) → IsRecordOf shape key irq → IsRecordOf shape key (record irq { route = route })
valid_route shape key irq route fits there is =
    record {
      packable = record { prio = is.packable.prio; prio_bits = is.packable.prio_bits; active = is.packable.active; holder = is.packable.holder; route = fits };
      route = there;
      kind = kind_kept key irq (record irq { route = route }) refl refl refl is.kind;
      active = is.active;
      holder = is.holder;
    }
