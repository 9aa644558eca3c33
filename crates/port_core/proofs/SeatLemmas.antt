use Rattle.std.proofs.Common.{◌≡◌, ◌<◌, ℕ, Bool, true, false, [], ◌∷◌, All, Option, Some, None, nat_lt, is_none, ◌||◌, if◌then◌else◌, refl, rules}
use Rattle.core_words.specs.Words.{GuestShape, IsShape, max_vcpus, Irq, Route, Affinity, Target, target_in, is_number, IsIrq, IsSeat, IsRoute}
use Rattle.port_core.specs.After.{target_of, holder_or_active, concerned, concerned_by, told_of_release, marked_of_release}

-- the vCPU that an interrupt is for is none or has a number that a vCPU can have
pub target_seat : (shape : GuestShape) (route : Route) → IsShape shape → IsRoute route → IsSeat (target_in route shape)
target_seat shape (Affinity affinity) s r = of (nat_lt affinity shape.vcpus) refl
  where
    of : (b : Bool) → nat_lt affinity shape.vcpus ≡ b → IsSeat (if b then Some affinity else None)
    of true h = search rules
    of false h = search rules
target_seat shape (Target target) s r = r

-- the holder, or the vCPU by which it is active, too
held_seat : (irq : Irq) → IsIrq irq → IsSeat (holder_or_active irq)
held_seat irq p = of irq.holder irq.act_by p.holder p.active
  where
    of : (holder active : Option ℕ) → IsSeat holder → IsSeat active → IsSeat (if is_none holder then active else holder)
    of None active h a = a
    of (Some vcpu) active h a = h

-- so is each of two, and of four
both_seats : (a b : Option ℕ) → IsSeat a → IsSeat b → All IsSeat (a ∷ b ∷ [])
both_seats a b p q = search rules

four_seats : (a b c d : Option ℕ) → IsSeat a → IsSeat b → IsSeat c → IsSeat d → All IsSeat (a ∷ b ∷ c ∷ d ∷ [])
four_seats a b c d p q r s = search rules

-- so is each vCPU that a change concerns
pub concerned_seats : (shape : GuestShape) (irq : Irq) → IsShape shape → IsIrq irq → All IsSeat (concerned shape irq)
concerned_seats shape irq s p = both_seats _ _ (target_seat shape irq.route s p.route) (held_seat irq p)

pub touched_seats : (shape : GuestShape) (before after : Irq) → IsShape shape → IsIrq before → IsIrq after → All IsSeat (concerned_by shape before after)
touched_seats shape before after s p q = four_seats _ _ _ _ (target_seat shape before.route s p.route) (target_seat shape after.route s q.route) p.active q.active

-- so is each vCPU that a release is told to or marked for
pub told_seats : (shape : GuestShape) (vcpu : ℕ) (active : Bool) (irq : Irq) → IsShape shape → IsIrq irq → All IsSeat (told_of_release shape vcpu active irq)
told_seats shape vcpu active irq s p = of (active || is_number vcpu (target_of shape irq))
  where
    of : (b : Bool) → All IsSeat ((if b then None else target_of shape irq) ∷ [])
    of true = search rules
    of false = let t = target_seat shape irq.route s p.route in search rules

pub marked_seats : (shape : GuestShape) (vcpu : ℕ) (active : Bool) (irq : Irq) → IsShape shape → vcpu < max_vcpus → IsIrq irq → All IsSeat (marked_of_release shape vcpu active irq)
marked_seats shape vcpu active irq s v p = both_seats _ _ (target_seat shape irq.route s p.route) (of active)
  where
    of : (b : Bool) → IsSeat (if b then Some vcpu else None)
    of true = v
    of false = search rules
