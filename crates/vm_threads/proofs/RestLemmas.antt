-- An actor that rests.
use Rattle.std.proofs.Common.{◌≡◌, ◌&&◌, not, Bool, true, false, IsTrue, is_none, refl}
use Rattle.dev_port.specs.Core.{Local, Seen, IsSameActor, is_settled}
use Rattle.dev_port.specs.Device.{CanCall}
use Rattle.pe_icc.specs.PeLoop.Stay.{IsOff}
use Rattle.pe_icc.specs.VcpuState.declared.shelved.Shelved.{Shelved}
use Rattle.vm_threads.specs.Rest.{Rests}

-- one that owes nothing, has neither the ITS nor the mark of GICD_CTLR, and is in no translation line
settled_idle : (local : Local) → IsTrue (is_settled local) → local.turn ≡ false
settled_idle local settled = of _ local.turn (not local.ctlr) (is_none local.line) settled
  where
    of : (owes turn other line : Bool) → IsTrue (owes && not turn && other && line) → turn ≡ false
    of owes false other line h = refl
    of true true other line h = absurd (cc)
    of false true other line h = absurd (cc)

pub rests_device : (old new : Seen) → IsSameActor old new → CanCall new → Rests old new
rests_device old new same can = let device = can.device in record { same = same; idle = settled_idle new.local can.settled; off = λ vcpu. absurd (cc) }

-- so does a vCPU that is on no PE
pub rests_off : (old new : Seen) (vcpu : Shelved) → IsSameActor old new → IsOff new vcpu → Rests old new
rests_off old new vcpu same off = record { same = same; idle = settled_idle new.local off.settled; off = λ _. off.empty }
