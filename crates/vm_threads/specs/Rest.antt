-- Actors between two calls.
use Rattle.std.specs.Prelude.{◌≡◌, true, false, IsTrue, []}
use Rattle.dev_port.specs.Core.{is_vcpu, Seen, IsSameActor, shape_of, is_settled}
use Rattle.pe_icc.specs.VcpuState.declared.shelved.Shelved.{Shelved}

-- the actor of a port is a vCPU that may enter a PE: nothing is at its interface, it owes nothing, and has neither the ITS nor the mark of GICD_CTLR
pub record MayEnter (seen : Seen) : Type 0 where
  pub is_one : is_vcpu (shape_of seen) seen.actor ≡ true
  pub settled : IsTrue (is_settled seen.local)
  pub empty : seen.local.at ≡ []

-- as it enters
abbrev pub shelved_at : Seen → Shelved
shelved_at seen = record { guest = seen.number; vcpu = seen.actor; cpu = seen.local.cpu; next = 0 }

-- the port is the same actor's, the actor has not the ITS, and a vCPU has nothing at its interface: it is on no PE
pub record Rests (old new : Seen) : Type 0 where
  pub same : IsSameActor old new
  pub idle : new.local.turn ≡ false
  pub off : is_vcpu (shape_of new) new.actor ≡ true → new.local.at ≡ []
