-- A vCPU and its port, off a PE and on one.
use Rattle.std.specs.Prelude.{◌≡◌, ℕ, ◌≤◌, not, true, false, IsTrue, []}
use Rattle.std.specs.List.{list_all}
use Rattle.port_call.specs.Words.{has_bit}
use Rattle.port_call.specs.Lists.{hcr_tc, hcr_tall0, hcr_tall1, hcr_tdir, StandFor}
use Rattle.port_call.specs.Core.{interface_of, is_ready, is_vcpu, Seen, shape_of, is_settled}
use Rattle.vcpu_state.specs.declared.shelved.Shelved.{Shelved}
use Rattle.vcpu_state.specs.declared.loaded.Loaded.{Loaded}
use Rattle.vcpu_state.specs.Moves.{shelved_of}

-- the port's actor is this vCPU
pub record IsActor (seen : Seen) (vcpu : Shelved) : Type 0 where
  pub guest : seen.number ≡ vcpu.guest
  pub number : seen.actor ≡ vcpu.vcpu
  pub is_one : is_vcpu (shape_of seen) seen.actor ≡ true

-- a vCPU that is on no PE: its record is the port's, which has nothing at its interface; it owes nothing, and has neither the ITS nor the mark of GICD_CTLR
pub record IsOff (seen : Seen) (vcpu : Shelved) : Type 0 where
  pub actor : IsActor seen vcpu
  pub cpu : seen.local.cpu ≡ vcpu.cpu
  pub empty : seen.local.at ≡ []
  pub settled : IsTrue (is_settled seen.local)

-- a vCPU on a PE, between two accesses: its registers hold the port's record, and with what is held at their places stand for what the port has at its
-- interface, of which nothing was given back; it owes nothing, and has neither the ITS nor the mark of GICD_CTLR
pub record IsOn (seen : Seen) (vcpu : Loaded) : Type 0 where
  pub actor : IsActor seen vcpu.base
  pub stands : StandFor vcpu.regs vcpu.held (interface_of seen.local)
  pub cpu : (shelved_of vcpu).cpu ≡ seen.local.cpu
  pub whole : IsTrue (list_all (λ at. not at.given) seen.local.at)
  pub settled : IsTrue (is_settled seen.local)

-- ICH_HCR traps no access but those of ICC_SGI1R
pub record IsOpen (hcr : ℕ) : Type 0 where
  pub common : has_bit hcr hcr_tc ≡ false
  pub group_0 : has_bit hcr hcr_tall0 ≡ false
  pub group_1 : has_bit hcr hcr_tall1 ≡ false
  pub deactivate : has_bit hcr hcr_tdir ≡ false

-- a vCPU on a PE that may access its CPU interface: its port looked at its candidates since it last held nothing, and its accesses are trapped in trap mode
-- alone, in which it holds nothing
pub record IsUp (seen : Seen) (vcpu : Loaded) : Type 0 where
  pub on : IsOn seen vcpu
  pub lrs : (1 ≤ vcpu.regs.n) × (vcpu.regs.n ≤ 16)
  pub ready : IsTrue (is_ready seen.local.phase)
  pub free : vcpu.trapping ≡ false → IsOpen vcpu.regs.hcr
  pub bare : vcpu.trapping ≡ true → seen.local.at ≡ []
