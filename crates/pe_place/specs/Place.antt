-- Where a vCPU is, with what its port tells of it (own choice).
use Rattle.std.specs.Prelude.{◌≡◌, ℕ, ◌<◌, List, [], ◌∷◌, take, vec_capacity}
use Rattle.std.specs.declared.vec.Vec.{Vec}
use Rattle.gic_msi.specs.Core.{Seen, Progress}
use Rattle.pe_op.specs.PeLoop.Stay.{IsOff, IsUp}
use Rattle.pe_op.specs.PeLoop.Enter.{IsBetween}
use Rattle.pe_op.specs.PeIcc.Amid.{IsRunning}
use Rattle.pe_place.specs.declared.place.Place.{Place}
use Rattle.pe_place.specs.declared.place.Place.TheVariants.{Shelf, Aside, Pe}

-- a vCPU stands on no PE, or it stands on one and has left it for a while, or it is on it
pub data Spot : Type 0 where
  shelf : Spot
  aside : Spot
  pe : Spot

abbrev pub spot_of : Place → Spot
spot_of (Shelf vcpu) = shelf
spot_of (Aside vcpu) = aside
spot_of (Pe vcpu) = pe

-- an entry changes that, an exit, an exit for a while, and the entry after that
abbrev pub entered : Spot → Spot
entered shelf = pe
entered spot = spot

abbrev pub left : Spot → Spot
left pe = shelf
left spot = spot

abbrev pub gone_aside : Spot → Spot
gone_aside pe = aside
gone_aside spot = spot

abbrev pub returned : Spot → Spot
returned aside = pe
returned spot = spot

-- a vCPU is where its place says
abbrev pub IsAt : Seen → Place → Type 0
IsAt seen (Shelf vcpu) = IsOff seen vcpu
IsAt seen (Aside vcpu) = IsOff seen vcpu
IsAt seen (Pe vcpu) = IsUp seen vcpu

-- and its protocol is so far
abbrev pub IsFollowed : Seen → Place → Progress → Type 0
IsFollowed seen (Shelf vcpu) p = IsBetween seen p
IsFollowed seen (Aside vcpu) p = IsBetween seen p
IsFollowed seen (Pe vcpu) p = IsRunning seen vcpu p

-- where it is on a PE, that has so many list registers
abbrev pub HasRegisters : ℕ → Place → Type 0
HasRegisters lrs (Shelf vcpu) = Unit {0}
HasRegisters lrs (Aside vcpu) = Unit {0}
HasRegisters lrs (Pe vcpu) = vcpu.regs.n ≡ lrs

-- ICH_HCR and the list registers of the PE that a vCPU is on; of one that is on none, nothing is shown
abbrev pub IsShown : Place → List ℕ → Type 0
IsShown (Shelf vcpu) list = ⊥
IsShown (Aside vcpu) list = ⊥
IsShown (Pe vcpu) list = list ≡ vcpu.regs.hcr ∷ take vcpu.regs.n vcpu.regs.lr

-- a list that has nothing yet, and room for ICH_HCR and all list registers that a PE can have
pub record IsRoom {Z : Type 0} (list : Vec ℕ Z) : Type 0 where
  pub none : list.items ≡ []
  pub room : 16 < vec_capacity list
