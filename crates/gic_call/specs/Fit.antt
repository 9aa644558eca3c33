-- What an access of a register map fits: its value the half that it is to, and its parts the value.
use Rattle.std.specs.Prelude.{ℕ, ◌+◌, ◌*◌, ◌≤◌, ◌<◌, ◌^◌, Option, IfSome}
use Rattle.floor_registers.specs.Registers.{Half, half_limit, part_bits}
use Rattle.floor_registers.specs.Words.{Kind}
use Rattle.floor_registers.specs.GicDmap.declared.map.RegRef.{RegRef as DistRef}
use Rattle.floor_registers.specs.GicDmap.declared.map.RegRef.TheVariants.{Bits as DistBits, Plain as DistPlain, Reserved as DistReserved}
use Rattle.floor_registers.specs.GicRmap.declared.map.RegRef.{RegRef as RedistRef}
use Rattle.floor_registers.specs.GicRmap.declared.map.RegRef.TheVariants.{Bits as RedistBits, Plain as RedistPlain, Reserved as RedistReserved}
use Rattle.floor_registers.specs.GicImap.declared.map.RegRef.{RegRef as ItsRef}
use Rattle.floor_registers.specs.GicImap.declared.map.RegRef.TheVariants.{Plain as ItsPlain, Reserved as ItsReserved}

-- a value that is written fits the half
abbrev pub FitsHalf : Half → Option ℕ → Type 0
FitsHalf half write = IfSome write (λ value. value < half_limit half)

-- the parts of so many interrupts fit 64 bits, and their INTIDs 32
pub record FitParts (kind : Kind) (first count : ℕ) : Type 0 where
  pub bits : count * part_bits kind ≤ 64
  pub intids : first + count < 2 ^ 32

-- an access to the distributor
abbrev pub FitsDist : DistRef → Option ℕ → Type 0
FitsDist (DistBits kind first count) write = FitParts kind first count
FitsDist (DistPlain reg half) write = FitsHalf half write
FitsDist DistReserved write = Unit {0}

-- to a redistributor
abbrev pub FitsRedist : RedistRef → Option ℕ → Type 0
FitsRedist (RedistBits kind first count) write = FitParts kind first count
FitsRedist (RedistPlain reg half) write = FitsHalf half write
FitsRedist RedistReserved write = Unit {0}

-- to the ITS
abbrev pub FitsIts : ItsRef → Option ℕ → Type 0
FitsIts (ItsPlain reg half) write = FitsHalf half write
FitsIts ItsReserved write = Unit {0}
