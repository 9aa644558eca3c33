-- The register map of the distributor (IHI 0069, "The Distributor register map"). The registers over interrupts have parts
-- for the INTIDs 0 to 1023, those with an IROUTER are 32 to 1019 (own choice); the registers of extended SPIs have parts for
-- 4096 to 5119.
use Rattle.std.specs.Prelude.{ℕ, ◌⊎◌, List, [], ◌∷◌, Option, Some, None}
use Rattle.gic_frame.specs.Words.{SetEnable, ClearEnable, SetPending, ClearPending, SetActive, ClearActive, Priority, Config, Routing}
use Rattle.gic_frame.specs.GicBase.declared.operation.Kind.TheVariants.{Group}
use Rattle.gic_frame.specs.declared.bank.Access.TheVariants.{Word, WordOrLowHalf}
use Rattle.gic_frame.specs.declared.bank.Half.TheVariants.{Low, High, Whole}
use Rattle.gic_frame.specs.declared.line.Line.{Line}
use Rattle.gic_frame.specs.declared.line.Line.TheVariants.{Register, Interrupts}
use Rattle.gic_frame.specs.declared.line.Found.{Found}
use Rattle.gic_frame.specs.declared.line.Found.TheVariants.{InRegister, InParts}
use Rattle.gic_frame.specs.Line.{found_at}
use Rattle.gic_frame.specs.Part.{AreWithin}
use Rattle.gic_dmap.specs.declared.map.Reg.{Reg}
use Rattle.gic_dmap.specs.declared.map.Reg.TheVariants.{Ctlr, Typer, Iidr, SetSpi, ClrSpi, Router, Pidr2}
use Rattle.gic_dmap.specs.declared.map.RegRef.{RegRef}
use Rattle.gic_dmap.specs.declared.map.RegRef.TheVariants.{Bits, Plain, Reserved}

-- each line: a register's offset, the accesses that it takes, and which it is; or the offset of the first register of a kind,
-- the INTID of the first interrupt, and how many interrupts there are
abbrev pub lines : List (Line Reg)
lines =
    Register 0x0000 Word Ctlr
    ∷ Register 0x0004 Word Typer
    ∷ Register 0x0008 Word Iidr
    ∷ Register 0x0040 WordOrLowHalf SetSpi
    ∷ Register 0x0048 WordOrLowHalf ClrSpi
    ∷ Interrupts 0x0080 Group 0 1024
    ∷ Interrupts 0x0100 SetEnable 0 1024
    ∷ Interrupts 0x0180 ClearEnable 0 1024
    ∷ Interrupts 0x0200 SetPending 0 1024
    ∷ Interrupts 0x0280 ClearPending 0 1024
    ∷ Interrupts 0x0300 SetActive 0 1024
    ∷ Interrupts 0x0380 ClearActive 0 1024
    ∷ Interrupts 0x0400 Priority 0 1024
    ∷ Interrupts 0x0C00 Config 0 1024
    ∷ Interrupts 0x1000 Group 4096 1024
    ∷ Interrupts 0x1200 SetEnable 4096 1024
    ∷ Interrupts 0x1400 ClearEnable 4096 1024
    ∷ Interrupts 0x1600 SetPending 4096 1024
    ∷ Interrupts 0x1800 ClearPending 4096 1024
    ∷ Interrupts 0x1A00 SetActive 4096 1024
    ∷ Interrupts 0x1C00 ClearActive 4096 1024
    ∷ Interrupts 0x2000 Priority 4096 1024
    ∷ Interrupts 0x3000 Config 4096 1024
    ∷ Interrupts 0x6100 Routing 32 988
    ∷ Interrupts 0x8000 Routing 4096 1024
    ∷ Register 0xFFE8 Word Pidr2
    ∷ []

-- what an access is to; Reserved where the map has no register that takes it. An access by size 4 to an IROUTER is to a half
-- of the register, else to the interrupt's part
abbrev pub decoded : ℕ → ℕ → RegRef
decoded offset size = of_found (found_at lines offset size)
  where
    of_found : Option (Found Reg) → RegRef
    of_found (Some (InRegister reg half)) = Plain reg half
    of_found (Some (InParts kind first count Whole)) = Bits kind first count
    of_found (Some (InParts kind id count Low)) = Plain (Router id) Low
    of_found (Some (InParts kind id count High)) = Plain (Router id) High
    of_found None = Reserved

-- the INTIDs that an access names: one to 32 below 1024 or from 4096 to 5119, or one that has an IROUTER
abbrev pub NamesIntids : RegRef → Type 0
NamesIntids (Bits kind first count) = AreWithin 0 1024 first count ⊎ AreWithin 4096 5120 first count
NamesIntids (Plain (Router id) half) = AreWithin 32 1020 id 1 ⊎ AreWithin 4096 5120 id 1
NamesIntids ref = Unit {0}
