-- The register map of a redistributor (IHI 0069, "The Redistributor register map"): the RD frame, and the SGI frame from
-- 0x10000. WAKER, at 0x0014, is not there (own choice).
use Rattle.std.specs.Prelude.{ℕ, List, [], ◌∷◌, Option, Some, None}
use Rattle.gic_frame.specs.Words.{SetEnable, ClearEnable, SetPending, ClearPending, SetActive, ClearActive, Priority, Config}
use Rattle.gic_frame.specs.GicBase.declared.operation.Kind.TheVariants.{Group}
use Rattle.gic_frame.specs.declared.bank.Access.TheVariants.{Word, Doubleword}
use Rattle.gic_frame.specs.declared.line.Line.{Line}
use Rattle.gic_frame.specs.declared.line.Line.TheVariants.{Register, Interrupts}
use Rattle.gic_frame.specs.declared.line.Found.{Found}
use Rattle.gic_frame.specs.declared.line.Found.TheVariants.{InRegister, InParts}
use Rattle.gic_frame.specs.Line.{found_at}
use Rattle.gic_frame.specs.Part.{AreWithin}
use Rattle.gic_rmap.specs.declared.map.Reg.{Reg}
use Rattle.gic_rmap.specs.declared.map.Reg.TheVariants.{Ctlr, Iidr, Typer, Propbaser, Pendbaser, Pidr2}
use Rattle.gic_rmap.specs.declared.map.RegRef.{RegRef}
use Rattle.gic_rmap.specs.declared.map.RegRef.TheVariants.{Bits, Plain, Reserved}

-- each line: a register's offset, the accesses that it takes, and which it is; or the offset of the first register of a kind,
-- the INTID of the first interrupt, and how many interrupts there are
abbrev pub lines : List (Line Reg)
lines =
    Register 0x0000 Word Ctlr
    ∷ Register 0x0004 Word Iidr
    ∷ Register 0x0008 Doubleword Typer
    ∷ Register 0x0070 Doubleword Propbaser
    ∷ Register 0x0078 Doubleword Pendbaser
    ∷ Register 0xFFE8 Word Pidr2
    ∷ Interrupts 0x10080 Group 0 32
    ∷ Interrupts 0x10100 SetEnable 0 32
    ∷ Interrupts 0x10180 ClearEnable 0 32
    ∷ Interrupts 0x10200 SetPending 0 32
    ∷ Interrupts 0x10280 ClearPending 0 32
    ∷ Interrupts 0x10300 SetActive 0 32
    ∷ Interrupts 0x10380 ClearActive 0 32
    ∷ Interrupts 0x10400 Priority 0 32
    ∷ Interrupts 0x10C00 Config 0 32
    ∷ []

-- what an access is to; Reserved where the map has no register that takes it
abbrev pub decoded : ℕ → ℕ → RegRef
decoded offset size = of_found (found_at lines offset size)
  where
    of_found : Option (Found Reg) → RegRef
    of_found (Some (InRegister reg half)) = Plain reg half
    of_found (Some (InParts kind first count half)) = Bits kind first count
    of_found None = Reserved

-- the INTIDs that an access names: one or more below 32
abbrev pub NamesIntids : RegRef → Type 0
NamesIntids (Bits kind first count) = AreWithin 0 32 first count
NamesIntids ref = Unit {0}
