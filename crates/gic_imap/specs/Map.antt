-- The register map of an ITS (IHI 0069, "The ITS register map"). BASER2 to BASER7, from 0x0110, are not there, since there
-- are no further tables; TRANSLATER, at 0x10040, is not there for a vCPU (own choices).
use Rattle.std.specs.Prelude.{ℕ, List, [], ◌∷◌, Option, Some, None}
use Rattle.gic_frame.specs.declared.bank.Access.TheVariants.{Word, Doubleword}
use Rattle.gic_frame.specs.declared.line.Line.{Line}
use Rattle.gic_frame.specs.declared.line.Line.TheVariants.{Register}
use Rattle.gic_frame.specs.declared.line.Found.{Found}
use Rattle.gic_frame.specs.declared.line.Found.TheVariants.{InRegister, InParts}
use Rattle.gic_frame.specs.Line.{found_at}
use Rattle.gic_imap.specs.declared.map.Reg.{Reg}
use Rattle.gic_imap.specs.declared.map.Reg.TheVariants.{Ctlr, Iidr, Typer, Cbaser, Cwriter, Creadr, Baser0, Baser1, Pidr2}
use Rattle.gic_imap.specs.declared.map.RegRef.{RegRef}
use Rattle.gic_imap.specs.declared.map.RegRef.TheVariants.{Plain, Reserved}

-- each line: the offset of its register, the accesses that it takes, and which it is
abbrev pub lines : List (Line Reg)
lines =
    Register 0x0000 Word Ctlr
    ∷ Register 0x0004 Word Iidr
    ∷ Register 0x0008 Doubleword Typer
    ∷ Register 0x0080 Doubleword Cbaser
    ∷ Register 0x0088 Doubleword Cwriter
    ∷ Register 0x0090 Doubleword Creadr
    ∷ Register 0x0100 Doubleword Baser0
    ∷ Register 0x0108 Doubleword Baser1
    ∷ Register 0xFFE8 Word Pidr2
    ∷ []

-- what an access is to; Reserved where the map has no register that takes it. An ITS has no parts of interrupts
abbrev pub decoded : ℕ → ℕ → RegRef
decoded offset size = of_found (found_at lines offset size)
  where
    of_found : Option (Found Reg) → RegRef
    of_found (Some (InRegister reg half)) = Plain reg half
    of_found (Some (InParts kind first count half)) = Reserved
    of_found None = Reserved
