-- The registers that identify a frame, the same in each (IHI 0069, GICD_IIDR and GICD_PIDR2).
use Rattle.std.specs.Prelude.{ℕ}

-- IIDR: no implementer, revision or product (own choice)
abbrev pub iidr : ℕ
iidr = 0

-- PIDR2: ArchRev, bits [7:4], is 3, that is GICv3
abbrev pub pidr2 : ℕ
pidr2 = 0x30
