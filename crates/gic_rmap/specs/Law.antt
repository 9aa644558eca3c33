-- Where IHI 0069, "The Redistributor register map", has the part of each private interrupt: in the SGI frame, from 0x10000.
use Rattle.std.specs.Prelude.{ℕ, ◌+◌, ◌*◌, ◌/◌, ◌%◌, ◌<◌, Bool, true, false, IsTrue}
use Rattle.gic_frame.specs.Words.{Kind, SetEnable, ClearEnable, SetPending, ClearPending, SetActive, ClearActive, Priority, Config, Routing}
use Rattle.gic_frame.specs.GicBase.declared.operation.Kind.TheVariants.{Group}
use Rattle.gic_frame.specs.Bank.{width_of}
use Rattle.gic_frame.specs.Part.{part_bits, access_of, HasPart}
use Rattle.gic_rmap.specs.declared.map.RegRef.{RegRef}
use Rattle.gic_rmap.specs.declared.map.RegRef.TheVariants.{Bits, Plain, Reserved}
use Rattle.gic_rmap.specs.Map.{decoded}

-- a redistributor has registers of every kind but IROUTER
abbrev pub has_registers : Kind → Bool
has_registers Routing = false
has_registers kind = true

-- the offset of the first register of a kind in the SGI frame
abbrev pub base_of : Kind → ℕ
base_of Group = 0x0080
base_of SetEnable = 0x0100
base_of ClearEnable = 0x0180
base_of SetPending = 0x0200
base_of ClearPending = 0x0280
base_of SetActive = 0x0300
base_of ClearActive = 0x0380
base_of Priority = 0x0400
base_of Config = 0x0C00
base_of Routing = 0

-- an access is to parts, and the one from this bit of its value on is this interrupt's
abbrev pub IsToPart : RegRef → Kind → ℕ → ℕ → Type 0
IsToPart (Bits kind first count) wanted id bit = HasPart kind first count wanted id bit
IsToPart (Plain reg half) wanted id bit = ⊥
IsToPart Reserved wanted id bit = ⊥

-- an INTID has its part at bit id * width of all that begin at the base, so in the register of 32 bits at
-- base + id * width / 8
abbrev pub PartIsAt : ℕ → Kind → ℕ → Type 0
PartIsAt base kind id =
    let bytes = width_of (access_of kind) in
    let bit = id * part_bits kind in
    IsToPart (decoded (base + bit / (8 * bytes) * bytes) bytes) kind id (bit % (8 * bytes))

-- each part is where the architecture has it, and is reached by a whole register, and in IPRIORITYR by its byte alone
pub record PartsAreInPlace : Type 0 where
  pub parts : (kind : Kind) (id : ℕ) → IsTrue (has_registers kind) → id < 32 → PartIsAt (0x10000 + base_of kind) kind id
  pub bytes : (id : ℕ) → id < 32 → IsToPart (decoded (0x10400 + id) 1) Priority id 0
